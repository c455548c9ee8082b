-- What the exported function says and leaves is what the report answers.
use Rattle.words.specs.Words.{table_in}
use Rattle.conclusions.specs.Listed.{listing}
use Rattle.conclusions.proofs.job_list.Goals as goal

pub returns : goal.returns
returns c =
    let a = c.args in
    let e = c.jb_report.ensures in
    rw (e.0, e.1, e.2) (listing (table_in a.table) a.order a.report.now)
