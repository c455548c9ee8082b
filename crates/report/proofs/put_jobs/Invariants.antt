-- The lines of the first k places are written, and their needs and late rows counted.
use Rattle.std.proofs.Common.{◌*◌, ◌≤◌, ◌≡◌}
use Rattle.rules.specs.Lists.{rows_to, joined}
use Rattle.texts.specs.Reports.{job_line}
use Rattle.fields.specs.Texts.{Puts}
use Rattle.report.specs.Totals.{needs_to, late_to}
use Rattle.report.proofs.put_jobs.Given as goal

abbrev pub invariant-loop-k : goal.invariant-loop-k
invariant-loop-k l =
    Puts l.initial.text l.text (joined (job_line l.t l.order) (rows_to l.k))
    × (l.needs ≡ needs_to l.t l.order l.k)
    × (l.lates ≡ late_to l.t l.order l.k)
    × (l.needs ≤ 1000016 * l.k)
    × (l.lates ≤ l.k)
