-- The words that the reader leaves are those of the table that is searched.
use Rattle.conclusions.specs.Cooled.{read_normal}
use Rattle.conclusions.proofs.sheet_normal.Goals as goal

pub returns : goal.returns
returns c =
    let e = c.jb_read-read.ensures in
    let w = c.jb_read_least_normal-number.ensures in
    rw (w.0, w.1, w.2, e.0) (read_normal c.args.sheet.now c.jb_read-read.new.table e.1)
