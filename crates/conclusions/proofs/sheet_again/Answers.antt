-- The words that the reader leaves are the table that the writer is handed.
use Rattle.std.proofs.Common.{◌≡◌, length, rules}
use Rattle.conclusions.specs.Back.{again}
use Rattle.conclusions.proofs.sheet_again.Goals as goal

pub returns : goal.returns
returns c =
    let a = c.args in
    let l : length a.out.now ≡ 3169 = search rules in
    let e = c.jb_read-read.ensures in
    let w = c.jb_write-written.ensures in
    rw (w.0, w.1, w.2, e.0, e.1) (again a.sheet.now a.out.now l)
