-- What the exported function says and leaves is what the writer answers.
use Rattle.std.proofs.Common.{◌≡◌, length, rules}
use Rattle.conclusions.specs.Back.{written_back}
use Rattle.conclusions.proofs.sheet_back.Goals as goal

pub returns : goal.returns
returns c =
    let a = c.args in
    let l : length a.table ≡ 388 = search rules in
    let e = c.jb_write.ensures in
    rw (e.0, e.1, e.2) (written_back a.table a.sheet.now l)
