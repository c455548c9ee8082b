-- What the exported function says and leaves is what the fresh record's definition says.
use Rattle.std.proofs.Common.{◌≡◌, length, rules}
use Rattle.conclusions.specs.Begins.{begun}
use Rattle.conclusions.proofs.firmware_fresh.Goals as goal

pub returns : goal.returns
returns c =
    let a = c.args in
    let tables : length a.table ≡ 388 = search rules in
    let e = c.jb_fresh-number.ensures in
    rw (e.0, e.1, e.2, e.3) (begun a.table a.order tables)
