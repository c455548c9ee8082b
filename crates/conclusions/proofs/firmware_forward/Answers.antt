-- What the exported function says and leaves is what forward answers.
use Rattle.std.proofs.Common.{◌≡◌, length, rules}
use Rattle.conclusions.specs.Forwarded.{forwarded}
use Rattle.conclusions.proofs.firmware_forward.Goals as goal

pub returns : goal.returns
returns c =
    let a = c.args in
    let tables : length a.table ≡ 388 = search rules in
    let states : length a.state ≡ 193 = search rules in
    let e = c.jb_forward-number.ensures in
    rw (e.0, e.1, e.2) (forwarded a.table a.order tables a.supplies.now a.state states)
