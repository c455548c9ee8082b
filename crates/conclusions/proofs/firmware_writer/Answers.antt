-- What the two exported functions say and leave is what the coming slot and one slot answer.
use Rattle.std.proofs.Common.{◌≡◌, length, rules}
use Rattle.conclusions.specs.Firmware.{slotted}
use Rattle.conclusions.proofs.firmware_writer.Goals as goal

pub returns : goal.returns
returns c =
    let a = c.args in
    let tables : length a.table ≡ 388 = search rules in
    let states : length a.state ≡ 193 = search rules in
    let e = c.jb_slot-number.ensures in
    let k = c.jb_coming-coming.ensures in
    rw (e.0, e.1, e.2, k.0, k.1) (slotted a.table a.order a.state tables states a.supply)
