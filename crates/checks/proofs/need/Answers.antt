-- The sum fits: at most 16 slots of loading and a slot for each work unit.
use Rattle.std.proofs.Common.{arith}
use Rattle.checks.specs.NeedLaws.{slots_fit}
use Rattle.checks.proofs.need.Goals as goal

pub overflow_add-result : goal.overflow_add-result
overflow_add-result c =
    let a = c.args in
    omega (arith, c.work_slots.ensures, slots_fit a.work a.speed, c.requires.0, c.requires.1)

pub returns : goal.returns
returns c = omega (arith, c.work_slots.ensures)
