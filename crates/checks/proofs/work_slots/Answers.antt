-- The slots are the quotient where no rest is left, and one more where one is; they are at most the work, so they fit.
use Rattle.std.proofs.Common.{sym, ap, ◌∙◌, ◌≤◌, arith}
use Rattle.rules.specs.Need.{work_slots}
use Rattle.checks.specs.NeedLaws.{slots_stopped, slots_exact, slots_rest, slots_fit}
use Rattle.theory.specs.Caps.{slots_most}
use Rattle.checks.proofs.work_slots.Goals as goal
use Rattle.checks.proofs.work_slots.Goals.{then-speed-eq0-via-then-speed-eq0, then-speed-eq0-via-else-speed-eq0+then-work-eq0}

pub returns-then-speed-eq0 : goal.returns-then-speed-eq0
returns-then-speed-eq0 c =
    let a = c.args in
    elim c.then-speed-eq0.branch [
      | then-speed-eq0-via-then-speed-eq0 w ↦ sym (ap (work_slots a.work) w.if-speed-eq0.true ∙ slots_stopped a.work)
      | then-speed-eq0-via-else-speed-eq0+then-work-eq0 w ↦ omega (arith, slots_fit a.work a.speed, w.if-work-eq0.true)
    ]

pub overflow_add-result : goal.overflow_add-result
overflow_add-result c =
    let a = c.args in
    let p : 1 ≤ a.speed = omega arith in
    omega (arith, slots_rest a.work a.speed p c.if-work-speed-eq0.false, slots_most a.work a.speed p)

pub returns-then-work-speed-eq0 : goal.returns-then-work-speed-eq0
returns-then-work-speed-eq0 c =
    let a = c.args in
    sym (slots_exact a.work a.speed (omega arith) c.if-work-speed-eq0.true)

pub returns-else-work-speed-eq0 : goal.returns-else-work-speed-eq0
returns-else-work-speed-eq0 c =
    let a = c.args in
    sym (slots_rest a.work a.speed (omega arith) c.if-work-speed-eq0.false)
