-- A refused table answers for itself; for an accepted one the choice does.
use mathlib.Core.Path.{sym}
use Rattle.ceiling.specs.Ceiling.{plan_within}
use Rattle.planner.proofs.plan_within.Goals as goal

pub returns-in-Err : goal.returns-in-Err
unfolding plan_within
returns-in-Err c = rw (sym c.in-Err.ensures) c.refused.ensures

pub returns-in-Ok : goal.returns-in-Ok
unfolding plan_within
returns-in-Ok c = rw (sym c.in-Ok.ensures) c.choose.ensures
