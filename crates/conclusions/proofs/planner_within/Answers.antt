-- What the exported function says and leaves is what the planner answers at the ceiling.
use Rattle.conclusions.specs.Ceilings.{planned_within}
use Rattle.conclusions.proofs.planner_within.Goals as goal

pub returns : goal.returns
returns c = let e = c.jb_plan_within.ensures in rw (e.0, e.1, e.2, e.3) (planned_within _ _)
