-- What the exported function says and leaves is what the planner answers.
use Rattle.conclusions.specs.Planned.{planned}
use Rattle.conclusions.proofs.planner.Goals as goal

pub returns : goal.returns
returns c = let e = c.jb_plan.ensures in rw (e.0, e.1, e.2) (planned _)
