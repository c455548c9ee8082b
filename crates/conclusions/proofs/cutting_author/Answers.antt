-- What the exported function says and leaves is what the planner answers, and so the rows left are the whole trouble.
use Rattle.conclusions.specs.Cutting.{cutting}
use Rattle.conclusions.specs.Planned.{planned}
use Rattle.conclusions.proofs.cutting_author.Goals as goal

pub returns : goal.returns
returns c = let e = c.jb_plan.ensures in rw (e.0, e.1, e.2) (planned _, cutting _)
