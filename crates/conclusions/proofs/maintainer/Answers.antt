-- What the exported function says and leaves is what counting answers.
use Rattle.conclusions.specs.Maintained.{maintained}
use Rattle.conclusions.proofs.maintainer.Goals as goal

pub returns : goal.returns
returns c = let e = c.jb_count.ensures in rw (e.0, e.1, e.2, e.3) (maintained _ _)
