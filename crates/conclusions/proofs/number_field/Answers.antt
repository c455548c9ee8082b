-- What the exported function says and leaves is the number's field.
use Rattle.conclusions.specs.Back.{as_field}
use Rattle.conclusions.proofs.number_field.Goals as goal

pub returns : goal.returns
returns c = let e = c.jb_field.ensures in rw (e.0, e.1) (as_field _)
