-- What the exported function says and leaves is what the definition of asking says.
use Rattle.conclusions.specs.Renewals.{proposing}
use Rattle.conclusions.proofs.next_sheet.Goals as goal

pub returns : goal.returns
returns c = let e = c.jb_ask-number.ensures in rw (e.0, e.1, e.2, e.3) (proposing c.args.sheet.now)
