-- The first i figures are placed, and the next one is read right after them.
use Rattle.std.proofs.Common.{◌≡◌, drop}
use Rattle.rules.specs.Choice.{padded}
use Rattle.sentences.specs.Reading.{figures_in}
use Rattle.parser.specs.Following.{After, places}
use Rattle.parser.proofs.read_places.Given as goal

abbrev pub invariant-loop-i : goal.invariant-loop-i
invariant-loop-i l = After l.bytes l.from l.i l.next × (l.order ≡ padded (places (figures_in (drop l.from l.bytes)) l.i))
