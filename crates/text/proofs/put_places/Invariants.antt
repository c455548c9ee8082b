-- The lines of the first k places are written.
use Rattle.rules.specs.Lists.{rows_to, joined}
use Rattle.texts.specs.Program.{place_line}
use Rattle.fields.specs.Texts.{Puts}
use Rattle.text.proofs.put_places.Given as goal

abbrev pub invariant-loop-k : goal.invariant-loop-k
invariant-loop-k l = Puts l.initial.text l.text (joined (place_line l.t l.order) (rows_to l.k))
