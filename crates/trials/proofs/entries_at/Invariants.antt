-- The loop's invariant: the word has the entries of this level among the first k.
use mathlib.Core.Path.{◌≡◌}
use lib.Dec.{eqb}
use lib.ListN.{take}
use Rattle.rules.specs.Rows.{at}
use Rattle.periods.specs.Marks.{marks}
use Rattle.trials.proofs.entries_at.Given as goal

abbrev pub invariant-loop-k : goal.invariant-loop-k
invariant-loop-k l = l.word ≡ marks (λ i. eqb (at l.level i) l.wanted) (take l.k l.sequence)
