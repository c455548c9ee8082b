-- The loop's invariant: the entries of the rows that one of the first k rows follows are taken out.
use mathlib.Core.Path.{◌≡◌}
use Rattle.trials.specs.Opening.{open_to}
use Rattle.trials.proofs.Trials.open_entries.Given as goal

abbrev pub invariant-loop-k : goal.invariant-loop-k
invariant-loop-k l = l.tries ≡ open_to l.t.follows l.self.entry l.left l.unplaced l.k
