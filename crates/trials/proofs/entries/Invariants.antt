-- The loop's invariant: the rows at the first k entries know their entry.
use mathlib.Core.Path.{◌≡◌}
use Rattle.periods.specs.Entries.{entries_to}
use Rattle.trials.proofs.entries.Given as goal

abbrev pub invariant-loop-k : goal.invariant-loop-k
invariant-loop-k l = l.out ≡ entries_to l.sequence l.k
