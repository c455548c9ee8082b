-- The loop's invariant: the word has those of the first k rows that pass.
use Rattle.std.proofs.Common.{◌≡◌}
use Rattle.counter.specs.Lent.{stands_at}
use Rattle.counter.specs.Testing.{standing_to}
use Rattle.counter.proofs.standing.Given as goal

abbrev pub invariant-loop-k : goal.invariant-loop-k
invariant-loop-k l = l.rows ≡ standing_to (stands_at l.parts l.left l.word) l.k
