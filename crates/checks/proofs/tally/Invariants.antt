-- What is tallied up to place k and what is left from there on are the whole.
use Rattle.std.proofs.Common.{◌≤◌, ◌≡◌, length}
use Rattle.checks.specs.Counts.{Tallied}
use Rattle.checks.proofs.tally.Given as goal

abbrev pub invariant-loop-k : goal.invariant-loop-k
invariant-loop-k l = (l.k ≤ 64) × (length l.times ≡ 65) × Tallied l.times l.order l.k
