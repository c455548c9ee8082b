-- The rows at the first k places have been seen, and each of them follows none or one that was seen before it.
use Rattle.std.proofs.Common.{◌≤◌, true, ◌≡◌, length}
use Rattle.checks.specs.Keeping.{Numbered, kept_to, Seen}
use Rattle.checks.proofs.keeps_waits.Given as goal

abbrev pub invariant-loop-k : goal.invariant-loop-k
invariant-loop-k l = (l.k ≤ l.n) × (l.n ≤ 64) × (length l.seen ≡ 65) × Seen l.follows l.order l.seen l.k × (kept_to l.follows l.order l.k ≡ true) × Numbered l.follows l.order l.n
