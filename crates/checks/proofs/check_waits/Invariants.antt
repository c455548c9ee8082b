-- The waits of the first k rows passed; the first row that is refused answers.
use Rattle.std.proofs.Common.{◌≤◌, ◌≡◌}
use Rattle.rules.specs.Checks.{Passed}
use Rattle.checks.specs.Keeping.{waits_to}
use Rattle.checks.proofs.check_waits.Given as goal

abbrev pub invariant-loop-k : goal.invariant-loop-k
invariant-loop-k l = (l.k ≤ l.t.n) × (l.t.n ≤ 64) × (waits_to l.t.follows l.t.release l.t.level l.k ≡ Passed)
