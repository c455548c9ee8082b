-- The first k rows stand once each; a row that does not ends the search, since then not all do.
use Rattle.std.proofs.Common.{◌≤◌, true, eqb, get_or, ◌≡◌}
use Rattle.rules.specs.Lists.{all, rows_to}
use Rattle.checks.proofs.each_once.Given as goal

abbrev pub invariant-loop-k : goal.invariant-loop-k
invariant-loop-k l = (l.k ≤ l.n) × (l.n ≤ 64) × (all (λ i. eqb (get_or l.times i 0) 1) (rows_to l.k) ≡ true)
