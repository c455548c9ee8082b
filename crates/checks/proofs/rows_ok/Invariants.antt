-- The first k rows passed; a row that fails ends the search, since then not all rows pass.
use Rattle.std.proofs.Common.{◌≤◌, true, ◌≡◌}
use Rattle.rules.specs.Lists.{all, rows_to}
use Rattle.checks.specs.Limits.{limits_in}
use Rattle.checks.proofs.rows_ok.Given as goal

abbrev pub invariant-loop-k : goal.invariant-loop-k
invariant-loop-k l = (l.k ≤ l.t.n) × (l.t.n ≤ 64) × (all (limits_in l.t.release l.t.work l.t.deadline l.t.level) (rows_to l.k) ≡ true)
