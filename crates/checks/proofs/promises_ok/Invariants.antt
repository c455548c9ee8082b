-- The first k rows passed; a row that fails ends the search, since then not all rows pass.
use Rattle.std.proofs.Common.{◌≤◌, true, ◌≡◌}
use Rattle.rules.specs.Lists.{all, rows_to}
use Rattle.checks.specs.Limits.{part_in}
use Rattle.checks.proofs.promises_ok.Given as goal

abbrev pub invariant-loop-k : goal.invariant-loop-k
invariant-loop-k l = (l.k ≤ l.t.n) × (l.t.n ≤ 64) × (all (part_in l.t.work l.t.level l.t.promised) (rows_to l.k) ≡ true)
