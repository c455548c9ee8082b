-- The loop's invariant: the sum over the first k rows.
use mathlib.Core.Path.{◌≡◌}
use Rattle.rules.specs.Lists.{rows_to, sum}
use Rattle.counter.specs.Summing.{without_row}
use Rattle.counter.proofs.total.Given as goal

abbrev pub invariant-loop-k : goal.invariant-loop-k
invariant-loop-k l = l.total ≡ sum (without_row l.scratch l.left l.rows) (rows_to l.k)
