-- The loop's invariant: the row at hand compared with the rows left gives what all rows give, and the slack at hand is its own.
use Rattle.std.proofs.Common.{◌≡◌}
use Rattle.rules.specs.Lists.{rows_to}
use Rattle.judge.specs.Least.{slack_in, least_by, least_from}
use Rattle.judge.proofs.tightest.Given as goal

abbrev pub invariant-loop-k : goal.invariant-loop-k
invariant-loop-k l =
    (l.least.slack ≡ slack_in l.deadline l.clock l.least.row)
    × (least_from (slack_in l.deadline l.clock) l.n l.least.row l.k ≡ least_by (slack_in l.deadline l.clock) 1 (rows_to l.n))
