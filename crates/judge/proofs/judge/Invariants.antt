use Rattle.std.proofs.Common.{◌≡◌, drop}
use Rattle.judge.specs.Gather.{no_rows, gathered}
use Rattle.judge.proofs.judge.Given as goal

-- the table so far, with the rows that are left, gathers to what all rows gather to
abbrev pub invariant-loop-row : goal.invariant-loop-row
invariant-loop-row l = gathered l.t (drop l.row-index l.rows) ≡ gathered (no_rows l.normal l.degraded l.loading) l.rows
