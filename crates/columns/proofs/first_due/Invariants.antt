-- `columns::first_due` meets its contract: after k rows it is the least over those. Assumes nothing.
use Rattle.std.proofs.Common.{◌≡◌}
use Rattle.columns.specs.Dues.{first_due}
use Rattle.columns.proofs.first_due.Given as goal

abbrev pub invariant-loop-k : goal.invariant-loop-k
invariant-loop-k l = l.due ≡ first_due l.k l.table.deadline l.table.level l.closing
