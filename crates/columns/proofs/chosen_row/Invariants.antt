-- `columns::chosen_row` meets its contract: no row of a place passed is released and open, so the choice over the whole order is the choice over
-- what is left, and after the first n places only zeros are left. Assumes nothing.
use Rattle.std.proofs.Common.{◌≡◌, drop}
use Rattle.rules.specs.Lists.{first}
use Rattle.columns.specs.Figures.{pending_at}
use Rattle.columns.proofs.chosen_row.Given as goal

abbrev pub invariant-loop-k : goal.invariant-loop-k
invariant-loop-k l =
    first (pending_at l.table.n l.clock l.table.release l.closing) (drop l.k l.order)
    ≡ first (pending_at l.table.n l.clock l.table.release l.closing) l.order
