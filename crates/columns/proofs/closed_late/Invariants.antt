-- `columns::closed_late` meets its contract: the first k rows are looked at and the look goes on from there; after the last row none is due.
-- Assumes nothing.
use Rattle.std.proofs.Common.{◌≡◌, length}
use Rattle.columns.specs.Figures.{due_at}
use Rattle.columns.specs.Late.{looked_to}
use Rattle.columns.proofs.closed_late.Given as goal

abbrev pub invariant-loop-k : goal.invariant-loop-k
invariant-loop-k l = (length l.closing ≡ 64)
    × (looked_to (due_at l.table.n l.clock l.table.deadline l.table.level) l.clock l.k l.closing
    ≡ looked_to (due_at l.table.n l.clock l.table.deadline l.table.level) l.clock 0 l.initial.closing)
