-- The loop's invariant: the word has the rows of the places passed, and the two columns their worst finishes and the clocks that their slacks count
-- from, zeros for the rest.
use Rattle.std.proofs.Common.{◌≡◌, length, take}
use Rattle.rules.specs.Worst.{worst_finish}
use Rattle.theory.specs.Promised as PromisedDefs
use Rattle.sweep.specs.Holds.{Holds}
use Rattle.judge.specs.Stored.{Stored}
use Rattle.judge.proofs.timed.Given as goal

abbrev pub invariant-loop-row : goal.invariant-loop-row
invariant-loop-row l =
    (length l.finish ≡ 64)
    × (length l.latest ≡ 64)
    × Holds l.down (take l.row-index l.fn.order)
    × Stored (worst_finish l.fn.t l.fn.order) l.fn.order l.row-index l.finish
    × Stored (PromisedDefs.latest l.fn.t l.fn.order) l.fn.order l.row-index l.latest
