-- The loop's invariant: what is known at the normal speed holds, and every entry that is asked no more has a row that fails.
use Rattle.periods.specs.Lent.{KnownOf, in_time_at, part_in_time_at}
use Rattle.periods.specs.LowSearch.{Asking}
use Rattle.periods.proofs.BusyPeriods.first_low.Given as goal

abbrev pub invariant-loop-entry : goal.invariant-loop-entry
invariant-loop-entry l =
    Asking (in_time_at l.normal l.left) (part_in_time_at l.parts l.left) l.normal.load.queue.now l.normal.entry.now l.normal.load.n l.left l.word l.asked
    × KnownOf l.normal l.left l.self

abbrev pub decreases-loop-entry : goal.decreases-loop-entry
decreases-loop-entry l = l.asked
