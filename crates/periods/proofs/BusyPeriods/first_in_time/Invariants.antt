-- The loop's invariant: what is known holds; at its end no busy period has changed, so that all entries that pass are known.
use Rattle.periods.specs.Lent.{KnownOf}
use Rattle.periods.proofs.BusyPeriods.first_in_time.Given as goal

abbrev pub invariant-loop-self : goal.invariant-loop-self
invariant-loop-self l = KnownOf l.speed l.left l.self

abbrev pub decreases-loop-self : goal.decreases-loop-self
decreases-loop-self l = l.self.changed
