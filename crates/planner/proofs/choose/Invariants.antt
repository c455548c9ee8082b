use Rattle.std.specs.Int.Count.{ones}
use Rattle.periods.specs.Lent.{KnownOf}
use Rattle.trials.specs.Taking.{Unplaced}
use Rattle.planner.specs.Placing.{Placing, Tally}
use Rattle.planner.proofs.choose.Given as goal

-- the choice goes on from the rows left and the rows placed, their entries are the unplaced ones, what is known of the busy periods at either speed is so of
-- the rows left, and the trials made are those of the places filled
abbrev pub invariant-loop-place : goal.invariant-loop-place
invariant-loop-place l = record {
  placing : Placing l.fn.t l.order l.left l.place;
  unplaced : Unplaced l.fn.t l.left l.unplaced;
  normal : KnownOf l.normal l.left l.periods;
  degraded : KnownOf l.parts.slow l.left l.slow_periods;
  tally : Tally l.fn.t l.ceiling l.left l.place l.made;
}

-- the place is how many rows are left
abbrev pub decreases-loop-place : goal.decreases-loop-place
decreases-loop-place l = ones l.left
