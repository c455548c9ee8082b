use Prim.Native.Nat.{◌-◌}
use lib.ListN.{length}
use Rattle.guarantee.specs.Turns.{Going}
use Rattle.guarantee.proofs.answered.Given as goal

abbrev pub invariant-loop-i : goal.invariant-loop-i
invariant-loop-i l = Going l.calls l.initial.said l.initial.run l.said l.run l.i l.k

abbrev pub decreases-loop-i : goal.decreases-loop-i
decreases-loop-i l = length l.calls - l.i
