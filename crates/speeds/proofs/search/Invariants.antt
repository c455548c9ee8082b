-- The loop's invariant: what is left of the range is less than 2 to the power of the turns left, so that after the last turn one speed is.
use Prim.Native.Nat.{◌-◌, ◌^◌, ◌≤◌, ◌<◌}
use Rattle.speeds.specs.Halving.{Halving}
use Rattle.speeds.proofs.search.Given as goal

abbrev pub invariant-loop-turn : goal.invariant-loop-turn
invariant-loop-turn l = (l.turn ≤ 10) × Halving l.sought l.t l.between × (l.between.high - l.between.low < 2 ^ (10 - l.turn))
