-- The loop's invariant: so many entries stand below the seat, and the word has more than are allowed.
use Prim.Native.Nat.{◌-◌, ◌≤◌, ◌<◌}
use mathlib.Core.Path.{◌≡◌}
use lib.Count.{ones}
use Rattle.trials.specs.Allowed.{below}
use Rattle.trials.proofs.first_entries.Given as goal

abbrev pub invariant-loop-found : goal.invariant-loop-found
invariant-loop-found l = (l.seat ≤ 64) × (l.found ≡ below l.word l.seat) × (l.found ≤ l.most) × (l.most < ones l.word)

abbrev pub decreases-loop-found : goal.decreases-loop-found
decreases-loop-found l = 64 - l.seat
