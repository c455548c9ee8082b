use Prim.Native.Nat.{ℕ, ◌+◌, ◌-◌, ◌<◌, ◌≤◌}
use native.Mathlib.Omega.{arith}
use mathlib.Core.Path.{◌≡◌, refl, ap}
use Rattle.speeds.specs.Halving.{range, halving_start, halving_least, halving_none, half_below}
use Rattle.speeds.proofs.search.Goals as goal
use Rattle.speeds.proofs.search.Goals.{At-loop-turn}

pub overflow_add-between : goal.overflow_add-between
overflow_add-between c = omega (arith, c.fastest-last.ensures, (range c.args.sought c.args.t c.requires).last)

pub loop-turn-init : goal.loop-turn-init
loop-turn-init c =
    let r = range c.args.sought c.args.t c.requires in
    let last = c.fastest-last.ensures in
    let first = c.slowest-first.ensures in (
      omega arith,
      halving_start c.args.sought c.args.t c.requires _ first (ap (λ (n : ℕ). n + 1) last) refl,
      omega (arith, r.last, r.first, last, first),
    )

pub loop-turn-preserved : goal.loop-turn-preserved
loop-turn-preserved c =
    let l = c.loop-turn in
    let e : 10 - (l.turn + 1) ≡ 10 - l.turn - 1 = omega arith in (
      omega (arith, c.loop-turn-test.true),
      c.halved-between.ensures.0,
      rw e (half_below (l.between.high - l.between.low) (c.halved-between.result.high - c.halved-between.result.low) (10 - l.turn)
          (omega (arith, c.loop-turn-test.true)) l.invariant.2 c.halved-between.ensures.1),
    )

-- after the last turn one speed is left
one_left : (c : At-loop-turn) → 10 ≤ c.loop-turn.turn → c.loop-turn.between.low ≡ c.loop-turn.between.high
one_left c over =
    let l = c.loop-turn in
    let e : 10 - l.turn ≡ 0 = omega (arith, over) in
    let w : l.between.high - l.between.low < 1 = rw e at l.invariant.2 in
    omega (arith, l.invariant.1.ordered)

pub returns-then-last-least : goal.returns-then-last-least
returns-then-last-least c =
    let l = c.loop-turn in
    halving_none c.args.sought c.args.t c.requires l.between l.invariant.1 (one_left (goal.at.returns-then-last-least c).At-loop-turn c.loop-turn-test.false)
    (omega (arith, c.fastest-last.ensures, c.if-last-least.true))

pub returns-else-last-least : goal.returns-else-last-least
returns-else-last-least c =
    let l = c.loop-turn in
    halving_least c.args.sought c.args.t c.requires l.between l.invariant.1 (one_left (goal.at.returns-else-last-least c).At-loop-turn c.loop-turn-test.false)
    (omega (arith, c.fastest-last.ensures, c.if-last-least.false))
