use Prim.Native.Nat.{ℕ, ◌+◌, ◌-◌, ◌<◌}
use native.Mathlib.Numerals.{add-one}
use native.Mathlib.Omega.{arith}
use mathlib.Core.Path.{◌≡◌, sym, ap, ◌∙◌}
use Rattle.theory.specs.Tests.{by-ltb}
use Rattle.sweep.specs.Masks.{bit, left_bit, not_left_bit}
use Rattle.trials.specs.Allowed.{below, below_none, below_more, below_all, first_all, first_some}
use Rattle.trials.proofs.first_entries.Goals as goal
use Rattle.trials.proofs.first_entries.Goals.{In-loop-found}

-- a turn has another seat to look at, since not all entries were found yet
room : (c : In-loop-found) → c.loop-found.seat < 64
room c =
    let l = c.loop-found in
    by-ltb l.seat 64 (λ _ h. h)
    (λ _ h. let e : l.seat ≡ 64 = omega (arith, l.invariant.0) in
    absurd (omega (
      arith,
      l.invariant.1,
      l.invariant.3,
      c.loop-found-test.true,
      ap (below c.args.word) e,
      below_all c.args.word 64 c.ranges.word.fits,
    )))

-- the entry at a seat, from 1, and those below it
below-seat : (word seat : ℕ) → below word (seat + 1) ≡ below word seat + bit word (seat + 1 - 1)
below-seat word seat = let e : seat + 1 - 1 ≡ seat = omega arith in rw (e, add-one seat) (below_more word seat)

pub returns-then-how_many-most : goal.returns-then-how_many-most
returns-then-how_many-most c = first_all c.args.word c.args.most c.ranges.word.fits (omega (arith, c.if-how_many-most.true, c.how_many.ensures))

pub loop-found-init : goal.loop-found-init
loop-found-init c =
    (omega arith, sym (below_none c.args.word), omega arith, omega (arith, c.if-how_many-most.false, c.how_many.ensures))

pub overflow_add-seat : goal.overflow_add-seat
overflow_add-seat c = omega (arith, room (goal.at.overflow_add-seat c).In-loop-found)

pub overflow_cast-seat : goal.overflow_cast-seat
overflow_cast-seat c = omega (arith, room (goal.at.overflow_cast-seat c).In-loop-found)

pub has-requires : goal.has-requires
has-requires c = (omega arith, omega (arith, room (goal.at.has-requires c).In-loop-found))

pub loop-found-smaller-then-has : goal.loop-found-smaller-then-has
loop-found-smaller-then-has c = omega (arith, room (goal.at.loop-found-smaller-then-has c).In-loop-found)

pub loop-found-preserved-then-has : goal.loop-found-preserved-then-has
loop-found-preserved-then-has c =
    let word = c.args.word in
    let l = c.loop-found in (
      omega (arith, room (goal.at.loop-found-preserved-then-has c).In-loop-found),
      omega (arith, l.invariant.1, below-seat word l.seat, left_bit word (l.seat + 1) (sym c.has.ensures ∙ c.if-has.true)),
      omega (arith, c.loop-found-test.true),
      l.invariant.3,
    )

pub loop-found-smaller : goal.loop-found-smaller
loop-found-smaller c = omega (arith, room (goal.at.loop-found-smaller c).In-loop-found)

pub loop-found-preserved : goal.loop-found-preserved
loop-found-preserved c =
    let word = c.args.word in
    let l = c.loop-found in (
      omega (arith, room (goal.at.loop-found-preserved c).In-loop-found),
      omega (arith, l.invariant.1, below-seat word l.seat, not_left_bit word (l.seat + 1) (sym c.has.ensures ∙ c.if-has.false)),
      l.invariant.2,
      l.invariant.3,
    )

pub first_rows-requires : goal.first_rows-requires
first_rows-requires c = c.loop-found.invariant.0

pub returns : goal.returns
returns c =
    let l = c.loop-found in
    rw c.first_rows.ensures (first_some c.args.word c.args.most l.seat l.invariant.3 (omega (arith, l.invariant.1, l.invariant.2, c.loop-found-test.false)))
