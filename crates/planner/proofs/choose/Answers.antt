use Rattle.std.proofs.Common.{ℕ, ◌≡◌, ◌≤◌, ◌<◌, ◌+◌, ◌-◌, ◌^◌, ◌∙◌, refl, sym, ap, subst, arith, List, get_or, Option, None, Some}
use Rattle.std.specs.Int.Bits.{bit_and}
use Rattle.std.specs.Int.Count.{ones}
use Rattle.std.specs.Option.{MatchOption}
use Rattle.std.proofs.lemmas.Option.{MatchOption-at_none, MatchOption-at_some}
use Rattle.rules.specs.declared.Table.{Table}
use Rattle.rules.specs.Rows.{at}
use Rattle.rules.specs.Choice.{taker}
use Rattle.theory.specs.Facts.{facts}
use Rattle.sweep.specs.Masks.{bit, cleared_ones}
use Rattle.sweep.specs.Padded.{zeros}
use Rattle.periods.specs.declared.AtSpeed.{AtSpeed}
use Rattle.periods.specs.declared.BusyPeriods.{BusyPeriods}
use Rattle.periods.specs.declared.Promises.{Promises}
use Rattle.periods.specs.Lent.{KnownOf, in_time_at, low_in_time_at, unswept, without_placed}
use Rattle.periods.specs.Trying.{FirstIn, low_in_time}
use Rattle.trials.specs.Lent.{lent_tried, lent_seated, lent_known, known_lent, lent_open, first_lent, lent_parts, first_low_lent}
use Rattle.trials.specs.declared.Trials.{Trials}
use Rattle.trials.specs.Prepared.{left_of}
use Rattle.trials.specs.Taking.{Opened, Taken, unplaced_start}
use Rattle.trials.specs.Allowed.{below, below_most}
use Rattle.trials.specs.Counting.{FirstAllowed}
use Rattle.trials.specs.Turns.{KnownIn, entries_small, followed_few, opened_now, tries_small, normal_speed, degraded_speed, degraded_parts, open_entries, normal_first, degraded_first, low_found, high_found, taken_range}
use Rattle.trials.specs.Turns.{row_is, row_some, normal_within, degraded_within, unplaced_next, normal_next, degraded_next}
use Rattle.planner.specs.Placing.{placing_start, tally_start, counted_done, counted_stuck, counted_over, placing_turn, tally_turn, taker_range, taker_bit}
use Rattle.planner.proofs.choose.Goals as goal
use Rattle.planner.proofs.choose.Goals.{Joined-first_low, In-Some-found, in-Some, in-None}

pub first_rows-left-requires : goal.first_rows-left-requires
first_rows-left-requires c = (facts _ c.requires).few

pub loop-place-init : goal.loop-place-init
loop-place-init c =
    let t = c.args.t in
    let w = c.prepare-w in
    let first = c.first_rows-left in
    let place = c.how_many-place in
    record {
      placing = placing_start t c.requires (zeros 64) first.result place.result refl first.ensures place.ensures;
      unplaced = unplaced_start t c.requires first.result first.ensures;
      normal = rw c.unswept-periods.ensures (lent_known w.result t w.result.normal c.at_normal-normal.result c.at_normal-normal.ensures first.result unswept
          (normal_first t c.requires w.result w.ensures first.result));
      degraded = rw c.unswept-slow_periods.ensures (lent_known w.result t w.result.degraded c.promises-parts.result.slow c.promises-parts.ensures.slow first.result unswept
          (degraded_first t c.requires w.result w.ensures first.result));
      tally = tally_start t c.requires c.args.ceiling first.result place.result first.ensures place.ensures;
    }

pub open_entries-tries-requires : goal.open_entries-tries-requires
open_entries-tries-requires c =
    let t = c.args.t in
    let w = c.prepare-w in
    ((facts t c.requires).few, followed_few t c.requires w.result w.ensures, entries_small t c.requires w.result w.ensures)

pub overflow_sub-ceiling : goal.overflow_sub-ceiling
overflow_sub-ceiling c = omega (arith, c.loop-place.invariant.tally.within)

pub first_low-requires : goal.first_low-requires
first_low-requires c =
    let t = c.args.t in
    let w = c.prepare-w in
    let l = c.loop-place in
    let i = l.invariant in
    let tries = c.open_entries-tries in
    let o = opened_now t c.requires w.result w.ensures c.zero_after-free.result c.zero_after-free.ensures l.left l.unplaced tries.result i.unplaced tries.ensures in
    let p = degraded_parts t c.requires w.result w.ensures in
    let normal = c.at_normal-normal in
    let parts = c.promises-parts in (
      lent_tried w.result t w.result.normal normal.result normal.ensures (normal_speed t c.requires w.result w.ensures),
      lent_seated w.result t w.result.normal normal.result normal.ensures p.seats,
      lent_parts w.result t parts.result parts.ensures p,
      i.normal,
      lent_open w.result t w.result.normal normal.result normal.ensures l.left _
          (open_entries t c.requires w.result w.ensures l.left l.unplaced tries.result (c.args.ceiling - l.made) c.first_entries-allowed.result w.result.low
          i.unplaced o c.first_entries-allowed.ensures),
    )

pub first_in_time-found-requires : goal.first_in_time-found-requires
first_in_time-found-requires c =
    let t = c.args.t in
    let w = c.prepare-w in
    let l = c.loop-place in
    let i = l.invariant in
    let tries = c.open_entries-tries in
    let o = opened_now t c.requires w.result w.ensures c.zero_after-free.result c.zero_after-free.ensures l.left l.unplaced tries.result i.unplaced tries.ensures in (
      lent_tried w.result t w.result.degraded c.promises-parts.result.slow c.promises-parts.ensures.slow (degraded_speed t c.requires w.result w.ensures),
      i.degraded,
      lent_open w.result t w.result.degraded c.promises-parts.result.slow c.promises-parts.ensures.slow l.left _
          (open_entries t c.requires w.result w.ensures l.left l.unplaced tries.result (c.args.ceiling - l.made) c.first_entries-allowed.result w.result.high
          i.unplaced o c.first_entries-allowed.ensures),
    )

-- what is said of an entry found, or of 0 where none is
abbrev Of : (ℕ → Type 0) → Option ℕ → Type 0
Of P r = MatchOption r (P 0) (λ e. (1 ≤ e) × P e)

each : (P Q : ℕ → Type 0) → ((e : ℕ) → P e → Q e) → (r : Option ℕ) → Of P r → Of Q r
each P Q f None p = f 0 p
each P Q f (Some e) p = (p.0, f e p.1)

none_is : (r : Option ℕ) → ((e : ℕ) → r ≡ Some e → ⊥) → r ≡ None
none_is None h = refl
none_is (Some e) h = absurd (h e refl)

-- after both searches: the entry of the row that takes the place, and what is known at G
module _ (c : Joined-first_low) where
  abbrev t : Table
  t = c.args.t

  abbrev w : Trials
  w = c.prepare-w.result

  abbrev order : List ℕ
  order = c.loop-place.order

  abbrev left : ℕ
  left = c.loop-place.left

  abbrev unplaced : ℕ
  unplaced = c.loop-place.unplaced

  abbrev place : ℕ
  place = c.loop-place.place

  abbrev tries : ℕ
  tries = c.open_entries-tries.result

  abbrev allowed : ℕ
  allowed = c.first_entries-allowed.result

  -- the trials that the ceiling has left
  abbrev rest : ℕ
  rest = c.args.ceiling - c.loop-place.made

  abbrev Result : ℕ → Type 0
  Result = FirstAllowed t left unplaced tries rest allowed

  -- the rows at either speed, as they are lent
  abbrev normal : AtSpeed
  normal = c.at_normal-normal.result

  abbrev parts : Promises
  parts = c.promises-parts.result

  abbrev KnownSlow : BusyPeriods → Type 0
  KnownSlow p = KnownOf parts.slow left p

  opened : Opened t left unplaced tries
  opened =
      opened_now t c.requires w c.prepare-w.ensures c.zero_after-free.result c.zero_after-free.ensures left unplaced tries c.loop-place.invariant.unplaced
      c.open_entries-tries.ensures

  -- their word fits
  small : tries < 2 ^ 64
  small = tries_small t c.requires w c.prepare-w.ensures c.zero_after-free.result left unplaced tries c.loop-place.invariant.unplaced c.open_entries-tries.ensures

  -- what the searches say of the rows lent is so of those prepared
  low_lent : (e : ℕ) → FirstIn (low_in_time_at normal parts left) normal.load.queue.now normal.entry.now normal.load.n left (bit_and allowed w.low) e
      → FirstIn (low_in_time w.queue t.n t.release t.deadline w.normal w.degraded t.promised w.part left) w.queue w.entry t.n left (bit_and allowed w.low) e
  low_lent e k = first_low_lent w t parts c.promises-parts.ensures normal c.at_normal-normal.ensures left (bit_and allowed w.low) e k

  abbrev HighAt : List ℕ → List ℕ → ℕ → ℕ → Type 0
  HighAt queue entry n e = FirstIn (in_time_at parts.slow left) queue entry n left (bit_and allowed w.high) e

  searched : Of Result c.match-first_low.found
  searched =
      let i = c.loop-place.invariant in
      elim c.match-first_low.branch [
        | in-Some v ↦ subst (Of Result) (sym v.found-is) (
          v.in-Some.ensures.0.0,
          low_found t c.requires w c.prepare-w.ensures left unplaced i.placing.holds i.placing.closed i.unplaced tries opened small rest allowed
              c.first_entries-allowed.ensures v.in-Some.entry (low_lent v.in-Some.entry v.in-Some.ensures.0.1) (λ z. omega (arith, z, v.in-Some.ensures.0.0)),
        )
        | in-None v ↦ subst (Of Result) (sym v.found-is)
            (each (HighAt parts.slow.load.queue.now parts.slow.entry.now parts.slow.load.n) Result
            (λ e k. high_found t c.requires w c.prepare-w.ensures left unplaced i.placing.holds i.placing.closed i.unplaced tries opened small rest allowed
            c.first_entries-allowed.ensures 0 e (low_lent 0 v.in-None.ensures.0) refl
            (first_lent w t w.degraded parts.slow c.promises-parts.ensures.slow left (bit_and allowed w.high) e k))
            v.first_in_time-found.result v.first_in_time-found.ensures.0)
      ]

  normal_known : KnownIn t c.requires w c.prepare-w.ensures w.normal left c.first_low.new.self.period c.first_low.new.self.changed c.first_low.new.self.passing
  normal_known = known_lent w t w.normal normal c.at_normal-normal.ensures left c.first_low.new.self c.first_low.ensures.1

  abbrev slow : BusyPeriods
  slow = c.match-first_low.slow_periods

  known : KnownSlow slow
  known =
      elim c.match-first_low.branch [
        | in-Some v ↦ subst KnownSlow (sym v.slow_periods-is) c.loop-place.invariant.degraded
        | in-None v ↦ subst KnownSlow (sym v.slow_periods-is) v.first_in_time-found.ensures.1
      ]

  filling : 1 ≤ place
  filling = omega (arith, c.loop-place-test.true)

  -- the row at the entry found takes the place
  module _ (entry : ℕ) (is : c.match-first_low.found ≡ Some entry) where
    result : (1 ≤ entry) × Result entry
    result = MatchOption-at_some (Result 0) (λ e. (1 ≤ e) × Result e) entry is searched

    no : entry ≡ 0 → ⊥
    no z = omega (arith, result.0)

    taken : Taken t left unplaced entry
    taken = result.1.taken no

    abbrev mine : ℕ
    mine = get_or w.sequence (entry - 1) 0

    entry_range : (1 ≤ entry) × (entry ≤ t.n) × (bit unplaced (entry - 1) ≡ 1)
    entry_range = taken_range t c.requires w c.prepare-w.ensures left unplaced c.loop-place.invariant.unplaced entry taken no

    is_taker : mine ≡ taker t (left_of t left)
    is_taker = row_is t c.requires w c.prepare-w.ensures left unplaced c.loop-place.invariant.unplaced entry taken no

    some : mine ≡ 0 → ⊥
    some = row_some t c.requires w c.prepare-w.ensures left unplaced c.loop-place.invariant.unplaced entry taken no

    range : (1 ≤ mine) × (mine ≤ 64)
    range = taker_range t c.requires order left place c.loop-place.invariant.placing filling mine is_taker some

    held : bit left (mine - 1) ≡ 1
    held = taker_bit t c.requires order left place c.loop-place.invariant.placing filling mine is_taker some

    near : at c.first_low.new.self.period mine < 64
    near =
        normal_within t c.requires w c.prepare-w.ensures left unplaced c.loop-place.invariant.unplaced entry taken no held _
        c.first_low.new.self.changed c.first_low.new.self.passing normal_known

    slow_near : at slow.period mine < 64
    slow_near =
        degraded_within t c.requires w c.prepare-w.ensures left unplaced c.loop-place.invariant.unplaced entry taken no held
        slow.period slow.changed slow.passing (known_lent w t w.degraded parts.slow c.promises-parts.ensures.slow left slow known)

    -- the trials made at a place are those up to the entry found, and the ceiling has so many left
    module _ (rows many : ℕ) (upto : rows ≡ 2 ^ entry - 1) (e : many ≡ ones (bit_and allowed rows)) where
      last_is : many ≡ below allowed entry
      last_is = e ∙ ap (λ (m : ℕ). ones (bit_and allowed m)) upto

      last_most : c.loop-place.made + many ≤ c.args.ceiling
      last_most = omega (arith, last_is, below_most entry allowed, c.first_entries-allowed.ensures.few, c.loop-place.invariant.tally.within)

  -- no row is found
  none : c.match-first_low.found ≡ None → Result 0
  none e = MatchOption-at_none (Result 0) (λ e. (1 ≤ e) × Result e) e searched

pub returns-then-allowed-tries : goal.returns-then-allowed-tries
returns-then-allowed-tries c =
    let j = (goal.at.returns-then-allowed-tries c).Joined-first_low in
    let l = c.loop-place in
    let i = l.invariant in
    let r = none j (none_is c.match-first_low.found c.in_default.not-Some) in
    c.refused.ensures
    ∙ counted_over c.args.t c.requires l.order l.left l.place i.placing (filling j) c.args.ceiling l.made i.tally (r.over refl c.if-allowed-tries.true)

pub returns-in_default : goal.returns-in_default
returns-in_default c =
    let j = (goal.at.returns-in_default c).Joined-first_low in
    let l = c.loop-place in
    let i = l.invariant in
    let r = none j (none_is c.match-first_low.found c.in_default.not-Some) in
    let s = r.stuck refl (omega arith) in
    counted_stuck c.args.t c.requires l.order l.left l.place i.placing (filling j) c.args.ceiling
    l.made c.how_many.result i.tally s.0 (s.1 ∙ sym c.how_many.ensures)
    (omega (arith, c.how_many.ensures, c.first_entries-allowed.ensures.few, i.tally.within))

pub first_rows-requires : goal.first_rows-requires
first_rows-requires c =
    let j = (goal.at.first_rows-requires c).Joined-first_low in
    omega (arith, (entry_range j c.in-Some-found.entry c.in-Some-found.is).1, (facts c.args.t c.requires).few)

pub overflow_add-made : goal.overflow_add-made
overflow_add-made c =
    let j = (goal.at.overflow_add-made c).Joined-first_low in
    omega (
      arith,
      last_most j c.in-Some-found.entry c.in-Some-found.is c.first_rows.result c.how_many-made.result c.first_rows.ensures c.how_many-made.ensures,
      c.ranges.ceiling.fits,
    )

pub bounds-w-entry : goal.bounds-w-entry
bounds-w-entry c =
    let j = (goal.at.bounds-w-entry c).Joined-first_low in
    omega (arith, entry_range j c.in-Some-found.entry c.in-Some-found.is, (facts c.args.t c.requires).few)

pub bounds-order-place : goal.bounds-order-place
bounds-order-place c = omega (arith, c.loop-place.invariant.placing.few, (facts c.args.t c.requires).few)

pub without-left-requires : goal.without-left-requires
without-left-requires c =
    let j = (goal.at.without-left-requires c).Joined-first_low in
    let e = c.in-Some-found.entry in
    let r = range j e c.in-Some-found.is in
    (r.0, r.1, held j e c.in-Some-found.is)

pub without-unplaced-requires : goal.without-unplaced-requires
without-unplaced-requires c =
    let j = (goal.at.without-unplaced-requires c).Joined-first_low in
    let r = entry_range j c.in-Some-found.entry c.in-Some-found.is in
    (r.0, omega (arith, r.1, (facts c.args.t c.requires).few), r.2)

pub placed-requires : goal.placed-requires
placed-requires c =
    let j = (goal.at.placed-requires c).Joined-first_low in
    let e = c.in-Some-found.entry in
    let r = range j e c.in-Some-found.is in
    (r.0, r.1, near j e c.in-Some-found.is)

pub placed-requires-in-loop-place : goal.placed-requires-in-loop-place
placed-requires-in-loop-place c =
    let j = (goal.at.placed-requires-in-loop-place c).Joined-first_low in
    let e = c.in-Some-found.entry in
    let r = range j e c.in-Some-found.is in
    (r.0, r.1, slow_near j e c.in-Some-found.is)

pub loop-place-smaller : goal.loop-place-smaller
loop-place-smaller c =
    let j = (goal.at.loop-place-smaller c).Joined-first_low in
    let e = c.in-Some-found.entry in
    let is = c.in-Some-found.is in
    omega (arith, cleared_ones (mine j e is - 1) c.loop-place.left (held j e is), ap ones c.without-left.ensures)

pub loop-place-preserved : goal.loop-place-preserved
loop-place-preserved c =
    let j = (goal.at.loop-place-preserved c).Joined-first_low in
    let e = c.in-Some-found.entry in
    let is = c.in-Some-found.is in
    let t = c.args.t in
    let w = c.prepare-w in
    let l = c.loop-place in
    let i = l.invariant in
    let gone = c.without-left in
    let high = c.match-first_low.slow_periods in
    let more = c.how_many-place-in-loop-place in
    record {
      placing = placing_turn t c.requires l.order l.left l.place i.placing (filling j) (mine j e is) (is_taker j e is) (some j e is)
          gone.result more.result gone.ensures more.ensures;
      unplaced = rw (gone.ensures, c.without-unplaced.ensures) (unplaced_next t c.requires w.result w.ensures l.left l.unplaced i.unplaced e (taken j e is) (no j e is) (held j e is));
      normal = rw (gone.ensures, c.placed.ensures) (lent_known w.result t w.result.normal (normal j) c.at_normal-normal.ensures
          (l.left - 2 ^ (mine j e is - 1)) (without_placed c.first_low.new.self (mine j e is))
          (normal_next t c.requires w.result w.ensures l.left l.unplaced i.unplaced e (taken j e is) (no j e is) (held j e is)
          _ c.first_low.new.self.changed c.first_low.new.self.passing (normal_known j)));
      degraded = rw (gone.ensures, c.placed-in-loop-place.ensures) (lent_known w.result t w.result.degraded (parts j).slow c.promises-parts.ensures.slow
          (l.left - 2 ^ (mine j e is - 1)) (without_placed high (mine j e is))
          (degraded_next t c.requires w.result w.ensures l.left l.unplaced i.unplaced e (taken j e is) (no j e is) (held j e is)
          high.period high.changed high.passing (known_lent w.result t w.result.degraded (parts j).slow c.promises-parts.ensures.slow l.left high (known j))));
      tally = tally_turn t c.requires l.order l.left l.place i.placing (filling j) (mine j e is) (is_taker j e is) (some j e is)
          c.args.ceiling l.made c.how_many-made.result gone.result more.result i.tally
          ((result j e is).1.made (no j e is) ∙ sym (last_is j e is c.first_rows.result c.how_many-made.result c.first_rows.ensures c.how_many-made.ensures))
          (last_most j e is c.first_rows.result c.how_many-made.result c.first_rows.ensures c.how_many-made.ensures) gone.ensures more.ensures;
    }

pub returns : goal.returns
returns c =
    let l = c.loop-place in
    counted_done c.args.t c.requires l.order l.left l.place l.invariant.placing c.args.ceiling l.made l.invariant.tally (omega arith)
