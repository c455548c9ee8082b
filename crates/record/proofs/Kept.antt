-- Every slot keeps a record sound (rule 8.16), so that 9 never comes up after a sound start (rule 9.11).
use Rattle.std.specs.Prelude.{ℕ, ◌+◌, ◌≤◌, ◌<◌, Bool, true, List, [], ◌∷◌, refl, ltb, length}
use Rattle.std.proofs.Math.Path.{◌≡◌}
use Rattle.std.proofs.Common.{ap, ◌∙◌, arith, length-set, ltb-true}
use Rattle.std.proofs.Math.Nat.{min-le_left}
use Rattle.rules.specs.declared.Refusal.TheVariants.{ClockOver, Unsound}
use Rattle.rules.specs.Calls.{last_clock}
use Rattle.rules.specs.Rows.{at, work_of, deadline_of, promised_of}
use Rattle.rules.specs.Running.{close_late}
use Rattle.rules.specs.Slots.{brought}
use Rattle.record.specs.declared.Run.{Run}
use Rattle.record.specs.SlotAnswers as Slots
use Rattle.record.specs.declared.ForwardAnswer.TheVariants as Forwards
use Rattle.record.specs.Records.{state_of, record_of, tail_sound, is_sound, next_run, worked_run, closed_run, chosen_row, work_on, one_slot, forward_over}
use Rattle.theory.specs.Facts.{both_order}
use Rattle.theory.proofs.Runs.{idle_step}
use Rattle.theory.specs.Tests.{by_bool, by_eqb}
use Rattle.columns.specs.Entries.{put_same, put_other, put_after}
use Rattle.columns.specs.Figures.{sound_at, looked, sound_test, sound_later, sound_run}
use Rattle.record.specs.Checked.{limits}
use Rattle.record.proofs.Sound.{sound_so, is_sound_lem, runs}
use Rattle.record.specs.Sound.{IsSound, Runs}
use Rattle.record.specs.Stepping.{got_next, closing_next, rested, served, worked_idle, worked_served, next_looks, closed_row, closed_size, closed_tail}
use Rattle.record.specs.Kept.{Sized}

-- A sound record after a slot, in which no row runs or row i does, and the look at the clock after it.
module _ (r : Run) (z : Sized r) (f : IsSound r) (early : r.clock < last_clock) where
  in_column : (j : ℕ) → j ≤ r.table.n → j ≤ 64
  in_column j h = omega (arith, (limits r.table r.order f.checked).few)

  -- row j's soundness, by its figures after the slot
  abbrev sound_next : ℕ → ℕ → ℕ → ℕ → Bool
  sound_next j got used closing =
      let t = r.table in
      sound_at (work_of t j) (deadline_of t j) (at t.level j) (promised_of t j) t.normal t.degraded t.loading (r.clock + 1) got used
      (looked (deadline_of t j) (at t.level j) (r.clock + 1) closing)

  -- a row that did not run
  later : (j : ℕ) → 1 ≤ j → j ≤ r.table.n → sound_next j (at r.got j) (at r.used j) (at r.closing j) ≡ true
  later j l h = sound_test _ _ _ _ _ _ _ _ _ _ _ (sound_later _ _ _ _ _ _ _ _ _ _ _ (f.rows j l h))

  rested_sound : IsSound (closed_run (rested r))
  unfolding tail_sound closed_run close_late
  rested_sound =
      record {
        checked = f.checked;
        clock = omega arith;
        rows = λ j l h. rw (closed_row (rested r) j l h (omega (arith, in_column j h, z.closing))) (later j l h);
        tail = rw (closed_tail (rested r)) f.tail;
      }

  module _ (v i : ℕ) (c : Runs r i) where
    abbrev s : Run
    s = served r v i

    -- the row that ran
    run_here : sound_next i (got_next r v i) (at r.used i + 1) (closing_next r v i) ≡ true
    run_here =
        sound_test _ _ _ _ _ _ _ _ _ _ _
        (sound_run _ _ _ _ _ _ _ _ _ _ _ (got_next r v i) (f.rows i c.low c.high) c.still
        (min-le_left (work_of r.table i) (at r.got i + brought r.table.loading (at r.used i) v)))

    row_served : (j : ℕ) → 1 ≤ j → j ≤ r.table.n → sound_next j (at s.got j) (at s.used j) (at s.closing j) ≡ true
    row_served j l h =
        by_eqb j i
        (λ _ q.
        rw (
          q,
          put_same r.got i (got_next r v i) c.low (omega (arith, in_column i c.high, z.got)),
          put_same r.used i (at r.used i + 1) c.low (omega (arith, in_column i c.high, z.used)),
          put_same r.closing i (closing_next r v i) c.low (omega (arith, in_column i c.high, z.closing)),
        )
        run_here)
        (λ _ q.
        rw (
          put_other r.got i j (got_next r v i) c.low l q,
          put_other r.used i j (at r.used i + 1) c.low l q,
          put_other r.closing i j (closing_next r v i) c.low l q,
        )
        (later j l h))

    tail_served : tail_sound s ≡ true
    unfolding tail_sound
    tail_served =
        rw (
          put_after r.got r.table.n i (got_next r v i) c.low c.high,
          put_after r.used r.table.n i (at r.used i + 1) c.low c.high,
          put_after r.closing r.table.n i (closing_next r v i) c.low c.high,
        )
        f.tail

    closing_long : length s.closing ≡ 64
    closing_long = simp length-set z.closing

    served_sound : IsSound (closed_run s)
    unfolding tail_sound closed_run close_late
    served_sound =
        record {
          checked = f.checked;
          clock = omega arith;
          rows = λ j l h. rw (closed_row s j l h (omega (arith, in_column j h, closing_long))) (row_served j l h);
          tail = rw (closed_tail s) tail_served;
        }

  next_sound : (v : ℕ) → IsSound (next_run r v)
  next_sound v =
      rw (next_looks r v) (by_eqb (chosen_row r) 0
      (λ _ e. rw (worked_idle r v (chosen_row r) refl e) rested_sound)
      (λ _ e. rw (worked_served r v (chosen_row r) refl e) (served_sound v (chosen_row r) (runs r e))))

-- an idle slot moves the clock and drops nothing (rules 2.12, 19.7)
pub next_idle : (r : Run) (v : ℕ) → is_sound r ≡ true → chosen_row r ≡ 0 → next_run r v ≡ rested r
unfolding next_run worked_run chosen_row
next_idle r v e z =
    let c = (sound_so r e).checked in
    ap (record_of r.table r.order) (idle_step r.table (limits r.table r.order c) r.order (both_order r.table r.order c) v (state_of r) z)
    ∙ worked_idle r v (chosen_row r) refl z

-- a slot by the planning rule, and the look, keep the columns' lengths
pub sized_worked : (r : Run) (v : ℕ) → Sized r → Sized (worked_run r v)
sized_worked r v z =
    by_eqb (chosen_row r) 0
    (λ _ e. rw (worked_idle r v (chosen_row r) refl e) (record { got = z.got; used = z.used; closing = z.closing }))
    (λ _ e.
    rw (worked_served r v (chosen_row r) refl e)
    (record { got = simp length-set z.got; used = simp length-set z.used; closing = simp length-set z.closing }))

pub sized_closed : (r : Run) → Sized r → Sized (closed_run r)
unfolding closed_run close_late
sized_closed r z = record { got = z.got; used = z.used; closing = closed_size r ∙ z.closing }

pub sized_kept : (r : Run) (v : ℕ) → Sized r → Sized (next_run r v)
sized_kept r v z = rw (next_looks r v) (sized_closed (worked_run r v) (sized_worked r v z))

-- one slot keeps a record sound
pub sound_kept : (r : Run) (v : ℕ) → Sized r → is_sound r ≡ true → ltb r.clock last_clock ≡ true → is_sound (next_run r v) ≡ true
sound_kept r v z e h = is_sound_lem (next_run r v) (next_sound r z (sound_so r e) (ltb-true r.clock last_clock h) v)

-- and so do any number of slots
pub work_sound : (k : ℕ) (vs : List ℕ) (r : Run) → Sized r → is_sound r ≡ true → is_sound (work_on k vs r).run ≡ true
unfolding work_on
work_sound k [] r z e = e
work_sound k (v ∷ vs) r z e =
    by_bool (ltb r.clock last_clock)
    (λ h. rw h (work_sound (k + 1) vs (next_run r v) (sized_kept r v z) (sound_kept r v z e h)))
    (λ h. rw h e)

work_not_nine : (k : ℕ) (vs : List ℕ) (r : Run) → (work_on k vs r).answer ≡ Forwards.Refused Unsound → ⊥
unfolding work_on
work_not_nine k [] r n = let b : ◌≡◌ {A = ℕ} 0 1 = cc in omega arith
work_not_nine k (v ∷ vs) r n =
    by_bool (ltb r.clock last_clock)
    (λ h. work_not_nine (k + 1) vs (next_run r v) (rw h at n))
    (λ h. let a : Forwards.ClockOver k ≡ Forwards.Refused Unsound = rw h at n in let b : ◌≡◌ {A = ℕ} 0 1 = cc in omega arith)

-- both run calls leave a sound record sound, and neither says 9 of one (rules 8.16, 9.11)
module _ (r : Run) (e : is_sound r ≡ true) where
  pub one_sound : (v : ℕ) → Sized r → is_sound (one_slot r v).run ≡ true
  unfolding one_slot
  one_sound v z = rw e (by_bool (ltb r.clock last_clock) (λ h. rw h (sound_kept r v z e h)) (λ h. rw h e))

  pub forward_sound : (vs : List ℕ) → Sized r → is_sound (forward_over r vs).run ≡ true
  unfolding forward_over
  forward_sound vs z = rw e (work_sound 0 vs r z e)

  pub one_not_nine : (v : ℕ) → (one_slot r v).answer ≡ Slots.Refused Unsound → ⊥
  unfolding one_slot
  one_not_nine v n =
      by_bool (ltb r.clock last_clock)
      (λ h. let a : Slots.Worked (chosen_row r) ≡ Slots.Refused Unsound = rw (e, h) at n in let b : ◌≡◌ {A = ℕ} 0 1 = cc in omega arith)
      (λ h. let a : Slots.Refused ClockOver ≡ Slots.Refused Unsound = rw (e, h) at n in let b : ◌≡◌ {A = ℕ} 0 1 = cc in omega arith)

  pub forward_not_nine : (vs : List ℕ) → (forward_over r vs).answer ≡ Forwards.Refused Unsound → ⊥
  unfolding forward_over
  forward_not_nine vs n = work_not_nine 0 vs r (rw e at n)
