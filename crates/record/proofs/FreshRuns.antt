-- The record of a checked table and order with every row open and empty, at a clock that is not after the earliest release, is sound (rules 8.2, 22.4): every
-- row needs a slot at least, and has its deadline before it. The fresh record is the one at clock 0.
use Rattle.std.specs.Prelude.{ℕ, zero, suc, ◌-◌, ◌≤◌, ◌<◌, max, true, false, List, ◌≡◌, refl, eqb, get_or, replicate}
use Rattle.std.proofs.Common.{arith, ne_eqb}
use Rattle.std.proofs.lemmas.Bool.{lt-leb}
use Rattle.rules.specs.declared.Table.{Table}
use Rattle.rules.specs.Checks.{Passed}
use Rattle.rules.specs.Correct.{earliest}
use Rattle.rules.specs.Need.{need}
use Rattle.rules.specs.Rows.{at, work_of, deadline_of, promised_of}
use Rattle.rules.specs.Orders.{check_both}
use Rattle.rules.specs.Slots.{fresh}
use Rattle.record.specs.Records.{tail_sound, is_sound, start_run, fresh_run}
use Rattle.theory.specs.Caps.{slots_above}
use Rattle.theory.specs.Facts.{Row}
use Rattle.theory.proofs.Finishes.{earliest_first}
use Rattle.theory.specs.Tests.{and_false}
use Rattle.columns.specs.AllRows.{zeros_of}
use Rattle.columns.specs.Figures.{over, sound_test, open_early}
use Rattle.record.specs.Checked.{limits, works}
use Rattle.record.proofs.Sound.{is_sound_lem}
use Rattle.record.specs.Sound.{sound_row}
use Rattle.record.specs.Kept.{Sized}

zero_at : (m i : ℕ) → ◌≡◌ {A = ℕ} (get_or (replicate m 0) i 0) 0
zero_at zero i = refl
zero_at (suc m) zero = refl
zero_at (suc m) (suc i) = zero_at m i

not_over : (c level r n g k : ℕ) → 1 ≤ c → 1 ≤ n → over c level r n g k 0 0 ≡ false
unfolding over
not_over c level r n g k h l =
    rw (ne_eqb 0 c (λ q. omega arith), lt-leb (max (need k c n) (need k r g)) 0 (omega (arith, slots_above 0 c n l (omega arith))), and_false (eqb level 0))

module _ (t : Table) (o : List ℕ) (e : check_both t o ≡ Passed) (u : ℕ) (early : u ≤ earliest t) where
  before : (i : ℕ) → 1 ≤ i → i ≤ t.n → u < deadline_of t i
  before i l h =
      let r : Row t i = record { from = l; up_to = h } in
      omega (arith, earliest_first t i r, ((limits t o e).row i r).before)

  row_started : (i : ℕ) → 1 ≤ i → i ≤ t.n → sound_row (start_run t o u) i ≡ true
  row_started i l h =
      rw (zero_at 64 (i - 1))
      (sound_test (work_of t i) (deadline_of t i) (at t.level i) (promised_of t i) t.normal t.degraded t.loading u 0 0 0
      (record {
        most = omega arith;
        used_by = omega arith;
        closed_by = omega arith;
        open_or_closed =
            rw
            (not_over (work_of t i) (at t.level i) (promised_of t i) t.normal t.degraded t.loading (works t o e i l h) (limits t o e).runs)
            (open_early (deadline_of t i) (at t.level i) u (before i l h));
      }))

  -- the first row's deadline is at most 1,000,000 slots
  soon : u ≤ 2000000
  soon =
      let r : Row t 1 = record { from = omega arith; up_to = (limits t o e).some } in
      omega (arith, before 1 (omega arith) (limits t o e).some, ((limits t o e).row 1 r).soon)

  pub start_sound : is_sound (start_run t o u) ≡ true
  unfolding tail_sound
  start_sound =
      is_sound_lem (start_run t o u)
      (record { checked = e; clock = soon; rows = row_started; tail = rw (zeros_of 64 t.n) })

pub start_sized : (t : Table) (o : List ℕ) (u : ℕ) → Sized (start_run t o u)
start_sized t o u = record { got = refl; used = refl; closing = refl }

pub fresh_sound : (t : Table) (o : List ℕ) → check_both t o ≡ Passed → is_sound (fresh_run t o) ≡ true
unfolding fresh
fresh_sound t o e = start_sound t o e 0 (omega arith)

pub fresh_sized : (t : Table) (o : List ℕ) → Sized (fresh_run t o)
unfolding fresh
fresh_sized t o = start_sized t o 0
