-- The answer for the coming slot is the slot's own answer, whatever its supply (rule 8.15): firmware may start the row and report the
-- supply afterwards.
use Rattle.std.specs.Prelude.{ℕ, ◌<◌, Bool, true, false, cond, ◌≡◌, refl, ltb}
use Rattle.std.proofs.Common.{sym, arith}
use borrow.Author.Tests.{ltb-true}
use Rattle.rules.specs.declared.Refusal.{Refusal}
use Rattle.rules.specs.declared.Refusal.TheVariants.{ClockOver, Unsound}
use Rattle.rules.specs.Calls.{last_clock}
use Rattle.theory.specs.Tests.{by_bool}
use Rattle.record.specs.declared.Run.{Run}
use Rattle.record.specs.SlotAnswers.{SlotAnswer, Worked, Refused}
use Rattle.record.specs.declared.Stepped.{Stepped}
use Rattle.record.specs.Records.{is_sound, chosen_row, next_run, coming_slot, one_slot}

-- working the slot with any supply answers what the coming slot answered (rules 2.4, 8.15)
pub answer_coming : (r : Run) (v : ℕ) → (one_slot r v).answer ≡ coming_slot r
unfolding one_slot coming_slot
answer_coming r v =
    by_bool (is_sound r)
    (λ e. by_bool (ltb r.clock last_clock) (λ h. rw (e, h)) (λ h. rw (e, h)))
    (λ e. rw e)

-- no answer is both a row run and a refusal
never : {P : Type 0} {i : ℕ} {w : Refusal} → Refused w ≡ Worked i → P
never e = let z : ◌≡◌ {A = ℕ} 0 1 = cc in absurd (omega arith)

-- the answers of the two tests, 9 and then 8 (rule 11.5)
abbrev answered : Bool → Bool → ℕ → SlotAnswer
answered sound early i = cond sound (cond early (Worked i) (Refused ClockOver)) (Refused Unsound)

-- a row is run only if both pass
ran : (sound early : Bool) (i row : ℕ) → answered sound early i ≡ Worked row → (sound ≡ true) × (early ≡ true) × (row ≡ i)
ran true true i row e = (refl, refl, cc)
ran true false i row e = never e
ran false early i row e = never e

abbrev stepped : Bool → Bool → ℕ → Run → Run → Stepped
stepped sound early i r next =
    cond sound
    (cond early (record { answer = Worked i; run = next }) (record { answer = Refused ClockOver; run = r }))
    (record { answer = Refused Unsound; run = r })

ran_so : (sound early : Bool) (i row : ℕ) (r next : Run) → answered sound early i ≡ Worked row
    → stepped sound early i r next ≡ record { answer = Worked row; run = next }
ran_so true true i row r next e = rw e
ran_so true false i row r next e = never e
ran_so false early i row r next e = never e

refused_so : (sound early : Bool) (i : ℕ) (w : Refusal) (r next : Run) → answered sound early i ≡ Refused w
    → stepped sound early i r next ≡ record { answer = Refused w; run = r }
refused_so true true i w r next e = never (sym e)
refused_so true false i w r next e = rw e
refused_so false early i w r next e = rw e

module _ (r : Run) where
  pub coming_worked : (row : ℕ) → coming_slot r ≡ Worked row → (is_sound r ≡ true) × (r.clock < last_clock) × (row ≡ chosen_row r)
  unfolding coming_slot
  coming_worked row e =
      let f = ran (is_sound r) (ltb r.clock last_clock) (chosen_row r) row e in
      (f.0, ltb-true r.clock last_clock f.1, f.2)

  pub slot_worked : (v row : ℕ) → coming_slot r ≡ Worked row → one_slot r v ≡ record { answer = Worked row; run = next_run r v }
  unfolding coming_slot one_slot
  slot_worked v row e = ran_so (is_sound r) (ltb r.clock last_clock) (chosen_row r) row r (next_run r v) e

  pub slot_refused : (v : ℕ) (w : Refusal) → coming_slot r ≡ Refused w → one_slot r v ≡ record { answer = Refused w; run = r }
  unfolding coming_slot one_slot
  slot_refused v w e = refused_so (is_sound r) (ltb r.clock last_clock) (chosen_row r) w r (next_run r v) e
