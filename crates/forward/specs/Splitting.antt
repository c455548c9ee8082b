-- Forward over a list, against forward over its first part and then, on the record left, over the rest (rules 8.10, 8.12, 8.13). Two calls
-- leave the record that one call leaves, and their slots worked add up to its slots worked (`two-calls-run`, `two-calls-slots`), for every
-- cut and every record with full columns. Nothing is said there of the number, and it may differ: where a supply of the first part is
-- refused with 8 and the second part is empty, the second call answers 0 and the one call 8. Where the first part is worked whole, the one
-- call is the second going on from there, number included (`forward-split`).
use Rattle.std.specs.Prelude.{ℕ, ◌+◌, true, false, ◌≡◌, ltb}
use mathlib.Core.List.{List, [], ◌∷◌, ◌++◌}
use Rattle.std.proofs.Math.Path.{refl, ap}
use Rattle.std.proofs.Common.{sym, ◌∙◌}
use native.Mathlib.Omega.{arith}
use Rattle.rules.specs.Calls.{last_clock}
use Rattle.theory.specs.Tests.{by_bool}
use Rattle.record.specs.declared.Run.{Run}
use Rattle.record.specs.declared.Forwarded.{Forwarded}
use Rattle.record.specs.declared.ForwardAnswer.TheVariants.{Worked, ClockOver}
use Rattle.record.specs.Records.{is_sound, next_run, work_on, forward_over}
use Rattle.record.specs.Answers.{forward_said}
use Rattle.record.proofs.Kept.{work_sound}
use Rattle.record.specs.Kept.{Sized}

-- the slots worked that an answer tells (rules 8.10, 8.13, 8.14)
abbrev pub slots_of : Forwarded → ℕ
slots_of w = (forward_said w.answer).value

-- no answer is both that all slots were worked and that the clock was over
never : {P : Type 0} {k m : ℕ} {r q : Run} → ◌≡◌ {A = Forwarded} (record { answer = ClockOver k; run = r }) (record { answer = Worked m; run = q }) → P
never e = let a = ap (λ (w : Forwarded). w.answer) e in let z : ◌≡◌ {A = ℕ} 0 1 = cc in absurd (omega arith)

-- one list after another, the first from k slots worked already
module _ (b : List ℕ) where
  -- all of the first list is worked, to m slots: the whole list is the second one worked from there, counting on from m
  pub work_split : (k : ℕ) (a : List ℕ) (r : Run) (m : ℕ) (q : Run) → work_on k a r ≡ record { answer = Worked m; run = q } → work_on k (a ++ b) r ≡ work_on m b q
  unfolding work_on
  work_split k [] r m q e =
      let x : Worked k ≡ Worked m = ap (λ (w : Forwarded). w.answer) e in
      let y : r ≡ q = ap (λ (w : Forwarded). w.run) e in
      let z : k ≡ m = cc in
      rw (z, y)
  work_split k (v ∷ a) r m q e =
      by_bool (ltb r.clock last_clock)
      (λ h. rw h (work_split (k + 1) a (next_run r v) m q (rw h at e)))
      (λ h. never (rw h at e))

  -- the clock is over in the first list: the whole list is the first one alone
  pub over_split : (k : ℕ) (a : List ℕ) (r : Run) (m : ℕ) (q : Run) → work_on k a r ≡ record { answer = ClockOver m; run = q }
      → work_on k (a ++ b) r ≡ record { answer = ClockOver m; run = q }
  unfolding work_on
  over_split k [] r m q e = never (sym e)
  over_split k (v ∷ a) r m q e =
      by_bool (ltb r.clock last_clock)
      (λ h. rw h (over_split (k + 1) a (next_run r v) m q (rw h at e)))
      (λ h. rw h (rw h at e))

-- the slots worked already are added to those of the list, and do not change the record
run_same : (j k : ℕ) (vs : List ℕ) (r : Run) → (work_on j vs r).run ≡ (work_on k vs r).run
unfolding work_on
run_same j k [] r = refl
run_same j k (v ∷ vs) r = by_bool (ltb r.clock last_clock) (λ h. rw h (run_same (j + 1) (k + 1) vs (next_run r v))) (λ h. rw h)

slots_more : (j k : ℕ) (vs : List ℕ) (r : Run) → slots_of (work_on (j + k) vs r) ≡ j + slots_of (work_on k vs r)
unfolding work_on forward_said
slots_more j k [] r = refl
slots_more j k (v ∷ vs) r =
    by_bool (ltb r.clock last_clock)
    (λ h.
    let e : j + k + 1 ≡ j + (k + 1) = omega arith in
    rw h (ap (λ (n : ℕ). slots_of (work_on n vs (next_run r v))) e ∙ slots_more j (k + 1) vs (next_run r v)))
    (λ h. rw h)

-- at clock 2,000,000 slots no list changes the record, and no slot is worked (rules 8.12, 8.13)
module _ (r : Run) (h : ltb r.clock last_clock ≡ false) where
  over_run : (k : ℕ) (vs : List ℕ) → (work_on k vs r).run ≡ r
  unfolding work_on
  over_run k [] = refl
  over_run k (v ∷ vs) = rw h

  over_slots : (k : ℕ) (vs : List ℕ) → slots_of (work_on k vs r) ≡ k
  unfolding work_on forward_said
  over_slots k [] = refl
  over_slots k (v ∷ vs) = rw h

module _ (b : List ℕ) where
  work_run : (k : ℕ) (a : List ℕ) (r : Run) → (work_on k (a ++ b) r).run ≡ (work_on 0 b (work_on k a r).run).run
  unfolding work_on
  work_run k [] r = run_same k 0 b r
  work_run k (v ∷ a) r = by_bool (ltb r.clock last_clock) (λ h. rw h (work_run (k + 1) a (next_run r v))) (λ h. rw h (sym (over_run r h 0 b)))

  work_slots_lem : (k : ℕ) (a : List ℕ) (r : Run) → slots_of (work_on k (a ++ b) r) ≡ slots_of (work_on k a r) + slots_of (work_on 0 b (work_on k a r).run)
  unfolding work_on forward_said
  work_slots_lem k [] r = let e : k ≡ k + 0 = omega arith in ap (λ (n : ℕ). slots_of (work_on n b r)) e ∙ slots_more k 0 b r
  work_slots_lem k (v ∷ a) r =
      by_bool (ltb r.clock last_clock)
      (λ h. rw h (work_slots_lem (k + 1) a (next_run r v)))
      (λ h. let o = over_slots r h 0 b in rw h (omega arith))

-- Two calls and one: forward over a whole list leaves the record that forward over its two parts leaves, and its slots worked are the sum
-- of theirs. This holds of every record whose columns have sixty-four entries, sound or not. The numbers of the calls are not compared.
module _ (r : Run) (z : Sized r) (a b : List ℕ) where
  pub two_calls_run : (forward_over r (a ++ b)).run ≡ (forward_over (forward_over r a).run b).run
  unfolding forward_over
  two_calls_run = by_bool (is_sound r) (λ e. rw (e, work_sound 0 a r z e) (work_run b 0 a r)) (λ e. simp e)

  pub two_calls_slots : slots_of (forward_over r (a ++ b)) ≡ slots_of (forward_over r a) + slots_of (forward_over (forward_over r a).run b)
  unfolding forward_over forward_said
  two_calls_slots = by_bool (is_sound r) (λ e. rw (e, work_sound 0 a r z e) (work_slots_lem b 0 a r)) (λ e. simp e)

-- Where the first call on a sound record answers 0, the one call is the second with its count going on from the first's m slots: answer,
-- number and record.
pub forward_split : (r : Run) (a b : List ℕ) (m : ℕ) (q : Run) → is_sound r ≡ true → forward_over r a ≡ record { answer = Worked m; run = q }
    → forward_over r (a ++ b) ≡ work_on m b q
unfolding forward_over
forward_split r a b m q e f = rw e (work_split b 0 a r m q (rw e at f))
