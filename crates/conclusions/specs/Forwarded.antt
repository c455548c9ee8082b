-- The conclusion for a record worked forward: one slot after another over the words.
use Rattle.std.specs.Prelude.{ℕ, suc, ◌+◌, ◌≤◌, ◌<◌, false, ◌⊎◌, ◌≡◌, ltb, length, get_or, take}
use Rattle.std.proofs.Math.Bool.{true}
use Rattle.std.proofs.Math.Logic.{inl, inr, ⊎_elim}
use mathlib.Core.List.{List, [], ◌∷◌, ◌++◌}
use Rattle.std.proofs.Math.Path.{refl}
use Rattle.std.proofs.Common.{sym, ap, ◌∙◌, length-append}
use native.Mathlib.Omega.{arith}
use borrow.Author.Tests.{ltb-false}
use Rattle.rules.specs.Calls.{last_clock}
use Rattle.rules.specs.Numbers.{refusal_number}
use Rattle.theory.specs.Tests.{by_bool, not_both}
use Rattle.record.specs.declared.Run.{Run}
use Rattle.record.specs.declared.Forwarded.{Forwarded}
use Rattle.record.specs.declared.ForwardAnswer.TheVariants.{Worked, ClockOver}
use Rattle.record.specs.Answers.{forward_said}
use Rattle.record.proofs.Kept.{sized_kept, sound_kept}
use Rattle.record.specs.Kept.{Sized}
use Rattle.record.specs.Records.{is_sound, next_run, one_slot, work_on, forward_over}
use Rattle.record.proofs.Sound.{sound_so}
use Rattle.forward.specs.Forwarding.{next_clock}
use Rattle.words.specs.Words.{run_in, state_words}
use Rattle.words.specs.Inverse.{state_words_of_run_in}
use Rattle.conclusions.specs.declared.Forwards.{Forwards}
use Rattle.conclusions.specs.Conclusions.{slot_words, slots_words, Forwarding}
use Rattle.conclusions.specs.Firmware.{sized, next_held}

-- m slots of the list are worked from state on, k were before: all of them, or up to clock 2,000,000
pub record Went (table order vs state : List ℕ) (k : ℕ) (w : Forwarded) : Type 0 where
  pub m : ℕ
  pub answer : ((w.answer ≡ Worked (k + m)) × (m ≡ length vs)) ⊎ ((w.answer ≡ ClockOver (k + m)) × (m < length vs) × (w.run.clock ≡ 2000000))
  pub words : state_words w.run ≡ slots_words table order (take m vs) state
  pub gained : w.run.clock ≡ (run_in table order state).clock + m
  pub within : w.run.clock ≤ 2000000

words_long : (q : Run) → Sized q → length (state_words q) ≡ 193
unfolding state_words
words_long q z = omega (arith, z.got, z.used, z.closing, length-append q.used q.closing, length-append q.got (q.used ++ q.closing))

pub clock_word : (q : Run) → get_or (state_words q) 0 0 ≡ q.clock
unfolding state_words
clock_word q = refl

module _ (table order : List ℕ) (tables : length table ≡ 388) where
  -- the slot of a sound record below clock 2,000,000 is the next record, over the words
  slot_is : (v : ℕ) (state : List ℕ) → is_sound (run_in table order state) ≡ true → ltb (run_in table order state).clock last_clock ≡ true
      → slot_words table order v state ≡ state_words (next_run (run_in table order state) v)
  unfolding one_slot
  slot_is v state sound early = rw (sound, early)

  -- one slot more before those that went on from it
  module _ (v : ℕ) (vs state : List ℕ) (k : ℕ) (sound : is_sound (run_in table order state) ≡ true)
      (early : ltb (run_in table order state).clock last_clock ≡ true) where
    abbrev r : Run
    r = run_in table order state

    abbrev next : List ℕ
    next = state_words (next_run r v)

    clock_held : (run_in table order next).clock ≡ (next_run r v).clock
    unfolding run_in state_words
    clock_held = refl

    more : Went table order vs next (k + 1) (work_on (k + 1) vs (next_run r v)) → Went table order (v ∷ vs) state k (work_on (k + 1) vs (next_run r v))
    more f =
        let count : k + 1 + f.m ≡ k + suc f.m = omega arith in
        record {
          m = suc f.m;
          answer = ⊎_elim
              (λ a. inl (a.0 ∙ ap Worked count, ap suc a.1))
              (λ a. inr (a.0 ∙ ap ClockOver count, omega (arith, a.1), a.2))
              f.answer;
          gained = omega (arith, f.gained, clock_held, next_clock r v);
          within = f.within;
          words = f.words ∙ ap (λ (s : List ℕ). slots_words table order (take f.m vs) s) (sym (slot_is v state sound early));
        }

  went : (vs state : List ℕ) (k : ℕ) → length state ≡ 193 → is_sound (run_in table order state) ≡ true
      → Went table order vs state k (work_on k vs (run_in table order state))
  unfolding work_on
  went [] state k states sound =
      record {
        m = 0;
        answer = inl (ap Worked (let e : k ≡ k + 0 = omega arith in e), refl);
        gained = omega arith;
        within = (sound_so (run_in table order state) sound).clock;
        words = state_words_of_run_in table order state states;
      }
  went (v ∷ vs) state k states sound =
      let r = run_in table order state in
      by_bool (ltb r.clock last_clock)
      (λ early. rw early
      (let z = sized table order state tables states in
      let held = next_held table order state tables states v sound in
      let sound' : is_sound (run_in table order (state_words (next_run r v))) ≡ true = rw held (sound_kept r v z sound early) in
      more v vs state k sound early (rw held at (went vs (state_words (next_run r v)) (k + 1) (words_long (next_run r v) (sized_kept r v z)) sound'))))
      (λ late. rw late (record {
        m = 0;
        answer =
            inr (ap ClockOver (let e : k ≡ k + 0 = omega arith in e), omega arith, omega (arith, (sound_so r sound).clock, ltb-false r.clock last_clock late));
        gained = omega arith;
        within = (sound_so r sound).clock;
        words = state_words_of_run_in table order state states;
      }))

  -- what the call says of a sound record and of any other
  abbrev said : Forwarded → Forwards
  said w = record { number = (forward_said w.answer).number; worked = (forward_said w.answer).value; next = state_words w.run }

  module _ (vs state : List ℕ) where
    -- the clock's word before and after
    gain : (w : Forwarded) (f : Went table order vs state 0 w) → get_or (state_words w.run) 0 0 ≡ get_or state 0 0 + f.m
    unfolding run_in
    gain w f = clock_word w.run ∙ f.gained

    worked : is_sound (run_in table order state) ≡ true → (w : Forwarded) → Went table order vs state 0 w → Forwarding table order state vs (said w)
    unfolding forward_said
    worked sound w f =
        ⊎_elim
        (λ a.
        let slots : 0 + f.m ≡ f.m = omega arith in
        rw (a.0, slots)
        (record {
          known = inl refl;
          steps = f.words;
          all_worked = λ _. a.1;
          over = λ e. absurd (omega arith);
          damaged = λ e. absurd (omega arith);
          unsound = λ e. absurd (not_both (is_sound (run_in table order state)) sound e);
          tally = gain w f;
          room = λ _ _. refl;
          no_room = λ _ h. absurd (omega (arith, gain w f, clock_word w.run, f.within, a.1));
        }))
        (λ a.
        let slots : 0 + f.m ≡ f.m = omega arith in
        rw (a.0, slots)
        (record {
          known = inr (inl refl);
          steps = f.words;
          all_worked = λ e. absurd (omega arith);
          over = λ _. (a.1, clock_word w.run ∙ a.2);
          damaged = λ e. absurd (omega arith);
          unsound = λ e. absurd (not_both (is_sound (run_in table order state)) sound e);
          tally = gain w f;
          room = λ _ h. absurd (omega (arith, gain w f, clock_word w.run, a.1, a.2));
          no_room = λ _ _. refl;
        }))
        f.answer

    still : get_or (state_words (run_in table order state)) 0 0 ≡ get_or state 0 0 + 0
    unfolding run_in state_words
    still = omega arith

    unsound : length state ≡ 193 → is_sound (run_in table order state) ≡ false → Forwarding table order state vs (said (forward_over (run_in table order state) vs))
    unfolding forward_over forward_said refusal_number
    unsound states e =
        rw e
        (record {
          known = inr (inr refl);
          steps = state_words_of_run_in table order state states;
          all_worked = λ n. absurd (omega arith);
          over = λ n. absurd (omega arith);
          damaged = λ _. (refl, state_words_of_run_in table order state states, e);
          unsound = λ _. refl;
          tally = still;
          room = λ s _. absurd (not_both (is_sound (run_in table order state)) s e);
          no_room = λ s _. absurd (not_both (is_sound (run_in table order state)) s e);
        })

    pub forwarded : length state ≡ 193 → Forwarding table order state vs (said (forward_over (run_in table order state) vs))
    unfolding forward_over
    forwarded states =
        by_bool (is_sound (run_in table order state))
        (λ e. rw e (worked e (work_on 0 vs (run_in table order state)) (went vs state 0 states e)))
        (unsound states)
