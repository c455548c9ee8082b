-- Check 9 in plain terms, over the words that C lends (rules 8.3 to 8.8): which records 9 refuses, and which not. Both directions, so that none
-- of its clauses can be lost unseen. Works are in work units, clocks, slots used and closing slots in slots.
use Rattle.std.specs.Prelude.{ℕ, ◌+◌, ◌≤◌, ◌<◌, max, Bool, false, ◌&&◌, ◌||◌, List, ◌⊎◌, ◌≡◌, refl, length, get_or, drop}
use Rattle.std.proofs.Math.Bool.{true}
use Rattle.std.proofs.Math.Logic.{inl, inr}
use Rattle.std.proofs.Math.Path.{sym}
use Rattle.std.proofs.Common.{◌∙◌, arith}
use Rattle.std.proofs.Math.Dec.{eqb, leb}
use borrow.Author.Tests.{eq-eqb, ne_eqb, lt-leb, leb-true, eqb-true}
use Rattle.rules.specs.Lists.{all_zero}
use Rattle.rules.specs.Need.{need}
use Rattle.rules.specs.Tables.{Accepted}
use Rattle.theory.specs.Facts.{facts, both_pass, both_accepted, both_order}
use Rattle.theory.specs.Tests.{by_bool, by_eqb, by-leb, and_left, and_right, not_both}
use Rattle.columns.specs.Figures.{over, Sound, closing_sound, sound_facts, sound_test, open_so}
use Rattle.record.specs.declared.Run.{Run}
use Rattle.record.specs.Records.{tail_sound, is_sound}
use Rattle.record.proofs.Sound.{sound_so, is_sound_lem}
use Rattle.words.specs.Words.{table_in, run_in}
use Rattle.conclusions.specs.Conclusions.{OrderIn}
use Rattle.conclusions.specs.Entries.{column_full, table_words, state_words_lem}
use Rattle.conclusions.specs.Firmware.{over_done, over_dropped, over_open}
use Rattle.conclusions.specs.Ordered.{order_words, words_order}
use Rattle.conclusions.specs.Places.{tail_each, each_tail}

-- the slots that a LO row may use: its need at N, or the need of its promised part at G if that is more (rule 1.9)
abbrev pub most_slots : ℕ → ℕ → ℕ → ℕ → ℕ → ℕ
most_slots work promised normal degraded loading = max (need loading work normal) (need loading promised degraded)

-- The figures of one row. Open, it is missing work and, if it is LO, has allowance left and its deadline before it. Closed, it has all its work,
-- or it is LO and has used up its allowance or was closed at its deadline (rules 8.6, 8.7).
pub record FiguresSound (work deadline level promised normal degraded loading clock got used closing : ℕ) : Type 0 where
  pub most : got ≤ work
  pub used_by : used ≤ clock
  pub closed_by : closing ≤ clock
  pub missing : closing ≡ 0 → got ≡ work → ⊥
  pub allowed : closing ≡ 0 → level ≡ 0 → used < most_slots work promised normal degraded loading
  pub early : closing ≡ 0 → level ≡ 0 → clock < deadline
  pub why : (closing ≡ 0 → ⊥) → (got ≡ work) ⊎ ((level ≡ 0) × ((most_slots work promised normal degraded loading ≤ used) ⊎ (closing ≡ deadline)))

-- the words of row i
abbrev pub RowSound : List ℕ → List ℕ → ℕ → Type 0
RowSound table state i =
    FiguresSound (get_or table (67 + i) 0) (get_or table (131 + i) 0) (get_or table (195 + i) 0) (get_or table (259 + i) 0) (get_or table 1 0) (get_or table 2 0)
    (get_or table 3 0)
    (get_or state 0 0) (get_or state i 0) (get_or state (64 + i) 0) (get_or state (128 + i) 0)

-- A record that 9 does not refuse: the table is accepted and the order is one of its orders, with all waits kept (rules 5.11, 8.4), the clock is at most 2,000,000 slots
-- (rule 8.5), its rows are sound, and zeros stand after them (rule 8.8).
pub record SoundWords (table order state : List ℕ) : Type 0 where
  pub accepted : Accepted (table_in table)
  pub passes : OrderIn table order
  pub clock : get_or state 0 0 ≤ 2000000
  pub rows : (i : ℕ) → 1 ≤ i → i ≤ get_or table 0 0 → RowSound table state i
  pub tail : (i : ℕ) → get_or table 0 0 < i → i ≤ 64 → (get_or state i 0 ≡ 0) × (get_or state (64 + i) 0 ≡ 0) × (get_or state (128 + i) 0 ≡ 0)

-- ---- one row, by its figures
module _ (work deadline level promised normal degraded loading clock got used closing : ℕ) where
  abbrev ended : Bool
  ended = over work level promised normal degraded loading got used

  over_so : ended ≡ true → (got ≡ work) ⊎ ((level ≡ 0) × (most_slots work promised normal degraded loading ≤ used))
  unfolding over
  over_so e =
      by_eqb got work
      (λ _ q. inl q)
      (λ n _. let f : eqb level 0 && leb (most_slots work promised normal degraded loading) used ≡ true = rw n at e in
      inr (
        eqb-true level 0 (and_left (eqb level 0) (leb (most_slots work promised normal degraded loading) used) f),
        leb-true (most_slots work promised normal degraded loading) used (and_right (eqb level 0) (leb (most_slots work promised normal degraded loading) used) f),
      ))

  closed_so : (closing ≡ 0 → ⊥) → closing_sound ended deadline level clock closing ≡ true → (ended ≡ true) ⊎ ((level ≡ 0) × (closing ≡ deadline))
  closed_so n e =
      let f : ended || (eqb level 0 && eqb closing deadline) ≡ true = rw (ne_eqb closing 0 n) at e in
      by_bool ended
      (λ q. inl q)
      (λ q. let g : eqb level 0 && eqb closing deadline ≡ true = rw q at f in
      inr (eqb-true level 0 (and_left (eqb level 0) (eqb closing deadline) g), eqb-true closing deadline (and_right (eqb level 0) (eqb closing deadline) g)))

  figures_plain : Sound work deadline level promised normal degraded loading clock got used closing → FiguresSound work deadline level promised normal degraded loading clock got used closing
  figures_plain s =
      record {
        most = s.most;
        used_by = s.used_by;
        closed_by = s.closed_by;
        missing = λ z q. not_both ended (over_done work level promised normal degraded loading got used q) (opened z).0;
        allowed = λ z l. by-leb (most_slots work promised normal degraded loading) used
            (λ _ h. absurd (not_both ended (over_dropped work level promised normal degraded loading got used l h) (opened z).0))
            (λ _ h. h);
        early = λ z l. by-leb deadline clock
            (λ w _. absurd (not_both (eqb level 0 && leb deadline clock) (rw (eq-eqb level 0 l, w)) (opened z).1))
            (λ _ h. h);
        why = λ n. go (closed_so n s.open_or_closed);
      }
    where
      opened : closing ≡ 0 → (ended ≡ false) × (eqb level 0 && leb deadline clock ≡ false)
      opened z = open_so ended deadline level clock (rw z at s.open_or_closed)

      go : (ended ≡ true) ⊎ ((level ≡ 0) × (closing ≡ deadline)) → (got ≡ work) ⊎ ((level ≡ 0) × ((most_slots work promised normal degraded loading ≤ used) ⊎ (closing ≡ deadline)))
      go (inl e) = by_over (over_so e)
        where
          by_over : (got ≡ work) ⊎ ((level ≡ 0) × (most_slots work promised normal degraded loading ≤ used)) → (got ≡ work) ⊎ ((level ≡ 0) × ((most_slots work promised normal degraded loading ≤ used) ⊎ (closing ≡ deadline)))
          by_over (inl q) = inl q
          by_over (inr q) = inr (q.0, inl q.1)
      go (inr q) = inr (q.0, inr q.1)

  plain_figures : FiguresSound work deadline level promised normal degraded loading clock got used closing → Sound work deadline level promised normal degraded loading clock got used closing
  plain_figures s =
      record {
        most = s.most;
        used_by = s.used_by;
        closed_by = s.closed_by;
        open_or_closed = by_eqb closing 0
            (λ e z. rw (e, over_open work level promised normal degraded loading got used (s.missing z) (s.allowed z))
            (by_eqb level 0 (λ w l. rw (w, lt-leb deadline clock (s.early z l))) (λ w _. rw w)))
            (λ e n. rw e (go (s.why n)));
      }
    where
      go : (got ≡ work) ⊎ ((level ≡ 0) × ((most_slots work promised normal degraded loading ≤ used) ⊎ (closing ≡ deadline))) → ended || (eqb level 0 && eqb closing deadline) ≡ true
      go (inl q) = rw (over_done work level promised normal degraded loading got used q)
      go (inr (l, inl q)) = rw (over_dropped work level promised normal degraded loading got used l q)
      go (inr (l, inr q)) = by_bool ended (λ e. rw e) (λ e. rw (e, eq-eqb level 0 l, eq-eqb closing deadline q))

-- ---- the whole record
module _ (table order state : List ℕ) (states : length state ≡ 193) where
  abbrev r : Run
  r = run_in table order state

  three : (r.table.n ≡ get_or table 0 0) × (length r.got ≡ 64) × (length r.used ≡ 64) × (length r.closing ≡ 64)
  unfolding run_in table_in
  three = (refl, column_full state 1 (omega arith), column_full state 65 (omega arith), column_full state 129 (omega arith))

  pub sound_words : is_sound r ≡ true → SoundWords table order state
  unfolding run_in table_in tail_sound
  sound_words e =
      let s = sound_so r e in
      let t = r.table in
      let f = facts t (both_accepted t r.order s.checked) in
      let n = t.n in
      let z-got = all_zero (drop n r.got) in
      let z-used = all_zero (drop n r.used) in
      let z-closing = all_zero (drop n r.closing) in
      let two = and_left (z-got && z-used) z-closing s.tail in
      record {
        accepted = both_accepted t r.order s.checked;
        passes = order_words table order (both_accepted t r.order s.checked) (both_order t r.order s.checked);
        clock = s.clock;
        rows = λ i l h.
            let w = table_words table i l (omega (arith, f.few, h)) in
            let v = state_words_lem table order state i l (omega (arith, f.few, h)) in
            rw (w.work, w.deadline, w.level, w.promised, v.got, v.used, v.closing) (figures_plain _ _ _ _ _ _ _ _ _ _ _ (sound_facts _ _ _ _ _ _ _ _ _ _ _ (s.rows i l h)));
        tail = λ i h few.
            let v = state_words_lem table order state i (omega arith) few in (
              v.got ∙ tail_each r.got n i (and_left z-got z-used two) h,
              v.used ∙ tail_each r.used n i (and_right z-got z-used two) h,
              v.closing ∙ tail_each r.closing n i (and_right (z-got && z-used) z-closing s.tail) h,
            );
      }

  pub words_sound : SoundWords table order state → is_sound r ≡ true
  unfolding run_in table_in tail_sound
  words_sound s =
      let t = r.table in
      let n = t.n in
      let f = facts t s.accepted in
      is_sound_lem r (record {
        checked = both_pass t r.order s.accepted (words_order table order s.accepted s.passes);
        clock = s.clock;
        rows = λ i l h.
            let w = table_words table i l (omega (arith, f.few, h)) in
            let v = state_words_lem table order state i l (omega (arith, f.few, h)) in
            sound_test _ _ _ _ _ _ _ _ _ _ _ (plain_figures _ _ _ _ _ _ _ _ _ _ _ (rw (w.work, w.deadline, w.level, w.promised, v.got, v.used, v.closing) at (s.rows i l h)));
        tail = rw (
          each_tail r.got n three.1 (λ i h few. sym (state_words_lem table order state i (omega arith) few).got ∙ (s.tail i h few).0),
          each_tail r.used n three.2 (λ i h few. sym (state_words_lem table order state i (omega arith) few).used ∙ (s.tail i h few).1),
          each_tail r.closing n three.3 (λ i h few. sym (state_words_lem table order state i (omega arith) few).closing ∙ (s.tail i h few).2),
        );
      })
