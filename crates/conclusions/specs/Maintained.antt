-- What a maintainer may conclude from the counts, from the theorems on choices.
use Rattle.std.specs.Prelude.{ℕ, ◌-◌, ◌^◌, ◌≤◌, ◌<◌, List, map, ◌⊎◌, ◌↔◌, ◌≡◌, length, get_or, drop, replicate, Ok, Err}
use Rattle.std.proofs.Common.{inl, inr, ⊎_elim, ◌∙◌, arith, pow_mono}
use Rattle.std.proofs.Math.Path.{refl, sym, ap, subst}
use Rattle.std.proofs.Math.Pow.{pow_pos}
use Rattle.std.proofs.Math.Seq.{drop_at}
use Rattle.rules.specs.declared.Table.{Table}
use Rattle.rules.specs.Checks.{Check}
use Rattle.rules.specs.Choice.{padded}
use Rattle.rules.proofs.Meaning.{correct_serves, serves_correct}
use Rattle.rules.specs.Numbers.{refusal_number, check_number}
use Rattle.rules.specs.Rows.{at, rows_of}
use Rattle.rules.specs.Tables.{check_table, Accepted}
use Rattle.theory.specs.Counts.{sum_eq}
use Rattle.theory.specs.Facts.{TableFacts, facts, rows_in_lem}
use Rattle.theory.specs.Tests.{by-leb}
use Rattle.ceiling.proofs.Bounds.{by_accepted}
use Rattle.sweep.specs.Padded.{padded_at, padded_beyond, rows_length}
use Rattle.choices.specs.Choices.{Counting, rows_in, alone, choices, choices_lowest, choices_of, words_to, counted, count_of}
use Rattle.lowest.proofs.Counted.{word_few, word_accepted, choices_zero, choices_all, choices_small, choices_sum, none_seven, correct_orders, orders_long, orders_lowest, orders_once, orders_only}
use Rattle.planner.specs.Promise.{refusal_number_lem}
use Rattle.counter.specs.Answers.{refused_table, refused_rows, refused_room, passed_count}
use Rattle.counter.specs.Words.{filled_entry, filled_length, done_length}
use Rattle.conclusions.specs.Conclusions.{AllOrders, SoMany, Maintainer}
use Rattle.conclusions.specs.Refusals.{table_says}

-- the correct orders of a table, with what they are good for said in plain terms
module _ (t : Table) (f : TableFacts t) where
  all_orders : AllOrders t (correct_orders t f)
  all_orders =
      record {
        once = λ o l e s. orders_once t f o l e (serves_correct t o s);
        only = λ o h. let g = orders_only t f o h in (g.0, g.1, correct_serves t o g.2);
      }

  so_many : SoMany t (choices t)
  so_many = record { orders = correct_orders t f; every = all_orders; long = orders_long t f }

module _ (t : Table) (lent : List ℕ) where
  -- what is answered
  abbrev Told : Counting → Type 0
  Told r = Maintainer t lent (check_number r.said.check) r.said.count r.said.lowest r.scratch

  not_among : (k : ℕ) → (k ≡ 10) ⊎ (k ≡ 20) → check_number (check_table t) ≡ k → ⊥
  not_among k h e =
      ⊎_elim
      (λ z. ⊎_elim (λ a. omega arith) (λ a. omega arith) h)
      (⊎_elim (λ w. ⊎_elim (λ a. omega (arith, w.1)) (λ a. omega (arith, w.1)) h) (λ w. ⊎_elim (λ a. omega (arith, w.0)) (λ a. omega (arith, w.1)) h))
      (table_says t).known

  -- a refusal of this number
  module _ (k : ℕ) (some : k ≡ 0 → ⊥) (no : Accepted t × (t.n ≤ 12) × (4096 ≤ length lent) → ⊥) (twenty : (k ≡ 20) ↔ (Accepted t × (12 < t.n)))
      (ten : (k ≡ 10) ↔ (Accepted t × (t.n ≤ 12) × (length lent < 4096))) (own : (Accepted t → ⊥) → k ≡ check_number (check_table t)) where
    refused_told : Maintainer t lent k 0 (replicate 64 0) lent
    refused_told =
        record {
          zero = (λ e. absurd (some e), λ h. absurd (no h));
          twenty = twenty;
          ten = ten;
          own = own;
          refused = λ _. (refl, refl, refl);
          exact = λ e. absurd (some e);
          row = λ e. absurd (some e);
          after = λ e. absurd (some e);
          sums = λ e. absurd (some e);
          none = λ e. absurd (some e);
          most = omega arith;
          words = λ e. absurd (some e);
          again = λ e. absurd (some e);
          nothing = λ e. absurd (some e);
          whole = λ e. absurd (some e);
          rest = λ e. absurd (some e);
          long = refl;
        }

  own_told : (Accepted t → ⊥) → Told (count_of t lent)
  unfolding check_number
  own_told n = go (check_table t) refl
    where
      go : (c : Check) → check_table t ≡ c → Told (count_of t lent)
      go (Ok tt) e = absurd (n e)
      go (Err r) e =
          let mine : check_number (check_table t) ≡ refusal_number r = ap check_number e in
          rw (refused_table t lent r e)
          (refused_told (refusal_number r) (refusal_number_lem r).0 (λ h. n h.0)
          (λ z. absurd (not_among 20 (inr refl) (mine ∙ z)), λ h. absurd (n h.0))
          (λ z. absurd (not_among 10 (inl refl) (mine ∙ z)), λ h. absurd (n h.0))
          (λ _. sym mine))

  module _ (a : Accepted t) where
    many_told : 12 < t.n → Told (count_of t lent)
    unfolding check_number refusal_number
    many_told h =
        rw (refused_rows t lent a h)
        (refused_told 20 (λ z. omega arith) (λ p. omega (arith, p.1)) (λ _. (a, h), λ _. refl) (λ z. absurd (omega arith), λ p. absurd (omega (arith, p.1))) (λ n. absurd (n a)))

    short_told : t.n ≤ 12 → length lent < 4096 → Told (count_of t lent)
    unfolding check_number refusal_number
    short_told h l =
        rw (refused_room t lent a h l)
        (refused_told 10 (λ z. omega arith) (λ p. omega (arith, p.2)) (λ z. absurd (omega arith), λ p. absurd (omega (arith, p.1))) (λ _. (a, h, l), λ _. refl) (λ n. absurd (n a)))

    module _ (h : t.n ≤ 12) (l : 4096 ≤ length lent) where
      f : TableFacts t
      f = facts t a

      room : 2 ^ t.n ≤ length lent
      room = omega (arith, pow_mono {i = t.n} {j = 12} h)

      entry : (m : ℕ) → m < 2 ^ t.n → get_or (counted t lent) m 0 ≡ choices_of t m
      entry m q = filled_entry t f lent (2 ^ t.n) m q

      below_at : (i : ℕ) → 1 ≤ i → i ≤ t.n → at (padded (map (choices_lowest t) (rows_of t))) i ≡ choices_lowest t i
      below_at i p q = padded_at (choices_lowest t) t.n i p q f.few

      one_word : (m : ℕ) → 1 ≤ m → m < 2 ^ t.n → Accepted (alone t (rows_in t m)) × SoMany (alone t (rows_in t m)) (get_or (counted t lent) m 0)
      unfolding choices_of
      one_word m p q =
          let b = word_accepted t a m p q in
          (b, subst (SoMany (alone t (rows_in t m))) (sym (entry m q)) (so_many (alone t (rows_in t m)) (facts (alone t (rows_in t m)) b)))

      one_again : (m : ℕ) → 1 ≤ m → m < 2 ^ t.n → (other : List ℕ) → 4096 ≤ length other
          → (check_number (count_of (alone t (rows_in t m)) other).said.check ≡ 0) × ((count_of (alone t (rows_in t m)) other).said.count ≡ get_or (counted t lent) m 0)
      unfolding choices_of check_number
      one_again m p q other r =
          rw (passed_count (alone t (rows_in t m)) other (word_accepted t a m p q) (omega (arith, word_few t f m, h)) r) (refl, sym (entry m q))

      passed_told : Told (count_of t lent)
      unfolding check_number so_many
      passed_told =
          rw (passed_count t lent a h l)
          (record {
            zero = (λ _. (a, h, l), λ _. refl);
            twenty = (λ z. absurd (omega arith), λ p. absurd (omega (arith, p.1)));
            ten = (λ z. absurd (omega arith), λ p. absurd (omega (arith, p.2)));
            own = λ n. absurd (n a);
            refused = λ n. absurd (n refl);
            exact = λ _. so_many t f;
            row = λ _ i p q. below_at i p q ∙ sym (orders_lowest t f i);
            after = λ _ i p. let e = rows_length (choices_lowest t) t.n in
                padded_beyond (map (choices_lowest t) (rows_of t)) (i - 1) (omega (arith, e, f.few)) (omega (arith, e));
            sums = λ _. sum_eq (at (padded (map (choices_lowest t) (rows_of t)))) (choices_lowest t) (rows_of t)
                (λ i j. let r = rows_in_lem t i j in below_at i r.from r.up_to) ∙ choices_sum t f;
            none = λ _ c p. none_seven t a c p;
            most = omega (arith, choices_all t f, choices_small t f (2 ^ t.n - 1) h);
            words = λ _. one_word;
            again = λ _. one_again;
            nothing = λ _. entry 0 (omega (arith, pow_pos t.n)) ∙ choices_zero t f;
            whole = λ _. entry (2 ^ t.n - 1) (omega (arith, pow_pos t.n)) ∙ sym (choices_all t f);
            rest = λ _. drop_at (map (choices_of t) (words_to (2 ^ t.n))) (drop (2 ^ t.n) lent) (2 ^ t.n) (done_length t f (2 ^ t.n));
            long = filled_length t f lent (2 ^ t.n) room;
          })

  pub maintained : Told (count_of t lent)
  maintained =
      by_accepted t
      (λ a. by-leb t.n 12
      (λ _ h. by-leb 4096 (length lent) (λ _ l. passed_told a h l) (λ _ l. short_told a h l))
      (λ _ h. many_told a h))
      own_told
