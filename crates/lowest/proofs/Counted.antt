-- The results of this crate, to be cited by name: what the choices of a table and of its words are (section 25 of the rules). Lists of rows are compared by how
-- often each row stands in them, as in theory's Results.
use Prim.Native.Nat.{ℕ, zero, suc, ◌+◌, ◌-◌, ◌*◌, ◌^◌, ◌≤◌, ◌<◌}
use Rattle.std.specs.Prelude.{Bool, false, ◌&&◌, ◌↔◌, ◌≡◌, length, take, drop, get_or}
use Rattle.std.proofs.Math.Bool.{true, cond}
use mathlib.Core.List.{List, [], ◌∷◌, ◌++◌, map}
use Rattle.std.proofs.Math.Path.{refl, sym, ap, ap₂}
use Rattle.std.proofs.Common.{subst, ◌∙◌, arith, mul_comm, mul-le-mul_left, length-append, take-append-drop, pow_mono}
use Rattle.std.proofs.Math.Dec.{eqb}
use Rattle.std.proofs.Math.ListN.{length-map}
use Rattle.std.proofs.Math.Seq.{get_or-append_seam}
use borrow.Author.Tests.{eq-eqb, ne_eqb, le-ltb}
use Rattle.rules.specs.declared.Table.{Table}
use Rattle.rules.specs.Choice.{padded, choice, lowest, unfollowed, passes}
use Rattle.rules.specs.Correct.{Correct, CorrectOrder}
use Rattle.rules.specs.Lists.{all, all_zero, count, sum, erase, keep, rows_to, same}
use Rattle.rules.specs.Numbers.{planned_number}
use Rattle.rules.specs.Orders.{is_arrangement, is_order, keeps_wait}
use Rattle.rules.specs.Rows.{at, rows_of}
use Rattle.rules.specs.Tables.{Accepted}
use Rattle.rules.specs.Worst.{slack, meets}
use Rattle.theory.proofs.Choosing.{choice_filled, keep_in, in_keep}
use Rattle.theory.specs.Counts.{In, Within, Same, in_head, in_tail, count_erase_same, count_erase_other, sum_eq, sum_erase, sum_zero, sum_most, same_size}
use Rattle.theory.specs.Facts.{Row, TableFacts, facts, rows_in_lem, in_rows, all_in, in_all, count_zero}
use Rattle.theory.specs.Places.{length_rows, rows_once, order_rows, order_long}
use Rattle.theory.proofs.Promised.{correct, all_meet}
use Rattle.theory.proofs.Results.{choice_order, choice_correct, choice_none, trial_set}
use Rattle.theory.specs.Sorting.{Sorted}
use Rattle.theory.specs.Waits.{rows_closed}
use Rattle.theory.specs.Tests.{by_bool, by_eqb, and_left, and_right, and_both, and_true, and_false, both_ways}
use Rattle.ceiling.specs.Ceiling.{trial_count, plan_within}
use Rattle.sweep.specs.Finds.{sorted_keep}
use Rattle.sweep.specs.Holds.{count_keep_le, keep_without}
use Rattle.sweep.specs.Lowest.{lowest_of, lowest_set, lowest_from, lowest_within}
use Rattle.sweep.specs.Masks.{is_left, left_bit, bit_left, bit_not_left, full_bit, zero_bit}
use Rattle.sweep.specs.Padded.{zeros, padded_zeros, padded_length, padded_take, padded_entry, all_zeros}
use Rattle.choices.specs.Choices.{arranged, arrangements, how_many, is_correct, is_lowest, choices, choices_lowest, rows_in, renumbered, alone, choices_of}
use Rattle.lowest.specs.Many.{Every, many_some, many_counts, many_spread, many_map, many_agree, many_none, every_weaker, same_equal, equal_same, those, those_length, those_many}
use Rattle.lowest.specs.Listed.{factorial, below, erased_length, erase_within, listed_same, listed_only, listed_once, listed_length}
use Rattle.lowest.specs.Standing.{may_stand, by_lowest, stands_from}
use Rattle.lowest.proofs.Standing.{may_fewer, many_below, many_standing, correct_is, choices_lowest_lem}
use Rattle.lowest.proofs.Accepting.{alone_accepted}
use Rattle.lowest.proofs.Alone.{in_number, length_within, choices_alone, may_alone}
use Rattle.lowest.specs.Alone.{Chosen}

empty : (l : List ℕ) → length l ≡ 0 → l ≡ []
empty [] e = refl
empty (x ∷ l) e = absurd (omega arith)

-- a row that stands in a list, so that it is not empty
in_some : (x : ℕ) (l : List ℕ) → In x l → 1 ≤ length l
in_some x [] i = absurd (omega arith)
in_some x (y ∷ l) i = omega arith

keep_all : (p : ℕ → Bool) (l : List ℕ) → ((x : ℕ) → In x l → p x ≡ true) → keep p l ≡ l
keep_all p [] h = refl
keep_all p (x ∷ l) h = rw (h x (in_head x l), keep_all p l (λ y i. h y (in_tail y x l i)))

-- the rows of a word, from the lowest number up

sorted_last : (n y : ℕ) (l : List ℕ) → n ≤ y → ((x : ℕ) → In x l → x ≤ y) → Sorted (λ x. x) n l → Sorted (λ x. x) n (l ++ (y ∷ []))
sorted_last n y [] h k s = (h, tt)
sorted_last n y (x ∷ l) h k s = (s.0, sorted_last x y l (k x (in_head x l)) (λ z i. k z (in_tail z x l i)) s.1)

pub rows_rising : (n : ℕ) → Sorted (λ x. x) 0 (rows_to n)
rows_rising zero = tt
rows_rising (suc n) = sorted_last 0 (suc n) (rows_to n) (omega arith) (λ x i. omega (arith, in_number n x i)) (rows_rising n)

keep_none : (p : ℕ → Bool) (l : List ℕ) → ((x : ℕ) → p x ≡ false) → keep p l ≡ []
keep_none p [] h = refl
keep_none p (x ∷ l) h = rw (h x, keep_none p l h)

-- counting by the lowest row never gives more than all arrangements, and gives as many if every row may stand lowest in every set
lowest_most : (may : List ℕ → ℕ → Bool) (k : ℕ) (l : List ℕ) → length l ≡ k → by_lowest may k l ≤ factorial k
lowest_most may zero l e = omega arith
lowest_most may (suc k) l e =
    let term : ℕ → ℕ = λ i. cond (may l i) (by_lowest may k (erase i l)) 0 in
    let r = sum_most term (factorial k) l (λ i j. by_bool (may l i)
    (λ m. rw m (lowest_most may k (erase i l) (erased_length k l i j e)))
    (λ m. rw m (omega arith))) in
    let c : factorial k * length l ≡ suc k * factorial k = ap (λ (n : ℕ). factorial k * n) e ∙ mul_comm (factorial k) (suc k) in
    omega (arith, r, c)

sum_each : (g : ℕ → ℕ) (m : ℕ) (l : List ℕ) → ((x : ℕ) → In x l → g x ≡ m) → sum g l ≡ length l * m
sum_each g m [] h = omega arith
sum_each g m (x ∷ l) h =
    let p : suc (length l) * m ≡ m + length l * m = omega (arith, mul_comm (suc (length l)) m) in
    omega (arith, h x (in_head x l), sum_each g m l (λ y i. h y (in_tail y x l i)), p)

lowest_all : (may : List ℕ → ℕ → Bool) (k : ℕ) (l : List ℕ) → length l ≡ k → ((r : List ℕ) → Within r l → (i : ℕ) → In i r → may r i ≡ true)
    → by_lowest may k l ≡ factorial k
lowest_all may zero l e h = refl
lowest_all may (suc k) l e h =
    sum_each (λ i. cond (may l i) (by_lowest may k (erase i l)) 0) (factorial k) l
    (λ i j. rw (h l (λ x. omega arith) i j) (lowest_all may k (erase i l) (erased_length k l i j e) (λ r w. h r (λ x. omega (arith, w x, erase_within i l x)))))
    ∙ ap (λ (n : ℕ). n * factorial k) e

-- more rows, more arrangements
factorial_from : (k m : ℕ) → factorial k ≤ factorial (m + k)
factorial_from k zero = let e : 0 + k ≡ k = omega arith in rw e (omega arith)
factorial_from k (suc m) =
    let e : suc m + k ≡ suc (m + k) = omega arith in
    let one : 1 ≤ suc (m + k) = omega arith in
    rw e (omega (arith, factorial_from k m, mul-le-mul_left (factorial (m + k)) one, mul_comm (factorial (m + k)) (suc (m + k))))

factorial_rises : (k n : ℕ) → k ≤ n → factorial k ≤ factorial n
factorial_rises k n h = let e : n - k + k ≡ n = omega arith in subst (λ (m : ℕ). factorial k ≤ factorial m) e (factorial_from k (n - k))

-- 12! arrangements
factorial_twelve : factorial 12 ≡ 479001600
factorial_twelve = refl

-- the rows of a table that pass a test
pub chosen_keep : (t : Table) (p : ℕ → Bool) → Chosen t (keep p (rows_of t))
chosen_keep t p = record { within = λ x. count_keep_le p x (rows_of t); rising = sorted_keep (λ x. x) p 0 (rows_of t) (rows_rising t.n) }

module _ (t : Table) (f : TableFacts t) where
  pub rows_chosen : (m : ℕ) → Chosen t (rows_in t m)
  rows_chosen m = chosen_keep t (is_left m)

  pub rows_length : (m : ℕ) → length (rows_in t m) ≤ t.n
  rows_length m = omega (arith, length_within (rows_in t m) (rows_of t) (rows_chosen m).within, length_rows t.n)

  -- the table of them has no more
  pub word_few : (m : ℕ) → (alone t (rows_in t m)).n ≤ t.n
  unfolding alone
  word_few m = rows_length m

  -- the choices of a word, by the lowest row
  choices_word : (m : ℕ) → choices_of t m ≡ by_lowest (may_stand t) (length (rows_in t m)) (rows_in t m)
  unfolding choices_of
  choices_word m = choices_alone t f (rows_in t m) (rows_chosen m)

  -- NOTHING. The word 0 has one choice (rule 25.3).
  pub choices_zero : choices_of t 0 ≡ 1
  choices_zero =
      choices_word 0
      ∙ ap (λ (l : List ℕ). by_lowest (may_stand t) (length l) l) (keep_none (is_left 0) (rows_of t) (λ x. bit_not_left 0 x (zero_bit (x - 1))))

  -- BY THE LOWEST ROW. The choices of a word that has a row are the sum, over the rows that may stand lowest, of the choices of the word without that row (rule 25.7).
  pub choices_step : (m : ℕ) → 1 ≤ length (rows_in t m)
      → choices_of t m ≡ sum (λ i. cond (may_stand t (rows_in t m) i) (choices_of t (m - 2 ^ (i - 1))) 0) (rows_in t m)
  choices_step m some =
      let k = length (rows_in t m) - 1 in
      let e : length (rows_in t m) ≡ suc k = omega arith in
      choices_word m
      ∙ ap (λ (n : ℕ). by_lowest (may_stand t) n (rows_in t m)) e
      ∙ sum_eq (λ i. cond (may_stand t (rows_in t m) i) (by_lowest (may_stand t) k (erase i (rows_in t m))) 0)
      (λ i. cond (may_stand t (rows_in t m) i) (choices_of t (m - 2 ^ (i - 1))) 0) (rows_in t m)
      (λ i j. ap (λ (n : ℕ). cond (may_stand t (rows_in t m) i) n 0) (without i j k e))
    where
      without : (i : ℕ) → In i (rows_in t m) → (k : ℕ) → length (rows_in t m) ≡ suc k
          → by_lowest (may_stand t) k (erase i (rows_in t m)) ≡ choices_of t (m - 2 ^ (i - 1))
      without i j k e =
          let r = rows_in_lem t i (omega (arith, j, (rows_chosen m).within i)) in
          let b = left_bit m i (keep_in (is_left m) (rows_of t) i j).1 in
          let w : rows_in t (m - 2 ^ (i - 1)) ≡ erase i (rows_in t m) = keep_without m i r.from b (rows_of t) (rows_once t.n) (count_zero t.n) in
          sym (choices_word (m - 2 ^ (i - 1)) ∙ ap (λ (l : List ℕ). by_lowest (may_stand t) (length l) l) w
          ∙ ap (λ (n : ℕ). by_lowest (may_stand t) n (erase i (rows_in t m))) (erased_length k (rows_in t m) i j e))

  -- ALL ROWS. The word of all rows has the choices of the table (rule 25.10).
  pub all_in_word : rows_in t (2 ^ t.n - 1) ≡ rows_of t
  all_in_word = keep_all (is_left (2 ^ t.n - 1)) (rows_of t) (λ x i. let r = rows_in_lem t x i in bit_left (2 ^ t.n - 1) x (full_bit t.n (x - 1) (omega (arith, r.from, r.up_to))))

  pub choices_all : choices t ≡ choices_of t (2 ^ t.n - 1)
  choices_all =
      choices_lowest_lem t f
      ∙ sym (choices_word (2 ^ t.n - 1) ∙ ap (λ (l : List ℕ). by_lowest (may_stand t) (length l) l) all_in_word
      ∙ ap (λ (n : ℕ). by_lowest (may_stand t) n (rows_of t)) (length_rows t.n))

  -- MOST. No word has more choices than arrangements, and of 12 rows or fewer no more than 479,001,600 (rule 25.9).
  pub choices_most : (m : ℕ) → choices_of t m ≤ factorial (length (rows_in t m))
  choices_most m = omega (arith, choices_word m, lowest_most (may_stand t) (length (rows_in t m)) (rows_in t m) refl)

  pub choices_small : (m : ℕ) → t.n ≤ 12 → choices_of t m ≤ 479001600
  choices_small m h = omega (arith, choices_most m, factorial_rises (length (rows_in t m)) 12 (omega (arith, rows_length m)), factorial_twelve)

  -- EVERY ORDER. If each row of a word may stand lowest among all its rows, all arrangements of them are correct (rule 25.9).
  pub word_every : (m : ℕ) → ((i : ℕ) → In i (rows_in t m) → may_stand t (rows_in t m) i ≡ true) → choices_of t m ≡ factorial (length (rows_in t m))
  word_every m h =
      choices_word m
      ∙ lowest_all (may_stand t) (length (rows_in t m)) (rows_in t m) refl
      (λ r w i j. may_fewer t f (rows_in t m) r i (rows_chosen m).within w j (h i (omega (arith, j, w i))))

  pub choices_every : ((i : ℕ) → Row t i → may_stand t (rows_of t) i ≡ true) → choices t ≡ factorial t.n
  choices_every h =
      choices_all
      ∙ word_every (2 ^ t.n - 1) (subst (λ (l : List ℕ). (i : ℕ) → In i l → may_stand t l i ≡ true) (sym all_in_word) (λ i j. h i (rows_in_lem t i j)))
      ∙ ap factorial (ap length all_in_word ∙ length_rows t.n)

  -- a word other than 0 has a row
  pub some_row : (m : ℕ) → 1 ≤ m → m < 2 ^ t.n → 1 ≤ length (rows_in t m)
  some_row m h l =
      let small : m < 2 ^ 64 = omega (arith, l, pow_mono {i = t.n} {j = 64} f.few) in
      let r : Row t (lowest_of m) = record { from = lowest_from m h small; up_to = lowest_within m h small t.n l } in
      in_some (lowest_of m) (rows_in t m) (in_keep (is_left m) (rows_of t) (lowest_of m) (in_rows t (lowest_of m) r) (bit_left m (lowest_of m) (lowest_set m h small)))

  -- MAY STAND LOWEST. Row i of a word may exactly if no row of the word follows it and, in the table of its rows alone, its slack is not below zero with all the others
  -- above it (rule 25.7).
  pub may_stand_lem : (m : ℕ) → 1 ≤ m → m < 2 ^ t.n → (i : ℕ) → In i (rows_in t m)
      → may_stand t (rows_in t m) i
      ≡ unfollowed t (rows_in t m) i && passes (alone t (rows_in t m)) (rows_of (alone t (rows_in t m))) (renumbered (rows_in t m) i)
  may_stand_lem m h l = may_alone t f (rows_in t m) (rows_chosen m) (some_row m h l)

  -- LOWEST. In as many correct orders as all other rows have choices row i stands lowest if it may, and else in none (rules 25.5, 25.7).
  pub lowest_choices : (i : ℕ) → Row t i → choices_lowest t i ≡ cond (may_stand t (rows_of t) i) (choices_of t (2 ^ t.n - 1 - 2 ^ (i - 1))) 0
  unfolding choices_lowest arrangements
  lowest_choices i r =
      let k = t.n - 1 in
      let n : t.n ≡ suc k = omega (arith, f.some) in
      ap (λ (m : ℕ). how_many (λ o. is_correct t (padded o) && is_lowest t i (padded o)) (arranged m (rows_of t))) n
      ∙ many_agree (λ o. is_correct t (padded o) && is_lowest t i (padded o)) (λ o. stands_from t [] o && eqb (at o t.n) i) (arranged (suc k) (rows_of t))
      (every_weaker (λ o. Same o (rows_of t)) (λ o. is_correct t (padded o) && is_lowest t i (padded o) ≡ stands_from t [] o && eqb (at o t.n) i)
      (λ o h. ap₂ (λ (a b : Bool). a && b) (correct_is t f o h) (ap (λ (x : ℕ). eqb x i) (place_n o h)))
      (arranged (suc k) (rows_of t)) (listed_same (suc k) (rows_of t) (length_rows t.n ∙ n)))
      ∙ many_spread (λ o. stands_from t [] o && eqb (at o t.n) i) (below k (rows_of t)) (rows_of t)
      ∙ sum_erase (part k) i (rows_of t) (in_rows t i r)
      ∙ omega (arith, own k n, sum_zero (part k) (erase i (rows_of t)) (λ j h. other k n j (apart j h) (inside j h)))
      ∙ ap (λ (c : ℕ). cond (may_stand t (rows_of t) i) c 0) (rest k n)
    where
      place_n : (o : List ℕ) → Same o (rows_of t) → at (padded o) t.n ≡ at o t.n
      place_n o h =
          let e = same_size o (rows_of t) h ∙ length_rows t.n in
          padded_entry o (omega (arith, e, f.few)) (t.n - 1) (omega (arith, e, f.some))

      part : ℕ → ℕ → ℕ
      part k j = how_many (λ o. stands_from t [] o && eqb (at o t.n) i) (below k (rows_of t) j)

      apart : (j : ℕ) → In j (erase i (rows_of t)) → j ≡ i → ⊥
      apart j h q = omega (arith, rw q at h, count_erase_same i (rows_of t), rows_once t.n i)

      inside : (j : ℕ) → In j (erase i (rows_of t)) → In j (rows_of t)
      inside j h = omega (arith, h, count_erase_other j i (rows_of t) (apart j h))

      -- the lowest of an arrangement with row j below the others
      low : (k : ℕ) → t.n ≡ suc k → (j : ℕ) (a : List ℕ) → In j (rows_of t) → Same a (erase j (rows_of t)) → at (a ++ (j ∷ [])) t.n ≡ j
      low k n j a h s =
          let e : t.n - 1 ≡ length a = omega (arith, n, same_size a (erase j (rows_of t)) s, erased_length k (rows_of t) j h (length_rows t.n ∙ n)) in
          ap (λ (m : ℕ). get_or (a ++ (j ∷ [])) m 0) e ∙ get_or-append_seam a j [] 0

      part_is : (k : ℕ) → t.n ≡ suc k → (j : ℕ) → In j (rows_of t) → part k j ≡ how_many (λ a. stands_from t [] (a ++ (j ∷ [])) && eqb j i) (arranged k (erase j (rows_of t)))
      part_is k n j h =
          many_map (λ o. stands_from t [] o && eqb (at o t.n) i) (λ above. above ++ (j ∷ [])) (arranged k (erase j (rows_of t)))
          ∙ many_agree (λ a. stands_from t [] (a ++ (j ∷ [])) && eqb (at (a ++ (j ∷ [])) t.n) i) (λ a. stands_from t [] (a ++ (j ∷ [])) && eqb j i) (arranged k (erase j (rows_of t)))
          (every_weaker (λ a. Same a (erase j (rows_of t)))
          (λ a. stands_from t [] (a ++ (j ∷ [])) && eqb (at (a ++ (j ∷ [])) t.n) i ≡ stands_from t [] (a ++ (j ∷ [])) && eqb j i)
          (λ a s. ap (λ (x : ℕ). stands_from t [] (a ++ (j ∷ [])) && eqb x i) (low k n j a h s))
          (arranged k (erase j (rows_of t))) (listed_same k (erase j (rows_of t)) (erased_length k (rows_of t) j h (length_rows t.n ∙ n))))

      other : (k : ℕ) → t.n ≡ suc k → (j : ℕ) → (j ≡ i → ⊥) → In j (rows_of t) → part k j ≡ 0
      other k n j q h =
          part_is k n j h ∙ many_none (λ a. stands_from t [] (a ++ (j ∷ [])) && eqb j i) (arranged k (erase j (rows_of t))) (all_false (arranged k (erase j (rows_of t))))
        where
          all_false : (os : List (List ℕ)) → Every (λ a. stands_from t [] (a ++ (j ∷ [])) && eqb j i ≡ false) os
          all_false [] = tt
          all_false (a ∷ os) = (rw (ne_eqb j i q) (and_false (stands_from t [] (a ++ (j ∷ [])))), all_false os)

      own : (k : ℕ) → t.n ≡ suc k → part k i ≡ cond (may_stand t (rows_of t) i) (by_lowest (may_stand t) k (erase i (rows_of t))) 0
      own k n =
          let h = in_rows t i r in
          let e = length_rows t.n ∙ n in
          part_is k n i h
          ∙ many_agree (λ a. stands_from t [] (a ++ (i ∷ [])) && eqb i i) (λ a. stands_from t [] (a ++ (i ∷ []))) (arranged k (erase i (rows_of t))) (all_true (arranged k (erase i (rows_of t))))
          ∙ sym (many_map (stands_from t []) (λ above. above ++ (i ∷ [])) (arranged k (erase i (rows_of t))))
          ∙ many_below t f k (rows_of t) i e (λ x. omega arith) h (many_standing t f k (erase i (rows_of t)) (erased_length k (rows_of t) i h e) (λ x. erase_within i (rows_of t) x))
        where
          all_true : (os : List (List ℕ)) → Every (λ a. stands_from t [] (a ++ (i ∷ [])) && eqb i i ≡ stands_from t [] (a ++ (i ∷ []))) os
          all_true [] = tt
          all_true (a ∷ os) = (rw (eq-eqb i i refl) (and_true (stands_from t [] (a ++ (i ∷ [])))), all_true os)

      rest : (k : ℕ) → t.n ≡ suc k → by_lowest (may_stand t) k (erase i (rows_of t)) ≡ choices_of t (2 ^ t.n - 1 - 2 ^ (i - 1))
      rest k n =
          let m = 2 ^ t.n - 1 in
          let h = in_rows t i r in
          let w : rows_in t (m - 2 ^ (i - 1)) ≡ erase i (rows_of t) =
          keep_without m i r.from (full_bit t.n (i - 1) (omega (arith, r.from, r.up_to))) (rows_of t) (rows_once t.n) (count_zero t.n) ∙ ap (erase i) all_in_word in
          sym (choices_word (m - 2 ^ (i - 1)) ∙ ap (λ (l : List ℕ). by_lowest (may_stand t) (length l) l) w
          ∙ ap (λ (c : ℕ). by_lowest (may_stand t) c (erase i (rows_of t))) (erased_length k (rows_of t) i h (length_rows t.n ∙ n)))

  -- SUMS. These counts of all rows add up to the choices of the table (rule 25.10).
  pub choices_sum : sum (choices_lowest t) (rows_of t) ≡ choices t
  choices_sum =
      let m = 2 ^ t.n - 1 in
      sum_eq (choices_lowest t) (λ i. cond (may_stand t (rows_of t) i) (choices_of t (m - 2 ^ (i - 1))) 0) (rows_of t) (λ i j. lowest_choices i (rows_in_lem t i j))
      ∙ ap (λ (l : List ℕ). sum (λ i. cond (may_stand t l i) (choices_of t (m - 2 ^ (i - 1))) 0) l) (sym all_in_word)
      ∙ sym (choices_step m (omega (arith, ap length all_in_word, length_rows t.n, f.some)))
      ∙ sym choices_all

-- An arrangement counted, as sixty-four numbers, is an order that passes check 6 and is correct over all courses of speed, and no other is counted (rule 25.2).
module _ (t : Table) (f : TableFacts t) where
  pub counted_correct : (o : List ℕ) → (is_correct t o ≡ true) ↔ ((is_order t o ≡ true) × Correct t o)
  unfolding is_correct
  counted_correct o = (
    λ e. let order = and_left (is_order t o) (all (meets t o) (rows_of t)) e in
        (order, correct t f o order (λ i r. all_in (meets t o) (rows_of t) (and_right (is_order t o) (all (meets t o) (rows_of t)) e) i (in_rows t i r))),
    λ h. and_both (is_order t o) (all (meets t o) (rows_of t)) h.0 (in_all (meets t o) (rows_of t) (λ i j. all_meet t f o h.0 h.1 i (rows_in_lem t i j))),
  )

  -- LIST. The list of arrangements holds each arrangement of the rows once and nothing else, and has n! of them (rule 25.1).
  pub each_once : (o : List ℕ) → Same o (rows_of t) → how_many (same o) (arrangements t) ≡ 1
  unfolding arrangements
  each_once o h = listed_once t.n (rows_of t) o (length_rows t.n) (rows_once t.n) h

  pub none_else : (o : List ℕ) → 1 ≤ how_many (same o) (arrangements t) → Same o (rows_of t)
  unfolding arrangements
  none_else o h = listed_only t.n (rows_of t) o (length_rows t.n) h

  pub so_many : length (arrangements t) ≡ factorial t.n
  unfolding arrangements
  so_many = listed_length t.n (rows_of t) (length_rows t.n)

  -- ORDERS. Every sixty-four numbers that pass check 6 are just one of them with zeros below.
  pub order_listed : (o : List ℕ) → length o ≡ 64 → is_order t o ≡ true → (padded (take t.n o) ≡ o) × (how_many (same (take t.n o)) (arrangements t) ≡ 1)
  unfolding is_order is_arrangement
  order_listed o l e = (
    back,
    each_once (take t.n o) (λ x. sym (order_rows t o e x)),
  )
    where
      ends : all_zero (drop t.n o) ≡ true
      ends = and_right (all (λ i. eqb (count i o) 1) (rows_of t)) (all_zero (drop t.n o)) (and_left (is_arrangement t o) (all (keeps_wait t o) (rows_of t)) e)

      long : length (take t.n o) ≡ t.n
      long = order_long t o e

      rest : length (drop t.n o) ≡ 64 - t.n
      rest = omega (arith, l, long, ap length (take-append-drop t.n o), length-append (take t.n o) (drop t.n o))

      back : padded (take t.n o) ≡ o
      back =
          padded_zeros (take t.n o) (omega (arith, long, f.few))
          ∙ ap (λ (k : ℕ). take t.n o ++ zeros (64 - k)) long
          ∙ ap (λ (z : List ℕ). take t.n o ++ z) (ap zeros (sym rest) ∙ sym (all_zeros (drop t.n o) ends))
          ∙ take-append-drop t.n o

  -- ALL CORRECT ORDERS. As sixty-four numbers they make a list that is as long as the choices are many. It holds each order that passes check 6 and is correct
  -- once, and nothing else; and in as many of them as are told row i stands lowest (rules 25.2, 25.5).
  pub correct_orders : List (List ℕ)
  correct_orders = map padded (those (λ o. is_correct t (padded o)) (arrangements t))

  pub orders_long : length correct_orders ≡ choices t
  unfolding correct_orders choices
  orders_long = length-map (those (λ o. is_correct t (padded o)) (arrangements t)) padded ∙ those_length (λ o. is_correct t (padded o)) (arrangements t)

  orders_many : (q : List ℕ → Bool) → how_many q correct_orders ≡ how_many (λ a. is_correct t (padded a) && q (padded a)) (arrangements t)
  unfolding correct_orders
  orders_many q =
      many_map q padded (those (λ o. is_correct t (padded o)) (arrangements t))
      ∙ those_many (λ o. is_correct t (padded o)) (λ a. q (padded a)) (arrangements t)

  pub orders_lowest : (i : ℕ) → how_many (is_lowest t i) correct_orders ≡ choices_lowest t i
  unfolding choices_lowest
  orders_lowest i = orders_many (is_lowest t i)

  listed : Every (λ o. Same o (rows_of t)) (arrangements t)
  unfolding arrangements
  listed = listed_same t.n (rows_of t) (length_rows t.n)

  long_of : (a : List ℕ) → Same a (rows_of t) → length a ≡ t.n
  long_of a s = same_size a (rows_of t) s ∙ length_rows t.n

  pub orders_once : (o : List ℕ) → length o ≡ 64 → is_order t o ≡ true → Correct t o → how_many (same o) correct_orders ≡ 1
  orders_once o l e c =
      let top = take t.n o in
      let back = order_listed o l e in
      orders_many (same o)
      ∙ many_agree (λ a. is_correct t (padded a) && same o (padded a)) (same top) (arrangements t)
      (every_weaker (λ a. Same a (rows_of t)) (λ a. is_correct t (padded a) && same o (padded a) ≡ same top a)
      (λ a s. both_ways (is_correct t (padded a) && same o (padded a)) (same top a)
      (λ y. let q : o ≡ padded a = same_equal o (padded a) (and_right (is_correct t (padded a)) (same o (padded a)) y) in
      let z : top ≡ a = ap (take t.n) q ∙ ap (λ (k : ℕ). take k (padded a)) (sym (long_of a s)) ∙ padded_take a (omega (arith, long_of a s, f.few)) in
      subst (λ (x : List ℕ). same top x ≡ true) z (equal_same top))
      (λ y. let q : padded a ≡ o = ap padded (sym (same_equal top a y)) ∙ back.0 in
      and_both (is_correct t (padded a)) (same o (padded a)) (ap (is_correct t) q ∙ (counted_correct o).1 (e, c)) (subst (λ (x : List ℕ). same o x ≡ true) (sym q) (equal_same o))))
      (arrangements t) listed)
      ∙ back.1

  pub orders_only : (o : List ℕ) → 1 ≤ how_many (same o) correct_orders → (length o ≡ 64) × (is_order t o ≡ true) × Correct t o
  orders_only o h =
      let test : List ℕ → Bool = λ a. is_correct t (padded a) && same o (padded a) in
      let r = many_some test (λ a. Same a (rows_of t)) (arrangements t) listed (omega (arith, h, orders_many (same o))) in
      let a = r.list in
      let q : o ≡ padded a = same_equal o (padded a) (and_right (is_correct t (padded a)) (same o (padded a)) r.passes) in
      let g = (counted_correct o).0 (ap (is_correct t) q ∙ and_left (is_correct t (padded a)) (same o (padded a)) r.passes) in
      (ap length q ∙ padded_length a (omega (arith, long_of a r.has, f.few)), g.0, g.1)

-- some row of a list
row : (l : List ℕ) → (length l ≡ 0 → ⊥) → ((x : ℕ) → In x l → ⊥) → ⊥
row [] n g = n refl
row (x ∷ l) n g = g x (in_head x l)

-- the order that the planner makes is counted
made_counted : (t : Table) (accepted : Accepted t) → (choice t).left ≡ [] → 1 ≤ choices t
unfolding choices
made_counted t accepted none =
    let f = facts t accepted in
    let o = (choice t).placed in
    many_counts (λ o. is_correct t (padded o)) o (arrangements t)
    ((counted_correct t f (padded o)).1 (choice_order t accepted none, choice_correct t accepted none))
    (omega (arith, each_once t f o (subst (λ (l : List ℕ). Same (l ++ o) (rows_of t)) none (choice_filled t f).filling.every)))

module _ (t : Table) (accepted : Accepted t) where
  f : TableFacts t
  f = facts t accepted

  -- ROWS ALONE. The table of the rows of a word other than 0 is accepted (rule 25.3).
  pub word_accepted : (m : ℕ) → 1 ≤ m → m < 2 ^ t.n → Accepted (alone t (rows_in t m))
  word_accepted m h l = alone_accepted t accepted (rows_in t m) (rows_chosen t f m) (some_row t f m h l)

  -- SLACK. A row that no row of the table follows has one slack below all the others, in whatever sequence these stand (rule 25.7). With the result before, this is so
  -- of the rows of a word alone.
  pub lowest_slack : (i : ℕ) → Row t i → unfollowed t (rows_of t) i ≡ true → (c : List ℕ) → Same (erase i (rows_of t)) c
      → slack t (lowest (rows_of t) i) i ≡ slack t (c ++ (i ∷ [])) i
  lowest_slack i r u c same = trial_set t accepted (rows_of t) (λ x. omega arith) (rows_closed t f (rows_of t) (λ x. refl)) i (in_rows t i r) u c same

  -- NO ORDER. The choices are 0 exactly if no order that passes check 6 is correct (rule 25.8).
  pub none_correct : (choices t ≡ 0) ↔ (CorrectOrder t → ⊥)
  unfolding choices
  none_correct = (
    λ z c. omega (arith, z, made c),
    λ n. by_eqb (choices t) 0 (λ _ y. y) (λ _ y. absurd (n (found (omega arith)))),
  )
    where
      -- the planner makes an order wherever there is one, and that is counted
      made : CorrectOrder t → 1 ≤ choices t
      made c = by_eqb (length (choice t).left) 0
          (λ _ q. made_counted t accepted (empty (choice t).left q))
          (λ _ q. absurd (row (choice t).left q (λ x i. choice_none t accepted x i c.order c.passes c.correct)))

      found : 1 ≤ choices t → CorrectOrder t
      found h =
          let r = many_some (λ o. is_correct t (padded o)) (λ o. Same o (rows_of t)) (arrangements t) (listed t f) h in
          let g = (counted_correct t f (padded r.list)).0 r.passes in
          record { order = padded r.list; passes = g.0; correct = g.1 }

  -- SEVEN. So they are 0 exactly if the planner, at a ceiling that is not below the count of trials, answers 7 (rule 25.8).
  pub none_seven : (ceiling : ℕ) → trial_count t ≤ ceiling → (choices t ≡ 0) ↔ (planned_number (plan_within ceiling t).planning.answer ≡ 7)
  unfolding plan_within planned_number
  none_seven ceiling h =
      rw (accepted, le-ltb ceiling (trial_count t) h)
      (by_eqb (length (choice t).left) 0
      (λ e q. rw e (λ z. absurd (omega (arith, z, made_counted t accepted (empty (choice t).left q))), λ z. absurd (omega arith)))
      (λ e q. rw e (λ z. refl, λ _. none_correct.1 (λ c. row (choice t).left q (λ x i. choice_none t accepted x i c.order c.passes c.correct)))))
