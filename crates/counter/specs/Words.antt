-- The words in rising sequence: each has the choices of its rows alone, told by the words without one row (rules 25.5, 25.7).
use Rattle.std.specs.Prelude.{ℕ, zero, suc, ◌+◌, ◌-◌, ◌^◌, ◌≤◌, ◌<◌, Bool, true, cond, ◌&&◌, List, [], ◌∷◌, ◌++◌, map, ◌≡◌, refl, eqb, length, get_or, set, drop}
use Rattle.std.proofs.Common.{append_assoc, sym, ap, ◌∙◌, add-one, arith, length-append, length-drop, pow_pos, drop-cons}
use Rattle.std.proofs.lemmas.List.{length-map}
use Rattle.std.proofs.Math.ListN.{get_or-append}
use Rattle.std.proofs.Math.Seq.{set-append_seam, get_or-append_seam}
use Rattle.rules.specs.declared.Table.{Table}
use Rattle.rules.specs.Choice.{padded}
use Rattle.rules.specs.Lists.{sum, keep, rows_to}
use Rattle.rules.specs.Rows.{rows_of}
use Rattle.theory.specs.Counts.{sum_eq}
use Rattle.theory.specs.Facts.{Row, TableFacts, rows_in_lem}
use Rattle.theory.specs.Tests.{by_bool, by_eqb, by-ltb, and_left}
use Rattle.sweep.specs.Masks.{bit, is_left, bit_le, left_bit, bit_left, full_bit}
use Rattle.sweep.specs.Padded.{map_append, map_same}
use Rattle.choices.specs.Choices.{rows_in, choices, choices_lowest, choices_of, words_to, counted}
use Rattle.lowest.proofs.Counted.{some_row, choices_zero, choices_step, choices_all, all_in_word, choices_small, lowest_choices}
use Rattle.lowest.specs.Standing.{may_stand}
use Rattle.counter.specs.Summing.{without_row}
use Rattle.counter.specs.Testing.{standing_to, standing_bit, standing_above}

words_length : (k : ℕ) → length (words_to k) ≡ k
words_length zero = refl
words_length (suc k) = omega (arith, length-append (words_to k) (k ∷ []), words_length k)

-- the sum over the rows of a word is that over all rows, with 0 for the others
sum_keep : (p : ℕ → Bool) (g : ℕ → ℕ) (l : List ℕ) → sum (λ i. cond (p i) (g i) 0) l ≡ sum g (keep p l)
sum_keep p g [] = refl
sum_keep p g (x ∷ l) = by_bool (p x) (λ e. rw e (omega (arith, sum_keep p g l))) (λ e. rw e (omega (arith, sum_keep p g l)))

-- two tests that agree on the first k rows make one word
pub standing_agree : (p q : ℕ → Bool) (k : ℕ) → ((i : ℕ) → 1 ≤ i → i ≤ k → p i ≡ q i) → standing_to p k ≡ standing_to q k
standing_agree p q zero h = refl
standing_agree p q (suc k) h = rw (h (suc k) (omega arith) (omega arith), standing_agree p q k (λ i a b. h i a (omega arith)))

-- nothing of a list but its first entry changes
drop_first : (l : List ℕ) (v k : ℕ) → 1 ≤ k → drop k (set l 0 v) ≡ drop k l
drop_first [] v k h = refl
drop_first (x ∷ l) v zero h = absurd (omega arith)
drop_first (x ∷ l) v (suc k) h = refl

-- the scratch with the first m words done
abbrev pub filled : Table → List ℕ → ℕ → List ℕ
filled t old m = map (choices_of t) (words_to m) ++ drop m old

-- the rows of a word that may stand lowest in it, as a word
abbrev pub standing_rows : Table → ℕ → ℕ
standing_rows t m = standing_to (λ i. is_left m i && may_stand t (rows_in t m) i) t.n

module _ (t : Table) (f : TableFacts t) where
  pub done_length : (m : ℕ) → length (map (choices_of t) (words_to m)) ≡ m
  done_length m = length-map (words_to m) (choices_of t) ∙ words_length m

  pub filled_length : (old : List ℕ) (m : ℕ) → m ≤ length old → length (filled t old m) ≡ length old
  filled_length old m h = omega (arith, length-append (map (choices_of t) (words_to m)) (drop m old), done_length m, length-drop m old)

  done_entry : (m k : ℕ) → k < m → get_or (map (choices_of t) (words_to m)) k 0 ≡ choices_of t k
  done_entry zero k h = absurd (omega arith)
  done_entry (suc m) k h =
      let d = done_length m in
      ap (λ (l : List ℕ). get_or l k 0) (map_append (choices_of t) (words_to m) (m ∷ []))
      ∙ by_eqb k m
      (λ _ q. ap (λ (j : ℕ). get_or (map (choices_of t) (words_to m) ++ (choices_of t m ∷ [])) j 0) (q ∙ sym d)
      ∙ get_or-append_seam (map (choices_of t) (words_to m)) (choices_of t m) [] 0 ∙ ap (choices_of t) (sym q))
      (λ _ q. get_or-append (map (choices_of t) (words_to m)) (choices_of t m ∷ []) 0 k (omega arith) ∙ done_entry m k (omega arith))

  pub filled_entry : (old : List ℕ) (m k : ℕ) → k < m → get_or (filled t old m) k 0 ≡ choices_of t k
  filled_entry old m k h = get_or-append (map (choices_of t) (words_to m)) (drop m old) 0 k (omega (arith, done_length m)) ∙ done_entry m k h

  -- one word more
  pub filled_next : (old : List ℕ) (m : ℕ) → m < length old → set (filled t old m) m (choices_of t m) ≡ filled t old (m + 1)
  filled_next old m h =
      let a = map (choices_of t) (words_to m) in
      ap (λ (l : List ℕ). set (a ++ l) m (choices_of t m)) (drop-cons old m 0 h)
      ∙ ap (λ (j : ℕ). set (a ++ (get_or old m 0 ∷ drop (suc m) old)) j (choices_of t m)) (sym (done_length m))
      ∙ set-append_seam a (get_or old m 0) (drop (suc m) old) (choices_of t m)
      ∙ sym (append_assoc a (choices_of t m ∷ []) (drop (suc m) old))
      ∙ ap (λ (l : List ℕ). l ++ drop (suc m) old) (sym (map_append (choices_of t) (words_to m) (m ∷ [])))
      ∙ ap (filled t old) (sym (add-one m))

  -- the word 0
  pub filled_first : (old : List ℕ) → 1 ≤ length old → set old 0 1 ≡ filled t (set old 0 1) 1
  filled_first [] h = absurd (omega arith)
  filled_first (x ∷ old) h = ap (λ (v : ℕ). v ∷ old) (sym (choices_zero t f))

  -- all words
  pub filled_last : (old : List ℕ) (m : ℕ) → m ≡ 2 ^ t.n → filled t (set old 0 1) m ≡ counted t old
  filled_last old m e =
      ap (filled t (set old 0 1)) e
      ∙ ap (λ (l : List ℕ). map (choices_of t) (words_to (2 ^ t.n)) ++ l) (drop_first old 1 (2 ^ t.n) (omega (arith, pow_pos t.n)))

  standing_row : (m i : ℕ) → Row t i → is_left (standing_rows t m) i ≡ is_left m i && may_stand t (rows_in t m) i
  standing_row m i r =
      let z : suc (i - 1) ≡ i = omega (arith, r.from) in
      let p : ℕ → Bool = λ i. is_left m i && may_stand t (rows_in t m) i in
      ap (λ (b : ℕ). eqb b 1) (standing_bit p t.n (i - 1) (omega (arith, r.from, r.up_to)))
      ∙ ap (λ (j : ℕ). eqb (cond (p j) 1 0) 1) z
      ∙ by_bool (p i) (λ e. rw e) (λ e. rw e)

  -- they are rows of the word
  pub standing_inside : (m i : ℕ) → is_left (standing_rows t m) i ≡ true → bit m (i - 1) ≡ 1
  standing_inside m i e =
      let p : ℕ → Bool = λ i. is_left m i && may_stand t (rows_in t m) i in
      by-ltb (i - 1) t.n
      (λ _ h. by_bool (p (suc (i - 1)))
      (λ b. let z : suc (i - 1) - 1 ≡ i - 1 = omega arith in ap (bit m) (sym z) ∙ left_bit m (suc (i - 1)) (and_left (is_left m (suc (i - 1))) (may_stand t (rows_in t m) (suc (i - 1))) b))
      (λ b. absurd (omega (arith, left_bit (standing_rows t m) i e, standing_bit p t.n (i - 1) h, ap {B = ℕ} (λ (c : Bool). cond c 1 0) b))))
      (λ _ h. absurd (omega (arith, left_bit (standing_rows t m) i e, standing_above p t.n (i - 1) h)))

  -- the term of a row: its word stands before m
  term_is : (old : List ℕ) (m done i : ℕ) → Row t i → m ≤ done
      → without_row (filled t old done) m (standing_rows t m) i ≡ cond (is_left m i) (cond (may_stand t (rows_in t m) i) (choices_of t (m - 2 ^ (i - 1))) 0) 0
  term_is old m done i r h =
      rw (standing_row m i r)
      (by_bool (is_left m i)
      (λ e. rw e (ap (λ (v : ℕ). cond (may_stand t (rows_in t m) i) v 0)
      (filled_entry old done (m - 2 ^ (i - 1)) (omega (arith, bit_le (i - 1) m (left_bit m i e), pow_pos (i - 1), h)))))
      (λ e. rw e))

  -- the sum over the rows of a word is its choices
  pub total_is : (old : List ℕ) (m : ℕ) → 1 ≤ m → m < 2 ^ t.n → sum (without_row (filled t old m) m (standing_rows t m)) (rows_to t.n) ≡ choices_of t m
  total_is old m h l =
      sum_eq (without_row (filled t old m) m (standing_rows t m)) (λ i. cond (is_left m i) (cond (may_stand t (rows_in t m) i) (choices_of t (m - 2 ^ (i - 1))) 0) 0) (rows_of t)
      (λ i j. term_is old m m i (rows_in_lem t i j) (omega arith))
      ∙ sum_keep (is_left m) (λ i. cond (may_stand t (rows_in t m) i) (choices_of t (m - 2 ^ (i - 1))) 0) (rows_of t)
      ∙ sym (choices_step t f m (some_row t f m h l))

  pub total_fits : (old : List ℕ) (m : ℕ) → t.n ≤ 12 → 1 ≤ m → m < 2 ^ t.n → sum (without_row (filled t old m) m (standing_rows t m)) (rows_to t.n) < 2 ^ 32
  total_fits old m few h l = omega (arith, total_is old m h l, choices_small t f m few)

  -- the word of all rows
  module _ (all : ℕ) (e : all ≡ 2 ^ t.n - 1) where
    pub count_is : (old : List ℕ) (m : ℕ) → m ≡ all + 1 → get_or (filled t old m) all 0 ≡ choices t
    count_is old m q = filled_entry old m all (omega arith) ∙ ap (choices_of t) e ∙ sym (choices_all t f)

    pub lowest_is : (old : List ℕ) (m : ℕ) → m ≡ all + 1 → padded (map (without_row (filled t old m) all (standing_rows t all)) (rows_to t.n)) ≡ padded (map (choices_lowest t) (rows_of t))
    lowest_is old m q =
        ap padded (map_same (without_row (filled t old m) all (standing_rows t all)) (choices_lowest t) (rows_of t)
        (λ i j. let r = rows_in_lem t i j in
        let left : is_left all i ≡ true = bit_left all i (ap (λ (b : ℕ). bit b (i - 1)) e ∙ full_bit t.n (i - 1) (omega (arith, r.from, r.up_to))) in
        let rows : rows_in t all ≡ rows_of t = ap (rows_in t) e ∙ all_in_word t f in
        term_is old all m i r (omega arith)
        ∙ rw left (ap (λ (l : List ℕ). cond (may_stand t l i) (choices_of t (all - 2 ^ (i - 1))) 0) rows
        ∙ ap (λ (b : ℕ). cond (may_stand t (rows_of t) i) (choices_of t (b - 2 ^ (i - 1))) 0) e
        ∙ sym (lowest_choices t f i r))))
