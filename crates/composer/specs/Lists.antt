-- The places of an order and the rows of a word, one more at a time; the entries of an array together.
use Rattle.std.specs.Prelude.{ℕ, zero, suc, ◌+◌, ◌≤◌, ◌<◌, Bool, true, false, ◌&&◌, List, [], ◌∷◌, ◌++◌, ◌≡◌, refl, eqb, length, get_or, take}
use Rattle.std.proofs.Common.{append-nil, ap, ◌∙◌, add-one, arith, length-append, take-suc}
use Rattle.rules.specs.Lists.{all, all_zero, rows_to, keep}
use Rattle.theory.specs.Counts.{keep_append}
use Rattle.theory.specs.Tests.{by_bool, and_true, and_false, and_both}
use Rattle.checks.specs.RowLists.{all_append}
use Rattle.sweep.specs.Masks.{bit, is_left}
use Rattle.sentences.specs.Sentences.{up_to_last, rows_in}
use Rattle.composer.specs.declared.Rows.{Rows}

-- ---- up to the last number that is not 0
-- one number more: a 0 adds nothing, and after any other number all of them count
last_more : (l : List ℕ) (x : ℕ) → (eqb x 0 ≡ true → up_to_last (l ++ (x ∷ [])) ≡ up_to_last l) × (eqb x 0 ≡ false → up_to_last (l ++ (x ∷ [])) ≡ l ++ (x ∷ []))
last_more [] x = (λ e. rw e, λ e. rw e)
last_more (y ∷ l) x =
    let zeros : all_zero (l ++ (x ∷ [])) ≡ (all_zero l && all_zero (x ∷ [])) = all_append (λ z. eqb z 0) l (x ∷ []) in (
      λ e. rw (zeros, e, and_true (all_zero l), (last_more l x).0 e),
      λ e. rw (zeros, e, and_false (all_zero l), and_false (eqb y 0), (last_more l x).1 e),
    )

module _ (order : List ℕ) (i : ℕ) (h : i < length order) where
  more : take (i + 1) order ≡ take i order ++ (get_or order i 0 ∷ [])
  more = rw (add-one i) (take-suc order i 0 h)

  pub last_zero : eqb (get_or order i 0) 0 ≡ true → up_to_last (take (i + 1) order) ≡ up_to_last (take i order)
  last_zero e = rw more ((last_more (take i order) (get_or order i 0)).0 e)

  pub last_other : eqb (get_or order i 0) 0 ≡ false → up_to_last (take (i + 1) order) ≡ take (i + 1) order
  last_other e = rw more ((last_more (take i order) (get_or order i 0)).1 e)

-- ---- the rows of a word
-- so many numbers are the rows of the word, the lowest first
pub record RowsOf (word : ℕ) (r : Rows) : Type 0 where
  pub within : r.many ≤ 64
  pub these : take r.many r.rows ≡ rows_in word

-- the rows of the word among the first k
abbrev pub among : ℕ → ℕ → List ℕ
among word k = keep (is_left word) (rows_to k)

pub among_all : (word : ℕ) → among word 64 ≡ rows_in word
unfolding rows_in bit
among_all word = refl

module _ (word k : ℕ) where
  pub row_there : is_left word (suc k) ≡ true → among word (suc k) ≡ among word k ++ (suc k ∷ [])
  row_there e = keep_append (is_left word) (rows_to k) (suc k ∷ []) ∙ rw e

  pub row_absent : is_left word (suc k) ≡ false → among word (suc k) ≡ among word k
  row_absent e = keep_append (is_left word) (rows_to k) (suc k ∷ []) ∙ rw e (append-nil (among word k))

-- they are no more than there are rows
pub among_few : (word k : ℕ) → length (among word k) ≤ k
among_few word zero = omega arith
among_few word (suc k) =
    by_bool (is_left word (suc k))
    (λ e. omega (arith, ap length (row_there word k e), length-append (among word k) (suc k ∷ []), among_few word k))
    (λ e. omega (arith, ap length (row_absent word k e), among_few word k))

-- ---- what holds of each entry of an array holds of all
pub all_entries : (p : ℕ → Bool) (l : List ℕ) → ((i : ℕ) → p (get_or l i 0) ≡ true) → all p l ≡ true
all_entries p [] h = refl
all_entries p (x ∷ l) h = and_both (p x) (all p l) (h 0) (all_entries p l (λ i. h (suc i)))
