-- Tests over the rows 1 to n, and over a column from an index on.
use Rattle.std.specs.Prelude.{ℕ, zero, suc, ◌+◌, ◌≤◌, ◌<◌, Bool, true, false, ◌&&◌, List, [], ◌∷◌, ◌++◌, ◌≡◌, refl, eqb, length, get_or, drop}
use Rattle.std.proofs.Common.{true≢false, sym, ◌∙◌, not-suc-le-zero, add-one, arith, eq-eqb, ne_eqb, eqb-true, drop-cons}
use Rattle.rules.specs.Lists.{all, all_zero, rows_to}
use Rattle.theory.specs.Tests.{by_bool, by_eqb, and_true, and_false, and_assoc, and_left, and_right}

pub all_append : {A : Type 0} (p : A → Bool) (xs ys : List A) → all p (xs ++ ys) ≡ (all p xs && all p ys)
all_append p [] ys = refl
all_append p (x ∷ xs) ys = rw (all_append p xs ys, and_assoc (p x) (all p xs) (all p ys))

-- one row more
pub all_rows_more : (p : ℕ → Bool) (k : ℕ) → all p (rows_to (k + 1)) ≡ (all p (rows_to k) && p (k + 1))
all_rows_more p k = rw (add-one, all_append p (rows_to k) (suc k ∷ []), and_true)

-- a row that fails the test fails the whole
pub all_rows_fail : (p : ℕ → Bool) (k n : ℕ) → k < n → p (k + 1) ≡ false → all p (rows_to n) ≡ false
all_rows_fail p k zero h e = absurd (not-suc-le-zero h)
all_rows_fail p k (suc m) h e =
    all_append p (rows_to m) (suc m ∷ [])
    ∙ by_eqb k m
    (λ q w. let f : p (suc m) ≡ false = rw (← w, ← add-one) e in rw (f, and_false))
    (λ q w. rw (all_rows_fail p k m (omega arith) e))

-- where all rows pass, each does
pub all_rows_each : (p : ℕ → Bool) (k n : ℕ) → all p (rows_to n) ≡ true → k < n → p (k + 1) ≡ true
all_rows_each p k n e h =
    by_bool (p (k + 1))
    (λ f. f)
    (λ f. absurd (true≢false (sym e ∙ all_rows_fail p k n h f)))

-- tests that agree on the rows up to n
pub all_rows_same : (p q : ℕ → Bool) (n : ℕ) → ((i : ℕ) → i ≤ n → p i ≡ q i) → all p (rows_to n) ≡ all q (rows_to n)
all_rows_same p q zero h = refl
all_rows_same p q (suc m) h =
    rw (
      all_append p (rows_to m) (suc m ∷ []),
      all_append q (rows_to m) (suc m ∷ []),
      all_rows_same p q m (λ i b. h i (omega arith)),
      h (suc m) (omega arith),
    )

-- one entry further
pub zeros_go : (xs : List ℕ) (i : ℕ) → i < length xs → get_or xs i 0 ≡ 0 → all_zero (drop i xs) ≡ all_zero (drop (i + 1) xs)
zeros_go xs i h e = rw (add-one, drop-cons xs i 0 h, eq-eqb (get_or xs i 0) 0 e)

pub zeros_stop : (xs : List ℕ) (i : ℕ) → i < length xs → (get_or xs i 0 ≡ 0 → ⊥) → all_zero (drop i xs) ≡ false
zeros_stop xs i h e = rw (drop-cons xs i 0 h, ne_eqb (get_or xs i 0) 0 e)

-- where the entries from k on are zero, each of them is
pub zero_at : (xs : List ℕ) (k i : ℕ) → all_zero (drop k xs) ≡ true → k ≤ i → get_or xs i 0 ≡ 0
zero_at [] zero i e h = refl
zero_at [] (suc k) i e h = refl
zero_at (x ∷ xs) zero zero e h = eqb-true x 0 (and_left (eqb x 0) (all_zero xs) e)
zero_at (x ∷ xs) zero (suc i) e h = zero_at xs zero i (and_right (eqb x 0) (all_zero xs) e) (omega arith)
zero_at (x ∷ xs) (suc k) zero e h = absurd (omega arith)
zero_at (x ∷ xs) (suc k) (suc i) e h = zero_at xs k i e (omega arith)
