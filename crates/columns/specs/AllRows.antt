-- A test over the rows 1 to n, a column's zeros after row n, and the choice of a row from the top of an order (rule 2.3).
use Rattle.std.specs.Prelude.{ℕ, zero, suc, ◌+◌, ◌-◌, ◌≤◌, Bool, true, false, List, [], ◌∷◌, ◌≡◌, refl, eqb, get_or, drop, replicate}
use Rattle.std.proofs.Common.{◌∙◌, arith, add-one, eqb-true}
use Rattle.rules.specs.Lists.{rows_to, all, all_zero, first}
use Rattle.theory.specs.Tests.{by_bool, and_left, and_right}
use Rattle.checks.specs.RowLists.{all_rows_more, all_rows_each}

-- one row more
pub all_next : (p : ℕ → Bool) (k : ℕ) → all p (rows_to k) ≡ true → p (k + 1) ≡ true → all p (rows_to (k + 1)) ≡ true
all_next p k e h = all_rows_more p k ∙ rw (e, h)

-- what passes for all rows passes for each
pub all_each : (p : ℕ → Bool) (n : ℕ) → all p (rows_to n) ≡ true → (i : ℕ) → 1 ≤ i → i ≤ n → p i ≡ true
all_each p n e i l h =
    let s : i - 1 + 1 ≡ i = omega arith in
    rw s at (all_rows_each p (i - 1) n e (omega arith))

-- and the other way round
pub all_of : (p : ℕ → Bool) (n : ℕ) → ((i : ℕ) → 1 ≤ i → i ≤ n → p i ≡ true) → all p (rows_to n) ≡ true
all_of p zero f = refl
all_of p (suc k) f =
    rw (add-one k) at (all_next p k (all_of p k (λ i l h. f i l (omega arith))) (f (k + 1) (omega arith) (omega arith)))

-- the zeros after row n of a column of zeros
pub zeros_of : (m n : ℕ) → all_zero (drop n (replicate m 0)) ≡ true
zeros_of zero zero = refl
zeros_of zero (suc n) = refl
zeros_of (suc m) zero = zeros_of m zero
zeros_of (suc m) (suc n) = zeros_of m n

-- no row of a list of zeros is chosen, by any test
pub first_zeros : (p : ℕ → Bool) (xs : List ℕ) → all_zero xs ≡ true → first p xs ≡ 0
first_zeros p [] e = refl
first_zeros p (x ∷ xs) e =
    let z = eqb-true x 0 (and_left (eqb x 0) (all_zero xs) e) in
    rw z (by_bool (p 0) (λ q. rw q) (λ q. rw q (first_zeros p xs (and_right (eqb x 0) (all_zero xs) e))))

-- the choice over the places from k on: a row that passes, or the choice over those after it; the row at k is not 0, so k is a place
pub first_here : (p : ℕ → Bool) (xs : List ℕ) (k : ℕ) → 1 ≤ get_or xs k 0 → p (get_or xs k 0) ≡ true → first p (drop k xs) ≡ get_or xs k 0
first_here p [] k l e = absurd (omega arith)
first_here p (x ∷ xs) zero l e = rw e
first_here p (x ∷ xs) (suc k) l e = first_here p xs k l e

pub first_after : (p : ℕ → Bool) (xs : List ℕ) (k : ℕ) → 1 ≤ get_or xs k 0 → p (get_or xs k 0) ≡ false
    → first p (drop k xs) ≡ first p (drop (k + 1) xs)
first_after p xs k l e = rw add-one (after xs k l e)
  where
    after : (xs : List ℕ) (k : ℕ) → 1 ≤ get_or xs k 0 → p (get_or xs k 0) ≡ false → first p (drop k xs) ≡ first p (drop (suc k) xs)
    after [] k l e = absurd (omega arith)
    after (x ∷ xs) zero l e = rw e
    after (x ∷ xs) (suc k) l e = after xs k l e
