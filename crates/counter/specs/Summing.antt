-- What the loops over rows add up: the choices of a word without each row that may stand lowest in it (rule 25.7).
use Rattle.std.specs.Prelude.{ℕ, zero, suc, ◌+◌, ◌-◌, ◌^◌, ◌≤◌, cond, List, [], ◌∷◌, ◌≡◌, get_or, replicate}
use Rattle.std.proofs.Common.{ap, ◌∙◌, add-one, arith}
use Rattle.rules.specs.declared.Refusal.{Refusal}
use Rattle.rules.specs.Checks.{Refused}
use Rattle.rules.specs.Lists.{rows_to, sum}
use Rattle.theory.specs.Counts.{sum_append}
use Rattle.sweep.specs.Masks.{is_left}
use Rattle.choices.specs.declared.Choices.{Choices}

-- a refusal has counts of 0 (rule 25.6)
abbrev pub refused_count : Refusal → Choices
refused_count r = record { check = Refused r; count = 0; lowest = replicate 64 0 }

-- the entry of the word without row i, if that is one of the rows; else 0
abbrev pub without_row : List ℕ → ℕ → ℕ → ℕ → ℕ
without_row scratch left rows i = cond (is_left rows i) (get_or scratch (left - 2 ^ (i - 1)) 0) 0

-- one row more
pub sum_next : (g : ℕ → ℕ) (k : ℕ) → sum g (rows_to (k + 1)) ≡ sum g (rows_to k) + g (k + 1)
sum_next g k = ap (λ (j : ℕ). sum g (rows_to j)) (add-one k) ∙ sum_append g (rows_to k) (suc k ∷ []) ∙ omega (arith, ap g (add-one k))

-- no more than all rows
sum_upto : (g : ℕ → ℕ) (m k : ℕ) → sum g (rows_to k) ≤ sum g (rows_to (m + k))
sum_upto g zero k = let e : 0 + k ≡ k = omega arith in rw e (omega arith)
sum_upto g (suc m) k =
    let e : suc m + k ≡ suc (m + k) = omega arith in
    rw e (omega (arith, sum_upto g m k, sum_append g (rows_to (m + k)) (suc (m + k) ∷ [])))

pub sum_part : (g : ℕ → ℕ) (k n : ℕ) → k ≤ n → sum g (rows_to k) ≤ sum g (rows_to n)
sum_part g k n h = let e : n - k + k ≡ n = omega arith in rw (← e) (sum_upto g (n - k) k)
