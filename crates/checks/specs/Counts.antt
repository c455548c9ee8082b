-- How often a number stands in a list, from an index on.
use Rattle.std.specs.Prelude.{ℕ, ◌+◌, ◌≤◌, ◌<◌, List, [], ◌∷◌, ◌≡◌, length, get_or, drop, set, replicate}
use Rattle.std.proofs.Common.{add-one, arith, eq-eqb, ne_eqb, drop_of_length-le, drop-cons, get_or-set_same, get_or-set_other}
use Rattle.std.proofs.lemmas.List.{get_or-replicate}
use Rattle.rules.specs.Lists.{count}
use Rattle.theory.specs.Tests.{by_eqb}

pub count_le : (i : ℕ) (xs : List ℕ) → count i xs ≤ length xs
count_le i [] = omega arith
count_le i (x ∷ xs) = by_eqb i x (λ e q. rw e (omega (arith, count_le i xs))) (λ e q. rw e (omega (arith, count_le i xs)))

-- one entry further: it is the number, or it is not
pub count_on : (i : ℕ) (xs : List ℕ) (k : ℕ) → k < length xs → i ≡ get_or xs k 0 → count i (drop k xs) ≡ count i (drop (k + 1) xs) + 1
count_on i xs k h e = rw (add-one k, drop-cons xs k 0 h, eq-eqb i (get_or xs k 0) e) (omega arith)

pub count_off : (i : ℕ) (xs : List ℕ) (k : ℕ) → k < length xs → (i ≡ get_or xs k 0 → ⊥) → count i (drop k xs) ≡ count i (drop (k + 1) xs)
count_off i xs k h e = rw (add-one k, drop-cons xs k 0 h, ne_eqb i (get_or xs k 0) e)

-- the numbers 0 to 64 are tallied up to index k: what is tallied and what is left are the whole
abbrev pub Tallied : List ℕ → List ℕ → ℕ → Type 0
Tallied times xs k = (i : ℕ) → i ≤ 64 → get_or times i 0 + count i (drop k xs) ≡ count i xs

pub tally_start : (xs : List ℕ) → Tallied (replicate 65 0) xs 0
tally_start xs i h = rw (get_or-replicate {A = ℕ} 65 i 0 0 (omega arith)) (omega arith)

-- an entry up to 64 is tallied, and any other is passed over
pub tally_on : (times xs : List ℕ) (k : ℕ) → length times ≡ 65 → k < length xs → get_or xs k 0 ≤ 64 → Tallied times xs k
    → Tallied (set times (get_or xs k 0) (get_or times (get_or xs k 0) 0 + 1)) xs (k + 1)
tally_on times xs k l h r t i b =
    by_eqb i (get_or xs k 0)
    (λ e q. rw (← q, get_or-set_same times i (get_or times i 0 + 1) 0 (omega arith)) (omega (arith, t i b, count_on i xs k h q)))
    (λ e q. rw (get_or-set_other times (get_or xs k 0) i (get_or times (get_or xs k 0) 0 + 1) 0 q) (omega (arith, t i b, count_off i xs k h q)))

pub tally_off : (times xs : List ℕ) (k : ℕ) → k < length xs → 64 < get_or xs k 0 → Tallied times xs k → Tallied times xs (k + 1)
tally_off times xs k h r t i b = omega (arith, t i b, count_off i xs k h (λ q. omega arith))

pub tally_end : (times xs : List ℕ) (k : ℕ) → length xs ≤ k → Tallied times xs k → (i : ℕ) → i ≤ 64 → get_or times i 0 ≡ count i xs
tally_end times xs k h t i b = let e = rw (drop_of_length-le xs h) at (t i b) in omega arith

pub tally_le : (times xs : List ℕ) (k : ℕ) → Tallied times xs k → (i : ℕ) → i ≤ 64 → get_or times i 0 ≤ length xs
tally_le times xs k t i b = omega (arith, t i b, count_le i xs)
