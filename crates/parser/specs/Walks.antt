-- Two lists compared, and a number looked for in one; both also from an index on.
use Rattle.std.specs.Prelude.{ℕ, not, suc, ◌+◌, ◌≤◌, ◌<◌, true, false, List, [], ◌∷◌, ◌≡◌, refl, eqb, length, get_or, drop}
use Rattle.std.proofs.Common.{sym, ap, add-one, arith, eq-eqb, ne_eqb, drop_of_length-le, drop-cons}
use Rattle.std.specs.List.{list_any}
use Rattle.std.specs.Cmp.Lexicographic.{pointwise}
use Rattle.rules.specs.Lists.{same, count}
use Rattle.theory.specs.Tests.{and_false, by_eqb}

-- lists are compared entry by entry
pub pointwise_same : (xs ys : List ℕ) → pointwise eqb xs ys ≡ same xs ys
pointwise_same [] [] = refl
pointwise_same [] (y ∷ ys) = refl
pointwise_same (x ∷ xs) [] = refl
pointwise_same (x ∷ xs) (y ∷ ys) = rw (pointwise_same xs ys)

-- lists of two lengths are not the same
pub same_long : (xs ys : List ℕ) → (length xs ≡ length ys → ⊥) → same xs ys ≡ false
same_long [] [] h = absurd (h refl)
same_long [] (y ∷ ys) h = refl
same_long (x ∷ xs) [] h = refl
same_long (x ∷ xs) (y ∷ ys) h = rw (same_long xs ys (λ e. h (ap suc e))) (and_false (eqb x y))

-- one entry further in both lists: the entries are equal, or they are not
module _ (xs ys : List ℕ) (i : ℕ) (l : length xs ≡ length ys) (h : i < length xs) where
  pub same_on : get_or xs i 0 ≡ get_or ys i 0 → same (drop i xs) (drop i ys) ≡ same (drop (i + 1) xs) (drop (i + 1) ys)
  same_on e = rw (add-one i, drop-cons xs i 0 h, drop-cons ys i 0 (omega arith), eq-eqb (get_or xs i 0) (get_or ys i 0) e)

  pub same_off : (get_or xs i 0 ≡ get_or ys i 0 → ⊥) → same (drop i xs) (drop i ys) ≡ false
  same_off e = rw (drop-cons xs i 0 h, drop-cons ys i 0 (omega arith), ne_eqb (get_or xs i 0) (get_or ys i 0) e)

-- nothing is left of either list
pub same_end : (xs ys : List ℕ) (i : ℕ) → length xs ≡ length ys → length xs ≤ i → same (drop i xs) (drop i ys) ≡ true
same_end xs ys i l h = rw (drop_of_length-le xs h, drop_of_length-le ys {i = i} (omega arith))

-- one entry further in a list: it is the number, or it is not
module _ (x : ℕ) (xs : List ℕ) (i : ℕ) (h : i < length xs) where
  pub count_on : x ≡ get_or xs i 0 → 1 ≤ count x (drop i xs)
  count_on e = rw (drop-cons xs i 0 h, eq-eqb x (get_or xs i 0) e) (omega arith)

  pub count_off : (x ≡ get_or xs i 0 → ⊥) → count x (drop i xs) ≡ count x (drop (i + 1) xs)
  count_off e = rw (add-one i, drop-cons xs i 0 h, ne_eqb x (get_or xs i 0) e)

-- nothing is left of the list
pub count_end : (x : ℕ) (xs : List ℕ) (i : ℕ) → length xs ≤ i → count x (drop i xs) ≡ 0
count_end x xs i h = rw (drop_of_length-le xs h)

-- some entry is the number exactly if its count is not 0
pub any_count : (x : ℕ) (xs : List ℕ) → list_any (λ y. eqb y x) xs ≡ not (eqb (count x xs) 0)
any_count x [] = refl
any_count x (y ∷ ys) =
    by_eqb x y
    (λ e h. rw (e, eq-eqb y x (sym h), ne_eqb (suc (count x ys)) 0 (λ z. omega arith)))
    (λ e h. rw (e, ne_eqb y x (λ z. h (sym z)), any_count x ys))
