-- The arrangements of some rows: the list of them holds each once, and nothing else (rule 25.1).
use Rattle.std.specs.Prelude.{ℕ, zero, suc, ◌+◌, ◌*◌, ◌≤◌, false, ◌&&◌, ◌≡◌, refl, length}
use mathlib.Core.List.{List, [], ◌∷◌, ◌++◌, map}
use Rattle.std.proofs.Common.{sym, ap, ◌∙◌, subst, arith, mul_comm, length-append, eq-eqb, ne_eqb}
use Rattle.std.proofs.Math.Dec.{eqb}
use Rattle.std.proofs.lemmas.List.{length-map}
use Rattle.rules.specs.Lists.{same, erase}
use Rattle.theory.specs.Tests.{by_bool, by_eqb, and_true, and_false}
use Rattle.theory.specs.Counts.{In, Once, Within, Same, in_head, in_tail, count_append, count_same, count_other, count_erase_same, count_erase_other, length_erase, sum_erase, sum_zero, same_size}
use Rattle.choices.specs.Choices.{spread, arranged, how_many}
use Rattle.lowest.specs.Many.{Every, many_spread, many_map, many_agree, many_none, every_weaker, every_append, every_map, every_has}

-- the last of a list, and what stands above it
pub record Last (o : List ℕ) : Type 0 where
  pub above : List ℕ
  pub row : ℕ
  pub whole : o ≡ above ++ (row ∷ [])

last : (o : List ℕ) → 1 ≤ length o → Last o
last [] h = absurd (omega arith)
last (x ∷ []) h = record { above = []; row = x; whole = refl }
last (x ∷ y ∷ o) h = let r = last (y ∷ o) (omega arith) in record { above = x ∷ r.above; row = r.row; whole = ap (λ (l : List ℕ). x ∷ l) r.whole }

same_last : (a b : List ℕ) (j i : ℕ) → same (a ++ (j ∷ [])) (b ++ (i ∷ [])) ≡ same a b && eqb j i
same_last [] [] j i = and_true (eqb j i)
same_last [] (y ∷ []) j i = and_false (eqb j y)
same_last [] (y ∷ z ∷ b) j i = and_false (eqb j y)
same_last (x ∷ []) [] j i = and_false (eqb x i)
same_last (x ∷ z ∷ a) [] j i = and_false (eqb x i)
same_last (x ∷ a) (y ∷ b) j i = by_bool (eqb x y) (λ e. rw e (same_last a b j i)) (λ e. rw e)

-- a list whose rows are none is empty
none_in : (o : List ℕ) → Same o [] → o ≡ []
none_in [] h = refl
none_in (x ∷ o) h = absurd (omega (arith, h x, count_same x o))

-- with its lowest row taken out, an arrangement is one of the other rows
above_same : (a s : List ℕ) (j : ℕ) → Same (a ++ (j ∷ [])) s → Same a (erase j s)
above_same a s j h x =
    by_eqb x j
    (λ _ q. rw q (omega (arith, h j, count_append j a (j ∷ []), count_same j [], count_erase_same j s)))
    (λ _ q. omega (arith, h x, count_append x a (j ∷ []), count_other x j [] q, count_erase_other x j s q))

pub below_same : (a s : List ℕ) (j : ℕ) → In j s → Same a (erase j s) → Same (a ++ (j ∷ [])) s
below_same a s j i h x =
    by_eqb x j
    (λ _ q. rw q (omega (arith, h j, count_append j a (j ∷ []), count_same j [], count_erase_same j s)))
    (λ _ q. omega (arith, h x, count_append x a (j ∷ []), count_other x j [] q, count_erase_other x j s q))

-- what is left is among what was there
pub erase_within : (j : ℕ) (s : List ℕ) → Within (erase j s) s
erase_within j s x = by_eqb x j (λ _ q. rw q (omega (arith, count_erase_same j s))) (λ _ q. omega (arith, count_erase_other x j s q))

erase_once : (s : List ℕ) (j : ℕ) → Once s → Once (erase j s)
erase_once s j o x = omega (arith, erase_within j s x, o x)

pub erased_length : (k : ℕ) (s : List ℕ) (j : ℕ) → In j s → length s ≡ suc k → length (erase j s) ≡ k
erased_length k s j i e = omega (arith, length_erase j s i)

-- the arrangements of a set of rows, of k + 1 of them: those of the others, with each row in turn below
abbrev pub below : ℕ → List ℕ → ℕ → List (List ℕ)
below k s i = map (λ above. above ++ (i ∷ [])) (arranged k (erase i s))

below_rows : (k : ℕ) (s : List ℕ) → ((i : ℕ) → In i s → Every (λ o. Same o (erase i s)) (arranged k (erase i s))) → (l : List ℕ) → ((i : ℕ) → In i l → In i s)
    → Every (λ o. Same o s) (spread (below k s) l)
below_rows k s each [] h = tt
below_rows k s each (i ∷ l) h =
    let j = h i (in_head i l) in
    every_append (λ o. Same o s) (below k s i) (spread (below k s) l)
    (every_map (λ o. Same o s) (λ above. above ++ (i ∷ [])) (arranged k (erase i s))
    (every_weaker (λ o. Same o (erase i s)) (λ o. Same (o ++ (i ∷ [])) s) (λ o. below_same o s i j) (arranged k (erase i s)) (each i j)))
    (below_rows k s each l (λ x y. h x (in_tail x i l y)))

-- every list is an arrangement of the rows
pub listed_same : (k : ℕ) (s : List ℕ) → length s ≡ k → Every (λ o. Same o s) (arranged k s)
listed_same zero [] e = ((λ x. refl), tt)
listed_same zero (x ∷ s) e = absurd (omega arith)
listed_same (suc k) s e = below_rows k s (λ i j. listed_same k (erase i s) (erased_length k s i j e)) s (λ i j. j)

-- and nothing else stands in it
pub listed_only : (k : ℕ) (s o : List ℕ) → length s ≡ k → 1 ≤ how_many (same o) (arranged k s) → Same o s
listed_only k s o e n = every_has (λ (o : List ℕ). Same o s) o (arranged k s) (listed_same k s e) n

-- an arrangement whose lowest row is j, where each arrangement of the others is listed once
module _ (k : ℕ) (s : List ℕ) (once : Once s) (a : List ℕ) (j : ℕ) (h : Same (a ++ (j ∷ [])) s) where
  inside : In j s
  inside = omega (arith, h j, count_append j a (j ∷ []), count_same j [])

  part : ℕ → ℕ
  part i = how_many (same (a ++ (j ∷ []))) (below k s i)

  apart : (x : ℕ) → In x (erase j s) → x ≡ j → ⊥
  apart x i q = omega (arith, rw q at i, count_erase_same j s, once j)

  part_is : (i : ℕ) → part i ≡ how_many (λ b. same a b && eqb j i) (arranged k (erase i s))
  unfolding part
  part_is i =
      many_map (same (a ++ (j ∷ []))) (λ above. above ++ (i ∷ [])) (arranged k (erase i s))
      ∙ many_agree (λ b. same (a ++ (j ∷ [])) (b ++ (i ∷ []))) (λ b. same a b && eqb j i) (arranged k (erase i s)) (all_last (arranged k (erase i s)))
    where
      all_last : (os : List (List ℕ)) → Every (λ b. same (a ++ (j ∷ [])) (b ++ (i ∷ [])) ≡ same a b && eqb j i) os
      all_last [] = tt
      all_last (b ∷ os) = (same_last a b j i, all_last os)

  own : how_many (same a) (arranged k (erase j s)) ≡ 1 → part j ≡ 1
  own r = part_is j ∙ many_agree (λ b. same a b && eqb j j) (same a) (arranged k (erase j s)) (with_own (arranged k (erase j s))) ∙ r
    where
      with_own : (os : List (List ℕ)) → Every (λ b. same a b && eqb j j ≡ same a b) os
      with_own [] = tt
      with_own (b ∷ os) = (rw (eq-eqb j j refl) (and_true (same a b)), with_own os)

  other : (i : ℕ) → (i ≡ j → ⊥) → part i ≡ 0
  other i n = part_is i ∙ many_none (λ b. same a b && eqb j i) (arranged k (erase i s)) (all_false (arranged k (erase i s)))
    where
      all_false : (os : List (List ℕ)) → Every (λ b. same a b && eqb j i ≡ false) os
      all_false [] = tt
      all_false (b ∷ os) = (rw (ne_eqb j i (λ q. n (sym q))) (and_false (same a b)), all_false os)

  placed_once : how_many (same a) (arranged k (erase j s)) ≡ 1 → how_many (same (a ++ (j ∷ []))) (arranged (suc k) s) ≡ 1
  unfolding part
  placed_once r =
      many_spread (same (a ++ (j ∷ []))) (below k s) s
      ∙ sum_erase part j s inside
      ∙ omega (arith, own r, sum_zero part (erase j s) (λ x i. other x (apart x i)))

-- each arrangement stands in it once
pub listed_once : (k : ℕ) (s o : List ℕ) → length s ≡ k → Once s → Same o s → how_many (same o) (arranged k s) ≡ 1
listed_once zero [] o e once h = rw (none_in o h)
listed_once zero (x ∷ s) o e once h = absurd (omega arith)
listed_once (suc k) s o e once h =
    let r = last o (omega (arith, same_size o s h)) in
    let a = r.above in
    let j = r.row in
    let g : Same (a ++ (j ∷ [])) s = subst (λ (l : List ℕ). Same l s) r.whole h in
    subst (λ (l : List ℕ). how_many (same l) (arranged (suc k) s) ≡ 1) (sym r.whole)
    (placed_once k s once a j g
    (listed_once k (erase j s) a (erased_length k s j (inside k s once a j g) e) (erase_once s j once) (above_same a s j g)))

-- how many there are: k × (k - 1) × ... × 1 (rule 25.1)
abbrev pub factorial : ℕ → ℕ
factorial zero = 1
factorial (suc k) = suc k * factorial k

length_spread : (f : ℕ → List (List ℕ)) (m : ℕ) (l : List ℕ) → ((i : ℕ) → In i l → length (f i) ≡ m) → length (spread f l) ≡ length l * m
length_spread f m [] h = omega arith
length_spread f m (i ∷ l) h =
    let r = length_spread f m l (λ j k. h j (in_tail j i l k)) in
    let p : suc (length l) * m ≡ m + length l * m = omega (arith, mul_comm (suc (length l)) m) in
    omega (arith, length-append (f i) (spread f l), h i (in_head i l), r, p)

pub listed_length : (k : ℕ) (s : List ℕ) → length s ≡ k → length (arranged k s) ≡ factorial k
listed_length zero s e = refl
listed_length (suc k) s e =
    length_spread (below k s) (factorial k) s
    (λ i j. length-map (arranged k (erase i s)) (λ above. above ++ (i ∷ [])) ∙ listed_length k (erase i s) (erased_length k s i j e))
    ∙ ap (λ (n : ℕ). n * factorial k) e
