-- Lists of lists: how many pass a test, and what every one of them has.
use Rattle.std.specs.Prelude.{ℕ, ◌+◌, ◌≤◌, Bool, true, false, ◌&&◌, cond, List, [], ◌∷◌, ◌++◌, map, ◌≡◌, refl, eqb, length}
use Rattle.std.proofs.Common.{sym, ap, ap₂, ◌∙◌, subst, arith, eqb-true, eq-eqb}
use Rattle.rules.specs.Lists.{same, sum}
use Rattle.theory.specs.Tests.{by_bool, and_left, and_right, and_both}
use Rattle.choices.specs.Choices.{spread, how_many}

-- P holds of every list
abbrev pub Every : (List ℕ → Type 0) → List (List ℕ) → Type 0
Every P [] = Unit {0}
Every P (o ∷ os) = P o × Every P os

-- the lists that pass the test
abbrev pub those : (List ℕ → Bool) → List (List ℕ) → List (List ℕ)
those p [] = []
those p (o ∷ os) = cond (p o) (o ∷ those p os) (those p os)

module _ (p : List ℕ → Bool) where
  pub those_length : (os : List (List ℕ)) → length (those p os) ≡ how_many p os
  those_length [] = refl
  those_length (o ∷ os) = by_bool (p o) (λ e. rw (e, those_length os)) (λ e. rw (e, those_length os))

  pub those_many : (q : List ℕ → Bool) (os : List (List ℕ)) → how_many q (those p os) ≡ how_many (λ o. p o && q o) os
  those_many q [] = refl
  those_many q (o ∷ os) =
      by_bool (p o)
      (λ e. by_bool (q o) (λ g. rw (e, g, those_many q os)) (λ g. rw (e, g, those_many q os)))
      (λ e. rw (e, those_many q os))

  many_append : (a b : List (List ℕ)) → how_many p (a ++ b) ≡ how_many p a + how_many p b
  many_append [] b = omega arith
  many_append (o ∷ a) b = by_bool (p o) (λ e. rw e (omega (arith, many_append a b))) (λ e. rw e (many_append a b))

  pub many_spread : (f : ℕ → List (List ℕ)) (l : List ℕ) → how_many p (spread f l) ≡ sum (λ i. how_many p (f i)) l
  many_spread f [] = refl
  many_spread f (i ∷ l) = omega (arith, many_append (f i) (spread f l), many_spread f l)

  pub many_map : (g : List ℕ → List ℕ) (os : List (List ℕ)) → how_many p (map g os) ≡ how_many (λ o. p (g o)) os
  many_map g [] = refl
  many_map g (o ∷ os) = by_bool (p (g o)) (λ e. rw (e, many_map g os)) (λ e. rw (e, many_map g os))

  pub many_agree : (q : List ℕ → Bool) (os : List (List ℕ)) → Every (λ o. p o ≡ q o) os → how_many p os ≡ how_many q os
  many_agree q [] h = refl
  many_agree q (o ∷ os) h = rw (h.0, many_agree q os h.1)

  pub many_none : (os : List (List ℕ)) → Every (λ o. p o ≡ false) os → how_many p os ≡ 0
  many_none [] h = refl
  many_none (o ∷ os) h = rw h.0 (many_none os h.1)

  -- one that passes is among them
  pub record Passing (os : List (List ℕ)) (P : List ℕ → Type 0) : Type 0 where
    pub list : List ℕ
    pub passes : p list ≡ true
    pub has : P list

  pub many_some : (P : List ℕ → Type 0) (os : List (List ℕ)) → Every P os → 1 ≤ how_many p os → Passing os P
  many_some P [] h n = absurd (omega arith)
  many_some P (o ∷ os) h n =
      by_bool (p o)
      (λ e. record { list = o; passes = e; has = h.0 })
      (λ e. let r = many_some P os h.1 (rw e at n) in record { list = r.list; passes = r.passes; has = r.has })

module _ (P Q : List ℕ → Type 0) (h : (o : List ℕ) → P o → Q o) where
  pub every_weaker : (os : List (List ℕ)) → Every P os → Every Q os
  every_weaker [] e = tt
  every_weaker (o ∷ os) e = (h o e.0, every_weaker os e.1)

module _ (P : List ℕ → Type 0) where
  pub every_append : (a b : List (List ℕ)) → Every P a → Every P b → Every P (a ++ b)
  every_append [] b h k = k
  every_append (o ∷ a) b h k = (h.0, every_append a b h.1 k)

  pub every_map : (g : List ℕ → List ℕ) (os : List (List ℕ)) → Every (λ o. P (g o)) os → Every P (map g os)
  every_map g [] h = tt
  every_map g (o ∷ os) h = (h.0, every_map g os h.1)

-- two lists of numbers that are the same are equal, and the other way round

pub same_equal : (a b : List ℕ) → same a b ≡ true → a ≡ b
same_equal [] [] e = refl
same_equal [] (y ∷ b) e = let z : ◌≡◌ {A = ℕ} 0 1 = cc in absurd (omega arith)
same_equal (x ∷ a) [] e = let z : ◌≡◌ {A = ℕ} 0 1 = cc in absurd (omega arith)
same_equal (x ∷ a) (y ∷ b) e =
    ap₂ (λ (z : ℕ) (l : List ℕ). z ∷ l) (eqb-true x y (and_left (eqb x y) (same a b) e)) (same_equal a b (and_right (eqb x y) (same a b) e))

pub equal_same : (a : List ℕ) → same a a ≡ true
equal_same [] = refl
equal_same (x ∷ a) = and_both (eqb x x) (same a a) (eq-eqb x x refl) (equal_same a)

-- what every list has, a list among them has
pub every_has : (P : List ℕ → Type 0) (o : List ℕ) (os : List (List ℕ)) → Every P os → 1 ≤ how_many (same o) os → P o
every_has P o os h n = let r = many_some (same o) P os h n in subst P (sym (same_equal o r.list r.passes)) r.has

-- a list that passes and is among them is counted
pub many_counts : (p : List ℕ → Bool) (o : List ℕ) (os : List (List ℕ)) → p o ≡ true → 1 ≤ how_many (same o) os → 1 ≤ how_many p os
many_counts p o [] e n = absurd (omega arith)
many_counts p o (x ∷ os) e n =
    by_bool (same o x)
    (λ s. let z : p x ≡ true = ap p (sym (same_equal o x s)) ∙ e in rw z (omega arith))
    (λ s. by_bool (p x) (λ z. rw z (omega arith)) (λ z. rw z (many_counts p o os e (rw s at n))))
