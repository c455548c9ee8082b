-- Lists of different rows by their places.
use Rattle.std.specs.Prelude.{ℕ, zero, suc, ◌≤◌, ◌<◌, Bool, true, false, cond, ◌&&◌, ◌≡◌, refl, List, [], ◌∷◌, ◌++◌, eqb, length, get_or}
use Rattle.std.proofs.Common.{sym, ap, subst, arith, ne_eqb}
use Rattle.rules.specs.Lists.{first, keep}
use Rattle.theory.specs.Tests.{by_bool, by_eqb}
use Rattle.theory.specs.Counts.{In, Once, in_head, in_tail, in_entry, count_same}
use Rattle.sweep.specs.Holds.{count_tail}
use Rattle.theory.specs.Sorting.{Sorted}

-- a row of the list stands at a place
pub record At (l : List ℕ) (x : ℕ) : Type 0 where
  pub place : ℕ
  pub within : place < length l
  pub is : get_or l place 0 ≡ x

pub place_of : (l : List ℕ) (x : ℕ) → In x l → At l x
place_of [] x h = absurd (omega arith)
place_of (y ∷ l) x h =
    by_eqb x y
    (λ _ q. record { place = 0; within = omega arith; is = sym q })
    (λ e q. let r = place_of l x (rw e at h) in record { place = suc r.place; within = omega (arith, r.within); is = r.is })

-- different places have different rows
pub apart : (l : List ℕ) → Once l → (i j : ℕ) → i < length l → j < length l → (i ≡ j → ⊥) → get_or l i 0 ≡ get_or l j 0 → ⊥
apart [] o i j h k n e = omega arith
apart (x ∷ l) o zero zero h k n e = n refl
apart (x ∷ l) o zero (suc j) h k n e = omega (arith, o x, count_same x l, rw (sym e) at (in_entry l j (omega arith)))
apart (x ∷ l) o (suc i) zero h k n e = omega (arith, o x, count_same x l, rw e at (in_entry l i (omega arith)))
apart (x ∷ l) o (suc i) (suc j) h k n e =
    apart l (λ y. omega (arith, o y, count_tail y x l)) i j (omega arith) (omega arith) (λ z. n (ap suc z)) e

-- keys in rising order rise from place to place
pub rising : (key : ℕ → ℕ) (n : ℕ) (l : List ℕ) → Sorted key n l → (j : ℕ) → j < length l → n ≤ key (get_or l j 0)
rising key n [] s j h = absurd (omega arith)
rising key n (x ∷ l) s zero h = s.0
rising key n (x ∷ l) s (suc j) h = omega (arith, s.0, rising key (key x) l s.1 j (omega arith))

pub sorted_rising : (key : ℕ → ℕ) (n : ℕ) (l : List ℕ) → Sorted key n l → (i j : ℕ) → i ≤ j → j < length l → key (get_or l i 0) ≤ key (get_or l j 0)
sorted_rising key n [] s i j h k = absurd (omega arith)
sorted_rising key n (x ∷ l) s zero zero h k = omega arith
sorted_rising key n (x ∷ l) s zero (suc j) h k = rising key (key x) l s.1 j (omega arith)
sorted_rising key n (x ∷ l) s (suc i) zero h k = absurd (omega arith)
sorted_rising key n (x ∷ l) s (suc i) (suc j) h k = sorted_rising key (key x) l s.1 i j (omega arith) (omega arith)

-- the first that passes of two lists, one after the other
pub first_parts : (p : ℕ → Bool) (a b : List ℕ) → (In 0 a → ⊥) → first p (a ++ b) ≡ cond (eqb (first p a) 0) (first p b) (first p a)
first_parts p [] b h = refl
first_parts p (x ∷ a) b h =
    by_bool (p x)
    (λ e. rw (e, ne_eqb x 0 (λ z. h (subst (λ (y : ℕ). In y (x ∷ a)) z (in_head x a)))))
    (λ e. rw (e, first_parts p a b (λ i. h (in_tail 0 x a i))))

pub keep_keep : (p q : ℕ → Bool) (l : List ℕ) → keep p (keep q l) ≡ keep q (keep p l)
keep_keep p q [] = refl
keep_keep p q (x ∷ l) =
    by_bool (p x)
    (λ e. by_bool (q x) (λ f. rw (e, f, e, keep_keep p q l)) (λ f. rw (e, f, keep_keep p q l)))
    (λ e. by_bool (q x) (λ f. rw (e, f, e, keep_keep p q l)) (λ f. rw (e, f, keep_keep p q l)))

-- what passes is kept again, and what does not is not
pub keep_twice : (p : ℕ → Bool) (l : List ℕ) → keep p (keep p l) ≡ keep p l
keep_twice p [] = refl
keep_twice p (x ∷ l) = by_bool (p x) (λ e. rw (e, e, keep_twice p l)) (λ e. rw (e, keep_twice p l))

pub keep_neither : (p q : ℕ → Bool) (l : List ℕ) → ((x : ℕ) → q x ≡ true → p x ≡ false) → keep p (keep q l) ≡ []
keep_neither p q [] h = refl
keep_neither p q (x ∷ l) h = by_bool (q x) (λ e. rw (e, h x e, keep_neither p q l h)) (λ e. rw (e, keep_neither p q l h))

-- what both tests keep
pub keep_both : (p q : ℕ → Bool) (l : List ℕ) → keep p (keep q l) ≡ keep (λ x. q x && p x) l
keep_both p q [] = refl
keep_both p q (x ∷ l) =
    by_bool (q x)
    (λ e. by_bool (p x) (λ f. rw (e, f, keep_both p q l)) (λ f. rw (e, f, keep_both p q l)))
    (λ e. rw (e, keep_both p q l))

-- the first that passes of those kept, by its place
pub first_kept : (p k : ℕ → Bool) (l : List ℕ) (i : ℕ) → i < length l → k (get_or l i 0) ≡ true → p (get_or l i 0) ≡ true
    → ((j : ℕ) → j < i → k (get_or l j 0) ≡ true → p (get_or l j 0) ≡ false) → first p (keep k l) ≡ get_or l i 0
first_kept p k [] i h e f g = absurd (omega arith)
first_kept p k (x ∷ l) zero h e f g = rw (e, f)
first_kept p k (x ∷ l) (suc i) h e f g =
    let r = first_kept p k l i (omega arith) e f (λ j q. g (suc j) (omega arith)) in
    by_bool (k x)
    (λ z. rw (z, g 0 (omega arith) z) r)
    (λ z. rw z r)

pub first_fails : (p k : ℕ → Bool) (l : List ℕ) → ((j : ℕ) → j < length l → k (get_or l j 0) ≡ true → p (get_or l j 0) ≡ false) → first p (keep k l) ≡ 0
first_fails p k [] g = refl
first_fails p k (x ∷ l) g =
    let r = first_fails p k l (λ j q. g (suc j) (omega arith)) in
    by_bool (k x)
    (λ z. rw (z, g 0 (omega arith) z) r)
    (λ z. rw z r)

-- in a list of rows that pass and after them rows that do not, a row before one that passes does
pub parted : (p : ℕ → Bool) (a b : List ℕ) → ((i : ℕ) → In i a → p i ≡ true) → ((i : ℕ) → In i b → p i ≡ true → ⊥)
    → (y x : ℕ) → y ≤ x → x < length (a ++ b) → p (get_or (a ++ b) x 0) ≡ true → p (get_or (a ++ b) y 0) ≡ true
parted p [] b low high y x l h e = absurd (high (get_or b x 0) (in_entry b x h) e)
parted p (z ∷ a) b low high zero x l h e = low z (in_head z a)
parted p (z ∷ a) b low high (suc y) zero l h e = absurd (omega arith)
parted p (z ∷ a) b low high (suc y) (suc x) l h e = parted p a b (λ i j. low i (in_tail i z a j)) high y x (omega arith) (omega arith) e
