-- Lists of rows as sets: how often a row stands in a list, and sums over lists that hold the same rows.
use Rattle.std.specs.Prelude.{◌<◌, zero, ℕ, suc, ◌+◌, ◌-◌, ◌*◌, ◌≤◌, Bool, true, false, ◌≡◌, refl, List, [], ◌∷◌, ◌++◌, map, ◌⊎◌, eqb, length, get_or}
use Rattle.std.proofs.Common.{subst, sym, ◌∙◌, inl, inr, mul-suc, arith, eq-eqb, ne_eqb}
use Rattle.rules.specs.Lists.{first, count, keep, erase, sum}
use Rattle.theory.specs.Tests.{by_bool, by_eqb, not_both}

-- the row stands in the list
abbrev pub In : ℕ → List ℕ → Type 0
In x l = 1 ≤ count x l

-- every row of the first list stands in the second at least as often
abbrev pub Within : List ℕ → List ℕ → Type 0
Within a b = (x : ℕ) → count x a ≤ count x b

-- two lists hold the same rows
abbrev pub Same : List ℕ → List ℕ → Type 0
Same a b = (x : ℕ) → count x a ≡ count x b

-- no row stands in the list twice
abbrev pub Once : List ℕ → Type 0
Once l = (x : ℕ) → count x l ≤ 1

pub count_same : (x : ℕ) (l : List ℕ) → count x (x ∷ l) ≡ suc (count x l)
count_same x l = rw (eq-eqb x x refl)

pub count_other : (x y : ℕ) (l : List ℕ) → (x ≡ y → ⊥) → count x (y ∷ l) ≡ count x l
count_other x y l h = rw (ne_eqb x y h)

pub count_append : (x : ℕ) (a b : List ℕ) → count x (a ++ b) ≡ count x a + count x b
count_append x [] b = omega arith
count_append x (y ∷ a) b = by_bool (eqb x y) (λ e. rw e (omega (arith, count_append x a b))) (λ e. rw e (count_append x a b))

-- the last of a list stands in it
pub in_last : (a : List ℕ) (x : ℕ) → In x (a ++ (x ∷ []))
in_last a x = omega (arith, count_append x a (x ∷ []), count_same x [])

pub count_erase_same : (x : ℕ) (l : List ℕ) → count x (erase x l) ≡ count x l - 1
count_erase_same x [] = omega arith
count_erase_same x (y ∷ l) = by_bool (eqb x y) (λ e. rw e (omega arith)) (λ e. rw (e, e) (count_erase_same x l))

pub count_erase_other : (x y : ℕ) (l : List ℕ) → (x ≡ y → ⊥) → count x (erase y l) ≡ count x l
count_erase_other x y [] h = refl
count_erase_other x y (z ∷ l) h =
    by_eqb y z
    (λ e q. rw (e, ne_eqb x z (λ w. h (w ∙ sym q))))
    (λ e q. rw e (by_bool (eqb x z) (λ f. rw (f, count_erase_other x y l h)) (λ f. rw (f, count_erase_other x y l h))))

-- a row that stands in the list, taken out and put last
pub erase_last : (i : ℕ) (l : List ℕ) → In i l → Same (erase i l ++ (i ∷ [])) l
erase_last i l h x = count_append x (erase i l) (i ∷ []) ∙ by_eqb x i
    (λ _ q. rw q (omega (arith, count_erase_same i l, count_same i [])))
    (λ _ q. omega (arith, count_erase_other x i l q, count_other x i [] q))

pub length_erase : (x : ℕ) (l : List ℕ) → In x l → suc (length (erase x l)) ≡ length l
length_erase x [] i = absurd (omega arith)
length_erase x (y ∷ ys) i = by_bool (eqb x y) (λ e. rw e) (λ e. rw e (omega (arith, length_erase x ys (rw e at i))))

-- a row of a list parts it
pub record Parted (x : ℕ) (l : List ℕ) : Type 0 where
  pub above : List ℕ
  pub below : List ℕ
  pub whole : l ≡ above ++ (x ∷ below)

pub part : (x : ℕ) (l : List ℕ) → In x l → Parted x l
part x [] h = absurd (omega arith)
part x (y ∷ l) h =
    by_eqb x y
    (λ e q. record { above = []; below = l; whole = rw q })
    (λ e q. let r = part x l (rw e at h) in record { above = y ∷ r.above; below = r.below; whole = rw (← r.whole) })

-- the last row of the list that passes a test, with none after it
pub record LastOf (p : ℕ → Bool) (l : List ℕ) : Type 0 where
  pub row : ℕ
  pub above : List ℕ
  pub below : List ℕ
  pub whole : l ≡ above ++ (row ∷ below)
  pub passing : p row ≡ true
  pub after : (y : ℕ) → In y below → p y ≡ false

last_or_none : (p : ℕ → Bool) (l : List ℕ) → LastOf p l ⊎ ((y : ℕ) → In y l → p y ≡ false)
last_or_none p [] = inr (λ y i. absurd (omega arith))
last_or_none p (x ∷ l) = go (last_or_none p l)
  where
    go : LastOf p l ⊎ ((y : ℕ) → In y l → p y ≡ false) → LastOf p (x ∷ l) ⊎ ((y : ℕ) → In y (x ∷ l) → p y ≡ false)
    go (inl r) =
        inl (record { row = r.row; above = x ∷ r.above; below = r.below; whole = rw (← r.whole); passing = r.passing; after = r.after })
    go (inr h) =
        by_bool (p x)
        (λ e. inl (record { row = x; above = []; below = l; whole = refl; passing = e; after = h }))
        (λ e. inr (λ y i. by_eqb y x (λ f q. rw q e) (λ f q. h y (rw f at i))))

pub last_of : (p : ℕ → Bool) (l : List ℕ) (x : ℕ) → In x l → p x ≡ true → LastOf p l
last_of p l x i e = go (last_or_none p l)
  where
    go : LastOf p l ⊎ ((y : ℕ) → In y l → p y ≡ false) → LastOf p l
    go (inl r) = r
    go (inr h) = absurd (not_both (p x) e (h x i))

-- sums

pub sum_append : (f : ℕ → ℕ) (a b : List ℕ) → sum f (a ++ b) ≡ sum f a + sum f b
sum_append f [] b = omega arith
sum_append f (x ∷ a) b = omega (arith, sum_append f a b)

pub sum_erase : (f : ℕ → ℕ) (x : ℕ) (l : List ℕ) → In x l → sum f l ≡ f x + sum f (erase x l)
sum_erase f x [] h = absurd (omega arith)
sum_erase f x (y ∷ l) h = by_eqb x y (λ e q. rw (e, q)) (λ e q. rw e (omega (arith, sum_erase f x l (rw e at h))))

-- fewer rows, less in sum
pub sum_within : (f : ℕ → ℕ) (a b : List ℕ) → Within a b → sum f a ≤ sum f b
sum_within f [] b h = omega arith
sum_within f (x ∷ a) b h =
    let i : In x b = omega (arith, h x, count_same x a) in
    omega (arith, sum_erase f x b i, sum_within f a (erase x b) (λ y. less y))
  where
    less : (y : ℕ) → count y a ≤ count y (erase x b)
    less y = by_eqb y x
        (λ e q. rw (q, count_erase_same x b) (omega (arith, h x, count_same x a)))
        (λ e q. rw (count_erase_other y x b q) (omega (arith, h y, count_other y x a q)))

pub sum_same : (f : ℕ → ℕ) (a b : List ℕ) → Same a b → sum f a ≡ sum f b
sum_same f a b h = omega (arith, sum_within f a b (λ x. omega (arith, h x)), sum_within f b a (λ x. omega (arith, h x)))

size : (l : List ℕ) → length l ≡ sum (λ _. 1) l
size [] = refl
size (x ∷ l) = omega (arith, size l)

-- lists of the same rows are of one length
pub same_size : (a b : List ℕ) → Same a b → length a ≡ length b
same_size a b s = omega (arith, size a, size b, sum_same (λ _. 1) a b s)

pub in_tail : (x y : ℕ) (l : List ℕ) → In x l → In x (y ∷ l)
in_tail x y l h = by_bool (eqb x y) (λ e. rw e (omega arith)) (λ e. rw e h)

pub in_head : (x : ℕ) (l : List ℕ) → In x (x ∷ l)
in_head x l = omega (arith, count_same x l)

-- an entry of a list stands in it
pub in_entry : (l : List ℕ) (k : ℕ) → k < length l → In (get_or l k 0) l
in_entry [] k h = absurd (omega arith)
in_entry (x ∷ l) zero h = in_head x l
in_entry (x ∷ l) (suc k) h = in_tail (get_or l k 0) x l (in_entry l k (omega arith))

pub sum_le : (f g : ℕ → ℕ) (l : List ℕ) → ((x : ℕ) → In x l → f x ≤ g x) → sum f l ≤ sum g l
sum_le f g [] h = omega arith
sum_le f g (x ∷ l) h = omega (arith, h x (in_head x l), sum_le f g l (λ y i. h y (in_tail y x l i)))

pub sum_eq : (f g : ℕ → ℕ) (l : List ℕ) → ((x : ℕ) → In x l → f x ≡ g x) → sum f l ≡ sum g l
sum_eq f g [] h = refl
sum_eq f g (x ∷ l) h = omega (arith, h x (in_head x l), sum_eq f g l (λ y i. h y (in_tail y x l i)))

pub sum_zero : (f : ℕ → ℕ) (l : List ℕ) → ((x : ℕ) → In x l → f x ≡ 0) → sum f l ≡ 0
sum_zero f [] h = refl
sum_zero f (x ∷ l) h = omega (arith, h x (in_head x l), sum_zero f l (λ y i. h y (in_tail y x l i)))

-- what one row of the list has is part of the sum
pub sum_part : (f : ℕ → ℕ) (x : ℕ) (l : List ℕ) → In x l → f x ≤ sum f l
sum_part f x l h = omega (arith, sum_erase f x l h)

-- no row has more than m
pub sum_most : (f : ℕ → ℕ) (m : ℕ) (l : List ℕ) → ((x : ℕ) → In x l → f x ≤ m) → sum f l ≤ m * length l
sum_most f m [] h = omega arith
sum_most f m (x ∷ l) h = omega (arith, mul-suc m (length l), h x (in_head x l), sum_most f m l (λ y i. h y (in_tail y x l i)))

-- one row falls by one and none grows: the sum falls
pub sum_falls : (f g : ℕ → ℕ) (x : ℕ) (l : List ℕ) → In x l → ((y : ℕ) → In y l → f y ≤ g y) → suc (f x) ≤ g x → suc (sum f l) ≤ sum g l
sum_falls f g x [] i h k = absurd (omega arith)
sum_falls f g x (y ∷ l) i h k =
    by_eqb x y
    (λ e q. omega (arith, rw q at k, sum_le f g l (λ z j. h z (in_tail z y l j))))
    (λ e q. omega (arith, h y (in_head y l), sum_falls f g x l (rw e at i) (λ z j. h z (in_tail z y l j)) k))

-- one row, which stands in the list once, falls by one and the others stay: the sum falls by one
pub sum_falls_one : (f g : ℕ → ℕ) (x : ℕ) (l : List ℕ) → count x l ≡ 1 → ((y : ℕ) → In y l → (y ≡ x → ⊥) → f y ≡ g y) → suc (f x) ≡ g x
    → suc (sum f l) ≡ sum g l
sum_falls_one f g x [] i h k = absurd (omega arith)
sum_falls_one f g x (y ∷ l) i h k =
    by_eqb x y
    (λ e q. omega (arith, rw q at k, sum_eq f g l (λ z j. h z (in_tail z y l j) (λ w. absent e z j w))))
    (λ e q. omega (arith, h y (in_head y l) (λ w. q (sym w)), sum_falls_one f g x l (rw e at i) (λ z j. h z (in_tail z y l j)) k))
  where
    absent : eqb x y ≡ true → (z : ℕ) → In z l → z ≡ x → ⊥
    absent e z j w = let n : suc (count x l) ≡ 1 = rw e at i in let m : 1 ≤ count x l = rw w at j in omega arith

-- the first row that passes a test

first_on : (p : ℕ → Bool) (x : ℕ) (l : List ℕ) → p x ≡ true → first p (x ∷ l) ≡ x
first_on p x l e = rw e

first_off : (p : ℕ → Bool) (x : ℕ) (l : List ℕ) → p x ≡ false → first p (x ∷ l) ≡ first p l
first_off p x l e = rw e

pub first_in : (p : ℕ → Bool) (l : List ℕ) → (first p l ≡ 0 → ⊥) → In (first p l) l
first_in p [] h = absurd (h refl)
first_in p (x ∷ l) h =
    by_bool (p x)
    (λ e. subst (λ (w : ℕ). In w (x ∷ l)) (sym (first_on p x l e)) (in_head x l))
    (λ e. subst (λ (w : ℕ). In w (x ∷ l)) (sym (first_off p x l e)) (in_tail (first p l) x l (first_in p l (rw e at h))))

pub first_passes : (p : ℕ → Bool) (l : List ℕ) → (first p l ≡ 0 → ⊥) → p (first p l) ≡ true
first_passes p [] h = absurd (h refl)
first_passes p (x ∷ l) h = by_bool (p x) (λ e. rw (e, e)) (λ e. rw e (first_passes p l (rw e at h)))

-- where a row above passes, the first that passes is one of those above
pub first_above : (p : ℕ → Bool) (a b : List ℕ) (x : ℕ) → In x a → p x ≡ true → In (first p (a ++ b)) a
first_above p [] b x i e = absurd (omega arith)
first_above p (y ∷ a) b x i e =
    by_bool (p y)
    (λ f. subst (λ (w : ℕ). In w (y ∷ a)) (sym (first_on p y (a ++ b) f)) (in_head y a))
    (λ f. subst (λ (w : ℕ). In w (y ∷ a)) (sym (first_off p y (a ++ b) f))
    (in_tail (first p (a ++ b)) y a (first_above p a b x (rw (ne_eqb x y (λ w. not_both (p y) (rw w at e) f)) at i) e)))

-- where the first that passes is 0, and 0 is no row of the list, no row passes
pub first_none : (p : ℕ → Bool) (l : List ℕ) → (In 0 l → ⊥) → first p l ≡ 0 → (x : ℕ) → In x l → p x ≡ false
first_none p [] z h x i = absurd (omega arith)
first_none p (y ∷ l) z h x i =
    by_bool (p y)
    (λ e. let w : y ≡ 0 = rw e at h in absurd (z (rw w (in_head 0 l))))
    (λ e. by_eqb x y (λ f q. rw q e) (λ f q. first_none p l (λ k. z (in_tail 0 y l k)) (rw e at h) x (rw f at i)))

-- the numbers that pass a test, of two lists, one after the other
pub keep_append : (p : ℕ → Bool) (a b : List ℕ) → keep p (a ++ b) ≡ keep p a ++ keep p b
keep_append p [] b = refl
keep_append p (x ∷ a) b = by_bool (p x) (λ e. rw (e, keep_append p a b)) (λ e. rw (e, keep_append p a b))

-- all numbers pass
pub keep_all : (p : ℕ → Bool) (l : List ℕ) → ((x : ℕ) → In x l → p x ≡ true) → keep p l ≡ l
keep_all p [] h = refl
keep_all p (x ∷ l) h = rw (h x (in_head x l), keep_all p l (λ y i. h y (in_tail y x l i)))

-- a list without an entry, a list that holds no row, and a row that stands in a list
pub empty : (l : List ℕ) → length l ≡ 0 → l ≡ []
empty [] e = refl
empty (x ∷ l) e = absurd (omega arith)

pub nothing_in : (l : List ℕ) → ((x : ℕ) → In x l → ⊥) → l ≡ []
nothing_in [] h = refl
nothing_in (x ∷ l) h = absurd (h x (in_head x l))

pub in_some : (x : ℕ) (l : List ℕ) → In x l → 1 ≤ length l
in_some x [] i = absurd (omega arith)
in_some x (y ∷ l) i = omega arith

-- an entry of a mapped list
pub map_entry : (g : ℕ → ℕ) (l : List ℕ) (k : ℕ) → k < length l → get_or (map g l) k 0 ≡ g (get_or l k 0)
map_entry g [] k h = absurd (omega arith)
map_entry g (x ∷ l) zero h = refl
map_entry g (x ∷ l) (suc k) h = map_entry g l k (omega arith)
