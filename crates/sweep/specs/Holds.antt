-- A word of rows left and a list of the same rows.
use Rattle.std.specs.Prelude.{ℕ, zero, suc, ◌+◌, ◌-◌, ◌^◌, ◌≤◌, ◌<◌, Bool, true, false, ◌≡◌, refl, List, [], ◌∷◌, ◌++◌, eqb, length}
use Rattle.std.proofs.Math.Path.{sym}
use Rattle.std.proofs.Common.{ap, subst, ◌∙◌, pow-suc, arith, pow_pos, eq-eqb}
use Rattle.std.specs.Int.Count.{ones}
use Rattle.rules.specs.Lists.{rows_to, count, keep, erase}
use Rattle.rules.specs.Choice.{word}
use Rattle.theory.specs.Tests.{by_bool, by_eqb, by-ltb}
use Rattle.theory.specs.Counts.{In, Within, Same, Once, count_same, count_other, count_append, count_erase_same, count_erase_other, length_erase, sum_erase}
use Rattle.theory.specs.Counts.{sum_same, in_head, in_tail, same_size}
use Rattle.sweep.specs.Masks.{bit, is_left, bit_lt, left_bit, not_left_bit, bit_left, bit_not_left, cleared_same, cleared_other, cleared_ones}
use Rattle.sweep.specs.Masks.{set_same, set_other, set_ones, zero_bit, full_above}

-- the word m has exactly the rows of the list l, each once
pub record Holds (m : ℕ) (l : List ℕ) : Type 0 where
  pub bits : (j : ℕ) → 1 ≤ j → bit m (j - 1) ≡ count j l
  pub none : count 0 l ≡ 0
  pub few : (j : ℕ) → 64 < j → count j l ≡ 0
  pub sums : m ≡ word l
  pub size : ones m ≡ length l

-- the order of the list does not matter
pub holds_same : (m : ℕ) (a b : List ℕ) → Same a b → Holds m a → Holds m b
unfolding word
holds_same m a b h p =
    record {
      bits = λ j q. p.bits j q ∙ h j;
      none = sym (h 0) ∙ p.none;
      few = λ j q. sym (h j) ∙ p.few j q;
      sums = p.sums ∙ sum_same (λ i. 2 ^ (i - 1)) a b h;
      size = p.size ∙ same_size a b h;
    }

pub holds_empty : Holds 0 []
unfolding word ones
holds_empty = record { bits = λ j q. zero_bit (j - 1); none = refl; few = λ j q. refl; sums = refl; size = refl }

module _ (m : ℕ) (l : List ℕ) (i : ℕ) (i1 : 1 ≤ i) (i64 : i ≤ 64) (p : Holds m l) where
  -- a row of the list is taken out
  pub holds_without : count i l ≡ 1 → Holds (m - 2 ^ (i - 1)) (erase i l)
  unfolding word
  holds_without h =
      record {
        bits = λ j q. by_eqb j i
            (λ e w. rw (w, count_erase_same i l, h) (cleared_same (i - 1) m b))
            (λ e w. cleared_other (i - 1) (j - 1) m b (λ z. w (omega arith)) ∙ p.bits j q ∙ sym (count_erase_other j i l w));
        none = count_erase_other 0 i l (λ w. omega arith) ∙ p.none;
        few = λ j q. count_erase_other j i l (λ w. omega arith) ∙ p.few j q;
        sums = omega (arith, p.sums, sum_erase (λ j. 2 ^ (j - 1)) i l (omega arith));
        size = omega (arith, p.size, cleared_ones (i - 1) m b, length_erase i l (omega arith));
      }
    where
      b : bit m (i - 1) ≡ 1
      b = p.bits i i1 ∙ h

  -- a row is put in front
  pub holds_with : count i l ≡ 0 → Holds (m + 2 ^ (i - 1)) (i ∷ l)
  unfolding word
  holds_with h =
      record {
        bits = λ j q. by_eqb j i
            (λ e w. subst (λ (z : ℕ). bit (m + 2 ^ (i - 1)) (z - 1) ≡ count z (i ∷ l)) (sym w) (set_same (i - 1) m b ∙ sym (count_same i l ∙ ap suc h)))
            (λ e w. set_other (i - 1) (j - 1) m b (λ z. w (omega arith)) ∙ p.bits j q ∙ sym (count_other j i l w));
        none = count_other 0 i l (λ w. omega arith) ∙ p.none;
        few = λ j q. count_other j i l (λ w. omega arith) ∙ p.few j q;
        sums = omega (arith, p.sums);
        size = omega (arith, p.size, set_ones (i - 1) m b);
      }
    where
      b : bit m (i - 1) ≡ 0
      b = p.bits i i1 ∙ h

  -- a row is put at the end
  pub holds_with_last : count i l ≡ 0 → Holds (m + 2 ^ (i - 1)) (l ++ (i ∷ []))
  holds_with_last h = holds_same (m + 2 ^ (i - 1)) (i ∷ l) (l ++ (i ∷ [])) turned (holds_with h)
    where
      turned : Same (i ∷ l) (l ++ (i ∷ []))
      turned x = by_bool (eqb x i)
          (λ e. rw (count_append x l (i ∷ []), e) (omega arith))
          (λ e. rw (count_append x l (i ∷ []), e) (omega arith))

holds_rows : (n : ℕ) → n ≤ 64 → Holds (2 ^ n - 1) (rows_to n)
holds_rows zero h = holds_empty
holds_rows (suc k) h =
    let p = holds_rows k (omega arith) in
    let e : suc k - 1 ≡ k = omega arith in
    let z : bit (2 ^ k - 1) (suc k - 1) ≡ 0 = full_above k (suc k - 1) (omega arith) in
    let w : 2 ^ k - 1 + 2 ^ (suc k - 1) ≡ 2 ^ suc k - 1 = omega (arith, pow-suc 2 k, pow_pos k, ap (λ (j : ℕ). 2 ^ j) e) in
    subst (λ (m : ℕ). Holds m (rows_to (suc k))) w
    (holds_with_last (2 ^ k - 1) (rows_to k) (suc k) (omega arith) h p (sym (p.bits (suc k) (omega arith)) ∙ z))

-- the first n rows, in any order
pub holds_start : (n : ℕ) (l : List ℕ) → n ≤ 64 → Same l (rows_to n) → Holds (2 ^ n - 1) l
holds_start n l h s = holds_same (2 ^ n - 1) (rows_to n) l (λ x. sym (s x)) (holds_rows n h)

-- how a row of the word stands in the list

module _ (m : ℕ) (l : List ℕ) (p : Holds m l) where
  pub holds_once : Once l
  holds_once zero = omega (arith, p.none)
  holds_once (suc x) = omega (arith, p.bits (suc x) (omega arith), bit_lt m (suc x - 1))

  pub holds_row : (x : ℕ) → In x l → (1 ≤ x) × (x ≤ 64)
  holds_row x i = (low x i, high)
    where
      low : (x : ℕ) → In x l → 1 ≤ x
      low zero i = absurd (omega (arith, p.none))
      low (suc x) i = omega arith

      high : x ≤ 64
      high = by-ltb 64 x (λ e q. absurd (omega (arith, p.few x q))) (λ e q. q)

  pub holds_in : (x : ℕ) → In x l → is_left m x ≡ true
  holds_in x i = let q = holds_row x i in bit_left m x (omega (arith, p.bits x q.0, holds_once x))

  pub holds_left : (x : ℕ) → 1 ≤ x → is_left m x ≡ true → count x l ≡ 1
  holds_left x q e = sym (p.bits x q) ∙ left_bit m x e

  pub holds_not_left : (x : ℕ) → 1 ≤ x → is_left m x ≡ false → count x l ≡ 0
  holds_not_left x q e = sym (p.bits x q) ∙ not_left_bit m x e

-- the rows of a list that are left

pub count_kept : (f : ℕ → Bool) (x : ℕ) (l : List ℕ) → f x ≡ true → count x (keep f l) ≡ count x l
count_kept f x [] e = refl
count_kept f x (y ∷ l) e =
    by_eqb x y
    (λ w q. rw (← q, e, eq-eqb x x refl, count_kept f x l e))
    (λ w q. by_bool (f y) (λ g. rw (g, w) (count_kept f x l e)) (λ g. rw (g, w) (count_kept f x l e)))

pub count_dropped : (f : ℕ → Bool) (x : ℕ) (l : List ℕ) → f x ≡ false → count x (keep f l) ≡ 0
count_dropped f x [] e = refl
count_dropped f x (y ∷ l) e =
    by_eqb x y
    (λ w q. rw (← q, e) (count_dropped f x l e))
    (λ w q. by_bool (f y) (λ g. rw (g, w) (count_dropped f x l e)) (λ g. rw g (count_dropped f x l e)))

pub count_keep_le : (f : ℕ → Bool) (x : ℕ) (l : List ℕ) → count x (keep f l) ≤ count x l
count_keep_le f x l = by_bool (f x) (λ e. omega (arith, count_kept f x l e)) (λ e. omega (arith, count_dropped f x l e))

-- of a list in which each row stands once and the word's rows among them, those left are the word's
pub keep_left : (m : ℕ) (l all : List ℕ) → Holds m l → Once all → count 0 all ≡ 0 → Within l all → Same (keep (is_left m) all) l
keep_left m l all p o z h zero = omega (arith, p.none, count_keep_le (is_left m) 0 all)
keep_left m l all p o z h (suc x) =
    by_bool (is_left m (suc x))
    (λ e. omega (arith, count_kept (is_left m) (suc x) all e, holds_left m l p (suc x) (omega arith) e, o (suc x), h (suc x)))
    (λ e. omega (arith, count_dropped (is_left m) (suc x) all e, holds_not_left m l p (suc x) (omega arith) e))

pub keep_same : (f g : ℕ → Bool) (l : List ℕ) → ((x : ℕ) → In x l → f x ≡ g x) → keep f l ≡ keep g l
keep_same f g [] h = refl
keep_same f g (x ∷ l) h = rw (h x (in_head x l), keep_same f g l (λ y i. h y (in_tail y x l i)))

pub count_tail : (x y : ℕ) (l : List ℕ) → count x l ≤ count x (y ∷ l)
count_tail x y l = by_bool (eqb x y) (λ e. rw e (omega arith)) (λ e. rw e (omega arith))

not_zero : (x : ℕ) (l : List ℕ) → count 0 (x ∷ l) ≡ 0 → 1 ≤ x
not_zero zero l z = absurd (omega (arith, count_same 0 l))
not_zero (suc x) l z = omega arith

module _ (m i : ℕ) (i1 : 1 ≤ i) (b : bit m (i - 1) ≡ 1) where
  -- the other rows stay left, or not
  pub left_other : (x : ℕ) → 1 ≤ x → (x ≡ i → ⊥) → is_left (m - 2 ^ (i - 1)) x ≡ is_left m x
  left_other x x1 n = ap (λ (d : ℕ). eqb d 1) (cleared_other (i - 1) (x - 1) m b (λ w. n (omega arith)))

  -- with a row taken out of the word, the rows left lose it
  pub keep_without : (all : List ℕ) → Once all → count 0 all ≡ 0 → keep (is_left (m - 2 ^ (i - 1))) all ≡ erase i (keep (is_left m) all)
  keep_without [] o z = refl
  keep_without (x ∷ l) o z =
      by_eqb i x
      (λ e q. rw (← q, bit_not_left (m - 2 ^ (i - 1)) i (cleared_same (i - 1) m b), bit_left m i b, eq-eqb i i refl)
      (keep_same (is_left (m - 2 ^ (i - 1))) (is_left m) l (λ y j. left_other y (known y j) (λ w. absent y j (w ∙ q)))))
      (λ e q. rw (left_other x (not_zero x l z) (λ w. q (sym w)), keep_without l (λ y. omega (arith, o y, count_tail y x l)) (omega (arith, count_tail 0 x l)))
      (by_bool (is_left m x) (λ g. rw (g, e)) (λ g. rw g)))
    where
      absent : (y : ℕ) → In y l → y ≡ x → ⊥
      absent y j w = let n : 1 ≤ count x l = rw w at j in omega (arith, o x, count_same x l)

      known : (y : ℕ) → In y l → 1 ≤ y
      known zero j = absurd (omega (arith, count_tail 0 x l))
      known (suc y) j = omega arith
