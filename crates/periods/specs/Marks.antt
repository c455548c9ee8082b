-- The entries of a list whose row passes a test, as a word.
use Rattle.std.specs.Prelude.{ℕ, zero, suc, min, max, ◌+◌, ◌-◌, ◌*◌, ◌/◌, ◌%◌, ◌^◌, ◌<◌, Bool, true, false, cond, ◌≡◌, List, [], ◌∷◌, length, get_or, take}
use Rattle.std.proofs.Common.{sym, ap, ◌∙◌, pow-suc, add-one, arith}
use Rattle.std.specs.Int.Bits.{bit_and, bit_or, and_step, or_step}
use Rattle.theory.specs.Tests.{by_bool, by_eqb}
use Rattle.sweep.specs.Masks.{bit, bit_zero, bit_suc, bit_lt, zero_bit, set_same, set_other}

module _ (p : ℕ → Bool) where
  -- entry i, from 0, is bit i
  abbrev pub marks : List ℕ → ℕ
  marks [] = 0
  marks (x ∷ xs) = cond (p x) 1 0 + 2 * marks xs

  marks_odd : (x : ℕ) (l : List ℕ) → marks (x ∷ l) % 2 ≡ cond (p x) 1 0
  marks_odd x l = by_bool (p x) (λ e. rw e (omega arith)) (λ e. rw e (omega arith))

  marks_half : (x : ℕ) (l : List ℕ) → marks (x ∷ l) / 2 ≡ marks l
  marks_half x l = by_bool (p x) (λ e. rw e (omega arith)) (λ e. rw e (omega arith))

  pub marks_bit : (l : List ℕ) (i : ℕ) → i < length l → bit (marks l) i ≡ cond (p (get_or l i 0)) 1 0
  marks_bit [] i h = absurd (omega arith)
  marks_bit (x ∷ l) zero h = bit_zero (marks (x ∷ l)) ∙ marks_odd x l
  marks_bit (x ∷ l) (suc i) h = bit_suc (marks (x ∷ l)) i ∙ ap (λ (m : ℕ). bit m i) (marks_half x l) ∙ marks_bit l i (omega arith)

  -- one entry more
  pub marks_clear : (l : List ℕ) (k : ℕ) → bit (marks (take k l)) k ≡ 0
  marks_clear l zero = zero_bit 0
  marks_clear [] (suc k) = zero_bit (suc k)
  marks_clear (x ∷ l) (suc k) = bit_suc (marks (x ∷ take k l)) k ∙ ap (λ (m : ℕ). bit m k) (marks_half x (take k l)) ∙ marks_clear l k

  pub marks_more : (l : List ℕ) (k : ℕ) → k < length l → marks (take (suc k) l) ≡ marks (take k l) + cond (p (get_or l k 0)) (2 ^ k) 0
  marks_more [] k h = absurd (omega arith)
  marks_more (x ∷ l) zero h = by_bool (p x) (λ e. rw e) (λ e. rw e)
  marks_more (x ∷ l) (suc k) h =
      let e = marks_more l k (omega arith) in
      by_bool (p (get_or l k 0))
      (λ f. rw f (omega (arith, rw f at e, pow-suc 2 k)))
      (λ f. rw f (omega (arith, rw f at e)))

  -- a row that passes has its entry's bit set in the word, another leaves it as it is
  pub marked : (l : List ℕ) (k m w : ℕ) → k < length l → m ≡ marks (take k l) → p (get_or l k 0) ≡ true → w ≡ m + 2 ^ (k + 1 - 1) → w ≡ marks (take (k + 1) l)
  marked l k m w h e t q =
      let z : k + 1 - 1 ≡ k = omega arith in
      rw (add-one k) (omega (arith, q, e, marks_more l k h, ap (λ (b : Bool). cond b (2 ^ k) 0) t, ap (λ (j : ℕ). 2 ^ j) z))

  pub not_marked : (l : List ℕ) (k m : ℕ) → k < length l → m ≡ marks (take k l) → p (get_or l k 0) ≡ false → m ≡ marks (take (k + 1) l)
  not_marked l k m h e t = rw (add-one k) (omega (arith, e, marks_more l k h, ap (λ (b : Bool). cond b (2 ^ k) 0) t))

-- a bit of both words
pub bit_and_lem : (a b i : ℕ) → bit (bit_and a b) i ≡ min (bit a i) (bit b i)
bit_and_lem a b zero = let s = and_step a b in omega (arith, bit_zero (bit_and a b), bit_zero a, bit_zero b, s)
bit_and_lem a b (suc i) =
    let s = and_step a b in
    let h : bit_and a b / 2 ≡ bit_and (a / 2) (b / 2) = omega (arith, s) in
    omega (arith, bit_suc (bit_and a b) i, bit_suc a i, bit_suc b i, ap (λ (m : ℕ). bit m i) h, bit_and_lem (a / 2) (b / 2) i)

-- a bit of either word
pub bit_or_lem : (a b i : ℕ) → bit (bit_or a b) i ≡ max (bit a i) (bit b i)
bit_or_lem a b zero = let s = or_step a b in omega (arith, bit_zero (bit_or a b), bit_zero a, bit_zero b, s)
bit_or_lem a b (suc i) =
    let s = or_step a b in
    let h : bit_or a b / 2 ≡ bit_or (a / 2) (b / 2) = omega (arith, s) in
    omega (arith, bit_suc (bit_or a b) i, bit_suc a i, bit_suc b i, ap (λ (m : ℕ). bit m i) h, bit_or_lem (a / 2) (b / 2) i)

pub or_left : (a b i : ℕ) → bit a i ≡ 1 → bit (bit_or a b) i ≡ 1
or_left a b i e = omega (arith, bit_or_lem a b i, bit_lt b i)

pub or_right : (a b i : ℕ) → bit b i ≡ 1 → bit (bit_or a b) i ≡ 1
or_right a b i e = omega (arith, bit_or_lem a b i, bit_lt a i)

pub or_neither : (a b i : ℕ) → bit (bit_or a b) i ≡ 0 → (bit a i ≡ 0) × (bit b i ≡ 0)
or_neither a b i e = (omega (arith, bit_or_lem a b i), omega (arith, bit_or_lem a b i))

pub by-or {ℓ} : {P : Type ℓ} (a b i : ℕ) → bit (bit_or a b) i ≡ 1 → (bit a i ≡ 1 → P) → (bit b i ≡ 1 → P) → P
by-or a b i e f g = by_eqb (bit a i) 1 (λ _ q. f q) (λ _ q. g (omega (arith, bit_or_lem a b i, bit_lt a i, bit_lt b i, q)))

-- the word of one entry
pub one_same : (i : ℕ) → bit (2 ^ i) i ≡ 1
one_same i = let e : 0 + 2 ^ i ≡ 2 ^ i = omega arith in ap (λ (m : ℕ). bit m i) (sym e) ∙ set_same i 0 (zero_bit i)

pub one_other : (i j : ℕ) → bit (2 ^ i) j ≡ 1 → j ≡ i
one_other i j h =
    let e : 0 + 2 ^ i ≡ 2 ^ i = omega arith in
    by_eqb j i
    (λ _ q. q)
    (λ _ q. absurd (omega (arith, ap (λ (m : ℕ). bit m j) e, set_other i j 0 (zero_bit i) q, zero_bit j)))
