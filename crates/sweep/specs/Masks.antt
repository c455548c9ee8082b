-- The rows left to place as one 64-bit word: row i is bit i - 1, by division; how many are left is lib.Count's `ones`.
use Rattle.std.specs.Prelude.{Bool, true, false, ◌≡◌, refl, ℕ, zero, suc, min, ◌+◌, ◌-◌, ◌*◌, ◌/◌, ◌%◌, ◌^◌, ◌≤◌, ◌<◌, eqb}
use Rattle.std.proofs.Common.{sym, ap, ap₂, ◌∙◌, subst, pow-suc, not-suc-le-zero, mod-eq_of_lt, mul_assoc, one-add, arith, shr-shr, shl_exact, pow_pos, lit<, eq-eqb, ne_eqb, eqb-true}
use Rattle.std.proofs.Math.Nat.{min-eq_left}
use Rattle.std.proofs.Math.Arith.{lt-one}
use Rattle.std.proofs.Math.Pow.{pow-lt}
use Rattle.std.specs.Int.Bits.{bit_and, bit_or, and_step}
use Rattle.std.proofs.lemmas.Nat.{and_le_l, and_mask, or_disjoint}
use Rattle.std.proofs.lemmas.Nat.Bits.{and_high}
use Rattle.std.specs.Int.Count.{ones, ones_step}
use Rattle.std.proofs.lemmas.Bool.{eqb-false}

-- bit i of m: 0 or 1
unfoldable pub bit : ℕ → ℕ → ℕ
bit m i = m / 2 ^ i % 2

-- row i is left
abbrev pub is_left : ℕ → ℕ → Bool
is_left m i = eqb (bit m (i - 1)) 1

pub bit_zero : (m : ℕ) → bit m 0 ≡ m % 2
unfolding bit
bit_zero m = omega arith

pub bit_suc : (m i : ℕ) → bit m (suc i) ≡ bit (m / 2) i
unfolding bit
bit_suc m i = ap (λ (k : ℕ). m / 2 ^ k % 2) (sym (one-add i)) ∙ ap (λ (k : ℕ). k % 2) (sym (shr-shr m 1 i))

pub bit_lt : (m i : ℕ) → bit m i < 2
unfolding bit
bit_lt m i = omega arith

pub left_bit : (m i : ℕ) → is_left m i ≡ true → bit m (i - 1) ≡ 1
left_bit m i e = eqb-true (bit m (i - 1)) 1 e

pub not_left_bit : (m i : ℕ) → is_left m i ≡ false → bit m (i - 1) ≡ 0
not_left_bit m i e = let n = eqb-false (bit m (i - 1)) 1 e in omega (arith, bit_lt m (i - 1), n)

pub bit_left : (m i : ℕ) → bit m (i - 1) ≡ 1 → is_left m i ≡ true
bit_left m i e = eq-eqb (bit m (i - 1)) 1 e

pub bit_not_left : (m i : ℕ) → bit m (i - 1) ≡ 0 → is_left m i ≡ false
bit_not_left m i e = ne_eqb (bit m (i - 1)) 1 (λ h. omega arith)

-- a set bit's power is part of the number
pub bit_le : (i m : ℕ) → bit m i ≡ 1 → 2 ^ i ≤ m
bit_le zero m h = let e = bit_zero m in omega arith
bit_le (suc i) m h =
    let r = bit_le i (m / 2) (sym (bit_suc m i) ∙ h) in
    omega (arith, pow-suc 2 i)

-- halving a number with its bit (suc i) cleared
half : (i m : ℕ) → 2 ^ i ≤ m / 2 → (m - 2 ^ suc i) / 2 ≡ m / 2 - 2 ^ i
half i m h = omega (arith, pow-suc 2 i)

odd : (i m : ℕ) → 2 ^ i ≤ m / 2 → (m - 2 ^ suc i) % 2 ≡ m % 2
odd i m h = omega (arith, pow-suc 2 i)

-- clearing a set bit: the bit is 0, the others are as they were, and the count falls by one
pub cleared_same : (i m : ℕ) → bit m i ≡ 1 → bit (m - 2 ^ i) i ≡ 0
cleared_same zero m h = let e = bit_zero m in let f = bit_zero (m - 1) in omega arith
cleared_same (suc i) m h =
    let k = sym (bit_suc m i) ∙ h in
    bit_suc (m - 2 ^ suc i) i ∙ ap (λ (x : ℕ). bit x i) (half i m (bit_le i (m / 2) k)) ∙ cleared_same i (m / 2) k

pub cleared_other : (i j m : ℕ) → bit m i ≡ 1 → (j ≡ i → ⊥) → bit (m - 2 ^ i) j ≡ bit m j
cleared_other zero zero m h n = absurd (n refl)
cleared_other zero (suc j) m h n =
    let e = bit_zero m in
    let d : (m - 1) / 2 ≡ m / 2 = omega arith in
    bit_suc (m - 1) j ∙ ap (λ (x : ℕ). bit x j) d ∙ sym (bit_suc m j)
cleared_other (suc i) zero m h n =
    let k = sym (bit_suc m i) ∙ h in
    bit_zero (m - 2 ^ suc i) ∙ odd i m (bit_le i (m / 2) k) ∙ sym (bit_zero m)
cleared_other (suc i) (suc j) m h n =
    let k = sym (bit_suc m i) ∙ h in
    bit_suc (m - 2 ^ suc i) j ∙ ap (λ (x : ℕ). bit x j) (half i m (bit_le i (m / 2) k))
    ∙ cleared_other i j (m / 2) k (λ e. n (ap suc e)) ∙ sym (bit_suc m j)

pub cleared_ones : (i m : ℕ) → bit m i ≡ 1 → ones (m - 2 ^ i) + 1 ≡ ones m
cleared_ones zero m h =
    let e = bit_zero m in
    let d : (m - 1) / 2 ≡ m / 2 = omega arith in
    omega (arith, ones_step m, ones_step (m - 1), ap ones d)
cleared_ones (suc i) m h =
    let k = sym (bit_suc m i) ∙ h in
    let l = bit_le i (m / 2) k in
    omega (arith, ones_step m, ones_step (m - 2 ^ suc i), ap ones (half i m l), odd i m l, cleared_ones i (m / 2) k)

-- halving a number with its bit (suc i) set
half_more : (i m : ℕ) → (m + 2 ^ suc i) / 2 ≡ m / 2 + 2 ^ i
half_more i m = omega (arith, pow-suc 2 i)

-- setting a clear bit: the bit is 1, the others are as they were, and the count grows by one
pub set_same : (i m : ℕ) → bit m i ≡ 0 → bit (m + 2 ^ i) i ≡ 1
set_same zero m h = let e = bit_zero m in let f = bit_zero (m + 1) in omega arith
set_same (suc i) m h =
    bit_suc (m + 2 ^ suc i) i ∙ ap (λ (x : ℕ). bit x i) (half_more i m) ∙ set_same i (m / 2) (sym (bit_suc m i) ∙ h)

pub set_other : (i j m : ℕ) → bit m i ≡ 0 → (j ≡ i → ⊥) → bit (m + 2 ^ i) j ≡ bit m j
set_other i j m h n =
    let w : m + 2 ^ i - 2 ^ i ≡ m = omega arith in
    sym (cleared_other i j (m + 2 ^ i) (set_same i m h) n) ∙ ap (λ (x : ℕ). bit x j) w

pub set_ones : (i m : ℕ) → bit m i ≡ 0 → ones (m + 2 ^ i) ≡ ones m + 1
set_ones i m h =
    let w : m + 2 ^ i - 2 ^ i ≡ m = omega arith in
    omega (arith, cleared_ones i (m + 2 ^ i) (set_same i m h), ap ones w)

-- the first n rows: each has its bit, and no other
pub full_bit : (n i : ℕ) → i < n → bit (2 ^ n - 1) i ≡ 1
full_bit zero i h = absurd (not-suc-le-zero h)
full_bit (suc n) zero h = omega (arith, bit_zero (2 ^ suc n - 1), pow-suc 2 n, pow_pos n)
full_bit (suc n) (suc i) h =
    let e : (2 ^ suc n - 1) / 2 ≡ 2 ^ n - 1 = omega (arith, pow-suc 2 n, pow_pos n) in
    bit_suc (2 ^ suc n - 1) i ∙ ap (λ (x : ℕ). bit x i) e ∙ full_bit n i (omega arith)

pub zero_bit : (i : ℕ) → bit 0 i ≡ 0
zero_bit zero = bit_zero 0
zero_bit (suc i) = bit_suc 0 i ∙ zero_bit i

pub above : (n i m : ℕ) → m < 2 ^ n → n ≤ i → bit m i ≡ 0
above zero i m l h = ap (λ (x : ℕ). bit x i) (lt-one l) ∙ zero_bit i
above (suc n) zero m l h = absurd (not-suc-le-zero h)
above (suc n) (suc i) m l h = bit_suc m i ∙ above n i (m / 2) (omega (arith, pow-suc 2 n)) (omega arith)

pub full_above : (n i : ℕ) → n ≤ i → bit (2 ^ n - 1) i ≡ 0
full_above n i h = above n i (2 ^ n - 1) (omega (arith, pow_pos n)) h

-- what the machine computes, as powers

pub one_shl : (i : ℕ) → i < 64 → (1 * 2 ^ i) % 2 ^ 64 ≡ 2 ^ i
one_shl i h = shl_exact 1 i 64 (lit< tt) (omega arith) ∙ omega arith

and_pow : (m i : ℕ) → bit_and m (2 ^ i) ≡ bit m i * 2 ^ i
unfolding bit
and_pow m i =
    let e : 2 ^ (1 + i) - 2 ^ i ≡ 2 ^ i = omega (arith, pow-suc 2 i, ap (λ (k : ℕ). 2 ^ k) (one-add i)) in
    ap (bit_and m) (sym e) ∙ and_high m 1 i

-- m | (1 << i)
pub or_pow : (m i : ℕ) → bit m i ≡ 0 → bit_or m (2 ^ i) ≡ m + 2 ^ i
or_pow m i h = or_disjoint m (2 ^ i) (and_pow m i ∙ ap (λ (b : ℕ). b * 2 ^ i) h ∙ omega arith)

put_back : (m r b x : ℕ) → b ≤ m / 2 → r ≡ (m / 2 - b) * 2 + m % 2 → x ≡ b * 2 → r ≡ m - x
put_back m r b x h e f = omega arith

-- m & !(1 << i) at a width w: the bit's power is taken off where it is there
pub and_not : (i w m : ℕ) → i < w → m < 2 ^ w → bit_and m ((2 ^ w - 1) - 2 ^ i) ≡ m - bit m i * 2 ^ i
and_not i zero m h l = absurd (not-suc-le-zero h)
and_not zero (suc w) m h l =
    let q = 2 ^ suc w - 1 - 1 in
    let p = pow-suc 2 w in
    let half-q : q / 2 ≡ 2 ^ w - 1 = omega (arith, pow_pos w) in
    let even-q : q % 2 ≡ 0 = omega (arith, pow_pos w) in
    let small : m / 2 < 2 ^ w = omega arith in
    let rest : bit_and (m / 2) (q / 2) ≡ m / 2 = ap (bit_and (m / 2)) half-q ∙ and_mask (m / 2) w ∙ mod-eq_of_lt small in
    omega (arith, and_step m q, bit_zero m)
and_not (suc i) (suc w) m h l =
    let q = 2 ^ suc w - 1 - 2 ^ suc i in
    let p = pow-suc 2 w in
    let p' = pow-suc 2 i in
    let below = pow-lt {i = i} {j = w} (omega arith) in
    let half-q : q / 2 ≡ 2 ^ w - 1 - 2 ^ i = omega arith in
    let odd-q : q % 2 ≡ 1 = omega arith in
    let small : m / 2 < 2 ^ w = omega arith in
    let rest : bit_and (m / 2) (q / 2) ≡ m / 2 - bit (m / 2) i * 2 ^ i = ap (bit_and (m / 2)) half-q ∙ and_not i w (m / 2) (omega arith) small in
    let part : bit m (suc i) * 2 ^ suc i ≡ bit (m / 2) i * 2 ^ i * 2 =
    ap₂ (λ (x y : ℕ). x * y) (bit_suc m i) p' ∙ sym (mul_assoc (bit (m / 2) i) (2 ^ i) 2) in
    let within : bit (m / 2) i * 2 ^ i ≤ m / 2 = subst (λ (x : ℕ). x ≤ m / 2) (and_pow (m / 2) i) (and_le_l (m / 2) (2 ^ i)) in
    put_back m (bit_and m q) (bit (m / 2) i * 2 ^ i) (bit m (suc i) * 2 ^ suc i) within
    (and_step m q ∙ ap₂ (λ (x y : ℕ). x * 2 + y) rest (ap (min (m % 2)) odd-q ∙ min-eq_left (omega arith))) part

-- m & !(1 << i) where the bit is set
pub clear_pow : (i m : ℕ) → i < 64 → m < 2 ^ 64 → bit m i ≡ 1 → bit_and m ((2 ^ 64 - 1) - 2 ^ i) ≡ m - 2 ^ i
clear_pow i m h l e = and_not i 64 m h l ∙ ap (λ (b : ℕ). m - b * 2 ^ i) e ∙ omega arith
