-- The number of a field that was written is the number: below 100,000,000 nothing is lost, and what is written is a well-formed field.
use Rattle.std.specs.Prelude.{ℕ, zero, suc, ◌+◌, ◌-◌, ◌*◌, ◌/◌, ◌%◌, ◌^◌, ◌≤◌, ◌<◌, true, List, [], ◌∷◌, map, ◌≡◌, refl, eqb, get_or}
use Rattle.std.proofs.Common.{sym, ap, ◌∙◌, div-one, div-add-mod', add-mul, mul_assoc, mul_comm, pow-suc, arith, le-leb, eq-eqb}
use Rattle.std.proofs.Math.Nat.{div-eq_of_lt, div-div-eq-div-mul}
use Rattle.rules.specs.Lists.{same}
use Rattle.texts.specs.Fields.{digit_at, written, digit_of, weigh, value_of, is_field}
use Rattle.theory.specs.Tests.{by_bool, by-leb}
use Rattle.fields.specs.Scan.{powers}

-- ---- one digit
pub digit_back : (d : ℕ) → d ≤ 9 → digit_of (48 + d) ≡ d
unfolding digit_of
digit_back d h = rw (le-leb 48 (48 + d) (omega arith), le-leb (48 + d) 57 (omega arith)) (omega arith)

space_back : digit_of 32 ≡ 0
unfolding digit_of
space_back = refl

-- what the byte of v at a weight adds is v's digit there; before the first digit that is 0
byte_back : (v w : ℕ) → 1 ≤ w → digit_of (digit_at v w) ≡ v / w % 10
unfolding digit_at
byte_back v w p =
    by-leb w v
    (λ e h. rw e (digit_back (v / w % 10) (omega arith)))
    (λ e h.
    let z : v / w % 10 ≡ 0 = rw (div-eq_of_lt {n = v} {m = w} (omega arith)) refl in
    by_bool (eqb w 1)
    (λ o. rw (e, o) (digit_back (v / w % 10) (omega arith)))
    (λ o. rw (e, o) (space_back ∙ sym z)))

-- ---- all digits
-- the digits at the k lowest places, each times its weight, and what is above them
weighed : (v k : ℕ) → weigh (powers k) (map (digit_at v) (powers k)) + v / 10 ^ k * 10 ^ k ≡ v
weighed v zero = omega (arith, div-one v)
weighed v (suc k) =
    let w = 10 ^ k in
    let some : 1 ≤ w = powers_some k in
    let q = v / w in
    let above : v / 10 ^ suc k * 10 ^ suc k ≡ q / 10 * 10 * w = rw (pow-suc 10 k, ← div-div-eq-div-mul v (10 ^ k) 10) (rw (mul_comm (10 ^ k) 10) (sym (mul_assoc (q / 10) 10 w))) in
    let digits : q * w ≡ q / 10 * 10 * w + q % 10 * w = ap (λ (x : ℕ). x * w) (sym (div-add-mod' q 10)) ∙ add-mul (q / 10 * 10) (q % 10) w in
    let digit : w * digit_of (digit_at v w) ≡ q % 10 * w = rw (byte_back v w some) (mul_comm w (q % 10)) in
    omega (arith, weighed v k, above, digits, digit)
  where
    powers_some : (j : ℕ) → 1 ≤ 10 ^ j
    powers_some zero = omega arith
    powers_some (suc j) = omega (arith, pow-suc 10 j, powers_some j)

-- reading what was written: the last eight digits of any number
value_last : (v : ℕ) → value_of (written v) ≡ v % 100000000
unfolding value_of written
value_last v = omega (arith, weighed v 8)

-- and all of one that has no more
pub value_written : (v : ℕ) → v < 100000000 → value_of (written v) ≡ v
value_written v h = omega (arith, value_last v)

pub same_same : (xs : List ℕ) → same xs xs ≡ true
same_same [] = refl
same_same (x ∷ xs) = rw (eq-eqb x x refl) (same_same xs)

pub field_written : (v : ℕ) → v < 100000000 → is_field (written v) ≡ true
unfolding is_field
field_written v h = rw (value_written v h) (same_same (written v))

-- ---- a number with more than eight digits: the last eight, none of them a space
pub last_digits : (v k : ℕ) → 100000000 ≤ v → k < 8 → get_or (written v) k 0 ≡ 48 + v / 10 ^ (7 - k) % 10
unfolding written digit_at
last_digits v zero h l = rw (le-leb 10000000 v (omega arith))
last_digits v (suc zero) h l = rw (le-leb 1000000 v (omega arith))
last_digits v (suc (suc zero)) h l = rw (le-leb 100000 v (omega arith))
last_digits v (suc (suc (suc zero))) h l = rw (le-leb 10000 v (omega arith))
last_digits v (suc (suc (suc (suc zero)))) h l = rw (le-leb 1000 v (omega arith))
last_digits v (suc (suc (suc (suc (suc zero))))) h l = rw (le-leb 100 v (omega arith))
last_digits v (suc (suc (suc (suc (suc (suc zero)))))) h l = rw (le-leb 10 v (omega arith))
last_digits v (suc (suc (suc (suc (suc (suc (suc zero))))))) h l = rw (le-leb 1 v (omega arith))
last_digits v (suc (suc (suc (suc (suc (suc (suc (suc k)))))))) h l = absurd (omega arith)
