-- Whole numbers of 32 bits: without their sign, and as bits. Of a number below 0, -1 less the number is not below 0 and fits, even of the
-- least; it is one less than the number without its sign.
use Rattle.std.specs.Prelude.{ℕ, suc, ◌+◌, ◌-◌, ◌^◌, ◌≤◌, ◌<◌, true, false, ◌≡◌, refl, T, ℤ, pos, negsuc, nat_abs, ◌-ℤ◌}
use Rattle.std.proofs.Common.{sym, ap, subst, ◌∙◌, arith, ltb-true, le-ltb, Fits, SFits, to_z, of_z, to_z-of_z}
use Rattle.std.specs.Int.Signed.{lt_z, non_neg, nat_abs-le}
use Rattle.std.specs.Int.{w32}

-- a number below 2^31, read as a whole number, is itself
pub as_signed : (n : ℕ) → n < 2 ^ 31 → to_z w32 n ≡ pos n
as_signed n h = to_z-of_z {w = w32} {z = pos n} (record { sfits = h })

-- -1 less a number below 0
under : (z : ℤ) → lt_z z (pos 0) ≡ true → negsuc 0 -ℤ z ≡ pos (nat_abs z - 1)
under (pos n) t = absurd (omega (arith, ltb-true n 0 t))
under (negsuc n) t = rw (le-ltb (suc n) 1 (omega arith))

bits_under : (z : ℤ) → lt_z z (pos 0) ≡ true → (2 ^ 32 - 1) - (nat_abs z - 1) ≡ of_z w32 z
bits_under (pos n) t = absurd (omega (arith, ltb-true n 0 t))
bits_under (negsuc n) t = omega arith

over : (z : ℤ) → lt_z z (pos 0) ≡ false → z ≡ pos (nat_abs z)
over (pos n) t = refl
over (negsuc n) t = let e : ◌≡◌ {A = ℕ} 0 1 = cc in absurd (omega arith)

small : (z : ℤ) → lt_z z (pos 0) ≡ true → SFits w32 z → nat_abs z - 1 < 2 ^ 31
small (pos n) t f = absurd (omega (arith, ltb-true n 0 t))
small (negsuc n) t f = let s = f.sfits in omega arith

some : (z : ℤ) → lt_z z (pos 0) ≡ true → nat_abs z - 1 + 1 ≡ nat_abs z
some (pos n) t = absurd (omega (arith, ltb-true n 0 t))
some (negsuc n) t = omega arith

-- a number read back from its bits, and -1 less it
module _ (z : ℤ) (fits : SFits w32 z) where
  abbrev pub read_back : ℤ
  read_back = to_z w32 (of_z w32 z)

  abbrev pub less_one : ℤ
  less_one = negsuc 0 -ℤ read_back

  same : read_back ≡ z
  same = to_z-of_z fits

  module _ (t : lt_z read_back (pos 0) ≡ true) where
    sign : lt_z z (pos 0) ≡ true
    sign = sym (ap (λ (y : ℤ). lt_z y (pos 0)) same) ∙ t

    less : less_one ≡ pos (nat_abs z - 1)
    less = ap (λ (y : ℤ). negsuc 0 -ℤ y) same ∙ under z sign

    pub less_fits : SFits w32 less_one
    less_fits = subst (λ (y : ℤ). SFits w32 y) (sym less) (record { sfits = small z sign fits })

    again : to_z w32 (of_z w32 less_one) ≡ pos (nat_abs z - 1)
    again = to_z-of_z less_fits ∙ less

    pub less_cast : T (non_neg (to_z w32 (of_z w32 less_one))) × Fits w32 (nat_abs (to_z w32 (of_z w32 less_one)))
    less_cast = subst (λ (y : ℤ). T (non_neg y) × Fits w32 (nat_abs y)) (sym again) (tt, record { fits = let s = small z sign fits in omega arith })

    pub less_within : nat_abs (to_z w32 (of_z w32 less_one)) ≤ 2 ^ 32 - 1
    less_within = let s = small z sign fits in subst (λ (y : ℤ). nat_abs y ≤ 2 ^ 32 - 1) (sym again) (omega arith)

    pub less_more : Fits w32 (nat_abs (to_z w32 (of_z w32 less_one)) + 1)
    less_more = let s = small z sign fits in subst (λ (y : ℤ). Fits w32 (nat_abs y + 1)) (sym again) (record { fits = omega arith })

    pub less_size : nat_abs (to_z w32 (of_z w32 less_one)) + 1 ≡ nat_abs z
    less_size = ap (λ (y : ℤ). nat_abs y + 1) again ∙ some z sign

    pub less_bits : (2 ^ 32 - 1) - nat_abs (to_z w32 (of_z w32 less_one)) ≡ of_z w32 z
    less_bits = ap (λ (y : ℤ). (2 ^ 32 - 1) - nat_abs y) again ∙ bits_under z sign

  module _ (t : lt_z read_back (pos 0) ≡ false) where
    plain : z ≡ pos (nat_abs z)
    plain = over z (sym (ap (λ (y : ℤ). lt_z y (pos 0)) same) ∙ t)

    pub plain_cast : T (non_neg read_back) × Fits w32 (nat_abs read_back)
    plain_cast =
        let s = nat_abs-le z fits.sfits in
        subst (λ (y : ℤ). T (non_neg y) × Fits w32 (nat_abs y)) (sym (same ∙ plain)) (tt, record { fits = omega arith })

    pub plain_size : nat_abs read_back ≡ nat_abs z
    plain_size = ap nat_abs same

    pub plain_bits : nat_abs read_back ≡ of_z w32 z
    plain_bits = ap nat_abs same ∙ sym (ap (of_z w32) plain)
