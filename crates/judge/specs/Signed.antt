-- The difference of two unsigned numbers below 2^31, as an i32.
use Rattle.std.specs.Prelude.{ℕ, zero, suc, ◌-◌, ◌<◌, ◌^◌, Bool, true, false, cond, ◌≡◌, ltb, ℤ, pos, negsuc, ◌-ℤ◌}
use Rattle.std.proofs.Common.{sym, ap₂, subst, arith, SFits, to_z}
use Rattle.std.specs.Int.Signed.{mag}
use Rattle.std.specs.Int.{w32}
use Rattle.theory.specs.Signed.{as_signed}

mag_cond : (b : Bool) (x y k : ℕ) → x < k → y < k → mag (cond b (negsuc x) (pos y)) < k
mag_cond true x y k p q = p
mag_cond false x y k p q = q

mag_difference : (d f k : ℕ) → d < k → f < k → mag (pos d -ℤ pos f) < k
mag_difference d zero k p q = omega arith
mag_difference d (suc f) k p q = mag_cond (ltb d (suc f)) (suc f - suc d) (d - suc f) k (omega arith) (omega arith)

module _ (d f : ℕ) (p : d < 2 ^ 31) (q : f < 2 ^ 31) where
  pub difference : to_z w32 d -ℤ to_z w32 f ≡ pos d -ℤ pos f
  difference = ap₂ (λ (x y : ℤ). x -ℤ y) (as_signed d p) (as_signed f q)

  pub difference_fits : SFits w32 (to_z w32 d -ℤ to_z w32 f)
  difference_fits = subst (λ (z : ℤ). SFits w32 z) (sym difference) (record { sfits = mag_difference d f (2 ^ 31) p q })
