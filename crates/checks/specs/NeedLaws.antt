-- The slots that work units take, over any speed, by quotient and rest.
use Rattle.std.specs.Prelude.{ℕ, ◌+◌, ◌-◌, ◌*◌, ◌/◌, ◌%◌, ◌≤◌, ◌<◌, ◌≡◌}
use Rattle.std.proofs.Math.Path.{ap}
use Rattle.std.proofs.Common.{◌∙◌, le-div_iff_mul-le, div-lt_iff_lt-mul, mod-lt, arith}
use Rattle.std.proofs.Math.Nat.{div-add-mod', mul-add-div_right, div-zero}
use Rattle.rules.specs.Need.{work_slots}
use Rattle.theory.specs.Caps.{slots_most}
use Rattle.theory.specs.Tests.{by_eqb}

-- no speed: the quotient by 0 is 0
pub slots_stopped : (c : ℕ) → work_slots c 0 ≡ 0
unfolding work_slots
slots_stopped c = div-zero (c + (0 - 1))

module _ (c s : ℕ) (p : 1 ≤ s) where
  split : work_slots c s ≡ c / s + (c % s + (s - 1)) / s
  unfolding work_slots
  split =
      let e : c + (s - 1) ≡ c / s * s + (c % s + (s - 1)) = omega (arith, div-add-mod' c s) in
      ap (λ (x : ℕ). x / s) e ∙ mul-add-div_right p (c / s) (c % s + (s - 1))

  -- without a rest they are the quotient, and with one they are one more
  pub slots_exact : c % s ≡ 0 → work_slots c s ≡ c / s
  slots_exact e = omega (arith, split, (div-lt_iff_lt-mul {k = s} {x = c % s + (s - 1)} {y = 1} p).1 (omega arith))

  pub slots_rest : (c % s ≡ 0 → ⊥) → work_slots c s ≡ c / s + 1
  slots_rest e =
      let r : 0 < c % s = omega arith in
      omega (
        arith,
        split,
        (le-div_iff_mul-le {k = s} {x = 1} {y = c % s + (s - 1)} p).1 (omega arith),
        (div-lt_iff_lt-mul {k = s} {x = c % s + (s - 1)} {y = 2} p).1 (omega (arith, mod-lt c p)),
      )

-- no more than the work units, at whatever speed
pub slots_fit : (c s : ℕ) → work_slots c s ≤ c
slots_fit c s =
    by_eqb s 0
    (λ _ z. let e : work_slots c s ≡ 0 = ap (work_slots c) z ∙ slots_stopped c in omega (arith, e))
    (λ _ z. slots_most c s (omega arith))
