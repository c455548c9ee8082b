-- The slack of a size by its cases: below 0 it is -1 less what is one below the size, so that the least fits too.
use Rattle.std.specs.Prelude.{ℕ, zero, suc, ◌-◌, min, ◌≤◌, ◌<◌, true, false, ◌≡◌, refl, ℤ, pos, negsuc, ◌-ℤ◌}
use Rattle.std.proofs.Common.{sym, ap, subst, ◌∙◌, arith, SFits, to_z, of_z, to_z-of_z}
use Rattle.std.specs.Int.{w32}
use Rattle.theory.specs.Signed.{as_signed}
use Rattle.sentences.specs.Reading.{below, slack_of}

-- -1 less a number
minus_one : (n : ℕ) → negsuc 0 -ℤ pos n ≡ negsuc n
minus_one zero = refl
minus_one (suc n) = ap negsuc (omega arith)

-- a size that is not 0, below 0
below_some : (n : ℕ) → 1 ≤ n → below n ≡ negsuc (n - 1)
below_some zero h = absurd (omega arith)
below_some (suc n) h = ap negsuc (omega arith)

module _ (size : ℕ) where
  -- not below 0
  pub plain_slack : size < 2147483647 → to_z w32 size ≡ slack_of false size
  plain_slack h = as_signed size (omega arith) ∙ ap pos (omega arith)

  pub most_slack : 2147483647 ≤ size → pos 2147483647 ≡ slack_of false size
  most_slack h = ap pos (omega arith)

  -- below 0
  pub no_slack : size ≡ 0 → pos 0 ≡ slack_of true size
  no_slack e = rw e

  pub least_slack_lem : 2147483648 ≤ size → negsuc 2147483647 ≡ slack_of true size
  least_slack_lem h = let e : min size 2147483648 ≡ 2147483648 = omega arith in sym (ap below e ∙ below_some 2147483648 (omega arith))

  module _ (some : size ≡ 0 → ⊥) (h : size < 2147483648) where
    -- -1 less what is one below the size
    less : negsuc 0 -ℤ to_z w32 (size - 1) ≡ negsuc (size - 1)
    less = ap (λ (z : ℤ). negsuc 0 -ℤ z) (as_signed (size - 1) (omega arith)) ∙ minus_one (size - 1)

    pub less_fits : SFits w32 (negsuc 0 -ℤ to_z w32 (size - 1))
    less_fits = subst (λ (z : ℤ). SFits w32 z) (sym less) (record { sfits = omega arith })

    pub less_slack : to_z w32 (of_z w32 (negsuc 0 -ℤ to_z w32 (size - 1))) ≡ slack_of true size
    less_slack =
        let e : min size 2147483648 ≡ size = omega arith in
        to_z-of_z less_fits ∙ less ∙ sym (ap below e ∙ below_some size (omega (arith, some)))
