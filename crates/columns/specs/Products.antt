-- Whether a need is used up, asked by multiplication (rules 1.8, 1.10), and the larger of two (rule 1.9): slots, work units and work units per slot.
use Rattle.std.specs.Prelude.{ℕ, ◌-◌, ◌*◌, ◌≤◌, ◌<◌, ◌^◌, max, true, false, ◌≡◌, leb}
use Rattle.std.proofs.Common.{mul-le-mul_right, arith, leb-true, leb-false, le-leb}
use Rattle.std.proofs.lemmas.Bool.{lt-leb}
use Rattle.rules.specs.Need.{need}
use Rattle.theory.specs.Caps.{need_used, need_unused}
use Rattle.theory.specs.Tests.{by-leb}

module _ (k c s u : ℕ) where
  -- a row that still loads has not used its need
  pub need_loading : u < k → leb (need k c s) u ≡ false
  need_loading h = lt-leb (need k c s) u (omega arith)

  -- a row that has loaded has used it exactly if the slots after that, at s each, bring the work
  pub need_product : 1 ≤ s → k ≤ u → leb (need k c s) u ≡ leb c ((u - k) * s)
  need_product p h =
      by-leb c ((u - k) * s)
      (λ e q. rw (e, le-leb (need k c s) u (need_used k c s u p h q)))
      (λ e q. rw (e, lt-leb (need k c s) u (need_unused k c s u p q)))

  pub product_fits : s ≤ 1000 → u ≤ 2000000 → (u - k) * s < 2 ^ 32
  product_fits p h = omega (arith, mul-le-mul_right s (let l : u - k ≤ 2000000 = omega arith in l))

-- the larger of two needs is used up exactly if both are
module _ (a b u : ℕ) where
  pub first_used : leb a u ≡ true → leb (max a b) u ≡ leb b u
  first_used e =
      let h = leb-true a u e in
      by-leb b u (λ f l. rw (f, le-leb (max a b) u (omega arith))) (λ f l. rw (f, lt-leb (max a b) u (omega arith)))

  pub first_unused : leb a u ≡ false → leb (max a b) u ≡ false
  first_unused e = let h = leb-false a u e in lt-leb (max a b) u (omega arith)
