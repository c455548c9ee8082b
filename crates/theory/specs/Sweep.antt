-- The sweep: one pass over rows sorted by release finds the finish.
use Rattle.std.specs.Prelude.{ℕ, ◌+◌, ◌≤◌, ◌<◌, max, true, false, cond, ◌&&◌, ◌≡◌, List, [], ◌∷◌, ltb, leb}
use Rattle.std.proofs.Common.{arith}
use Rattle.theory.specs.Tests.{by-ltb, by-leb}

pub by-stop {ℓ} : {P : Type ℓ} (a b r : ℕ) → (ltb a r && leb b r ≡ true → a < r → b ≤ r → P) → (ltb a r && leb b r ≡ false → (a < r → r < b) → P) → P
by-stop a b r f g =
    by-ltb a r
    (λ e p. by-leb b r (λ e' q. f (rw (e, e')) p q) (λ e' q. g (rw (e, e')) (λ z. q)))
    (λ e p. g (rw e) (λ z. omega arith))

module _ (rel cap : ℕ → ℕ) where
  -- the end of the busy time that starts at b or later, after the rows of the list; the sweep stops at a row released after a
  -- that finds the processor free
  abbrev pub sweep : ℕ → ℕ → List ℕ → ℕ
  sweep a b [] = b
  sweep a b (x ∷ xs) = cond (ltb a (rel x) && leb b (rel x)) b (sweep a (max b (rel x) + cap x) xs)

  -- the end of the busy time after the rows released before clock u
  abbrev pub upto : ℕ → ℕ → List ℕ → ℕ
  upto u b [] = b
  upto u b (x ∷ xs) = cond (ltb (rel x) u) (upto u (max b (rel x) + cap x) xs) b
