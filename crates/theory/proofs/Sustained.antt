-- What the steps of Demand come to: the demand of the rows of a list, from slot to slot, stays within their backlog.
use Rattle.std.specs.Prelude.{ℕ, zero, suc, ◌≤◌, ◌<◌, ◌≡◌, List}
use Rattle.std.proofs.Common.{arith}
use Rattle.rules.specs.Lists.{sum}
use Rattle.theory.specs.Backlog.{backlog}
use Rattle.theory.specs.Demand.{Served, served_sum}

-- the demand of the rows never exceeds their backlog
pub sustained : (rows : List ℕ) (bring demand : ℕ → ℕ → ℕ) (k : ℕ)
    → sum (demand 0) rows ≡ 0
    → ((u : ℕ) → u < k → Served rows (bring u) (demand u) (demand (suc u)))
    → sum (demand k) rows ≤ backlog (λ u. sum (bring u) rows) k
sustained rows bring demand zero z h = omega arith
sustained rows bring demand (suc k) z h =
    omega (arith, sustained rows bring demand k z (λ u q. h u (omega arith)), served_sum rows (bring k) (demand k) (demand (suc k)) (h k (omega arith)))
