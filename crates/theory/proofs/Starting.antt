-- A run that starts at another clock (rule 22.7). Until the earliest release every slot is idle and no deadline is reached, so that the run from
-- clock 0 has come to that clock with zeros for all rows, whatever its slots supplied.
use Prim.Native.Nat.{ℕ, zero, suc, ◌≤◌, ◌<◌}
use Rattle.std.specs.Prelude.{true, List, ◌≡◌}
use Rattle.std.proofs.Math.Path.{refl, ap}
use Rattle.std.proofs.Common.{◌∙◌, arith, add-one}
use Rattle.rules.specs.declared.Table.{Table}
use Rattle.rules.specs.Correct.{earliest}
use Rattle.rules.specs.Orders.{is_order}
use Rattle.rules.specs.Running.{run_slot, run_after}
use Rattle.rules.specs.Slots.{State, start_at, fresh, chosen, slot}
use Rattle.theory.specs.Cells.{chosen_ready}
use Rattle.theory.specs.Facts.{TableFacts}
use Rattle.theory.proofs.Finishes.{earliest_first}
use Rattle.theory.proofs.Runs.{idle_step}
use Rattle.theory.specs.Tests.{by_eqb}

-- before the earliest release a slot is idle, whatever the state
pub early_idle : (t : Table) (o : List ℕ) (s : State) → s.clock < earliest t → chosen t o s ≡ 0
early_idle t o s h =
    by_eqb (chosen t o s) 0
    (λ _ e. e)
    (λ _ n. let q = chosen_ready t o s (chosen t o s) (omega arith) refl in absurd (omega (arith, q.released, earliest_first t (chosen t o s) q.row)))

module _ (t : Table) (f : TableFacts t) (o : List ℕ) (order : is_order t o ≡ true) where
  -- one such slot moves the clock and nothing else
  early_step : (v k : ℕ) → k < earliest t → run_slot t o v (start_at k) ≡ start_at (suc k)
  unfolding slot
  early_step v k h =
      let z = early_idle t o (start_at k) h in
      idle_step t f o order v (start_at k) z ∙ rw (z, add-one)

  pub started : (σ : ℕ → ℕ) (k : ℕ) → k ≤ earliest t → run_after t o σ k ≡ start_at k
  unfolding fresh
  started σ zero h = refl
  started σ (suc k) h = ap (run_slot t o (σ k)) (started σ k (omega arith)) ∙ early_step (σ k) k (omega arith)
