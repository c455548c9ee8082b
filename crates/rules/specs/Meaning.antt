-- What a correct order is (rules 3.1 to 3.4, 3.8), said once more in plain terms and proved to be the same: nothing of it can be left out of the
-- definition unseen. The runs here are by the planning rule; an order that keeps as much in runs by the running rule serves in runs
-- (`RunServes` in Running, rule 19.5), and that says less.
use Rattle.std.specs.Prelude.{ℕ, ◌≤◌, ◌≡◌, List}
use Rattle.rules.specs.declared.Table.{Table}
use Rattle.rules.specs.Rows.{at}
use Rattle.rules.specs.Slots.{after}

-- With slot u supplying σ u work units, when the clock shows row i's deadline: its work got is its work, and its closing slot is at least 1
-- and at most the deadline (rule 3.1).
pub record InTime (t : Table) (o : List ℕ) (σ : ℕ → ℕ) (i : ℕ) : Type 0 where
  pub got : at (after t o σ (at t.deadline i)).got i ≡ at t.work i
  pub from : 1 ≤ at (after t o σ (at t.deadline i)).closing i
  pub up_to : at (after t o σ (at t.deadline i)).closing i ≤ at t.deadline i

-- Every row is in time as long as every slot supplies at least N (rule 3.2), and every row of a level other than 0 as long as every slot
-- supplies at least G (rule 3.3); as long as that holds, every row of level 0 has got its promised work units when the clock shows its deadline
-- (rule 3.8); whatever the slots supply above that (rule 3.4).
pub record Serves (t : Table) (o : List ℕ) : Type 0 where
  pub all_rows : (σ : ℕ → ℕ) → ((u : ℕ) → t.normal ≤ σ u) → (i : ℕ) → 1 ≤ i → i ≤ t.n → InTime t o σ i
  pub high_rows : (σ : ℕ → ℕ) → ((u : ℕ) → t.degraded ≤ σ u) → (i : ℕ) → 1 ≤ i → i ≤ t.n → (at t.level i ≡ 0 → ⊥) → InTime t o σ i
  pub low_rows : (σ : ℕ → ℕ) → ((u : ℕ) → t.degraded ≤ σ u) → (i : ℕ) → 1 ≤ i → i ≤ t.n → at t.level i ≡ 0
      → at t.promised i ≤ at (after t o σ (at t.deadline i)).got i
