-- When an order is correct, over all courses of speed (rules 3.1 to 3.4, 3.8) and by the planning rule (rule 19.1), and a row's window (rule 9.14).
use Rattle.std.specs.Prelude.{ℕ, ◌≤◌, ◌<◌, ◌≡◌, true, List}
use Rattle.rules.specs.declared.Table.{Table}
use Rattle.rules.specs.Lists.{least}
use Rattle.rules.specs.Orders.{is_order}
use Rattle.rules.specs.Rows.{at, is_row, rows_of, is_low, is_high, release_of, work_of, deadline_of, promised_of}
use Rattle.rules.specs.Slots.{State, after}

-- Row i has kept its deadline in this state: it has got all its work units and is closed, at the latest by its deadline (rule 3.1).
pub record KeptIn (t : Table) (s : State) (i : ℕ) : Type 0 where
  pub done : at s.got i ≡ work_of t i
  pub closed : 1 ≤ at s.closing i
  pub in_time : at s.closing i ≤ deadline_of t i

-- Row i has kept its deadline when the clock reaches it, with slot u supplying σ u work units (rules 3.1, 9.13).
abbrev pub Kept : Table → List ℕ → (ℕ → ℕ) → ℕ → Type 0
Kept t o σ i = KeptIn t (after t o σ (deadline_of t i)) i

-- Row i has got its promised part when the clock reaches its deadline, with slot u supplying σ u work units (rules 3.8, 9.13).
abbrev pub PromiseKept : Table → List ℕ → (ℕ → ℕ) → ℕ → Type 0
PromiseKept t o σ i = promised_of t i ≤ at (after t o σ (deadline_of t i)).got i

-- A correct order: whatever the slots supply, as long as none supplies less than N, every row keeps its deadline (rule 3.2), and as long
-- as none supplies less than G, every HI row does (rule 3.3) and every LO row gets its promised part in time (rule 3.8); all of it over all
-- courses of speed (rule 3.4).
pub record Correct (t : Table) (o : List ℕ) : Type 0 where
  pub normal : (σ : ℕ → ℕ) → ((u : ℕ) → t.normal ≤ σ u) → (i : ℕ) → is_row t i ≡ true → Kept t o σ i
  pub degraded : (σ : ℕ → ℕ) → ((u : ℕ) → t.degraded ≤ σ u) → (i : ℕ) → is_row t i ≡ true → is_high t i ≡ true → Kept t o σ i
  pub promised : (σ : ℕ → ℕ) → ((u : ℕ) → t.degraded ≤ σ u) → (i : ℕ) → is_row t i ≡ true → is_low t i ≡ true → PromiseKept t o σ i

-- The table has a correct order: one that passes check 6 and is correct (rules 4.10 and 9.9).
pub record CorrectOrder (t : Table) : Type 0 where
  pub order : List ℕ
  pub passes : is_order t order ≡ true
  pub correct : Correct t order

-- the least release of all rows, in slots: where every row's window begins (rule 9.14)
unfoldable pub earliest : Table → ℕ
earliest t = least (release_of t) (release_of t 1) (rows_of t)

-- Each slot of row i's window supplies at least s work units: from the earliest release of all rows to the slot before the deadline (rule 9.14).
abbrev pub Window : Table → (ℕ → ℕ) → ℕ → ℕ → Type 0
Window t σ i s = (u : ℕ) → earliest t ≤ u → u < deadline_of t i → s ≤ σ u

-- Each slot of row i's window before clock k supplies at least s work units (rule 9.20).
abbrev pub WindowTo : Table → (ℕ → ℕ) → ℕ → ℕ → ℕ → Type 0
WindowTo t σ k i s = (u : ℕ) → earliest t ≤ u → u < deadline_of t i → u < k → s ≤ σ u
