-- The running rule (section 19 of the rules): how a record is worked, and the run on paper (rules 8.9, 8.10, 9.6). It stands beside the
-- planning rule, `slot` and `after` in Slots, by which orders are correct and worst runs go (rule 19.1).
use Rattle.std.specs.Prelude.{ℕ, ◌+◌, ◌≤◌, ◌≡◌, Bool, true, cond, ◌&&◌, List, [], ◌∷◌, eqb, leb}
use Rattle.rules.specs.declared.Table.{Table}
use Rattle.rules.specs.Correct.{KeptIn}
use Rattle.rules.specs.Rows.{at, is_row, is_low, is_high, deadline_of, promised_of}
use Rattle.rules.specs.Slots.{State, slot, course}

-- clock u closes row i if it is open: it is LO, and u has reached its deadline (rules 9.13, 19.2, 19.4)
abbrev pub is_due : Table → ℕ → ℕ → Bool
is_due t u i = is_low t i && leb (deadline_of t i) u

-- The closing slots of row i and of all rows after it, once clock u has closed those of them that are open and pass the test: each has u as
-- its closing slot, and every other row the one that it had (rule 19.2).
abbrev pub closed_from : (ℕ → Bool) → ℕ → ℕ → List ℕ → List ℕ
closed_from due u i [] = []
closed_from due u i (k ∷ ks) = cond (eqb k 0 && due i) u k ∷ closed_from due u (i + 1) ks

-- the state once its clock has closed every open row of the table that is due; the clock, work got and slots used stay (rule 19.2)
unfoldable pub close_late : Table → State → State
close_late t s = record { clock = s.clock; got = s.got; used = s.used; closing = closed_from (λ i. is_row t i && is_due t s.clock i) s.clock 1 s.closing }

-- A step by the running rule, with supply v in work units: a slot by the planning rule, and then a look at the clock after it (rule 19.2). So
-- what the slot brought counts before the clock closes anything (rule 19.3).
unfoldable pub run_slot : Table → List ℕ → ℕ → State → State
run_slot t o v s = close_late t (slot t o v s)

-- the state after k steps by the running rule, where slot u supplies σ u work units (rules 9.6, 19.1)
abbrev pub run_after : Table → List ℕ → (ℕ → ℕ) → ℕ → State
run_after t o σ k = course (run_slot t o) σ k

-- An order serves in runs: what `Correct` asks of runs by the planning rule holds of those by the running rule. Whatever the slots supply, as
-- long as none supplies less than N every row keeps its deadline, and as long as none supplies less than G every HI row does and every LO row
-- gets its promised part in time (rules 19.5, 20.3). Every correct order does, and some others do (rule 19.8).
pub record RunServes (t : Table) (o : List ℕ) : Type 0 where
  pub normal : (σ : ℕ → ℕ) → ((u : ℕ) → t.normal ≤ σ u) → (i : ℕ) → is_row t i ≡ true → KeptIn t (run_after t o σ (deadline_of t i)) i
  pub degraded : (σ : ℕ → ℕ) → ((u : ℕ) → t.degraded ≤ σ u) → (i : ℕ) → is_row t i ≡ true → is_high t i ≡ true
      → KeptIn t (run_after t o σ (deadline_of t i)) i
  pub promised : (σ : ℕ → ℕ) → ((u : ℕ) → t.degraded ≤ σ u) → (i : ℕ) → is_row t i ≡ true → is_low t i ≡ true
      → promised_of t i ≤ at (run_after t o σ (deadline_of t i)).got i
