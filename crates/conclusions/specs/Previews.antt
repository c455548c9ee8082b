-- Late previews (section 19 of the rules) in plain terms, from the statements of theory/proofs/Results and theory/proofs/Seven alone: where one of
-- these says less, a proof here fails. Times are in slots, supplies in work units, N and G in work units per slot.
use Rattle.std.specs.Prelude.{ℕ, ◌≤◌, ◌<◌, max, true, List, ◌⊎◌, ◌≡◌}
use Rattle.std.proofs.Common.{eq-eqb, ne_eqb, eqb-true}
use Rattle.rules.specs.declared.Table.{Table}
use Rattle.rules.specs.Choice.{plan_of}
use Rattle.rules.specs.Correct.{earliest}
use Rattle.rules.specs.LateCases.{trouble}
use Rattle.rules.proofs.Meaning.{serves_correct}
use Rattle.rules.specs.Meaning.{Serves}
use Rattle.rules.specs.Need.{need}
use Rattle.rules.specs.Numbers.{planned_number}
use Rattle.rules.specs.Orders.{is_order}
use Rattle.rules.specs.Rows.{at, is_row}
use Rattle.rules.specs.Running.{run_slot, run_after, RunServes}
use Rattle.rules.specs.Slots.{State, slot, after}
use Rattle.rules.specs.Tables.{Accepted}
use Rattle.theory.specs.Facts.{is_row_lem, row_is}
use Rattle.theory.proofs.Results.{correct_runs, rules_agree, running_dropped}
use Rattle.theory.proofs.Runs.{high_step}
use Rattle.theory.proofs.Seven.{trouble_order, trouble_accepted, trouble_serves, trouble_seven, trouble_none}
use Rattle.theory.specs.Seven.{order}

-- In the run by the running rule, with slot u supplying σ u, row i has all its work at its deadline, and was closed by then.
pub record Previewed (t : Table) (o : List ℕ) (σ : ℕ → ℕ) (i : ℕ) : Type 0 where
  pub got : at (run_after t o σ (at t.deadline i)).got i ≡ at t.work i
  pub from : 1 ≤ at (run_after t o σ (at t.deadline i)).closing i
  pub up_to : at (run_after t o σ (at t.deadline i)).closing i ≤ at t.deadline i

-- An order serves in runs: every row is in time while every slot supplies at least N, and every row of a level other than 0 while every slot
-- supplies at least G (rule 19.5); and every row of level 0 has its promised part by its deadline while every slot supplies at least G (rule 20.3).
pub record ServesRuns (t : Table) (o : List ℕ) : Type 0 where
  pub all_rows : (σ : ℕ → ℕ) → ((u : ℕ) → t.normal ≤ σ u) → (i : ℕ) → 1 ≤ i → i ≤ t.n → Previewed t o σ i
  pub high_rows : (σ : ℕ → ℕ) → ((u : ℕ) → t.degraded ≤ σ u) → (i : ℕ) → 1 ≤ i → i ≤ t.n → (at t.level i ≡ 0 → ⊥) → Previewed t o σ i
  pub low_rows : (σ : ℕ → ℕ) → ((u : ℕ) → t.degraded ≤ σ u) → (i : ℕ) → 1 ≤ i → i ≤ t.n → at t.level i ≡ 0
      → at t.promised i ≤ at (run_after t o σ (at t.deadline i)).got i

row_of : (t : Table) (i : ℕ) → 1 ≤ i → i ≤ t.n → is_row t i ≡ true
row_of t i l h = is_row_lem t i (record { from = l; up_to = h })

runs_plain : (t : Table) (o : List ℕ) → RunServes t o → ServesRuns t o
runs_plain t o s =
    record {
      all_rows = λ σ e i l h. let k = s.normal σ e i (row_of t i l h) in record { got = k.done; from = k.closed; up_to = k.in_time };
      high_rows = λ σ e i l h n. let k = s.degraded σ e i (row_of t i l h) (rw (ne_eqb (at t.level i) 0 n)) in
          record { got = k.done; from = k.closed; up_to = k.in_time };
      low_rows = λ σ e i l h z. s.promised σ e i (row_of t i l h) (eq-eqb (at t.level i) 0 z);
    }

-- the slots that a LO row may use (rule 1.9)
abbrev pub may_use : Table → ℕ → ℕ
may_use t i = max (need t.loading (at t.work i) t.normal) (need t.loading (at t.promised i) t.degraded)

module _ (t : Table) (accepted : Accepted t) (o : List ℕ) (passes : is_order t o ≡ true) where
  -- a correct order serves in runs
  pub serves_runs : Serves t o → ServesRuns t o
  serves_runs s = runs_plain t o (correct_runs t accepted o passes (serves_correct t o s))

  -- and while every slot from the earliest release on supplies at least N, its runs by both rules are the same state for state (rule 19.6)
  pub same_runs : Serves t o → (σ : ℕ → ℕ) (m : ℕ) → ((u : ℕ) → earliest t ≤ u → u < m → t.normal ≤ σ u) → (k : ℕ) → k ≤ m
      → run_after t o σ k ≡ after t o σ k
  same_runs s σ m e k = rules_agree t accepted o passes (serves_correct t o s) σ m (λ u p l. e u p l) k

  -- why a row was closed without all its work, whatever was supplied (rule 19.9)
  pub why_dropped : (σ : ℕ → ℕ) (k i : ℕ) → 1 ≤ i → i ≤ t.n → 1 ≤ at (run_after t o σ k).closing i
      → (at (run_after t o σ k).got i ≡ at t.work i → ⊥)
      → (at t.level i ≡ 0)
      × (((at (run_after t o σ k).used i ≡ may_use t i) × (at (run_after t o σ k).closing i ≤ at t.deadline i))
      ⊎ ((at (run_after t o σ k).used i < may_use t i) × (at (run_after t o σ k).closing i ≡ at t.deadline i)))
  why_dropped σ k i l h c n =
      let d = running_dropped t accepted o passes i (row_of t i l h) σ k c n in (eqb-true (at t.level i) 0 d.0, d.1)

-- in a table that has no row of level 0 a step is the same by both rules, on any state (rule 19.7)
pub pens_only : (t : Table) → ((i : ℕ) → 1 ≤ i → i ≤ t.n → at t.level i ≡ 0 → ⊥) → (o : List ℕ) (v : ℕ) (s : State) → run_slot t o v s ≡ slot t o v s
pens_only t n o v s = high_step t (λ i r. let w = row_is t i r in rw (ne_eqb (at t.level i) 0 (n i w.from w.up_to))) o v s

-- What 7 does not say (rule 19.8): the planner answers 7 to this accepted table and no order of it serves by the planning rule, but one serves
-- in runs.
pub record Silent (t : Table) (o : List ℕ) : Type 0 where
  pub accepted : Accepted t
  pub seven : planned_number (plan_of t).answer ≡ 7
  pub none : (p : List ℕ) → is_order t p ≡ true → Serves t p → ⊥
  pub passes : is_order t o ≡ true
  pub serves : ServesRuns t o

pub silent : Silent trouble order
silent =
    record {
      accepted = trouble_accepted;
      seven = trouble_seven;
      none = λ p e s. trouble_none (record { order = p; passes = e; correct = serves_correct trouble p s });
      passes = trouble_order;
      serves = runs_plain trouble order trouble_serves;
    }
