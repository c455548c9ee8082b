-- The two rules of a slot as one (rule 19.1): after every slot the state goes through a look at its clock, which may close open rows whose
-- deadlines that clock has reached, and changes nothing else. The planning rule closes none; the running rule closes the LO rows among them.
-- What is shown here and in Invariant, Sustain and Verdict holds of any such rule; exactness (Exact) is the planning rule's alone.
use Prim.Native.Nat.{ℕ, zero, suc, ◌≤◌}
use Rattle.std.specs.Prelude.{Bool, true, false, ◌&&◌, ◌≡◌, List, ◌⊎◌, leb}
use Rattle.std.proofs.Common.{true≢false, sym, ◌∙◌, arith, leb-true}
use Rattle.std.proofs.Math.Path.{refl, ap}
use Rattle.std.proofs.Math.Logic.{inl, inr}
use Rattle.rules.specs.declared.Table.{Table}
use Rattle.rules.specs.Rows.{at, is_row, is_low, deadline_of}
use Rattle.rules.specs.Running.{is_due, close_late, run_slot, run_after}
use Rattle.rules.specs.Slots.{State, fresh, slot, course, after}
use Rattle.theory.specs.Tests.{by_bool, by_eqb, and_right}
use Rattle.theory.specs.Facts.{Row, is_row_lem}
use Rattle.theory.specs.Cells.{cell_at, Sized, sized_fresh, sized_slot, clock_slot}
use Rattle.theory.specs.Late.{closed_length, closed_at}

-- the look at the clock of state s, which leaves state e, has closed row i: it was open, and the clock is its closing slot
pub record Shut (may : ℕ → ℕ → Bool) (s e : State) (i : ℕ) : Type 0 where
  pub still : at s.closing i ≡ 0
  pub shut : cell_at e i ≡ record { got = at s.got i; used = at s.used i; closing = s.clock }
  pub why : may s.clock i ≡ true

pub record Rule (t : Table) : Type 0 where
  -- the state after the look at its clock
  pub ends : State → State
  -- whether clock u may close row i, and that it has then reached the row's deadline
  pub may : ℕ → ℕ → Bool
  pub reached : (u i : ℕ) → may u i ≡ true → deadline_of t i ≤ u
  pub clock : (s : State) → (ends s).clock ≡ s.clock
  pub sized : (s : State) → Sized s → Sized (ends s)
  -- each row is as it was, or closed
  pub look : (s : State) (i : ℕ) → Sized s → i ≤ 64 → Row t i → (cell_at (ends s) i ≡ cell_at s i) ⊎ Shut may s (ends s) i

-- the state after k slots by a rule
abbrev pub state_by : {t : Table} → Rule t → List ℕ → (ℕ → ℕ) → ℕ → State
state_by {t} r o σ k = course (λ v s. r.ends (slot t o v s)) σ k

-- the planning rule: no row is closed by the clock
abbrev pub planning : (t : Table) → Rule t
planning t =
    record {
      ends = λ s. s;
      may = λ u i. false;
      reached = λ u i e. absurd (true≢false (sym e));
      clock = λ s. refl;
      sized = λ s z. z;
      look = λ s i z m r. inl refl;
    }

module _ (t : Table) (s : State) where
  pub late_clock : (close_late t s).clock ≡ s.clock
  unfolding close_late
  late_clock = refl

  pub late_sized : Sized s → Sized (close_late t s)
  unfolding close_late
  late_sized z =
      record { gots = z.gots; useds = z.useds; closings = closed_length (λ i. is_row t i && is_due t s.clock i) s.clock 1 s.closing ∙ z.closings }

  pub late_look : (i : ℕ) → Sized s → i ≤ 64 → Row t i → (cell_at (close_late t s) i ≡ cell_at s i) ⊎ Shut (is_due t) s (close_late t s) i
  unfolding close_late
  late_look i z m r =
      let e = closed_at (λ j. is_row t j && is_due t s.clock j) s.clock s.closing i r.from (omega (arith, z.closings)) in
      by_eqb (at s.closing i) 0
      (λ n q. by_bool (is_due t s.clock i)
      (λ d. let c : at (close_late t s).closing i ≡ s.clock = e ∙ rw (n, is_row_lem t i r, d) in inr (record { still = q; shut = rw c; why = d }))
      (λ d. let c : at (close_late t s).closing i ≡ at s.closing i = e ∙ rw (n, is_row_lem t i r, d) in inl (rw c)))
      (λ n q. let c : at (close_late t s).closing i ≡ at s.closing i = e ∙ rw n in inl (rw c))

-- the running rule: open LO rows are closed when their deadline is reached
abbrev pub running : (t : Table) → Rule t
running t =
    record {
      ends = close_late t;
      may = is_due t;
      reached = λ u i e. leb-true (deadline_of t i) u (and_right (is_low t i) (leb (deadline_of t i) u) e);
      clock = late_clock t;
      sized = late_sized t;
      look = late_look t;
    }

-- both are what the definitions say
pub planning_is : (t : Table) (o : List ℕ) (σ : ℕ → ℕ) (k : ℕ) → state_by (planning t) o σ k ≡ after t o σ k
planning_is t o σ k = refl

pub running_is : (t : Table) (o : List ℕ) (σ : ℕ → ℕ) (k : ℕ) → state_by (running t) o σ k ≡ run_after t o σ k
unfolding run_slot
running_is t o σ k = refl

module _ (t : Table) (r : Rule t) (o : List ℕ) (σ : ℕ → ℕ) where
  pub sized_by : (k : ℕ) → Sized (state_by r o σ k)
  sized_by zero = sized_fresh
  sized_by (suc k) = r.sized (slot t o (σ k) (state_by r o σ k)) (sized_slot t o (σ k) (state_by r o σ k) (sized_by k))

  pub clock_by : (k : ℕ) → (state_by r o σ k).clock ≡ k
  unfolding fresh
  clock_by zero = refl
  clock_by (suc k) = r.clock (slot t o (σ k) (state_by r o σ k)) ∙ clock_slot t o (σ k) (state_by r o σ k) ∙ ap suc (clock_by k)

pub clock_run : (t : Table) (o : List ℕ) (σ : ℕ → ℕ) (k : ℕ) → (run_after t o σ k).clock ≡ k
clock_run t o σ k = ap (λ (s : State). s.clock) (sym (running_is t o σ k)) ∙ clock_by t (running t) o σ k
