-- Supplies that bring nothing. An idle slot and a slot that loads its row leave the same state whatever they supply (rules 2.3, 2.14), so
-- that of a row's window only those slots count in which a row works (rule 9.17). This is about runs by the running rule (rule 9.6).
use Rattle.std.specs.Prelude.{ℕ, zero, suc, ◌≤◌, false, cond, List, ◌≡◌, refl, eqb, pos}
use Rattle.std.proofs.Math.Bool.{true}
use Rattle.std.proofs.Common.{sym, ap, subst, ◌∙◌, arith}
use Rattle.std.proofs.Math.Dec.{ltb}
use Rattle.std.specs.Int.Signed.{lt_z}
use Rattle.rules.specs.declared.Table.{Table}
use Rattle.rules.specs.Correct.{KeptIn, Window}
use Rattle.rules.specs.Orders.{is_order}
use Rattle.rules.specs.Rows.{at, is_row, is_low, deadline_of, promised_of}
use Rattle.rules.specs.Running.{run_slot, run_after}
use Rattle.rules.specs.Slots.{State, chosen, brought, serve, slot}
use Rattle.rules.specs.Tables.{Accepted}
use Rattle.rules.specs.Worst.{worst_speed, slack}
use Rattle.theory.proofs.Results.{running_sustainable, running_promise}
use Rattle.theory.specs.Tests.{by_bool}
use Rattle.theory.specs.Lost.{lost, WorkWindow}

module _ (t : Table) (o : List ℕ) where
  -- one slot
  pub slot_lost : (v w : ℕ) (s : State) → lost t o s ≡ true → run_slot t o v s ≡ run_slot t o w s
  unfolding lost run_slot slot serve brought
  slot_lost v w s e =
      by_bool (eqb (chosen t o s) 0)
      (λ z. rw z)
      (λ z. let l : ltb (at s.used (chosen t o s)) t.loading ≡ true = rw z at e in rw (z, l))

  -- a whole run
  pub run_lost : (σ τ : ℕ → ℕ) → ((u : ℕ) → lost t o (run_after t o σ u) ≡ false → τ u ≡ σ u) → (k : ℕ) → run_after t o σ k ≡ run_after t o τ k
  run_lost σ τ h zero = refl
  run_lost σ τ h (suc k) =
      by_bool (lost t o (run_after t o σ k))
      (λ e. slot_lost (σ k) (τ k) (run_after t o σ k) e)
      (λ e. ap (λ (v : ℕ). run_slot t o v (run_after t o σ k)) (sym (h k e)))
      ∙ ap (run_slot t o (τ k)) (run_lost σ τ h k)

-- Of a run only the slots in which a row works count: wherever a state is promised for windows that supply at least s, it is reached if just those
-- slots of the window do.
working : (t : Table) (o : List ℕ) (i s : ℕ) (P : State → Type 0) (k : ℕ) → ((τ : ℕ → ℕ) → Window t τ i s → P (run_after t o τ k))
    → (σ : ℕ → ℕ) → WorkWindow t o σ i s → P (run_after t o σ k)
working t o i s P k h σ w = subst P (sym (run_lost t o σ τ same k)) (h τ enough)
  where
    τ : ℕ → ℕ
    τ u = cond (lost t o (run_after t o σ u)) s (σ u)

    same : (u : ℕ) → lost t o (run_after t o σ u) ≡ false → τ u ≡ σ u
    same u n = rw n

    enough : Window t τ i s
    enough u p l = by_bool (lost t o (run_after t o σ u)) (λ n. rw n (omega arith)) (λ n. rw n (w u p l n))

-- A row whose slack is not below zero has kept its deadline at every clock from d on, if of the slots of its window each one in which a row
-- worked supplied at least N for a LO row, or G for a HI row, whatever the others supplied.
pub sustainable_working : (t : Table) → Accepted t → (o : List ℕ) → is_order t o ≡ true → (i : ℕ) → is_row t i ≡ true → lt_z (slack t o i) (pos 0) ≡ false
    → (σ : ℕ → ℕ) → WorkWindow t o σ i (worst_speed t i) → (k : ℕ) → deadline_of t i ≤ k → KeptIn t (run_after t o σ k) i
sustainable_working t a o e i r s σ w k q =
    working t o i (worst_speed t i) (λ (x : State). KeptIn t x i) k (λ τ enough. running_sustainable t a o e i r s τ enough k q) σ w

-- A LO row whose slack is not below zero has got its promised part at every clock from d on, if each of those slots supplied at least G.
pub promise_working : (t : Table) → Accepted t → (o : List ℕ) → is_order t o ≡ true → (i : ℕ) → is_row t i ≡ true → is_low t i ≡ true
    → lt_z (slack t o i) (pos 0) ≡ false → (σ : ℕ → ℕ) → WorkWindow t o σ i t.degraded → (k : ℕ) → deadline_of t i ≤ k
    → promised_of t i ≤ at (run_after t o σ k).got i
promise_working t a o e i r l s σ w k q =
    working t o i t.degraded (λ (x : State). promised_of t i ≤ at x.got i) k (λ τ enough. running_promise t a o e i r l s τ enough k q) σ w
