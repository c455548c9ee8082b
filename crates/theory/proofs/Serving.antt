-- An order that serves in runs (rule 19.5), correct or not, keeps each row's deadline, and a LO row's promised part, wherever the row's own window
-- supplied enough, whatever the other slots supplied: the run up to the deadline is that of a course which is good throughout, a closed row stays
-- closed, and work got is never taken back.
use Rattle.std.specs.Prelude.{ℕ, zero, suc, ◌+◌, ◌-◌, ◌≤◌, ◌<◌, true, cond, ◌&&◌, List, ◌≡◌, refl, leb, ltb}
use Rattle.std.proofs.Common.{sym, ap, subst, ◌∙◌, arith, le-leb, lt-ltb, leb-true, ltb-true}
use Rattle.rules.specs.declared.Table.{Table}
use Rattle.rules.specs.Correct.{KeptIn, earliest, Window}
use Rattle.rules.specs.Rows.{at, is_row, is_low, deadline_of, promised_of}
use Rattle.rules.specs.Running.{run_slot, run_after, RunServes}
use Rattle.rules.specs.Slots.{State}
use Rattle.rules.specs.Tables.{Accepted}
use Rattle.rules.specs.Worst.{worst_speed}
use Rattle.theory.specs.Cells.{cell_at}
use Rattle.theory.specs.Ends.{running, state_by, running_is, clock_run}
use Rattle.theory.specs.Facts.{Row, row_is, TableFacts, facts}
use Rattle.theory.proofs.Lost.{slot_lost}
use Rattle.theory.specs.Lost.{lost}
use Rattle.theory.proofs.Part.{got_grows}
use Rattle.theory.proofs.Starting.{early_idle}
use Rattle.theory.proofs.Sustain.{closed_stays}
use Rattle.theory.specs.Tests.{by_bool, by-leb, and_left, and_right}
use Rattle.theory.specs.Verdict.{KeptCell}

-- before the earliest release every slot is idle, so that its supply is lost
early_lost : (t : Table) (o : List ℕ) (s : State) → s.clock < earliest t → lost t o s ≡ true
unfolding lost
early_lost t o s h = rw (early_idle t o s h)

-- two courses that agree from the earliest release up to clock m make one run up to there
pub same_window : (t : Table) (o : List ℕ) (σ τ : ℕ → ℕ) (m : ℕ) → ((u : ℕ) → earliest t ≤ u → u < m → τ u ≡ σ u) → (k : ℕ) → k ≤ m
    → run_after t o σ k ≡ run_after t o τ k
same_window t o σ τ m h zero p = refl
same_window t o σ τ m h (suc k) p =
    by-leb (earliest t) k
    (λ _ q. ap (λ (v : ℕ). run_slot t o v (run_after t o σ k)) (sym (h k q (omega arith))))
    (λ _ q. slot_lost t o (σ k) (τ k) (run_after t o σ k) (early_lost t o (run_after t o σ k) (omega (arith, clock_run t o σ k))))
    ∙ ap (run_slot t o (τ k)) (same_window t o σ τ m h k (omega arith))

-- a row that has kept its deadline has kept it ever after
pub kept_later : (t : Table) → TableFacts t → (o : List ℕ) (σ : ℕ → ℕ) (i : ℕ) → Row t i → (d k : ℕ) → d ≤ k → KeptIn t (run_after t o σ d) i → KeptIn t (run_after t o σ k) i
kept_later t f o σ i r d k p q =
    let e : k - d + d ≡ k = omega arith in
    let stays = closed_stays t f (running t) o σ i r d (k - d) (rw (running_is t o σ d) q.closed) in
    let same : cell_at (run_after t o σ k) i ≡ cell_at (run_after t o σ d) i =
    ap (λ (x : State). cell_at x i) (sym (running_is t o σ k))
    ∙ ap (λ (u : ℕ). cell_at (state_by (running t) o σ u) i) (sym e)
    ∙ stays
    ∙ ap (λ (x : State). cell_at x i) (running_is t o σ d) in
    let x : KeptCell t i (cell_at (run_after t o σ k) i) =
    subst (KeptCell t i) (sym same) (record { done = q.done; closed = q.closed; in_time = q.in_time }) in
    record { done = x.done; closed = x.closed; in_time = x.in_time }

module _ (t : Table) (accepted : Accepted t) (o : List ℕ) (serves : RunServes t o) (i : ℕ) (r : is_row t i ≡ true) (σ : ℕ → ℕ)
    (s : ℕ) (window : Window t σ i s) where
  -- the course with that speed outside the window
  abbrev τ : ℕ → ℕ
  τ u = cond (leb (earliest t) u && ltb u (deadline_of t i)) (σ u) s

  within : (u : ℕ) → earliest t ≤ u → u < deadline_of t i → τ u ≡ σ u
  within u p q = rw (le-leb (earliest t) u p, lt-ltb u (deadline_of t i) q)

  enough : (u : ℕ) → s ≤ τ u
  enough u =
      by_bool (leb (earliest t) u && ltb u (deadline_of t i))
      (λ e. rw e (window u (leb-true (earliest t) u (and_left (leb (earliest t) u) (ltb u (deadline_of t i)) e))
      (ltb-true u (deadline_of t i) (and_right (leb (earliest t) u) (ltb u (deadline_of t i)) e))))
      (λ e. rw e (omega arith))

  one_state : run_after t o τ (deadline_of t i) ≡ run_after t o σ (deadline_of t i)
  one_state = sym (same_window t o σ τ (deadline_of t i) within (deadline_of t i) (omega arith))

  pub serves_window : s ≡ worst_speed t i → (k : ℕ) → deadline_of t i ≤ k → KeptIn t (run_after t o σ k) i
  serves_window z k p =
      kept_later t (facts t accepted) o σ i (row_is t i r) (deadline_of t i) k p
      (subst (λ (x : State). KeptIn t x i) one_state
      (by_bool (is_low t i)
      (λ l. serves.normal τ (λ u. let w : worst_speed t i ≡ t.normal = rw l in omega (arith, enough u)) i r)
      (λ l. serves.degraded τ (λ u. let w : worst_speed t i ≡ t.degraded = rw l in omega (arith, enough u)) i r (rw l))))

  pub serves_part : s ≡ t.degraded → is_low t i ≡ true → (k : ℕ) → deadline_of t i ≤ k → promised_of t i ≤ at (run_after t o σ k).got i
  serves_part z low k p =
      let d = deadline_of t i in
      let e : k - d + d ≡ k = omega arith in
      let has = serves.promised τ (λ u. omega (arith, enough u)) i r low in
      let stays = got_grows t (facts t accepted) (running t) o σ i (row_is t i r) d (k - d) in
      omega (
        arith,
        subst (λ (x : State). promised_of t i ≤ at x.got i) one_state has,
        stays,
        ap (λ (u : ℕ). at (state_by (running t) o σ u).got i) e,
        ap (λ (x : State). at x.got i) (running_is t o σ d),
        ap (λ (x : State). at x.got i) (running_is t o σ k),
      )
