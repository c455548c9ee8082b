-- Runs by the running rule (section 19 of the rules): where nothing is due they go on as by the planning rule (rule 19.7); LO rows are closed by
-- their deadlines and HI rows only when they are done (rules 19.2, 19.4); why a row was dropped (rule 19.9); and under a correct order, at
-- supplies of at least N, the two rules make one run (rule 19.6).
use Prim.Native.Nat.{ℕ, zero, suc, ◌+◌, ◌≤◌, ◌<◌}
use Rattle.std.specs.Prelude.{true, false, ◌&&◌, ◌≡◌, refl, List, ◌++◌, ◌⊎◌, leb, take, drop}
use Rattle.std.proofs.Common.{sym, ◌∙◌, inl, inr, arith, take-append-drop}
use Rattle.std.proofs.Math.Path.{ap}
use Rattle.std.proofs.Math.ListN.{length}
use Rattle.rules.specs.declared.Table.{Table}
use Rattle.rules.specs.Correct.{Correct, earliest}
use Rattle.rules.specs.Orders.{is_order}
use Rattle.rules.specs.Rows.{at, is_row, is_low, work_of, deadline_of}
use Rattle.rules.specs.Running.{is_due, close_late, run_slot, run_after}
use Rattle.rules.specs.Slots.{State, allowance, is_pending, chosen, is_over, slot, after}
use Rattle.theory.specs.Tests.{by_bool, by_eqb, by-leb, not_both, and_left}
use Rattle.theory.specs.Counts.{In}
use Rattle.theory.specs.Facts.{Row, row_is, is_row_lem, in_rows, rows_in_lem, count_zero, TableFacts}
use Rattle.theory.specs.Cells.{Cell, cell_at, grown, served, fresh_cell, sized_slot, pending_is, is_pending_lem}
use Rattle.theory.specs.Ends.{planning, running, state_by, sized_by, clock_by}
use Rattle.theory.proofs.Finishes.{worst_slower}
use Rattle.theory.proofs.Invariant.{worked_by, cell_served, cell_other, clock_worked, ran, held}
use Rattle.theory.specs.Invariant.{Held, Over}
use Rattle.theory.specs.Late.{closed_at, closed_none}
use Rattle.theory.specs.Waits.{chosen_above}
use Rattle.theory.specs.Places.{order_rows, order_closed}
use Rattle.theory.proofs.Verdict.{kept, all_timely}
use Rattle.theory.specs.Runs.{Timely}

-- no open row of the table is due: the look at the clock changes nothing
pub close_none : (t : Table) (s : State) → ((i : ℕ) → is_row t i ≡ true → at s.closing i ≡ 0 → is_due t s.clock i ≡ false) → close_late t s ≡ s
unfolding close_late
close_none t s h = rw (closed_none (λ i. is_row t i && is_due t s.clock i) s.clock s.closing open_not_due)
  where
    open_not_due : (i : ℕ) → 1 ≤ i → i ≤ length s.closing → at s.closing i ≡ 0 → is_row t i && is_due t s.clock i ≡ false
    open_not_due i l m z = by_bool (is_row t i) (λ e. rw (e, h i e z)) (λ e. rw e)

-- a step after which nothing is due is the same by both rules
pub step_none : (t : Table) (o : List ℕ) (v : ℕ) (s : State)
    → ((i : ℕ) → is_row t i ≡ true → at (slot t o v s).closing i ≡ 0 → is_due t (slot t o v s).clock i ≡ false) → run_slot t o v s ≡ slot t o v s
unfolding run_slot
step_none t o v s h = close_none t (slot t o v s) h

-- an idle slot: no row of the table is released and open
pub none_pending : (t : Table) → TableFacts t → (o : List ℕ) → is_order t o ≡ true → (s : State) → chosen t o s ≡ 0 → (i : ℕ) → is_pending t s i ≡ true → ⊥
none_pending t f o e s z i pending =
    let r = (pending_is t s i pending).row in
    let n = t.n in
    let rows = order_rows t o e in
    let above : In (chosen t (take n o ++ drop n o) s) (take n o) =
    chosen_above t f s (take n o) (λ x j. rows_in_lem t x (omega (arith, rows x))) (order_closed t f o e) (drop n o) i (omega (arith, rows i, in_rows t i r)) pending in
    let zero-above : In 0 (take n o) = rw (take-append-drop n o, z) at above in
    omega (arith, rows 0, count_zero n, zero-above)

-- So it drops nothing: an open row that is due after it was released before its deadline, and would be such a row.
pub idle_step : (t : Table) → TableFacts t → (o : List ℕ) → is_order t o ≡ true → (v : ℕ) (s : State) → chosen t o s ≡ 0 → run_slot t o v s ≡ slot t o v s
unfolding slot
idle_step t f o e v s z = step_none t o v s not_due
  where
    not_due : (i : ℕ) → is_row t i ≡ true → at (slot t o v s).closing i ≡ 0 → is_due t (slot t o v s).clock i ≡ false
    not_due i r c =
        by_bool (is_low t i)
        (λ l. by-leb (deadline_of t i) (s.clock + 1)
        (λ _ d. absurd (none_pending t f o e s z i (is_pending_lem t s i (row_is t i r) (omega (arith, d, (f.row i (row_is t i r)).before)) (rw z at c))))
        (λ w _. rw (z, l, w)))
        (λ l. rw l)

-- a table of HI rows alone
module _ (t : Table) (high : (i : ℕ) → is_row t i ≡ true → is_low t i ≡ false) (o : List ℕ) where
  pub high_step : (v : ℕ) (s : State) → run_slot t o v s ≡ slot t o v s
  high_step v s = step_none t o v s (λ i r z. rw (high i r))

  pub high_run : (σ : ℕ → ℕ) (k : ℕ) → run_after t o σ k ≡ after t o σ k
  high_run σ zero = refl
  high_run σ (suc k) = high_step (σ k) (run_after t o σ k) ∙ ap (slot t o (σ k)) (high_run σ k)

module _ (t : Table) (f : TableFacts t) (o : List ℕ) (σ : ℕ → ℕ) (i : ℕ) (r : Row t i) where
  abbrev now : ℕ → State
  now k = state_by (running t) o σ k

  abbrev worked : ℕ → State
  worked k = worked_by t f (running t) o σ k

  -- what is known of every row, whatever the slots supply
  any : (k : ℕ) → Held t (running t) 0 k i (cell_at (now k) i)
  any k = held t f (running t) o σ 0 0 k (λ j q. omega arith) (λ u p q. omega arith) k (omega arith) i r

  -- the slot closes a LO row that was open before its deadline at the deadline at the latest
  worked_by_lem : (k : ℕ) → Timely t k i (cell_at (now k) i) → at (worked k).closing i ≤ deadline_of t i
  unfolding served
  worked_by_lem k h =
      by_eqb (chosen t o (now k)) i
      (λ _ q. let z = ran t f (running t) o σ k i r q in
      let e = ap (λ (x : Cell). x.closing) (cell_served t f (running t) o σ k i r q) in
      by_bool (is_over t i (grown t (σ k) i (cell_at (now k) i)) (at (now k).used i + 1))
      (λ w. let c : at (worked k).closing i ≡ k + 1 = e ∙ rw w in omega (arith, h.early z.still))
      (λ w. let c : at (worked k).closing i ≡ 0 = e ∙ rw w in omega arith))
      (λ _ q. omega (arith, h.by, ap (λ (x : Cell). x.closing) (cell_other t f (running t) o σ k i r q)))

  module _ (low : is_low t i ≡ true) where
    -- a slot of its own leaves the row within its allowance
    worked_within : (k : ℕ) → Timely t k i (cell_at (now k) i) → at (worked k).used i ≤ allowance t i
    unfolding served
    worked_within k h =
        by_eqb (chosen t o (now k)) i
        (λ _ q. let z = ran t f (running t) o σ k i r q in
        let e : at (worked k).used i ≡ at (now k).used i + 1 = ap (λ (x : Cell). x.used) (cell_served t f (running t) o σ k i r q) in
        omega (arith, (any k).slots z.still low))
        (λ _ q. omega (arith, h.within, ap (λ (x : Cell). x.used) (cell_other t f (running t) o σ k i r q)))

    -- and the look closes one that is still open then
    looked_timely : (k : ℕ) → Timely t k i (cell_at (now k) i) → Timely t (suc k) i (cell_at (now (suc k)) i)
    unfolding close_late
    looked_timely k h =
        let c = clock_worked t f (running t) o σ k in
        let u = (worked k).clock in
        let e = closed_at (λ j. is_row t j && is_due t u j) u (worked k).closing i r.from (omega (arith, f.few, r.up_to, full)) in
        by_eqb (at (worked k).closing i) 0
        (λ n q. by-leb (deadline_of t i) u
        (λ d l. let z : at (now (suc k)).closing i ≡ suc k = e ∙ rw (n, is_row_lem t i r, low, d) c in
        record { early = λ y. absurd (omega arith); by = omega (arith, h.early (was_open q)); within = worked_within k h })
        (λ d l. let z : at (now (suc k)).closing i ≡ at (worked k).closing i = e ∙ rw (n, is_row_lem t i r, low, d) in
        record { early = λ y. omega arith; by = omega arith; within = worked_within k h }))
        (λ n q. let z : at (now (suc k)).closing i ≡ at (worked k).closing i = e ∙ rw n in
        record { early = λ y. absurd (q (sym z ∙ y)); by = omega (arith, worked_by_lem k h); within = worked_within k h })
      where
        full : length (worked k).closing ≡ 64
        full = (sized_slot t o (σ k) (now k) (sized_by t (running t) o σ k)).closings

        was_open : at (worked k).closing i ≡ 0 → at (now k).closing i ≡ 0
        was_open q =
            by_eqb (chosen t o (now k)) i
            (λ _ p. (ran t f (running t) o σ k i r p).still)
            (λ _ p. sym (ap (λ (x : Cell). x.closing) (cell_other t f (running t) o σ k i r p)) ∙ q)

    pub timely : (k : ℕ) → Timely t k i (cell_at (now k) i)
    timely zero =
        let x = fresh_cell i r.from (omega (arith, f.few, r.up_to)) in
        record {
          early = λ z. omega (arith, (f.row i r).before);
          by = omega (arith, ap (λ (c : Cell). c.closing) x);
          within = omega (arith, ap (λ (c : Cell). c.used) x);
        }
    timely (suc k) = looked_timely k (timely k)

  -- a closed HI row is done
  pub high_done : (k : ℕ) → is_low t i ≡ false → 1 ≤ at (now k).closing i → at (now k).got i ≡ work_of t i
  high_done k high c = go ((any k).ended c)
    where
      go : Over t i (at (now k).got i) (at (now k).used i) ⊎ (is_due t (at (now k).closing i) i ≡ true) → at (now k).got i ≡ work_of t i
      go (inl (inl e)) = e
      go (inl (inr e)) = absurd (not_both (is_low t i) e.0 high)
      go (inr e) = absurd (not_both (is_low t i) (and_left (is_low t i) (leb (deadline_of t i) (at (now k).closing i)) e) high)

  -- a row that is closed without being done is LO; it has used just its allowance, and was closed at its deadline or before, or it has used less
  -- and was closed at its deadline
  pub record Dropped (k : ℕ) : Type 0 where
    pub low : is_low t i ≡ true
    pub why : ((at (now k).used i ≡ allowance t i) × (at (now k).closing i ≤ deadline_of t i))
        ⊎ ((at (now k).used i < allowance t i) × (at (now k).closing i ≡ deadline_of t i))

  pub dropped : (k : ℕ) → 1 ≤ at (now k).closing i → (at (now k).got i ≡ work_of t i → ⊥) → Dropped k
  dropped k c n = go ((any k).ended c)
    where
      go : Over t i (at (now k).got i) (at (now k).used i) ⊎ (is_due t (at (now k).closing i) i ≡ true) → Dropped k
      go (inl (inl e)) = absurd (n e)
      go (inl (inr e)) = let w = timely e.0 k in record { low = e.0; why = inl (omega (arith, e.1, w.within), w.by) }
      go (inr e) =
          let low = and_left (is_low t i) (leb (deadline_of t i) (at (now k).closing i)) e in
          let w = timely low k in
          let d : at (now k).closing i ≡ deadline_of t i = omega (arith, (running t).reached (at (now k).closing i) i e, w.by) in
          record { low = low; why = by-leb (allowance t i) (at (now k).used i) (λ _ h. inl (omega (arith, w.within), w.by)) (λ _ h. inr (h, d)) }

-- Under a correct order, as long as each slot from the earliest release on supplies at least N, both rules make one run: a row that is due
-- has kept its deadline.
module _ (t : Table) (f : TableFacts t) (o : List ℕ) (e : is_order t o ≡ true) (c : Correct t o) (σ : ℕ → ℕ) (m : ℕ)
    (enough : (u : ℕ) → earliest t ≤ u → u < m → t.normal ≤ σ u) where
  none_due : (k : ℕ) → k ≤ m → (i : ℕ) → is_row t i ≡ true → at (after t o σ k).closing i ≡ 0 → leb (deadline_of t i) k ≡ false
  none_due k p i r z =
      by-leb (deadline_of t i) k
      (λ _ d. absurd (omega (
        arith,
        (kept t f o e i (row_is t i r) (all_timely t f o e c i (row_is t i r)) σ
            (λ u q l. omega (arith, enough u q (omega arith), worst_slower t f i)) k d).closed,
      )))
      (λ w _. w)

  pub one_run : (k : ℕ) → k ≤ m → run_after t o σ k ≡ after t o σ k
  one_run zero p = refl
  one_run (suc k) p =
      ap (run_slot t o (σ k)) (one_run k (omega arith))
      ∙ step_none t o (σ k) (after t o σ k)
      (λ i r z. let w = none_due (suc k) p i r z in let u = clock_by t (planning t) o σ (suc k) in rw (u, w) (by_bool (is_low t i) (λ d. rw d) (λ d. rw d)))
