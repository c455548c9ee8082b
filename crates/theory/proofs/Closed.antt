-- A row that is closed is settled (rule 9.20): whether it has kept its deadline, and whether it has got its promised part, rests on the slots of its
-- window before its closing slot, since the run could go on from there with slots that supply enough, and a closed row stays as it is. Of these slots only
-- those count in which a row works (rule 9.17).
use Rattle.std.specs.Prelude.{ℕ, zero, suc, ◌+◌, ◌-◌, ◌≤◌, true, false, cond, List, ◌⊎◌, ◌≡◌, ltb, pos}
use Rattle.std.proofs.Math.Logic.{inl, inr}
use Rattle.std.proofs.Common.{sym, subst, ◌∙◌, arith, lt-ltb}
use Rattle.std.proofs.Math.Path.{ap}
use Rattle.std.specs.Int.Signed.{lt_z}
use Rattle.rules.specs.declared.Table.{Table}
use Rattle.rules.specs.Correct.{KeptIn, Window, WindowTo}
use Rattle.rules.specs.Orders.{is_order}
use Rattle.rules.specs.Rows.{at, is_row, is_low, deadline_of, promised_of}
use Rattle.rules.specs.Running.{run_after}
use Rattle.rules.specs.Slots.{State, chosen, is_over}
use Rattle.rules.specs.Tables.{Accepted}
use Rattle.rules.specs.Worst.{worst_speed, slack}
use Rattle.theory.specs.Cells.{Cell, cell_at, grown, served, fresh_cell}
use Rattle.theory.specs.Ends.{Rule, Shut, running, state_by, running_is}
use Rattle.theory.specs.Facts.{Row, row_is, TableFacts, facts}
use Rattle.theory.proofs.Invariant.{worked_by, cell_served, cell_other, clock_worked, looked}
use Rattle.theory.proofs.Lost.{run_lost}
use Rattle.theory.specs.Lost.{lost}
use Rattle.theory.proofs.Results.{running_sustainable, running_promise}
use Rattle.theory.proofs.Serving.{same_window, kept_later}
use Rattle.theory.proofs.Sustain.{closed_slot, closed_stays}
use Rattle.theory.specs.Tests.{by_bool, by_eqb, by-ltb}
use Rattle.theory.specs.Verdict.{KeptCell}
use Rattle.theory.specs.Closed.{WorkWindowTo}

-- A row's closing slot is the clock at which it was closed: it is not after now, and at that clock the row had it.
module _ (t : Table) (f : TableFacts t) (rule : Rule t) (o : List ℕ) (σ : ℕ → ℕ) (i : ℕ) (r : Row t i) where
  abbrev closing_at : ℕ → ℕ
  closing_at k = at (state_by rule o σ k).closing i

  record ClosedAt (k : ℕ) : Type 0 where
    by : closing_at k ≤ k
    there : closing_at (closing_at k) ≡ closing_at k

  -- a slot closes the row at the clock after it, or leaves it open
  worked_closing : (k : ℕ) → closing_at k ≡ 0 → (at (worked_by t f rule o σ k).closing i ≡ 0) ⊎ (at (worked_by t f rule o σ k).closing i ≡ suc k)
  unfolding served
  worked_closing k z =
      by_eqb (chosen t o (state_by rule o σ k)) i
      (λ _ q.
      let x = cell_at (state_by rule o σ k) i in
      let e = ap (λ (y : Cell). y.closing) (cell_served t f rule o σ k i r q) in
      by_bool (is_over t i (grown t (σ k) i x) (x.used + 1))
      (λ v. let w : at (worked_by t f rule o σ k).closing i ≡ k + 1 = e ∙ rw v in inr (omega (arith, w)))
      (λ v. inl (e ∙ rw v)))
      (λ _ q. inl (ap (λ (y : Cell). y.closing) (cell_other t f rule o σ k i r q) ∙ z))

  -- and so does the look at that clock
  next_closing : (k : ℕ) → closing_at k ≡ 0 → 1 ≤ closing_at (suc k) → closing_at (suc k) ≡ suc k
  next_closing k z c = go (looked t f rule o σ k i r) (worked_closing k z)
    where
      go : (cell_at (state_by rule o σ (suc k)) i ≡ cell_at (worked_by t f rule o σ k) i) ⊎ Shut rule.may (worked_by t f rule o σ k) (state_by rule o σ (suc k)) i
          → (at (worked_by t f rule o σ k).closing i ≡ 0) ⊎ (at (worked_by t f rule o σ k).closing i ≡ suc k) → closing_at (suc k) ≡ suc k
      go (inl e) (inl w) = absurd (omega (arith, c, w, ap (λ (y : Cell). y.closing) e))
      go (inl e) (inr w) = ap (λ (y : Cell). y.closing) e ∙ w
      go (inr x) w = ap (λ (y : Cell). y.closing) x.shut ∙ clock_worked t f rule o σ k

  closed_at : (k : ℕ) → 1 ≤ closing_at k → ClosedAt k
  closed_at zero c = absurd (omega (arith, c, ap (λ (y : Cell). y.closing) (fresh_cell i r.from (omega (arith, r.up_to, f.few)))))
  closed_at (suc k) c =
      by_eqb (closing_at k) 0
      (λ _ z. let e = next_closing k z c in record { by = omega (arith, e); there = ap closing_at e })
      (λ _ z.
      let same : closing_at (suc k) ≡ closing_at k = ap (λ (y : Cell). y.closing) (closed_slot t f rule o σ i r k (omega arith)) in
      let before = closed_at k (omega arith) in
      record { by = omega (arith, same, before.by); there = ap closing_at same ∙ before.there ∙ sym same })

module _ (t : Table) (accepted : Accepted t) (o : List ℕ) (order : is_order t o ≡ true) (i : ℕ) (r : is_row t i ≡ true)
    (slow : lt_z (slack t o i) (pos 0) ≡ false) where
  -- Up to a clock at which the row is closed the slots before that clock are enough.
  module _ (σ : ℕ → ℕ) (k : ℕ) (closed : 1 ≤ at (run_after t o σ k).closing i) where
    -- the course that goes on from clock k with s work units in each slot
    abbrev τ : ℕ → ℕ → ℕ
    τ s u = cond (ltb u k) (σ u) s

    onward : (s : ℕ) → WindowTo t σ k i s → Window t (τ s) i s
    onward s w u p q = by-ltb u k (λ e h. rw e (w u p q h)) (λ e h. rw e (omega arith))

    one_run : (s : ℕ) → run_after t o σ k ≡ run_after t o (τ s) k
    one_run s = same_window t o σ (τ s) k (λ u p h. rw (lt-ltb u k h)) k (omega arith)

    -- the row is at the deadline, and after it, as it is now
    stays : (s : ℕ) → cell_at (run_after t o (τ s) (deadline_of t i + k)) i ≡ cell_at (run_after t o σ k) i
    stays s =
        ap (λ (x : State). cell_at x i) (sym (running_is t o (τ s) (deadline_of t i + k)))
        ∙ closed_stays t (facts t accepted) (running t) o (τ s) i (row_is t i r) k (deadline_of t i) (rw (running_is t o (τ s) k) (rw (one_run s) at closed))
        ∙ ap (λ (x : State). cell_at x i) (running_is t o (τ s) k ∙ sym (one_run s))

    kept_now : WindowTo t σ k i (worst_speed t i) → KeptIn t (run_after t o σ k) i
    kept_now w =
        let s = worst_speed t i in
        let q = running_sustainable t accepted o order i r slow (τ s) (onward s w) (deadline_of t i + k) (omega arith) in
        let x : KeptCell t i (cell_at (run_after t o σ k) i) =
        subst (KeptCell t i) (stays s) (record { done = q.done; closed = q.closed; in_time = q.in_time }) in
        record { done = x.done; closed = x.closed; in_time = x.in_time }

    part_now : is_low t i ≡ true → WindowTo t σ k i t.degraded → promised_of t i ≤ at (run_after t o σ k).got i
    part_now low w =
        let s = t.degraded in
        let q = running_promise t accepted o order i r low slow (τ s) (onward s w) (deadline_of t i + k) (omega arith) in
        omega (arith, q, ap (λ (x : Cell). x.got) (stays s))

  -- So are those before the row's closing slot.
  module _ (σ : ℕ → ℕ) (k : ℕ) (closed : 1 ≤ at (run_after t o σ k).closing i) where
    abbrev c : ℕ
    c = at (run_after t o σ k).closing i

    was : ClosedAt t (facts t accepted) (running t) o σ i (row_is t i r) k
    was = closed_at t (facts t accepted) (running t) o σ i (row_is t i r) k (rw (running_is t o σ k) closed)

    by_now : c ≤ k
    by_now = omega (arith, was.by, ap (λ (x : State). at x.closing i) (running_is t o σ k))

    then_closed : 1 ≤ at (run_after t o σ c).closing i
    then_closed =
        let e : at (state_by (running t) o σ k).closing i ≡ c = ap (λ (x : State). at x.closing i) (running_is t o σ k) in
        let there : at (state_by (running t) o σ c).closing i ≡ c = rw e at was.there in
        omega (arith, closed, there, ap (λ (x : State). at x.closing i) (running_is t o σ c))

    pub closed_kept : WindowTo t σ c i (worst_speed t i) → KeptIn t (run_after t o σ k) i
    closed_kept w = kept_later t (facts t accepted) o σ i (row_is t i r) c k by_now (kept_now σ c then_closed w)

    pub closed_part : is_low t i ≡ true → WindowTo t σ c i t.degraded → promised_of t i ≤ at (run_after t o σ k).got i
    closed_part low w =
        let e : k - c + c ≡ k = omega (arith, by_now) in
        let same = closed_stays t (facts t accepted) (running t) o σ i (row_is t i r) c (k - c) (rw (running_is t o σ c) then_closed) in
        omega (
          arith,
          part_now σ c then_closed low w,
          ap (λ (x : Cell). x.got) same,
          ap (λ (u : ℕ). at (state_by (running t) o σ u).got i) e,
          ap (λ (x : State). at x.got i) (running_is t o σ c),
          ap (λ (x : State). at x.got i) (running_is t o σ k),
        )

  -- And of these only those in which a row works.
  module _ (σ : ℕ → ℕ) (k : ℕ) (closed : 1 ≤ at (run_after t o σ k).closing i) where
    -- the course with s work units in each slot whose supply is lost
    abbrev full : ℕ → ℕ → ℕ
    full s u = cond (lost t o (run_after t o σ u)) s (σ u)

    same_run_lem : (s m : ℕ) → run_after t o σ m ≡ run_after t o (full s) m
    same_run_lem s m = run_lost t o σ (full s) (λ u n. rw n) m

    enough : (s m : ℕ) → WorkWindowTo t o σ m i s → WindowTo t (full s) m i s
    enough s m w u p l h = by_bool (lost t o (run_after t o σ u)) (λ n. rw n (omega arith)) (λ n. rw n (w u p l h n))

    pub closed_working : WorkWindowTo t o σ (at (run_after t o σ k).closing i) i (worst_speed t i) → KeptIn t (run_after t o σ k) i
    closed_working w =
        let s = worst_speed t i in
        let e = same_run_lem s k in
        subst (λ (x : State). KeptIn t x i) (sym e)
        (closed_kept (full s) k (rw e at closed) (subst (λ (x : State). WindowTo t (full s) (at x.closing i) i s) e (enough s (at (run_after t o σ k).closing i) w)))

    pub part_working_closed : is_low t i ≡ true → WorkWindowTo t o σ (at (run_after t o σ k).closing i) i t.degraded
        → promised_of t i ≤ at (run_after t o σ k).got i
    part_working_closed low w =
        let s = t.degraded in
        let e = same_run_lem s k in
        subst (λ (x : State). promised_of t i ≤ at x.got i) (sym e)
        (closed_part (full s) k (rw e at closed) low (subst (λ (x : State). WindowTo t (full s) (at x.closing i) i s) e (enough s (at (run_after t o σ k).closing i) w)))
