-- A row whose worst finish is in time keeps its deadline in every run that supplies as much, by either rule of a slot (rule 19.5), and under a
-- correct order every row's is (rules 3.2, 3.3 and 3.6). Promised parts are in Promised.
use Rattle.std.specs.Prelude.{ℕ, zero, suc, ◌+◌, ◌-◌, ◌≤◌, ◌<◌, true, false, ◌≡◌, List, [], ◌∷◌, ◌++◌, ◌⊎◌, ltb, leb, pos, ◌-ℤ◌}
use Rattle.std.proofs.Common.{true≢false, sym, ap, subst, ◌∙◌, append_assoc, inl, inr, arith, lt-ltb, le-ltb, le-leb}
use Rattle.std.specs.Int.Signed.{lt_z}
use Rattle.rules.specs.declared.Table.{Table}
use Rattle.rules.specs.Rows.{at, is_low, work_of, deadline_of}
use Rattle.rules.specs.Orders.{is_order}
use Rattle.rules.specs.Slots.{after}
use Rattle.rules.specs.Correct.{KeptIn, Kept, Correct, earliest, Window}
use Rattle.rules.specs.Worst.{worst_speed, horizon, worst_finish}
use Rattle.theory.specs.Tests.{by_bool, by-ltb}
use Rattle.theory.specs.Counts.{In, in_last}
use Rattle.theory.specs.Facts.{Row, is_row_lem, TableFacts}
use Rattle.theory.specs.Cells.{Cell, cell_at}
use Rattle.theory.specs.Ends.{Rule, planning, state_by}
use Rattle.theory.proofs.Invariant.{worked_by, held, held_worked, got_high, got_normal}
use Rattle.theory.specs.Invariant.{Held, Over}
use Rattle.theory.proofs.Sustain.{closed_by, over_by, look_stays, closed_stays}
use Rattle.theory.proofs.Exact.{closed_finish}
use Rattle.theory.specs.Waits.{Closed, stand_closed}
use Rattle.theory.specs.Places.{placed}
use Rattle.theory.proofs.Finishes.{earliest_first, worst_runs, worst_slower, worst_finish_lem, worst_lasts, time_clear}
use Rattle.theory.specs.Finishes.{Clear, on_time}
use Rattle.theory.specs.Verdict.{KeptCell, Finished}

-- a slack is below zero exactly if the finish is after the deadline
pub late_is : (d k : ℕ) → lt_z (pos d -ℤ pos k) (pos 0) ≡ ltb d k
late_is d zero = le-ltb (d + 0) 0 (omega arith) ∙ sym (le-ltb d 0 (omega arith))
late_is d (suc k) = by_bool (ltb d (suc k)) (λ e. rw e) (λ e. rw e (le-ltb (d - suc k) 0 (omega arith)))

-- a finish that is later leaves a slack that is less
pub more_left : (d k m : ℕ) → k < m → lt_z (pos d -ℤ pos m) (pos d -ℤ pos k) ≡ true
more_left d k zero h = absurd (omega arith)
more_left d zero (suc m) h = by-ltb d (suc m) (λ e p. rw e) (λ e p. rw e (lt-ltb (d - suc m) (d + 0) (omega arith)))
more_left d (suc k) (suc m) h =
    by-ltb d (suc k)
    (λ e p. rw (e, lt-ltb d (suc m) (omega arith)) (lt-ltb (suc k - suc d) (suc m - suc d) (omega arith)))
    (λ e p. by-ltb d (suc m) (λ f q. rw (e, f)) (λ f q. rw (e, f) (lt-ltb (d - suc m) (d - suc k) (omega arith))))

-- a finish that is not later leaves a slack that is not less
pub less_left : (d k m : ℕ) → k ≤ m → lt_z (pos d -ℤ pos k) (pos d -ℤ pos m) ≡ false
less_left d zero zero h = le-ltb (d + 0) (d + 0) (omega arith)
less_left d zero (suc m) h = by_bool (ltb d (suc m)) (λ e. rw e) (λ e. rw e (le-ltb (d + 0) (d - suc m) (omega arith)))
less_left d (suc k) zero h = absurd (omega arith)
less_left d (suc k) (suc m) h =
    by-ltb d (suc k)
    (λ e p. rw (e, lt-ltb d (suc m) (omega arith)) (le-ltb (suc m - suc d) (suc k - suc d) (omega arith)))
    (λ e p. by_bool (ltb d (suc m)) (λ f. rw (e, f)) (λ f. rw (e, f) (le-ltb (d - suc k) (d - suc m) (omega arith))))

module _ (t : Table) (f : TableFacts t) where
  -- a row that is over has got its work where its slots supplied its worst speed
  got_all : (r : Rule t) (u i : ℕ) (x : Cell) → Held t r (worst_speed t i) u i x → Over t i x.got x.used → x.got ≡ work_of t i
  got_all r u i x h c =
      by_bool (is_low t i)
      (λ e. got_normal t r u i x f.runs (subst (λ (s : ℕ). Held t r s u i x) (rw e) h) c)
      (λ e. got_high t i x e c)

  -- Row i below the rows of a, with b below it, by either rule: the slot before its finish makes it done, and no look at a clock up to
  -- its deadline can have closed it before (rule 19.3).
  kept_below : (rule : Rule t) (a b : List ℕ) (i : ℕ) → ((x : ℕ) → In x (a ++ (i ∷ [])) → Row t x) → Closed t (a ++ (i ∷ [])) → Clear t (a ++ (i ∷ [])) i → (σ : ℕ → ℕ)
      → Window t σ i (worst_speed t i) → (k : ℕ) → deadline_of t i ≤ k → KeptIn t (state_by rule (a ++ (i ∷ []) ++ b) σ k) i
  kept_below rule a b i rows shut c σ w k q =
      let x : KeptCell t i (cell_at (state_by rule (a ++ (i ∷ []) ++ b) σ k) i) =
      subst (KeptCell t i) (sym later)
      (record { done = got_all rule (suc last) i now hold over; closed = closed; in_time = omega (arith, hold.past, c.by) }) in
      record { done = x.done; closed = x.closed; in_time = x.in_time }
    where
      own : Row t i
      own = rows i (in_last a i)

      -- the slot before the finish
      last : ℕ
      last = c.at - 1

      next : c.at ≡ suc last
      next = omega (arith, c.after)

      now : Cell
      now = cell_at (worked_by t f rule (a ++ (i ∷ []) ++ b) σ last) i

      enough : (u : ℕ) → earliest t ≤ u → u < suc last → worst_speed t i ≤ σ u
      enough u p r = w u p (omega (arith, next, c.by))

      hold : Held t rule (worst_speed t i) (suc last) i now
      hold =
          held_worked t f rule (a ++ (i ∷ []) ++ b) σ (worst_speed t i) last i own (λ l. enough last (omega (arith, earliest_first t i own, l)) (omega arith))
          (held t f rule (a ++ (i ∷ []) ++ b) σ (worst_speed t i) (earliest t) (suc last) (earliest_first t) enough last (omega arith) i own)

      closed : 1 ≤ now.closing
      closed =
          closed_by t f rule (a ++ (i ∷ [])) b rows shut σ (worst_speed t i) (earliest t) (suc last) (worst_runs t f i) (earliest_first t) enough
          last (omega arith) (rw next at c.clear) i (in_last a i) (omega (arith, c.after))

      over : Over t i now.got now.used
      over =
          over_by t f rule (a ++ (i ∷ [])) b rows shut σ (worst_speed t i) (earliest t) (suc last) (worst_runs t f i) (earliest_first t) enough
          last (omega arith) i own (omega (arith, next, c.by)) closed

      looked : cell_at (state_by rule (a ++ (i ∷ []) ++ b) σ (suc last)) i ≡ now
      looked = look_stays t f rule (a ++ (i ∷ []) ++ b) σ i own last closed

      later : cell_at (state_by rule (a ++ (i ∷ []) ++ b) σ k) i ≡ now
      later =
          ap (λ (u : ℕ). cell_at (state_by rule (a ++ (i ∷ []) ++ b) σ u) i) (let e : k ≡ k - suc last + suc last = omega (arith, next, c.by) in e)
          ∙ closed_stays t f rule (a ++ (i ∷ []) ++ b) σ i own (suc last) (k - suc last) (rw (ap (λ (x : Cell). x.closing) looked) closed)
          ∙ looked

  -- an order under check 6
  module _ (o : List ℕ) (e : is_order t o ≡ true) where
    -- by either rule, at every clock from the deadline on
    pub kept_by : (rule : Rule t) (i : ℕ) → Row t i → on_time t o i ≡ true → (σ : ℕ → ℕ) → Window t σ i (worst_speed t i) → (k : ℕ) → deadline_of t i ≤ k
        → KeptIn t (state_by rule o σ k) i
    kept_by rule i r m σ w k q =
        let p = placed t f o e i r in
        let whole : o ≡ p.above ++ (i ∷ []) ++ p.below = p.whole ∙ sym (append_assoc p.above (i ∷ []) p.below) in
        let c = time_clear t f p.above p.below i p.rows p.once p.stand (subst (λ (l : List ℕ). on_time t l i ≡ true) p.whole m) in
        subst (λ (l : List ℕ). KeptIn t (state_by rule l σ k) i) (sym whole) (kept_below rule p.above p.below i p.rows (stand_closed t p.above i p.stand) c σ w k q)

    pub kept : (i : ℕ) → Row t i → on_time t o i ≡ true → (σ : ℕ → ℕ) → Window t σ i (worst_speed t i) → (k : ℕ) → deadline_of t i ≤ k → KeptIn t (after t o σ k) i
    kept = kept_by (planning t)

    -- row i's worst run at a clock k that is not before the horizon
    pub finished : (i : ℕ) → Row t i → (k : ℕ) → horizon t (worst_speed t i) ≤ k → Finished t o i k
    finished i r k h =
        let p = placed t f o e i r in
        let whole : p.above ++ (i ∷ []) ++ p.below ≡ o = append_assoc p.above (i ∷ []) p.below ∙ sym p.whole in
        let same : worst_finish t (p.above ++ (i ∷ p.below)) i ≡ worst_finish t o i = ap (λ (l : List ℕ). worst_finish t l i) (sym p.whole) in
        let w = (worst_finish_lem t f p.above p.below i p.rows p.once p.stand).after in
        let closing : at (after t o (λ _. worst_speed t i) k).closing i ≡ worst_finish t o i =
        subst (λ (l : List ℕ). at (after t l (λ _. worst_speed t i) k).closing i ≡ worst_finish t o i) whole
        (worst_lasts t f p.above p.below i p.rows p.once p.stand k h ∙ same) in
        record {
          closing = closing;
          from = omega (arith, w, same);
          got = got_closed (held t f (planning t) o (λ _. worst_speed t i) (worst_speed t i) (earliest t) k (earliest_first t) (λ u p q. omega arith) k (omega arith) i r)
              (omega (arith, closing, w, same));
        }
      where
        got_closed : Held t (planning t) (worst_speed t i) k i (cell_at (after t o (λ _. worst_speed t i) k) i) → 0 < at (after t o (λ _. worst_speed t i) k).closing i
            → at (after t o (λ _. worst_speed t i) k).got i ≡ work_of t i
        got_closed h p = go (h.ended p)
          where
            go : Over t i (at (after t o (λ _. worst_speed t i) k).got i) (at (after t o (λ _. worst_speed t i) k).used i) ⊎ (false ≡ true)
                → at (after t o (λ _. worst_speed t i) k).got i ≡ work_of t i
            go (inl c) = got_all (planning t) k i (cell_at (after t o (λ _. worst_speed t i) k) i) h c
            go (inr c) = absurd (true≢false (sym c))

    -- the run at exactly a row's worst speed is itself a course of speed
    kept_worst : Correct t o → (i : ℕ) → Row t i → Kept t o (λ _. worst_speed t i) i
    kept_worst c i r =
        by_bool (is_low t i)
        (λ l. c.normal (λ _. worst_speed t i) (λ u. rw l (omega arith)) i (is_row_lem t i r))
        (λ l. c.degraded (λ _. worst_speed t i) (λ u. rw l (omega arith)) i (is_row_lem t i r) (rw l))

    pub all_timely : Correct t o → (i : ℕ) → Row t i → on_time t o i ≡ true
    all_timely c i r =
        let p = placed t f o e i r in
        let whole : o ≡ p.above ++ (i ∷ []) ++ p.below = p.whole ∙ sym (append_assoc p.above (i ∷ []) p.below) in
        let k = (kept_worst c i r).closed in
        subst (λ (l : List ℕ). leb (worst_finish t l i) (deadline_of t i) ≡ true) (sym p.whole)
        (le-leb (worst_finish t (p.above ++ (i ∷ p.below)) i) (deadline_of t i)
        (closed_finish t f p.above p.below i p.rows p.once p.stand (worst_speed t i) (worst_runs t f i) (worst_slower t f i)
        (worst_finish t (p.above ++ (i ∷ p.below)) i) (deadline_of t i)
        (worst_finish_lem t f p.above p.below i p.rows p.once p.stand)
        (subst (λ (l : List ℕ). 1 ≤ at (after t l (λ _. worst_speed t i) (deadline_of t i)).closing i) whole k)))
