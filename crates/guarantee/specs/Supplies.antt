-- From the clock at which a list starts, each supply of its run calls is taken in turn, one at each clock up to the last, whatever commits stand between:
-- the sheet in hand is at the state of its own run whose slot u has the supply taken at clock u (rules 9.15, 22.7, 22.9).
use Prim.Native.Nat.{ℕ, zero, suc, ◌+◌, ◌≤◌, min}
use Rattle.std.specs.Prelude.{◌≡◌, true, replicate}
use Rattle.std.proofs.Math.Path.{refl, sym, ap, subst}
use Rattle.std.proofs.Common.{◌∙◌, drop-drop, lt-ltb, le-ltb}
use mathlib.Core.List.{List, [], ◌∷◌, ◌++◌}
use native.Mathlib.Omega.{arith}
use Rattle.std.proofs.Math.ListN.{length, get_or, drop}
use Rattle.std.proofs.lemmas.List.{length-replicate}
use Rattle.std.proofs.Math.Seq.{drop_at}
use Rattle.rules.specs.declared.Table.{Table}
use Rattle.rules.specs.declared.Refusal.{Refusal}
use Rattle.rules.specs.Checks.{Passed, Refused}
use Rattle.rules.specs.Calls.{last_clock, Call, one, forward, tell_one, tell_forward, tell, supplies_of, all_supplies}
use Rattle.rules.specs.Correct.{earliest}
use Rattle.proposal.specs.Days.{Act, run, commit, InHand, begun, tell_act, tell_day, run_calls}
use Rattle.rules.specs.Orders.{is_order}
use Rattle.proposal.specs.Proposals.{check_proposal}
use Rattle.rules.specs.Running.{run_slot, run_after}
use Rattle.rules.specs.Slots.{State}
use Rattle.rules.specs.Tables.{Accepted}
use Rattle.theory.specs.Tests.{by-ltb}
use Rattle.theory.specs.Ends.{clock_run}
use Rattle.theory.specs.Facts.{Row, facts}
use Rattle.theory.proofs.Finishes.{earliest_first}
use Rattle.theory.proofs.Starting.{started}
use Rattle.record.specs.Checked.{limits}
use Rattle.judge.specs.Checked.{checked}
use Rattle.proposal.proofs.Passing.{by_check, turned}

-- the next supply of what is left of a list
head_at : (l : List ℕ) (k v : ℕ) (more : List ℕ) → drop k l ≡ v ∷ more → get_or l k 0 ≡ v
head_at l zero v more e = ap (λ (x : List ℕ). get_or x 0 0) e
head_at [] (suc k) v more e = ap (λ (x : List ℕ). get_or x 0 0) e
head_at (x ∷ l) (suc k) v more e = head_at l k v more e

tail_at : (l : List ℕ) (k v : ℕ) (more : List ℕ) → drop k l ≡ v ∷ more → drop (suc k) l ≡ more
tail_at l k v more e =
    let n : k + 1 ≡ suc k = omega arith in
    ap (λ (m : ℕ). drop m l) (sym n) ∙ sym (drop-drop 1 k l) ∙ ap (drop 1) e

module _ (t : Table) (o : List ℕ) (all : List ℕ) where
  abbrev at_clock : ℕ → State
  at_clock k = run_after t o (λ u. get_or all u 0) k

  same_clock : (j k : ℕ) → j ≡ k → at_clock j ≡ at_clock k
  same_clock j k e = ap at_clock e

  -- one step with the supply that is next
  step_next : (k v : ℕ) (more : List ℕ) → drop k all ≡ v ∷ more → run_slot t o v (at_clock k) ≡ at_clock (suc k)
  step_next k v more e = ap (λ (x : ℕ). run_slot t o x (at_clock k)) (sym (head_at all k v more e))

  forward_state : (j : ℕ) (vs more : List ℕ) (k : ℕ) → k ≤ last_clock → drop k all ≡ vs ++ more
      → (tell_forward t o j vs (at_clock k)).state ≡ at_clock (min (k + length vs) last_clock)
  unfolding tell_forward
  forward_state j [] more k h e = same_clock k (min (k + 0) last_clock) (omega arith)
  forward_state j (v ∷ vs) more k h e =
      by-ltb k last_clock
      (λ _ q. rw (lt-ltb (at_clock k).clock last_clock (omega (arith, clock_run t o (λ u. get_or all u 0) k)), step_next k v (vs ++ more) e)
      (forward_state (j + 1) vs more (suc k) (omega arith) (tail_at all k v (vs ++ more) e)
      ∙ same_clock (min (suc k + length vs) last_clock) (min (k + suc (length vs)) last_clock) (omega arith)))
      (λ _ q. rw (le-ltb (at_clock k).clock last_clock (omega (arith, clock_run t o (λ u. get_or all u 0) k)))
      (same_clock k (min (k + suc (length vs)) last_clock) (omega arith)))

  call_state : (c : Call) (more : List ℕ) (k : ℕ) → k ≤ last_clock → drop k all ≡ supplies_of c ++ more
      → (tell t o c (at_clock k)).state ≡ at_clock (min (k + length (supplies_of c)) last_clock)
  unfolding tell_one
  call_state (one v) more k h e =
      by-ltb k last_clock
      (λ _ q. rw (lt-ltb (at_clock k).clock last_clock (omega (arith, clock_run t o (λ u. get_or all u 0) k)), step_next k v more e)
      (same_clock (suc k) (min (k + 1) last_clock) (omega arith)))
      (λ _ q. rw (le-ltb (at_clock k).clock last_clock (omega (arith, clock_run t o (λ u. get_or all u 0) k)))
      (same_clock k (min (k + 1) last_clock) (omega arith)))
  call_state (forward vs) more k h e = forward_state 0 vs more k h e

  -- at the last clock nothing changes
  last_call : (c : Call) (s : State) → last_clock ≤ s.clock → (tell t o c s).state ≡ s
  unfolding tell_one tell_forward
  last_call (one v) s h = rw (le-ltb s.clock last_clock h)
  last_call (forward []) s h = refl
  last_call (forward (v ∷ vs)) s h = rw (le-ltb s.clock last_clock h)

-- the sheet in hand is at the state that its own run from clock 0 has there, under the course of speed of all supplies (rules 9.6, 22.7)
abbrev pub Taken : List ℕ → InHand → Type 0
Taken l h = h.state ≡ run_after h.table h.order (λ u. get_or l u 0) h.state.clock

-- the sheet in hand is one of an accepted table, with an order of it
pub record Proper (h : InHand) : Type 0 where
  pub accepted : Accepted h.table
  pub passes : is_order h.table h.order ≡ true

-- a proposal whose checks passed is such a sheet
pub begun_proper : (t : Table) (s : State) (p : Table) (o : List ℕ) → check_proposal t s p o ≡ Passed → Proper (begun p o s.clock)
begun_proper t s p o e = let c = checked p o (turned t s p o e).checked in record { accepted = c.accepted; passes = c.order }

-- a commit takes the sheet in hand away, or changes nothing (rules 22.4, 22.5)
hand_passed : (h : InHand) (p : Table) (o : List ℕ) → check_proposal h.table h.state p o ≡ Passed → (tell_act (commit p o) h).hand ≡ begun p o h.state.clock
hand_passed h p o e = rw e

hand_refused : (h : InHand) (p : Table) (o : List ℕ) (w : Refusal) → check_proposal h.table h.state p o ≡ Refused w → (tell_act (commit p o) h).hand ≡ h
hand_refused h p o w e = rw e

-- at the last clock no proposal passes: its releases are before it
never_last : (t : Table) (s : State) (p : Table) (o : List ℕ) → last_clock ≤ s.clock → check_proposal t s p o ≡ Passed → ⊥
never_last t s p o h e =
    let w = turned t s p o e in
    let f = limits p o w.checked in
    let r : Row p 1 = record { from = omega arith; up_to = f.some } in
    omega (arith, w.early, earliest_first p 1 r, (f.row 1 r).before, (f.row 1 r).soon)

-- there no act changes the sheet in hand
last_act : (a : Act) (h : InHand) → last_clock ≤ h.state.clock → (tell_act a h).hand ≡ h
last_act (run c) h q = rw (last_call h.table h.order [] c h.state q)
last_act (commit p o) h q =
    by_check (check_proposal h.table h.state p o)
    (λ e. absurd (never_last h.table h.state p o q e))
    (λ w e. hand_refused h p o w e)

last_acts : (acts : List Act) (h : InHand) → last_clock ≤ h.state.clock → (tell_day acts h).hand ≡ h
unfolding tell_day
last_acts [] h q = refl
last_acts (a ∷ more) h q = ap (λ (x : InHand). (tell_day more x).hand) (last_act a h q) ∙ last_acts more h q

module _ (l : List ℕ) where
  abbrev σ : ℕ → ℕ
  σ u = get_or l u 0

  -- a run call takes its supplies in turn, up to the last clock
  call_taken : (c : Call) (more : List ℕ) (h : InHand) → Taken l h → h.state.clock ≤ last_clock → drop h.state.clock l ≡ supplies_of c ++ more
      → (tell_act (run c) h).hand.state ≡ run_after h.table h.order σ (min (h.state.clock + length (supplies_of c)) last_clock)
  call_taken c more h q p e =
      ap (λ (s : State). (tell h.table h.order c s).state) q ∙ call_state h.table h.order l c more h.state.clock p e

  pub day_taken : (acts : List Act) (h : InHand) → Proper h → Taken l h → h.state.clock ≤ last_clock → drop h.state.clock l ≡ all_supplies (run_calls acts)
      → Taken l (tell_day acts h).hand
  unfolding tell_day all_supplies run_calls
  day_taken [] h proper q p e = q
  day_taken (run c ∷ more) h proper q p e =
      let n = length (supplies_of c) in
      let k = h.state.clock in
      let m = min (k + n) last_clock in
      let r = all_supplies (run_calls more) in
      let next = (tell_act (run c) h).hand in
      let moved = call_taken c r h q p e in
      let at-m : next.state.clock ≡ m = ap (λ (s : State). s.clock) moved ∙ clock_run h.table h.order σ m in
      let there : Taken l next = moved ∙ ap (run_after h.table h.order σ) (sym at-m) in
      by-ltb (k + n) last_clock
      (λ _ w. let is : next.state.clock ≡ k + n = omega arith in
      day_taken more next (record { accepted = proper.accepted; passes = proper.passes }) there (omega arith)
      (ap (λ (x : ℕ). drop x l) is ∙ sym (drop-drop n k l) ∙ ap (drop n) e ∙ drop_at (supplies_of c) r n refl))
      (λ _ w. subst (Taken l) (sym (last_acts more next (omega arith))) there)
  day_taken (commit p o ∷ more) h proper q m e =
      by_check (check_proposal h.table h.state p o)
      (λ c.
      let next = begun p o h.state.clock in
      let good = begun_proper h.table h.state p o c in
      subst (λ (x : InHand). Taken l (tell_day more x).hand) (sym (hand_passed h p o c))
      (day_taken more next good
      (sym (started p (facts p good.accepted) o good.passes σ h.state.clock (turned h.table h.state p o c).early)) m e))
      (λ w c. subst (λ (x : InHand). Taken l (tell_day more x).hand) (sym (hand_refused h p o w c)) (day_taken more h proper q m e))

-- the state on paper after a list of acts is that of the course of speed `supply_from`, at the clock that the list reaches (rules 9.6, 9.15, 22.7, 22.9)
pub paper_run : (t : Table) → Accepted t → (o : List ℕ) → is_order t o ≡ true → (k : ℕ) → k ≤ earliest t → (acts : List Act)
    → Taken (replicate k 0 ++ all_supplies (run_calls acts)) (tell_day acts (begun t o k)).hand
paper_run t accepted o order k early acts =
    let l = replicate k 0 ++ all_supplies (run_calls acts) in
    let f = facts t accepted in
    let r : Row t 1 = record { from = omega arith; up_to = f.some } in
    day_taken l acts (begun t o k) (record { accepted = accepted; passes = order }) (sym (started t f o order (λ u. get_or l u 0) k early))
    (omega (arith, early, earliest_first t 1 r, (f.row 1 r).before, (f.row 1 r).soon))
    (drop_at (replicate k 0) (all_supplies (run_calls acts)) k (length-replicate k 0))
