-- Demand 3 (rules 9.5 to 9.12, 9.18 to 9.20, 22.7 to 22.9), the theorem: the claim holds of every accepted table and every list of run calls and commits.
use Rattle.std.specs.Prelude.{ℕ, ◌+◌, ◌≤◌, Bool, true, not, ◌↔◌, ◌⊎◌, ◌≡◌, ltb, eqb, length, replicate}
use Rattle.std.proofs.Common.{inl, inr, sym, subst, arith}
use Rattle.std.proofs.Math.Path.{refl}
use mathlib.Core.List.{List, [], ◌∷◌}
use Rattle.record.specs.declared.Run.{Run}
use Rattle.record.proofs.FreshRuns.{start_sound, start_sized}
use Rattle.record.specs.Records.{record_of, start_run, fresh_of}
use Rattle.rules.specs.declared.Table.{Table}
use Rattle.rules.specs.Checks.{Passed}
use Rattle.rules.specs.Calls.{last_clock, Call, one, forward, Said, tell_one, tell_forward, tell, supply_from}
use Rattle.ceiling.proofs.Bounds.{count_most, within_count}
use Rattle.rules.specs.Choice.{choice, word, padded, plan_from, plan_of}
use Rattle.rules.specs.Correct.{KeptIn, Correct, CorrectOrder, earliest, WindowTo}
use Rattle.proposal.specs.Days.{Act, run, commit, InHand, begun, tell_act, tell_day, run_calls}
use Rattle.rules.specs.Lists.{all}
use Rattle.rules.specs.Numbers.{planned_number, rows_left}
use Rattle.rules.specs.Orders.{is_order}
use Rattle.proposal.specs.Proposals.{check_proposal}
use Rattle.rules.specs.Rows.{at, is_high, work_of, promised_of, follows_of}
use Rattle.rules.specs.Running.{run_slot, run_after}
use Rattle.rules.specs.Slots.{State, fresh}
use Rattle.rules.specs.Tables.{Accepted}
use Rattle.rules.specs.Worst.{worst_speed}
use Rattle.theory.proofs.Closed.{closed_kept, closed_part}
use Rattle.theory.specs.Counts.{in_head}
use Rattle.theory.specs.Facts.{both_pass, both_order}
use Rattle.theory.proofs.Results.{running_sustainable, running_promise, follower_held, follower_later, high_follower_later, verdict, choice_order, choice_correct, choice_none}
use Rattle.theory.specs.Tests.{by_bool, by_eqb, and_both}
use Rattle.proposal.specs.Commits.{commit_of}
use Rattle.proposal.proofs.Passing.{by_check, turned, proposal_not_nine}
use Rattle.proposal.proofs.Renewing.{renews}
use Rattle.guarantee.specs.Playing.{make_day}
use Rattle.guarantee.specs.Claim.{HandRight, paper, RunRight, CommitRight, Demand3}
use Rattle.guarantee.specs.Paper.{record_in, HandHolds, acts_told}
use Rattle.guarantee.specs.Supplies.{Proper, begun_proper, paper_run}

-- a run call on paper says 0 or 8 and nothing else (rules 9.7, 9.8), and a commit a number of its checks after 9, so never 9 (rule 9.11)
abbrev not_nine : Said → Bool
not_nine s = not (eqb s.number 9)

module _ (t : Table) (o : List ℕ) where
  forward_number : (k : ℕ) (vs : List ℕ) (s : State) → not_nine (tell_forward t o k vs s).said ≡ true
  unfolding tell_forward
  forward_number k [] s = refl
  forward_number k (v ∷ vs) s = by_bool (ltb s.clock last_clock) (λ e. rw e (forward_number (k + 1) vs (run_slot t o v s))) (λ e. rw e)

  call_number : (c : Call) (s : State) → not_nine (tell t o c s).said ≡ true
  unfolding tell_one
  call_number (one v) s = by_bool (ltb s.clock last_clock) (λ e. rw e) (λ e. rw e)
  call_number (forward vs) s = forward_number 0 vs s

act_number : (a : Act) (h : InHand) → not_nine (tell_act a h).said ≡ true
act_number (run c) h = call_number h.table h.order c h.state
act_number (commit p o) h = proposal_not_nine h.table h.state p o

acts_number : (acts : List Act) (h : InHand) → all not_nine (tell_day acts h).said ≡ true
unfolding tell_day
acts_number [] h = refl
acts_number (a ∷ more) h =
    and_both (not_nine (tell_act a h).said) (all not_nine (tell_day more (tell_act a h).hand).said) (act_number a h) (acts_number more (tell_act a h).hand)

-- the sheet in hand is always one of an accepted table, with an order of it
act_proper : (a : Act) (h : InHand) → Proper h → Proper (tell_act a h).hand
act_proper (run c) h q = record { accepted = q.accepted; passes = q.passes }
act_proper (commit p o) h q =
    by_check (check_proposal h.table h.state p o) (λ e. rw e (begun_proper h.table h.state p o e)) (λ w e. rw e q)

acts_proper : (acts : List Act) (h : InHand) → Proper h → Proper (tell_day acts h).hand
unfolding tell_day
acts_proper [] h q = q
acts_proper (a ∷ more) h q = acts_proper more (tell_act a h).hand (act_proper a h q)

-- it is the first one, or it was committed, and then its order is correct
abbrev FirstOr : InHand → InHand → Type 0
FirstOr g h = ((h.table ≡ g.table) × (h.order ≡ g.order)) ⊎ Correct h.table h.order

act_first : (g : InHand) (a : Act) (h : InHand) → FirstOr g h → FirstOr g (tell_act a h).hand
act_first g (run c) h q = q
act_first g (commit p o) h q =
    by_check (check_proposal h.table h.state p o) (λ e. rw e (inr (turned h.table h.state p o e).correct)) (λ w e. rw e q)

acts_first : (g : InHand) (acts : List Act) (h : InHand) → FirstOr g h → FirstOr g (tell_day acts h).hand
unfolding tell_day
acts_first g [] h q = q
acts_first g (a ∷ more) h q = acts_first g more (tell_act a h).hand (act_first g a h q)

-- What holds of a sheet that is at the state of its own run under a course of speed: of a correct order by its slacks, of any order for followers.
module _ (t : Table) (accepted : Accepted t) (o : List ℕ) (order : is_order t o ≡ true) (s : State) (σ : ℕ → ℕ) (taken : s ≡ run_after t o σ s.clock) where
  -- what is shown of that run is so of the state
  seen : (P : State → Type 0) → P (run_after t o σ s.clock) → P s
  seen P q = subst P (sym taken) q

  abbrev HeldTo : ℕ → ℕ → State → Type 0
  HeldTo i u x = (1 ≤ at x.closing (follows_of t i)) × (at x.closing (follows_of t i) ≤ u)

  abbrev AfterRow : ℕ → ℕ → State → Type 0
  AfterRow i k x =
      1 ≤ at x.used i
      → (1 ≤ at x.closing (follows_of t i)) × (at x.closing (follows_of t i) + at x.used i ≤ k)
      × (is_high t i ≡ true → at x.got (follows_of t i) ≡ work_of t (follows_of t i))

  shut : (i : ℕ) → 1 ≤ at s.closing i → 1 ≤ at (run_after t o σ s.clock).closing i
  shut i c = subst (λ (x : State). 1 ≤ at x.closing i) taken c

  to_closing : (i v : ℕ) → WindowTo t σ (at s.closing i) i v → WindowTo t σ (at (run_after t o σ s.clock).closing i) i v
  to_closing i v w = subst (λ (x : State). WindowTo t σ (at x.closing i) i v) taken w

  hand_right : HandRight t o s σ (record_of t o s)
  hand_right =
      let k = s.clock in
      record {
        taken = taken;
        clock = refl;
        got = refl;
        used = refl;
        closing = refl;
        table = refl;
        order = refl;
        kept = λ c i r d w. seen (λ (x : State). KeptIn t x i)
            (running_sustainable t accepted o order i r ((verdict t accepted o order).0 c i r) σ w k d);
        promised = λ c i r l d w. seen (λ (x : State). promised_of t i ≤ at x.got i)
            (running_promise t accepted o order i r l ((verdict t accepted o order).0 c i r) σ w k d);
        settled = λ c i r z w. seen (λ (x : State). KeptIn t x i)
            (closed_kept t accepted o order i r ((verdict t accepted o order).0 c i r) σ k (shut i z) (to_closing i (worst_speed t i) w));
        settled_part = λ c i r l z w. seen (λ (x : State). promised_of t i ≤ at x.got i)
            (closed_part t accepted o order i r ((verdict t accepted o order).0 c i r) σ k (shut i z) l (to_closing i t.degraded w));
        held = λ i u r some h q. seen (HeldTo i u) (follower_held t accepted o order i r some σ u k h q);
        waited = λ i r some. seen (AfterRow i k)
            (λ used. let l = follower_later t accepted o order i r some σ k used in
            (l.0, l.1, λ h. high_follower_later t accepted o order i r h some σ k used));
      }

none_of : (l : List ℕ) → length l ≡ 0 → l ≡ []
none_of [] e = refl
none_of (x ∷ l) e = absurd (omega arith)

-- a commit that is answered 0, to any record (rules 22.4, 22.7)
commit_right : (r : Run) (t : Table) (o : List ℕ) → (commit_of r t o).check ≡ Passed → CommitRight r t o
commit_right r t o e =
    let q = renews r t o e in
    record {
      sound = q.sound;
      closed = q.turn.closed;
      passes = both_order t o q.turn.checked;
      correct = q.turn.correct;
      early = q.turn.early;
      left = q.run;
    }

module _ (t : Table) (accepted : Accepted t) where
  -- with any order of the table, from the record at any clock that is not after the earliest release
  module _ (o : List ℕ) (order : is_order t o ≡ true) where
    fresh_starts : fresh_of t o ≡ record { check = Passed; run = start_run t o 0 }
    unfolding fresh_of fresh
    fresh_starts = rw (both_pass t o accepted order)

    module _ (k : ℕ) (early : k ≤ earliest t) (acts : List Act) where
      abbrev hand : InHand
      hand = (paper t o k acts).hand

      holds : HandHolds (begun t o k)
      holds = record { sound = start_sound t o (both_pass t o accepted order) k early; sized = start_sized t o k }

      made_told : make_day acts (start_run t o k) ≡ record { said = (paper t o k acts).said; run = record_in hand }
      made_told = acts_told acts (begun t o k) holds

      proper : Proper hand
      proper = acts_proper acts (begun t o k) (record { accepted = accepted; passes = order })

      taken : hand.state ≡ run_after hand.table hand.order (supply_from k (run_calls acts)) hand.state.clock
      unfolding supply_from
      taken = paper_run t accepted o order k early acts

      run_right : RunRight t o k acts (make_day acts (start_run t o k))
      run_right =
          subst (RunRight t o k acts) (sym made_told)
          (record {
            said = refl;
            no_nine = acts_number acts (begun t o k);
            accepted = proper.accepted;
            passes = proper.passes;
            first = acts_first (begun t o k) acts (begun t o k) (inl (refl, refl));
            hand = hand_right hand.table proper.accepted hand.order proper.passes hand.state (supply_from k (run_calls acts)) taken;
          })

  -- the planner's answer, by what the choice leaves (rule 9.9)
  plan_is : plan_of t ≡ plan_from (choice t)
  unfolding plan_of
  plan_is = rw accepted

  -- a correct order rules out that the choice leaves a row
  none_left : CorrectOrder t → (choice t).left ≡ []
  none_left c = by_left (choice t).left refl
    where
      by_left : (l : List ℕ) → (choice t).left ≡ l → l ≡ []
      by_left [] e = refl
      by_left (x ∷ l) e = absurd (choice_none t accepted x (rw e (in_head x l)) c.order c.passes c.correct)

  planned : (choice t).left ≡ [] → (plan_of t).order ≡ padded (choice t).placed
  planned e = rw (plan_is, e)

  found : (choice t).left ≡ [] → (is_order t (plan_of t).order ≡ true) × Correct t (plan_of t).order
  found e = rw (planned e) (choice_order t accepted e, choice_correct t accepted e)

  zero : (choice t).left ≡ [] → planned_number (plan_of t).answer ≡ 0
  unfolding planned_number
  zero e = rw (plan_is, e)

  seven : ((choice t).left ≡ [] → ⊥)
      → (planned_number (plan_of t).answer ≡ 7) × (rows_left (plan_of t).answer ≡ word (choice t).left) × ((plan_of t).order ≡ replicate 64 0)
  unfolding planned_number rows_left
  seven some = rw plan_is (by_eqb (length (choice t).left) 0 (λ e z. absurd (some (none_of (choice t).left z))) (λ e z. rw e (refl, refl, refl)))

  exists : CorrectOrder t ↔ ((choice t).left ≡ [])
  exists = (none_left, λ e. record { order = (plan_of t).order; passes = (found e).0; correct = (found e).1 })

-- the closed statement that stands in Claim
pub demand_3 : Demand3
demand_3 t accepted acts =
    record {
      plan = plan_is t accepted;
      ceiling = within_count t accepted;
      enough = count_most t;
      exists = exists t accepted;
      zero = zero t accepted;
      seven = seven t accepted;
      found = found t accepted;
      started = fresh_starts t accepted;
      committed = λ r o e. commit_right r t o e;
      right = λ o e k early. run_right t accepted o e k early acts;
    }
