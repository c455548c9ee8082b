-- From a sound record on, the calls say and leave what the run on paper says and leaves from the state that it holds (rule 9.10).
use Rattle.std.specs.Prelude.{ℕ, ◌+◌, true, ◌≡◌, ltb}
use Rattle.std.proofs.Math.Path.{refl}
use mathlib.Core.List.{List, [], ◌∷◌}
use Rattle.record.specs.declared.Run.{Run}
use Rattle.record.specs.Answers.{slot_said, forward_said}
use Rattle.record.specs.Records.{record_of, is_sound, next_run, chosen_row, one_slot, work_on, forward_over}
use Rattle.record.proofs.FreshRuns.{start_sound, start_sized}
use Rattle.record.proofs.Kept.{sized_kept, sound_kept}
use Rattle.record.specs.Kept.{Sized}
use Rattle.rules.specs.declared.Table.{Table}
use Rattle.rules.specs.Calls.{last_clock, Call, one, forward, Told, tell_one, tell_forward, tell}
use Rattle.proposal.specs.Days.{Act, run, commit, InHand, ActTold, tell_act, tell_day}
use Rattle.proposal.specs.Proposals.{check_proposal}
use Rattle.rules.specs.Running.{run_slot}
use Rattle.rules.specs.Slots.{State}
use Rattle.theory.specs.Tests.{by_bool}
use Rattle.proposal.specs.Commits.{check_commit, commit_of}
use Rattle.proposal.proofs.Passing.{by_check, turned}
use Rattle.guarantee.specs.Playing.{Made, make, make_act, make_day}

-- the record of this state is sound and has full columns
pub record Holding (t : Table) (o : List ℕ) (s : State) : Type 0 where
  pub sound : is_sound (record_of t o s) ≡ true
  pub sized : Sized (record_of t o s)

module _ (t : Table) (o : List ℕ) where
  -- what the run on paper tells of a call, as an answer and a record (rules 9.7, 9.8)
  abbrev told_made : Told → Made
  told_made x = record { said = x.said; run = record_of t o x.state }

  holding_next : (s : State) (v : ℕ) → Holding t o s → ltb s.clock last_clock ≡ true → Holding t o (run_slot t o v s)
  unfolding next_run
  holding_next s v h e = record { sound = sound_kept (record_of t o s) v h.sized h.sound e; sized = sized_kept (record_of t o s) v h.sized }

  one_told : (v : ℕ) (s : State) → Holding t o s → make (one v) (record_of t o s) ≡ told_made (tell_one t o v s)
  unfolding one_slot tell_one slot_said next_run chosen_row
  one_told v s h =
      rw h.sound (by_bool (ltb s.clock last_clock) (λ e. rw e) (λ e. rw e))

  forward_told : (k : ℕ) (vs : List ℕ) (s : State)
      → ◌≡◌ {A = Made} (record { said = forward_said (work_on k vs (record_of t o s)).answer; run = (work_on k vs (record_of t o s)).run })
      (told_made (tell_forward t o k vs s))
  unfolding work_on tell_forward forward_said next_run
  forward_told k [] s = refl
  forward_told k (v ∷ vs) s = by_bool (ltb s.clock last_clock) (λ e. rw e (forward_told (k + 1) vs (run_slot t o v s))) (λ e. rw e)

  forward_holds : (k : ℕ) (vs : List ℕ) (s : State) → Holding t o s → Holding t o (tell_forward t o k vs s).state
  unfolding tell_forward
  forward_holds k [] s h = h
  forward_holds k (v ∷ vs) s h = by_bool (ltb s.clock last_clock) (λ e. rw e (forward_holds (k + 1) vs (run_slot t o v s) (holding_next s v h e))) (λ e. rw e h)

  call_told : (c : Call) (s : State) → Holding t o s → make c (record_of t o s) ≡ told_made (tell t o c s)
  unfolding forward_over
  call_told (one v) s h = one_told v s h
  call_told (forward vs) s h = rw h.sound (forward_told 0 vs s)

  call_holds : (c : Call) (s : State) → Holding t o s → Holding t o (tell t o c s).state
  unfolding tell_one
  call_holds (one v) s h = by_bool (ltb s.clock last_clock) (λ e. rw e (holding_next s v h e)) (λ e. rw e h)
  call_holds (forward vs) s h = forward_holds 0 vs s h

-- the record of the sheet in hand
abbrev pub record_in : InHand → Run
record_in h = record_of h.table h.order h.state

-- it is sound, with full columns
abbrev pub HandHolds : InHand → Type 0
HandHolds h = Holding h.table h.order h.state

abbrev act_made : ActTold → Made
act_made x = record { said = x.said; run = record_in x.hand }

act_told : (a : Act) (h : InHand) → HandHolds h → make_act a (record_in h) ≡ act_made (tell_act a h)
unfolding commit_of check_commit
act_told (run c) h q = call_told h.table h.order c h.state q
act_told (commit p o) h q =
    rw q.sound (by_check (check_proposal h.table h.state p o) (λ e. rw e) (λ w e. rw e))

act_holds : (a : Act) (h : InHand) → HandHolds h → HandHolds (tell_act a h).hand
act_holds (run c) h q = call_holds h.table h.order c h.state q
act_holds (commit p o) h q =
    by_check (check_proposal h.table h.state p o)
    (λ e. let w = turned h.table h.state p o e in
    rw e (record { sound = start_sound p o w.checked h.state.clock w.early; sized = start_sized p o h.state.clock }))
    (λ w e. rw e q)

-- every answer and the record at the end (rules 9.10, 22.9)
pub acts_told : (acts : List Act) (h : InHand) → HandHolds h
    → make_day acts (record_in h) ≡ record { said = (tell_day acts h).said; run = record_in (tell_day acts h).hand }
unfolding make_day tell_day
acts_told [] h q = refl
acts_told (a ∷ more) h q = simp (act_told a h q, acts_told more (tell_act a h).hand (act_holds a h q))
