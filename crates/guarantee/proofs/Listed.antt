-- Lists of run calls alone, without a commit: what the claim says of them, from the statement of the claim and without its proof. The sheet in hand stays the
-- one that the list began with (rule 9.10).
use Rattle.std.specs.Prelude.{ℕ, ◌≤◌, true, ◌≡◌}
use Rattle.std.proofs.Math.Path.{refl}
use Rattle.std.proofs.Common.{ap, subst, ◌∙◌, arith}
use mathlib.Core.List.{List, [], ◌∷◌}
use Rattle.record.specs.declared.Run.{Run}
use Rattle.record.specs.Records.{start_run, fresh_of}
use Rattle.rules.specs.declared.Table.{Table}
use Rattle.rules.specs.Calls.{Call, tell, tell_all, supply_from}
use Rattle.rules.specs.Correct.{earliest}
use Rattle.proposal.specs.Days.{InHand, DayTold, tell_day, run_calls, just_runs}
use Rattle.rules.specs.Orders.{is_order}
use Rattle.rules.specs.Slots.{State, start_at, fresh}
use Rattle.guarantee.specs.Playing.{AllMade, make, make_all, make_day}
use Rattle.guarantee.specs.Claim.{HandRight, RunRight, Claim}
use Rattle.guarantee.specs.Listed.{run_paper, ListRight}

made_runs : (cs : List Call) (r : Run) → make_day (just_runs cs) r ≡ make_all cs r
unfolding make_day make_all just_runs
made_runs [] r = refl
made_runs (c ∷ cs) r = rw (made_runs cs (make c r).run)

calls_runs : (cs : List Call) → run_calls (just_runs cs) ≡ cs
unfolding run_calls just_runs
calls_runs [] = refl
calls_runs (c ∷ cs) = ap (λ (l : List Call). c ∷ l) (calls_runs cs)

module _ (t : Table) (o : List ℕ) where
  abbrev in_hand : State → InHand
  in_hand s = record { table = t; order = o; state = s }

  told_runs : (cs : List Call) (s : State)
      → tell_day (just_runs cs) (in_hand s) ≡ record { said = (tell_all t o cs s).said; hand = in_hand (tell_all t o cs s).state }
  unfolding tell_day tell_all just_runs
  told_runs [] s = refl
  told_runs (c ∷ cs) s = rw (told_runs cs (tell t o c s).state)

  -- the answers, the sheet in hand and the supplies are those of the run on paper
  as_list : (k : ℕ) (cs : List Call) (made : AllMade) → RunRight t o k (just_runs cs) made → ListRight t o k cs made
  as_list k cs made r =
      let e = told_runs cs (start_at k) in
      let h : HandRight (tell_day (just_runs cs) (in_hand (start_at k))).hand.table (tell_day (just_runs cs) (in_hand (start_at k))).hand.order
      (tell_day (just_runs cs) (in_hand (start_at k))).hand.state (supply_from k (run_calls (just_runs cs))) made.run = r.hand in
      record {
        said = r.said ∙ ap (λ (d : DayTold). d.said) e;
        no_nine = r.no_nine;
        hand = rw (calls_runs cs) at (subst (λ (d : DayTold). HandRight d.hand.table d.hand.order d.hand.state (supply_from k (run_calls (just_runs cs))) made.run) e h);
      }

-- from any clock that is not after the earliest release
pub list_right : (t : Table) (cs : List Call) → Claim t (just_runs cs) → (o : List ℕ) → is_order t o ≡ true → (k : ℕ) → k ≤ earliest t
    → ListRight t o k cs (make_all cs (start_run t o k))
list_right t cs c o e k early = subst (ListRight t o k cs) (made_runs cs (start_run t o k)) (as_list t o k cs (make_day (just_runs cs) (start_run t o k)) (c.right o e k early))

-- from the fresh record, which is at clock 0
pub fresh_right : (t : Table) (cs : List Call) → Claim t (just_runs cs) → (o : List ℕ) → is_order t o ≡ true → ListRight t o 0 cs (make_all cs (fresh_of t o).run)
fresh_right t cs c o e = rw (c.started o e) (list_right t cs c o e 0 (omega arith))

-- where the run on paper starts from the fresh state
pub from_fresh : (t : Table) (o : List ℕ) (cs : List Call) → run_paper t o 0 cs ≡ tell_all t o cs fresh
unfolding fresh
from_fresh t o cs = refl
