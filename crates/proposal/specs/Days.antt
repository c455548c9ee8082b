-- Lists in which commits stand among the run calls, on paper (rule 22.9): they see the sheet in hand and the calls, and no record (rule 9.6).
use Rattle.std.specs.Prelude.{ℕ, List, [], ◌∷◌, Ok, Err}
use Rattle.rules.specs.declared.Table.{Table}
use Rattle.rules.specs.Checks.{Check}
use Rattle.rules.specs.Calls.{Call, Said, tell}
use Rattle.rules.specs.Numbers.{check_number}
use Rattle.proposal.specs.Proposals.{check_proposal}
use Rattle.rules.specs.Slots.{State, start_at}

-- a run call, or the commit of a table and an order (rules 9.5, 22.3)
pub data Act : Type 0 where
  run : Call → Act
  commit : Table → List ℕ → Act

-- the sheet in hand: its table, its order and how far its run has come (rule 22.9)
pub record InHand : Type 0 where
  pub table : Table
  pub order : List ℕ
  pub state : State

-- the sheet with every row open and empty at clock u, in slots (rules 22.4, 22.7)
abbrev pub begun : Table → List ℕ → ℕ → InHand
begun t o u = record { table = t; order = o; state = start_at u }

-- what one act said, and the sheet in hand after it (rule 22.9); a commit says its number and 0
pub record ActTold : Type 0 where
  pub said : Said
  pub hand : InHand

-- By what its checks answer, a commit has taken the sheet in hand away, at the clock that it shows, or has changed nothing (rules 22.4, 22.5).
abbrev pub hand_after : Check → Table → List ℕ → InHand → InHand
hand_after (Ok tt) p o h = begun p o h.state.clock
hand_after (Err r) p o h = h

-- a run call or a commit on paper (rules 9.7, 9.8, 22.9)
abbrev pub tell_act : Act → InHand → ActTold
tell_act (run c) h =
    let r = tell h.table h.order c h.state in
    record { said = r.said; hand = record { table = h.table; order = h.order; state = r.state } }
tell_act (commit p o) h =
    let check = check_proposal h.table h.state p o in
    record { said = record { number = check_number check; value = 0 }; hand = hand_after check p o h }

-- what all acts of a list said, in turn, and the sheet in hand after the last (rule 22.9)
pub record DayTold : Type 0 where
  pub said : List Said
  pub hand : InHand

-- a list of acts, each on the sheet that the one before it left in hand (rules 9.5, 22.9)
unfoldable pub tell_day : List Act → InHand → DayTold
tell_day [] h = record { said = []; hand = h }
tell_day (a ∷ more) h =
    let r = tell_act a h in
    let rest = tell_day more r.hand in
    record { said = r.said ∷ rest.said; hand = rest.hand }

-- the run calls of a list, in turn: their supplies are those of its slots (rule 9.15)
unfoldable pub run_calls : List Act → List Call
run_calls [] = []
run_calls (run c ∷ more) = c ∷ run_calls more
run_calls (commit p o ∷ more) = run_calls more

-- a list of run calls, without a commit (rule 9.5)
unfoldable pub just_runs : List Call → List Act
just_runs [] = []
just_runs (c ∷ cs) = run c ∷ just_runs cs
