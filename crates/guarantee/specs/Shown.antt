-- What a function that plays a list of calls shows: the planner's answer, every answer of the calls and the record at the end are those
-- that demand 3 speaks of (rules 9.9 to 9.12, 9.18 to 9.20).
use Rattle.std.specs.Prelude.{ℕ, ◌+◌, ◌≡◌, List, [], ◌∷◌, set}
use Rattle.record.specs.declared.Run.{Run}
use Rattle.record.specs.Records.{fresh_of}
use Rattle.rules.specs.declared.Table.{Table}
use Rattle.rules.specs.Calls.{Call, Said}
use Rattle.rules.specs.Choice.{plan_of}
use Rattle.proposal.specs.Days.{just_runs}
use Rattle.rules.specs.Tables.{Accepted}
use Rattle.guarantee.specs.declared.Turn.{Turn}
use Rattle.guarantee.specs.declared.Played.{Played}
use Rattle.guarantee.specs.Playing.{Made, make_all}
use Rattle.guarantee.specs.Claim.{Claim}

-- one call's answer and record
pub record Turned (r : Turn) (m : Made) : Type 0 where
  pub number : r.number ≡ m.said.number
  pub value : r.value ≡ m.said.value
  pub run : r.run ≡ m.run

-- an answer at index k of a buffer
abbrev pub noted : List ℕ → ℕ → ℕ → ℕ → List ℕ
noted buffer k number value = set (set buffer k number) (k + 1) value

-- answers laid over a buffer, two numbers each, as many as fit; the rest of it stays
abbrev pub laid : List Said → List ℕ → List ℕ
laid [] buffer = buffer
laid (s ∷ ss) [] = []
laid (s ∷ ss) (x ∷ []) = x ∷ []
laid (s ∷ ss) (x ∷ y ∷ buffer) = s.number ∷ s.value ∷ laid ss buffer

-- a list of calls from a record on: its answers are noted, and the last record is handed back
pub record Answered (cs : List Call) (start : Run) (before after : List ℕ) (r : Run) : Type 0 where
  pub noting : after ≡ laid (make_all cs start).said before
  pub left : r ≡ (make_all cs start).run

-- the whole: planned, started afresh, called, for any table; and for an accepted one the claim of just this table and list
pub record Shown (t : Table) (cs : List Call) (before after : List ℕ) (r : Played) : Type 0 where
  pub planned : r.planning ≡ plan_of t
  pub noting : after ≡ laid (make_all cs (fresh_of t (plan_of t).order).run).said before
  pub left : r.run ≡ (make_all cs (fresh_of t (plan_of t).order).run).run
  pub claim : Accepted t → Claim t (just_runs cs)
