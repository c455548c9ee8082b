-- The claim about a table and a whole list of calls, commits among them (rules 9.5 to 9.12, 9.18 to 9.20, 22.7 to 22.9): one closed statement, `Demand3`, at the
-- end of this file. Every name in it is a definition of the rules or what a contract equates a function's result with: `plan_of` is what the planner answers,
-- and `plan_within` what it answers at a ceiling, `fresh_of` the fresh record, `one_slot` and `forward_over` (in `make_day`) the two run calls, and `commit_of` a commit.
use Rattle.std.specs.Prelude.{ℕ, ◌+◌, ◌≤◌, true, not, ◌↔◌, ◌⊎◌, ◌≡◌, List, [], eqb, replicate}
use Rattle.record.specs.declared.Run.{Run}
use Rattle.record.specs.Records.{state_of, start_run, is_sound, fresh_of}
use Rattle.rules.specs.declared.Table.{Table}
use Rattle.rules.specs.Checks.{Passed}
use Rattle.rules.specs.Calls.{supply_from}
use Rattle.rules.specs.Choice.{choice, word, plan_from, plan_of}
use Rattle.ceiling.specs.Ceiling.{trial_count, most_trials, plan_within}
use Rattle.rules.specs.Correct.{KeptIn, Correct, CorrectOrder, earliest, Window, WindowTo}
use Rattle.proposal.specs.Days.{Act, begun, DayTold, tell_day, run_calls}
use Rattle.rules.specs.Lists.{all}
use Rattle.rules.specs.Orders.{is_order}
use Rattle.rules.specs.Rows.{at, is_row, is_low, is_high, work_of, deadline_of, promised_of, follows_of}
use Rattle.rules.specs.Numbers.{planned_number, rows_left}
use Rattle.rules.specs.Running.{run_after}
use Rattle.rules.specs.Slots.{State, chosen}
use Rattle.rules.specs.Tables.{Accepted}
use Rattle.rules.specs.Worst.{worst_speed}
use Rattle.proposal.specs.Commits.{commit_of}
use Rattle.guarantee.specs.Playing.{AllMade, make_day}

-- What record r shows of a sheet, its table t and its order o, whose state on paper is s, where slot u of the list supplied σ u work units. The record is that
-- state, field by field (rule 9.10), and the state is that of the run from clock 0 under σ, which is idle up to the clock that the sheet was begun at
-- (rule 22.7). Under a correct order each row whose deadline the clock has reached kept it, if each slot of its window supplied at least N (LO) or
-- G (HI), whatever came before and later (rules 9.12, 19.5), and each LO row whose deadline the clock has reached has got its promised part, if each slot of
-- its window supplied at least G (rule 9.18): correct is meant by the planning rule, and the run is by the running rule. Of a row that is closed the slots of
-- its window before its closing slot are enough for either (rule 9.20). Under every order, correct or not, each slot that went to a follower, and the coming one if it
-- goes to one, is not before the closing slot of the row that it follows; so of a follower that has used a slot that row is closed, and if the follower is HI,
-- done (rule 9.19).
pub record HandRight (t : Table) (o : List ℕ) (s : State) (σ : ℕ → ℕ) (r : Run) : Type 0 where
  pub taken : s ≡ run_after t o σ s.clock
  pub clock : r.clock ≡ s.clock
  pub got : r.got ≡ s.got
  pub used : r.used ≡ s.used
  pub closing : r.closing ≡ s.closing
  pub table : r.table ≡ t
  pub order : r.order ≡ o
  pub kept : Correct t o → (i : ℕ) → is_row t i ≡ true → deadline_of t i ≤ r.clock → Window t σ i (worst_speed t i) → KeptIn t (state_of r) i
  pub promised : Correct t o → (i : ℕ) → is_row t i ≡ true → is_low t i ≡ true → deadline_of t i ≤ r.clock → Window t σ i t.degraded
      → promised_of t i ≤ at r.got i
  pub settled : Correct t o → (i : ℕ) → is_row t i ≡ true → 1 ≤ at r.closing i → WindowTo t σ (at r.closing i) i (worst_speed t i) → KeptIn t (state_of r) i
  pub settled_part : Correct t o → (i : ℕ) → is_row t i ≡ true → is_low t i ≡ true → 1 ≤ at r.closing i → WindowTo t σ (at r.closing i) i t.degraded
      → promised_of t i ≤ at r.got i
  pub held : (i u : ℕ) → is_row t i ≡ true → 1 ≤ follows_of t i → u ≤ r.clock → chosen t o (run_after t o σ u) ≡ i
      → (1 ≤ at r.closing (follows_of t i)) × (at r.closing (follows_of t i) ≤ u)
  pub waited : (i : ℕ) → is_row t i ≡ true → 1 ≤ follows_of t i → 1 ≤ at r.used i
      → (1 ≤ at r.closing (follows_of t i)) × (at r.closing (follows_of t i) + at r.used i ≤ r.clock)
      × (is_high t i ≡ true → at r.got (follows_of t i) ≡ work_of t (follows_of t i))

-- the list on paper: fed the table, the order, the clock that it starts at and the acts, and nothing from the record (rules 9.6, 22.9)
abbrev pub paper : Table → List ℕ → ℕ → List Act → DayTold
paper t o k acts = tell_day acts (begun t o k)

-- What a list of acts made, from the record of table t and order o at clock k with every row open and empty (rules 9.10, 22.8, 22.9). Every answer is the one on
-- paper, and none is 9 (rule 9.11). The sheet in hand is the one that the list began with, or one that was committed, with a correct order; its table is
-- accepted and its order passes check 6, and the record shows of it what `HandRight` says, with the supplies of the whole list.
pub record RunRight (t : Table) (o : List ℕ) (k : ℕ) (acts : List Act) (made : AllMade) : Type 0 where
  pub said : made.said ≡ (paper t o k acts).said
  pub no_nine : all (λ s. not (eqb s.number 9)) made.said ≡ true
  pub accepted : Accepted (paper t o k acts).hand.table
  pub passes : is_order (paper t o k acts).hand.table (paper t o k acts).hand.order ≡ true
  pub first : (((paper t o k acts).hand.table ≡ t) × ((paper t o k acts).hand.order ≡ o))
      ⊎ Correct (paper t o k acts).hand.table (paper t o k acts).hand.order
  pub hand : HandRight (paper t o k acts).hand.table (paper t o k acts).hand.order (paper t o k acts).hand.state
      (supply_from k (run_calls acts)) made.run

-- What a commit of table t and order o to record r that is answered 0 says and leaves (rules 10.9, 10.16 to 10.18, 22.4). The record was sound and every row of its
-- sheet closed; the order is one of the table and correct, and the clock is not after the earliest release. The record left has both, at that clock, with every
-- row open and empty: a start as `RunRight` asks for.
pub record CommitRight (r : Run) (t : Table) (o : List ℕ) : Type 0 where
  pub sound : is_sound r ≡ true
  pub closed : (i : ℕ) → is_row r.table i ≡ true → 1 ≤ at r.closing i
  pub passes : is_order t o ≡ true
  pub correct : Correct t o
  pub early : r.clock ≤ earliest t
  pub left : (commit_of r t o).run ≡ start_run t o r.clock

-- The claim of one table and one list of acts (rules 9.9 to 9.12, 9.18 to 9.20, 22.8, 22.9, 23.10).
pub record Claim (t : Table) (acts : List Act) : Type 0 where
  -- the plan is the one made from the choice: 0 with the order it made, or 7 with the rows it left (rules 4.6, 9.9)
  pub plan : plan_of t ≡ plan_from (choice t)
  -- so it is at every ceiling that is not below the count of trials, with the count, and n × (n + 1) / 2 is such a ceiling (rules 23.3, 23.4, 23.10)
  pub ceiling : (c : ℕ) → trial_count t ≤ c → plan_within c t ≡ record { planning = plan_of t; trials = trial_count t }
  pub enough : trial_count t ≤ most_trials t.n
  -- the table has a correct order exactly if the choice leaves no row (rules 4.10, 9.9)
  pub exists : CorrectOrder t ↔ ((choice t).left ≡ [])
  -- then the planner's number is 0; else it is 7, with the rows left as a word and an order of zeros (rules 4.6, 4.8, 9.9)
  pub zero : (choice t).left ≡ [] → planned_number (plan_of t).answer ≡ 0
  pub seven : ((choice t).left ≡ [] → ⊥)
      → (planned_number (plan_of t).answer ≡ 7) × (rows_left (plan_of t).answer ≡ word (choice t).left) × ((plan_of t).order ≡ replicate 64 0)
  -- with 0 the order planned is a correct one (rule 9.9)
  pub found : (choice t).left ≡ [] → (is_order t (plan_of t).order ≡ true) × Correct t (plan_of t).order
  -- a fresh record is had for every order of the table, and so for the one planned: it is at clock 0 (rule 8.2)
  pub started : (o : List ℕ) → is_order t o ≡ true → fresh_of t o ≡ record { check = Passed; run = start_run t o 0 }
  -- a commit of the table that is answered 0, to any record, is right (rules 22.4, 22.7)
  pub committed : (r : Run) (o : List ℕ) → (commit_of r t o).check ≡ Passed → CommitRight r t o
  -- and the calls made from such a record on, each on the record that the last one left, are right (rules 9.5, 9.10 to 9.12, 9.18 to 9.20, 22.8, 22.9)
  pub right : (o : List ℕ) → is_order t o ≡ true → (k : ℕ) → k ≤ earliest t → RunRight t o k acts (make_day acts (start_run t o k))

-- Demand 3: the claim holds of every accepted table and every list of run calls and commits, of any length and with any supplies and proposals (rules 9.5, 22.9).
abbrev pub Demand3 : Type 0
Demand3 = (t : Table) → Accepted t → (acts : List Act) → Claim t acts
