-- A new sheet while plotting (section 22 of the rules): what asking answers, and the checks of a commit after 9. No record is among the arguments.
use Rattle.std.specs.Prelude.{ℕ, Bool, cond, not, List, eqb, leb, replicate, Ok, Err}
use Rattle.rules.specs.declared.Table.{Table}
use Rattle.rules.specs.declared.Refusal.TheVariants.{NotCorrect, RowOpen, ReleasedBefore}
use Rattle.rules.specs.Plans.{Planned}
use Rattle.rules.specs.Plans as Plans
use Rattle.rules.specs.declared.Plan.TheVariants as Plan
use Rattle.rules.specs.Checks.{Check, Passed, Refused}
use Rattle.proposal.specs.declared.Asking.{Asking}
use Rattle.rules.specs.Choice.{plan_of}
use Rattle.rules.specs.Judge.{judge_of}
use Rattle.rules.specs.Lists.{all}
use Rattle.rules.specs.Numbers.{verdict_yes}
use Rattle.rules.specs.Orders.{check_both}
use Rattle.rules.specs.Rows.{at, rows_of, release_of}
use Rattle.rules.specs.Slots.{State}
use Rattle.rules.specs.Tables.{and_then, zero_table}
use Rattle.texts.specs.Sheets.{read_of}

-- nothing is proposed: table and order are zeros (rule 22.2)
abbrev pub nothing_asked : Planned → Asking
nothing_asked answer = record { answer = answer; table = zero_table; order = replicate 64 0 }

-- what the planner answers of a table, with the table itself where an order was made (rule 22.2)
abbrev pub ask_planned : Planned → Table → List ℕ → Asking
ask_planned (Ok Plan.Ordered) t o = record { answer = Plans.Ordered; table = t; order = o }
ask_planned (Ok (Plan.NoOrder left)) t o = nothing_asked (Plans.NoOrder left)
ask_planned (Err r) t o = nothing_asked (Plans.Refused r)

-- by what the reader answers: its refusal, or the planner's answer for the table that was read (rule 22.2)
abbrev pub ask_read : Check → Table → Asking
ask_read (Ok tt) t = ask_planned (plan_of t).answer t (plan_of t).order
ask_read (Err r) t = nothing_asked (Plans.Refused r)

-- what asking answers for any bytes (rules 11.9, 22.2)
unfoldable pub ask_of : List ℕ → Asking
ask_of bytes = ask_read (read_of bytes).check (read_of bytes).table

-- every row of the table is closed in this state (rules 2.10, 10.17)
unfoldable pub all_closed : Table → State → Bool
all_closed t s = all (λ i. not (eqb (at s.closing i) 0)) (rows_of t)

-- every row of the table is released at clock u, in slots, or later (rule 10.18)
unfoldable pub released_from : Table → ℕ → Bool
released_from t u = all (λ i. leb u (release_of t i)) (rows_of t)

-- 16, 17 and 18 for a proposal that has passed 6, with the sheet in hand given by its table t and its state s: the order o is correct, as the judge
-- says, every row of t is closed, and no row of the proposal p is released before the clock (rules 10.16 to 10.18, 11.10)
unfoldable pub check_turn : Table → State → Table → List ℕ → Check
check_turn t s p o =
    cond (verdict_yes (judge_of p o))
    (cond (all_closed t s)
    (cond (released_from p s.clock) Passed (Refused ReleasedBefore))
    (Refused RowOpen))
    (Refused NotCorrect)

-- all checks of a commit but 9: the proposal's table and order first, then 16, 17 and 18 (rule 11.10)
unfoldable pub check_proposal : Table → State → Table → List ℕ → Check
check_proposal t s p o = and_then (check_both p o) (check_turn t s p o)
