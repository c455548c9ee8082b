-- The starred cases P1 to P8 (rules 13.1 to 13.8) and tables at the limits (rule 13.9) as one table, computed from the definitions and checked by one
-- theorem, with cases of our own beside them: on the planner's choice, the judge, checks 3 to 6, calls on paper, and parts of definitions. Here no
-- job loads; LoadingCases has tables in which jobs do. Each of the faults 14.1 to 14.5 of the rules meets one here, and each from 14.6 on one there,
-- in searches/specs/SpeedCases, in LateCases, in PromiseCases, in WaitCases or in record/specs/RecordCases; not every change of a definition does.
use Rattle.std.specs.Prelude.{ℕ, suc, ◌+◌, ◌-◌, ◌≤◌, ◌<◌, Bool, true, false, not, ◌&&◌, List, [], ◌∷◌, ◌++◌, map, ◌≡◌, T, eqb, ltb, ℤ, pos, negsuc, length, replicate}
use Rattle.std.proofs.Common.{arith}
use Rattle.rules.specs.declared.Row.{Row}
use Rattle.rules.specs.declared.Table.{Table}
use Rattle.rules.specs.Verdicts.{Judgement}
use Rattle.rules.specs.declared.Refusal.TheVariants.{ClockOver, Unsound, NoRoom, Loading, NotCorrect, RowOpen, ReleasedBefore, TrialsOver, TooManyRows}
use Rattle.rules.specs.Checks.{Passed}
use Rattle.rules.specs.Calls.{Call, one, forward, Said, tell_one, tell_forward, tell_all, all_supplies, supply_from, supply_at}
use Rattle.rules.specs.Correct.{earliest, Window}
use Rattle.rules.specs.Choice.{plan_of, padded, lowest, unfollowed, passes, sequence, choice, fill, taker, word}
use Rattle.rules.specs.Judge.{column, table_of, judge_of, tightest}
use Rattle.rules.specs.Lists.{rows_to, all, all_zero, same, first, count, erase, keep}
use Rattle.rules.specs.Need.{work_slots, need}
use Rattle.rules.specs.Numbers.{refusal_number, check_number, planned_number, rows_left, verdict_number, verdict_yes, verdict_row, verdict_slack}
use Rattle.rules.specs.Orders.{is_arrangement, is_order, check_order, check_both}
use Rattle.rules.specs.Rows.{at, is_row, rows_of, work_of, deadline_of, is_low, is_high}
use Rattle.rules.specs.Running.{close_late, run_slot}
use Rattle.rules.specs.Slots.{State, start_at, fresh, is_pending, is_waiting, is_ready, chosen, is_over, brought, serve, slot, after}
use Rattle.rules.specs.Tables.{row_ok, tail_ok, promise_ok, check_wait, check_table, Accepted, passed}
use Rattle.rules.specs.Worst.{horizon, worst_finish, promised_moment, slack, meets}

-- a row: release and deadline in slots, work in work units, level, the promised part in work units, and the row that it follows
abbrev pub six_figures : ℕ → ℕ → ℕ → ℕ → ℕ → ℕ → Row
six_figures a c d level r w = record { release = a; work = c; deadline = d; level = level; promised = r; follows = w }

-- a row that follows none
abbrev pub promising : ℕ → ℕ → ℕ → ℕ → ℕ → Row
promising a c d level r = six_figures a c d level r 0

-- a row that follows row w, and is promised nothing
abbrev pub following : ℕ → ℕ → ℕ → ℕ → ℕ → Row
following a c d level w = six_figures a c d level 0 w

-- a row that is promised nothing
abbrev pub job : ℕ → ℕ → ℕ → ℕ → Row
job a c d level = promising a c d level 0

-- a table of these rows and speeds in which a job loads in no slot
abbrev plain : List Row → ℕ → ℕ → Table
plain rows normal degraded = table_of rows normal degraded 0

-- how a row ended: its closing slot, whether it is done (it was dropped if not), whether it closed after its deadline
pub record End : Type 0 where
  pub closing : ℕ
  pub done : Bool
  pub late : Bool

abbrev pub end : ℕ → Bool → Bool → End
end closing done late = record { closing = closing; done = done; late = late }

pub data Case : Type 0 where
  -- this order is made, with these slacks in slots from the highest place down
  planned : Table → List ℕ → List ℤ → Case
  -- 7 with this word of the rows left
  stopped : Table → ℕ → Case
  -- this row fails at the lowest place, with all other rows above it
  fails : Table → ℕ → Case
  -- under this order and these supplies the rows end so, by the running rule
  ran : Table → List ℕ → List ℕ → List End → Case
  -- the judge says yes or no, this row and this slack in slots
  judged : Table → List ℕ → Bool → ℕ → ℤ → Case
  -- the checks of the table pass
  accepted : Table → Case
  -- the checks of the table give this number, and so do planner and judge, with nothing but zeros
  refused : Table → ℕ → Case
  -- the checks of the table and 6 pass
  ordered : Table → List ℕ → Case
  -- check 6 alone refuses the order, and the judge answers so, with nothing but zeros
  disordered : Table → List ℕ → Case
  -- from the fresh state put at this clock the calls say these numbers and these values, and then
  -- the clock is this and each row has got this work, used these slots and has this closing slot
  told : Table → List ℕ → ℕ → List Call → List ℕ → List ℕ → List ℕ → Case
  -- a definition gives this number, these numbers, or true
  gives : ℕ → ℕ → Case
  lists : List ℕ → List ℕ → Case
  yes : Bool → Case

abbrev same_bool : Bool → Bool → Bool
same_bool true b = b
same_bool false b = not b

abbrev same_int : ℤ → ℤ → Bool
same_int (pos a) (pos b) = eqb a b
same_int (pos a) (negsuc b) = false
same_int (negsuc a) (pos b) = false
same_int (negsuc a) (negsuc b) = eqb a b

abbrev same_ints : List ℤ → List ℤ → Bool
same_ints [] [] = true
same_ints [] (y ∷ ys) = false
same_ints (x ∷ xs) [] = false
same_ints (x ∷ xs) (y ∷ ys) = same_int x y && same_ints xs ys

-- row i of the state ended so
abbrev ends_so : Table → State → ℕ → End → Bool
ends_so t s i e =
    eqb (at s.closing i) e.closing
    && same_bool (eqb (at s.got i) (work_of t i)) e.done
    && same_bool (ltb (deadline_of t i) (at s.closing i)) e.late

abbrev end_so : Table → State → ℕ → List End → Bool
end_so t s i [] = true
end_so t s i (e ∷ es) = ends_so t s i e && end_so t s (suc i) es

-- the fresh state put at a clock
abbrev from : ℕ → State
from clock = record { clock = clock; got = fresh.got; used = fresh.used; closing = fresh.closing }

abbrev figures_of : State → List ℕ → List ℕ
figures_of s [] = []
figures_of s (i ∷ is) = at s.got i ∷ at s.used i ∷ at s.closing i ∷ figures_of s is

-- the clock, and for each row its work got, its slots used and its closing slot
abbrev pub figures : Table → State → List ℕ
figures t s = s.clock ∷ figures_of s (rows_of t)

abbrev number_of : Said → ℕ
number_of said = said.number

abbrev value_of : Said → ℕ
value_of said = said.value

-- this number and nothing but zeros
abbrev verdict_refused : Judgement → ℕ → Bool
verdict_refused v number = eqb (verdict_number v) number && not (verdict_yes v) && eqb (verdict_row v) 0 && same_int (verdict_slack v) (pos 0)

abbrev pub holds : Case → Bool
holds (planned t o slacks) =
    eqb (planned_number (plan_of t).answer) 0
    && eqb (rows_left (plan_of t).answer) 0
    && same (plan_of t).order (padded o)
    && same_ints (map (slack t (padded o)) o) slacks
holds (stopped t left) =
    eqb (planned_number (plan_of t).answer) 7
    && eqb (rows_left (plan_of t).answer) left
    && same (plan_of t).order (replicate 64 0)
holds (fails t i) = not (passes t (sequence t) i)
holds (ran t o supplies ends) = end_so t (tell_forward t (padded o) 0 supplies fresh).state 1 ends
holds (judged t o answer row least) =
    eqb (verdict_number (judge_of t (padded o))) 0
    && same_bool (verdict_yes (judge_of t (padded o))) answer
    && eqb (verdict_row (judge_of t (padded o))) row
    && same_int (verdict_slack (judge_of t (padded o))) least
holds (accepted t) = passed (check_table t) && eqb (check_number (check_table t)) 0
holds (refused t number) =
    not (passed (check_table t))
    && eqb (check_number (check_table t)) number
    && eqb (planned_number (plan_of t).answer) number
    && eqb (rows_left (plan_of t).answer) 0
    && same (plan_of t).order (replicate 64 0)
    && verdict_refused (judge_of t (padded [])) number
holds (ordered t o) = eqb (check_number (check_both t (padded o))) 0
holds (disordered t o) = passed (check_table t) && eqb (check_number (check_both t (padded o))) 6 && verdict_refused (judge_of t (padded o)) 6
holds (told t o clock calls numbers values ends) =
    same (map number_of (tell_all t (padded o) calls (from clock)).said) numbers
    && same (map value_of (tell_all t (padded o) calls (from clock)).said) values
    && same (figures t (tell_all t (padded o) calls (from clock)).state) ends
holds (gives a b) = eqb a b
holds (lists xs ys) = same xs ys
holds (yes b) = b

abbrev p1 : Table
p1 = plain (job 0 20 10 1 ∷ job 5 15 10 0 ∷ job 5 11 19 1 ∷ job 0 5 5 0 ∷ []) 5 2

abbrev p2 : Table
p2 = plain (job 0 8 5 0 ∷ job 0 12 10 1 ∷ job 3 4 5 1 ∷ job 2 16 10 0 ∷ []) 4 3

abbrev p3 : Table
p3 = plain (job 0 2 2 0 ∷ job 0 4 4 1 ∷ []) 2 1

abbrev p4 : Table
p4 = plain (job 0 20 20 1 ∷ job 0 18 18 0 ∷ []) 2 1

-- G from 1 to 3 (rule 13.5)
abbrev p5 : ℕ → ℕ → Table
p5 work degraded = plain (job 0 work 1 0 ∷ []) 3 degraded

abbrev p6 : ℕ → Table
p6 degraded = plain (job 0 2 1 1 ∷ []) 2 degraded

-- P1 to P8 (rules 13.1 to 13.8)
abbrev pub starred : List Case
starred =
    planned p1 (1 ∷ 2 ∷ 3 ∷ 4 ∷ []) (pos 0 ∷ pos 2 ∷ pos 0 ∷ pos 0 ∷ [])
    ∷ fails p1 2
    ∷ fails p1 3
    ∷ planned p2 (3 ∷ 1 ∷ 2 ∷ 4 ∷ []) (pos 0 ∷ pos 3 ∷ pos 2 ∷ pos 0 ∷ [])
    ∷ stopped p3 3
    ∷ stopped p4 3
    ∷ planned (p5 3 1) (1 ∷ []) (pos 0 ∷ [])
    ∷ planned (p5 3 2) (1 ∷ []) (pos 0 ∷ [])
    ∷ planned (p5 3 3) (1 ∷ []) (pos 0 ∷ [])
    ∷ stopped (p5 4 1) 1
    ∷ stopped (p5 4 2) 1
    ∷ stopped (p5 4 3) 1
    ∷ planned (p6 2) (1 ∷ []) (pos 0 ∷ [])
    ∷ stopped (p6 1) 1
    ∷ ran p3 (1 ∷ 2 ∷ []) (1 ∷ 1 ∷ 1 ∷ 1 ∷ 1 ∷ []) (end 1 false false ∷ end 5 true true ∷ [])
    ∷ ran p3 (1 ∷ 2 ∷ []) (2 ∷ 2 ∷ 2 ∷ 2 ∷ 2 ∷ []) (end 1 true false ∷ end 3 true false ∷ [])
    ∷ []

-- a LO row that runs on past its deadline, above a row that would pass if it did not
abbrev late_above : Table
late_above = plain (job 0 5 3 0 ∷ job 0 2 6 0 ∷ []) 1 1

-- three jobs of one work unit at two a slot: three slots, not two
abbrev three_small : Table
three_small = plain (job 0 1 2 0 ∷ job 0 1 2 0 ∷ job 0 1 2 0 ∷ []) 2 2

-- a LO row of four work units above a HI row: two slots at N, four at G
abbrev low_above : Table
low_above = plain (job 0 4 2 0 ∷ job 0 3 5 1 ∷ []) 2 1

-- a HI row of the later deadline and a LO row, which both pass at the lowest place: LO is tried first
abbrev low_first : Table
low_first = plain (job 0 1 9 1 ∷ job 0 1 5 0 ∷ []) 1 1

-- two rows of this level and these deadlines, which both pass at the lowest place
abbrev pair : ℕ → ℕ → ℕ → Table
pair level d1 d2 = plain (job 0 1 d1 level ∷ job 0 1 d2 level ∷ []) 1 1

-- rows of both levels, with equal deadlines in each
abbrev mixed : Table
mixed = plain (job 0 1 5 1 ∷ job 0 1 3 0 ∷ job 0 1 7 0 ∷ job 0 1 5 1 ∷ job 0 1 3 0 ∷ job 0 1 9 1 ∷ []) 1 1

-- row 2 takes the lowest place, and neither row 1 nor row 3 can be in time
abbrev some_left : Table
some_left = plain (job 0 2 1 0 ∷ job 0 1 9 0 ∷ job 0 2 1 1 ∷ []) 1 1

-- released at 2 and at 4: slots 0, 1 and 3 are idle
abbrev gaps : Table
gaps = plain (job 4 1 9 1 ∷ job 2 1 3 0 ∷ []) 1 1

-- slacks 2, 0 and 0 under the order 1 2 3
abbrev tied : Table
tied = plain (job 0 1 3 0 ∷ job 0 1 2 1 ∷ job 0 1 3 0 ∷ []) 1 1

-- one row
abbrev alone : Row → ℕ → ℕ → Table
alone row normal degraded = plain (row ∷ []) normal degraded

-- the first row of a list as a table of one row, with the figures of the others after it
abbrev followed : List Row → Table
followed others =
    let t = plain (job 0 1 1 0 ∷ others) 2 1 in
    record { n = 1; normal = t.normal; degraded = t.degraded; loading = 0; release = t.release; work = t.work; deadline = t.deadline; level = t.level; promised = t.promised; follows = t.follows }

abbrev many : ℕ → Table
many n = plain (replicate n (job 0 1 1 0)) 2 1

-- the planner's choice (rules 4.1 to 4.9)
abbrev choices : List Case
choices =
    stopped late_above 3
    ∷ stopped three_small 7
    ∷ planned low_above (1 ∷ 2 ∷ []) (pos 0 ∷ pos 0 ∷ [])
    ∷ planned low_first (1 ∷ 2 ∷ []) (pos 8 ∷ pos 3 ∷ [])
    ∷ planned (pair 0 2 2) (2 ∷ 1 ∷ []) (pos 1 ∷ pos 0 ∷ [])
    ∷ planned (pair 1 2 2) (2 ∷ 1 ∷ []) (pos 1 ∷ pos 0 ∷ [])
    ∷ planned (pair 0 5 6) (1 ∷ 2 ∷ []) (pos 4 ∷ pos 4 ∷ [])
    ∷ planned (pair 1 6 5) (2 ∷ 1 ∷ []) (pos 4 ∷ pos 4 ∷ [])
    ∷ planned (pair 0 999998 999999) (1 ∷ 2 ∷ []) (pos 999997 ∷ pos 999997 ∷ [])
    ∷ planned (pair 1 999999 999998) (2 ∷ 1 ∷ []) (pos 999997 ∷ pos 999997 ∷ [])
    ∷ lists (sequence mixed) (3 ∷ 2 ∷ 5 ∷ 6 ∷ 1 ∷ 4 ∷ [])
    ∷ stopped some_left 5
    ∷ gives (word (64 ∷ 2 ∷ [])) 9223372036854775810
    ∷ lists (lowest (3 ∷ 2 ∷ 1 ∷ []) 2) (3 ∷ 1 ∷ 2 ∷ [])
    ∷ gives (taker p3 (1 ∷ 2 ∷ [])) 0
    ∷ gives (length (padded (replicate 65 1))) 64
    ∷ gives (length (plan_of p2).order) 64
    ∷ []

-- the judge, worst finishes and horizons in slots (rules 3.5 to 3.7, 7.2, 7.3)
abbrev judgements : List Case
judgements =
    judged p1 (1 ∷ 2 ∷ 3 ∷ 4 ∷ []) true 1 (pos 0)
    ∷ judged p3 (1 ∷ 2 ∷ []) false 2 (negsuc 0)
    ∷ judged p3 (2 ∷ 1 ∷ []) false 1 (negsuc 0)
    ∷ judged (alone (job 0 1 5 0) 1 1) (1 ∷ []) true 1 (pos 4)
    ∷ judged (alone (job 0 5 2 1) 1 1) (1 ∷ []) false 1 (negsuc 2)
    ∷ judged (pair 0 1 2) (1 ∷ 2 ∷ []) true 1 (pos 0)
    ∷ judged tied (1 ∷ 2 ∷ 3 ∷ []) true 2 (pos 0)
    ∷ judged (p6 2) (1 ∷ []) true 1 (pos 0)
    ∷ judged (p6 1) (1 ∷ []) false 1 (negsuc 0)
    ∷ lists (map (worst_finish p1 (padded (1 ∷ 2 ∷ 3 ∷ 4 ∷ []))) (rows_of p1)) (10 ∷ 8 ∷ 19 ∷ 5 ∷ [])
    ∷ lists (map (worst_finish late_above (padded (1 ∷ 2 ∷ []))) (rows_of late_above)) (5 ∷ 7 ∷ [])
    ∷ gives (horizon p1 5) 16
    ∷ gives (horizon p1 2) 32
    ∷ []

-- checks 3 to 6 (rules 10.3 to 10.6, 11.3, 11.4); 64 and 65 rows and deadlines of 1,000,000 and 1,000,001 slots (rule 13.9)
abbrev checks : List Case
checks =
    refused (many 0) 3
    ∷ refused (many 65) 3
    ∷ accepted (many 64)
    ∷ refused (plain [] 0 0) 3
    ∷ accepted (alone (job 0 1 1 0) 1000 1000)
    ∷ refused (alone (job 0 1 1 0) 1001 1000) 4
    ∷ refused (alone (job 0 1 1 0) 0 0) 4
    ∷ refused (alone (job 0 1 1 0) 2 0) 4
    ∷ accepted (alone (job 0 1 1 0) 1 1)
    ∷ refused (alone (job 0 1 1 0) 2 3) 4
    ∷ refused (alone (job 4 1 4 0) 2 3) 4
    ∷ refused (alone (job 4 1 4 0) 2 1) 5
    ∷ accepted (alone (job 3 1 4 1) 2 1)
    ∷ refused (alone (job 0 0 1 0) 2 1) 5
    ∷ accepted (alone (job 0 1000000 1 0) 2 1)
    ∷ refused (alone (job 0 1000001 1 0) 2 1) 5
    ∷ accepted (alone (job 0 1 1000000 0) 2 1)
    ∷ refused (alone (job 0 1 1000001 0) 2 1) 5
    ∷ refused (alone (job 0 1 1 2) 2 1) 5
    ∷ refused (plain (job 0 1 1 0 ∷ job 4 1 4 0 ∷ []) 2 1) 5
    ∷ accepted (followed (job 0 0 0 0 ∷ []))
    ∷ refused (followed (job 1 0 0 0 ∷ [])) 5
    ∷ refused (followed (job 0 1 0 0 ∷ [])) 5
    ∷ refused (followed (job 0 0 1 0 ∷ [])) 5
    ∷ refused (followed (job 0 0 0 1 ∷ [])) 5
    ∷ refused (followed (replicate 62 (job 0 0 0 0) ++ (job 1 1 1 1 ∷ []))) 5
    ∷ ordered p3 (2 ∷ 1 ∷ [])
    ∷ disordered p3 (1 ∷ 1 ∷ [])
    ∷ disordered p3 (2 ∷ [])
    ∷ disordered p3 (2 ∷ 0 ∷ 1 ∷ [])
    ∷ disordered p3 (2 ∷ 1 ∷ 3 ∷ [])
    ∷ disordered p3 (1 ∷ 3 ∷ [])
    ∷ disordered p3 (1 ∷ 2 ∷ (replicate 61 0 ++ (1 ∷ [])))
    ∷ ordered (many 64) (64 ∷ rows_to 63)
    ∷ disordered (many 64) (63 ∷ rows_to 63)
    ∷ disordered (many 64) (0 ∷ rows_to 63)
    ∷ disordered (many 64) (65 ∷ rows_to 63)
    ∷ []

-- the run on paper and its calls (rules 9.6 to 9.8, 9.15), also from clock 1,999,999 on (rule 13.9)
abbrev runs : List Case
runs =
    told p3 (1 ∷ 2 ∷ []) 0 (one 1 ∷ forward (5 ∷ 0 ∷ []) ∷ one 7 ∷ []) (0 ∷ 0 ∷ 0 ∷ []) (1 ∷ 2 ∷ 0 ∷ []) (4 ∷ 1 ∷ 1 ∷ 1 ∷ 4 ∷ 1 ∷ 2 ∷ [])
    ∷ told p3 (2 ∷ 1 ∷ []) 0 (one 1 ∷ forward [] ∷ one 0 ∷ []) (0 ∷ 0 ∷ 0 ∷ []) (2 ∷ 0 ∷ 2 ∷ []) (2 ∷ 0 ∷ 0 ∷ 2 ∷ 1 ∷ 2 ∷ 0 ∷ [])
    ∷ told gaps (1 ∷ 2 ∷ []) 0 (one 1 ∷ one 1 ∷ one 1 ∷ one 1 ∷ one 9 ∷ []) (replicate 5 0) (0 ∷ 0 ∷ 2 ∷ 0 ∷ 1 ∷ []) (5 ∷ 1 ∷ 1 ∷ 5 ∷ 1 ∷ 1 ∷ 3 ∷ [])
    ∷ told p3 (1 ∷ 2 ∷ []) 1999999 (one 1 ∷ one 1 ∷ forward (1 ∷ []) ∷ forward [] ∷ []) (0 ∷ 8 ∷ 8 ∷ 0 ∷ []) (1 ∷ 0 ∷ 0 ∷ 0 ∷ []) (2000000 ∷ 1 ∷ 1 ∷ 2000000 ∷ 0 ∷ 0 ∷ 0 ∷ [])
    ∷ told p3 (1 ∷ 2 ∷ []) 1999998 (forward (2 ∷ 3 ∷ 4 ∷ 5 ∷ []) ∷ one 1 ∷ []) (8 ∷ 8 ∷ []) (2 ∷ 0 ∷ []) (2000000 ∷ 2 ∷ 1 ∷ 1999999 ∷ 3 ∷ 1 ∷ 0 ∷ [])
    ∷ lists (figures p3 (after p3 (padded (2 ∷ 1 ∷ [])) (λ u. u + 1) 2)) (2 ∷ 0 ∷ 0 ∷ 0 ∷ 3 ∷ 2 ∷ 0 ∷ [])
    ∷ gives (length fresh.got) 64
    ∷ gives (length fresh.used) 64
    ∷ gives (length fresh.closing) 64
    ∷ gives (chosen p3 (3 ∷ 0 ∷ 2 ∷ []) fresh) 2
    ∷ yes (is_over p3 1 1 2)
    ∷ yes (not (is_over p3 2 5 9))
    ∷ lists (map (supply_at (one 7 ∷ forward (8 ∷ 9 ∷ []) ∷ forward [] ∷ one 3 ∷ [])) (0 ∷ 1 ∷ 2 ∷ 3 ∷ 4 ∷ [])) (7 ∷ 8 ∷ 9 ∷ 3 ∷ 0 ∷ [])
    -- from another clock on, slots before it count as 0 (rules 9.15, 22.7), and the state there has zeros for all rows
    ∷ lists (map (supply_from 2 (one 7 ∷ forward (8 ∷ 9 ∷ []) ∷ [])) (0 ∷ 1 ∷ 2 ∷ 3 ∷ 4 ∷ 5 ∷ [])) (0 ∷ 0 ∷ 7 ∷ 8 ∷ 9 ∷ 0 ∷ [])
    ∷ gives (start_at 7).clock 7
    ∷ lists (start_at 7).got (padded [])
    ∷ lists (start_at 7).used (padded [])
    ∷ lists (start_at 7).closing (padded [])
    -- the numbers of a commit (rules 10.16 to 10.18)
    ∷ gives (refusal_number NotCorrect) 16
    ∷ gives (refusal_number RowOpen) 17
    ∷ gives (refusal_number ReleasedBefore) 18
    ∷ gives (refusal_number TrialsOver) 19
    ∷ gives (refusal_number TooManyRows) 20
    ∷ []

-- the small definitions that the others share
abbrev parts : List Case
parts =
    lists (map (need 0 4) (0 ∷ 1 ∷ 2 ∷ 3 ∷ 4 ∷ 5 ∷ [])) (0 ∷ 4 ∷ 2 ∷ 2 ∷ 1 ∷ 1 ∷ [])
    ∷ lists (map (need 3 4) (0 ∷ 1 ∷ 2 ∷ 3 ∷ 4 ∷ 5 ∷ [])) (3 ∷ 7 ∷ 5 ∷ 5 ∷ 4 ∷ 4 ∷ [])
    ∷ lists (rows_to 3) (1 ∷ 2 ∷ 3 ∷ [])
    ∷ lists (erase 2 (1 ∷ 2 ∷ 3 ∷ 2 ∷ [])) (1 ∷ 3 ∷ 2 ∷ [])
    ∷ lists (keep (is_low mixed) (6 ∷ 5 ∷ 4 ∷ 3 ∷ [])) (5 ∷ 3 ∷ [])
    ∷ lists (keep (is_high (alone (job 0 1 1 2) 1 1)) (1 ∷ [])) (1 ∷ [])
    ∷ lists (keep (is_row p3) (0 ∷ 1 ∷ 2 ∷ 3 ∷ [])) (1 ∷ 2 ∷ [])
    ∷ gives (count 2 (2 ∷ 1 ∷ 2 ∷ 3 ∷ [])) 2
    ∷ gives (first (is_row p3) (3 ∷ 2 ∷ 1 ∷ [])) 2
    ∷ gives (first (is_row p3) (3 ∷ 4 ∷ [])) 0
    ∷ gives (at (5 ∷ 6 ∷ []) 2) 6
    ∷ gives (at (5 ∷ 6 ∷ []) 3) 0
    ∷ gives (earliest gaps) 2
    ∷ gives (earliest p3) 0
    ∷ gives (length (column (λ (r : Row). r.work) (replicate 65 (job 0 1 1 0)))) 64
    ∷ yes (all (is_row p3) [])
    ∷ yes (not (all (is_row p3) (1 ∷ 3 ∷ [])))
    ∷ yes (not (all (is_row p3) (3 ∷ 1 ∷ [])))
    ∷ yes (all_zero (0 ∷ 0 ∷ []))
    ∷ yes (not (all_zero (0 ∷ 1 ∷ [])))
    ∷ yes (not (same [] (1 ∷ [])))
    ∷ yes (not (same (1 ∷ []) []))
    ∷ yes (not (same (1 ∷ 2 ∷ []) (1 ∷ 3 ∷ [])))
    ∷ yes (not (same (1 ∷ 2 ∷ []) (3 ∷ 2 ∷ [])))
    ∷ gives (refusal_number ClockOver) 8
    ∷ gives (refusal_number Unsound) 9
    ∷ gives (refusal_number NoRoom) 10
    ∷ gives (refusal_number Loading) 11
    ∷ []

-- every case of a list holds
abbrev pub all_hold : List Case → Bool
all_hold [] = true
all_hold (c ∷ cs) = holds c && all_hold cs

pub cases_hold : T (all_hold (starred ++ choices ++ judgements ++ checks ++ runs ++ parts))
unfolding plan_of padded unfollowed passes sequence choice fill taker word table_of judge_of tightest work_slots refusal_number check_number planned_number rows_left verdict_number verdict_yes verdict_row verdict_slack is_arrangement is_order check_order check_both fresh is_pending is_waiting is_ready chosen is_over brought serve slot row_ok tail_ok promise_ok check_wait check_table horizon worst_finish promised_moment slack meets tell_one tell_forward tell_all close_late run_slot all_supplies supply_from earliest
cases_hold = tt

-- an accepted table is one that the checks of a table pass, and no other (rule 5.5)
pub accepted_passes : (t : Table) → Accepted t → check_table t ≡ Passed
accepted_passes t h = h

pub passes_accepted : (t : Table) → check_table t ≡ Passed → Accepted t
passes_accepted t h = h

-- A job's window (rule 9.14). No slot before the earliest release is asked for, and none from its deadline on.
pub window_begins : (t : Table) (σ : ℕ → ℕ) (i s : ℕ) → ((u : ℕ) → earliest t ≤ u → s ≤ σ u) → Window t σ i s
window_begins t σ i s h u p q = h u p

pub window_ends : (t : Table) (σ : ℕ → ℕ) (i s : ℕ) → ((u : ℕ) → u < deadline_of t i → s ≤ σ u) → Window t σ i s
window_ends t σ i s h u p q = h u (omega arith)

-- the slot of the earliest release is asked for, and so is the last slot before the deadline
pub window_first : (t : Table) (σ : ℕ → ℕ) (i s : ℕ) → Window t σ i s → earliest t < deadline_of t i → s ≤ σ (earliest t)
window_first t σ i s w h = w (earliest t) (omega arith) h

pub window_last : (t : Table) (σ : ℕ → ℕ) (i s : ℕ) → Window t σ i s → earliest t < deadline_of t i → s ≤ σ (deadline_of t i - 1)
window_last t σ i s w h = w (deadline_of t i - 1) (omega arith) (omega arith)
