-- Least workable speeds (rule 13.12), those of promised parts (rule 13.14) and of waits (rule 13.15) among them: one table of cases, computed from
-- the definitions and checked by one theorem. Each case scans its range speed by speed, as rule 18.3 says it.
use Rattle.std.specs.Prelude.{ℕ, true, false, List, [], ◌∷◌, ◌++◌, T, pos, negsuc, take}
use Rattle.rules.specs.declared.Table.{Table}
use Rattle.rules.specs.declared.Sought.{Sought}
use Rattle.rules.specs.declared.Sought.TheVariants.{Degraded, Normal}
use Rattle.rules.specs.declared.Searching.{Searching}
use Rattle.rules.specs.Cases.{Case, planned, stopped, judged, lists, promising, job, all_hold}
use Rattle.rules.specs.Choice.{plan_of, padded, unfollowed, passes, sequence, choice, fill, taker, word}
use Rattle.rules.specs.Judge.{table_of, judge_of, tightest}
use Rattle.rules.specs.Lists.{rows_to}
use Rattle.rules.specs.Need.{work_slots}
use Rattle.rules.specs.Numbers.{refusal_number, check_number, planned_number, rows_left, searched_number, searched_speed, verdict_number, verdict_yes, verdict_row, verdict_slack}
use Rattle.rules.specs.Orders.{is_arrangement, is_order, check_order, check_both}
use Rattle.rules.specs.Slots.{fresh, is_pending, is_waiting, is_ready, chosen, is_over, brought, serve, slot}
use Rattle.rules.specs.Tables.{row_ok, tail_ok, promise_ok, check_wait, check_table}
use Rattle.rules.specs.WaitCases as WaitCases
use Rattle.rules.specs.Worst.{horizon, worst_finish, promised_moment, slack, meets}
use Rattle.texts.specs.Fields.{digit_at, written, digit_of, value_of, is_field}
use Rattle.texts.specs.Sheets.{is_line, number_at, column_of, table_in, check_sheet, read_of, row_line, sheet_of}
use Rattle.searches.specs.Speeds.{at_speed, speeds_of, makes_order, least_speed, search_of, search_sheet}

-- a search's whole answer: its number, the speed in work units per slot, the order
abbrev told : Searching → List ℕ
told r = searched_number r.answer ∷ searched_speed r.answer ∷ r.order

-- the search for a table finds this speed and this order
abbrev found : Sought → Table → ℕ → List ℕ → Case
found f t speed o = lists (told (search_of f t)) (0 ∷ speed ∷ padded o)

-- the search for a table has this number and nothing but zeros
abbrev nothing : Sought → Table → ℕ → Case
nothing f t number = lists (told (search_of f t)) (number ∷ 0 ∷ padded [])

-- the search for these bytes has this number, this speed and this order
abbrev read : Sought → List ℕ → ℕ → ℕ → List ℕ → Case
read f bytes number speed o = lists (told (search_sheet f bytes)) (number ∷ speed ∷ padded o)

-- the table of lemma 2 of Guo and Baruah, as P4 has it, with ten times the works and ten times N; what it states as G does not matter
abbrev cooler : ℕ → Table
cooler g = table_of (job 0 200 20 1 ∷ job 0 180 18 0 ∷ []) 20 g 0

-- P1 with an N and a G of its own
abbrev p1 : ℕ → ℕ → Table
p1 n g = table_of (job 0 20 10 1 ∷ job 5 15 10 0 ∷ job 5 11 19 1 ∷ job 0 5 5 0 ∷ []) n g 0

-- one row released at 0 with these speeds
abbrev alone : ℕ → ℕ → ℕ → ℕ → ℕ → Table
alone c d level n g = table_of (job 0 c d level ∷ []) n g 0

-- a HI and a LO row with K slots of loading
abbrev loaded : ℕ → ℕ → Table
loaded n k = table_of (job 0 6 9 1 ∷ job 1 6 7 0 ∷ []) n 1 k

-- a LO and a HI row at an N and a G, with r of the LO row's work promised
abbrev promised_part : ℕ → ℕ → ℕ → Table
promised_part n g r = table_of (promising 0 6 3 0 r ∷ job 0 4 9 1 ∷ []) n g 0

-- The least G: 19 in the table of the lemma, though it states a G of 18, with an order at 19 and none at 18; the first and the last speed of the
-- range; no speed of it. At the G that the table states there may be no order.
abbrev degraded : List Case
degraded =
    found Degraded (cooler 18) 19 (2 ∷ 1 ∷ [])
    ∷ planned (at_speed Degraded (cooler 1) 19) (2 ∷ 1 ∷ []) (pos 9 ∷ pos 0 ∷ [])
    ∷ stopped (at_speed Degraded (cooler 1) 18) 3
    ∷ judged (at_speed Degraded (cooler 1) 18) (2 ∷ 1 ∷ []) false 1 (negsuc 0)
    ∷ judged (at_speed Degraded (cooler 1) 18) (1 ∷ 2 ∷ []) false 2 (negsuc 0)
    ∷ judged (at_speed Degraded (cooler 1) 20) (2 ∷ 1 ∷ []) true 1 (pos 1)
    ∷ found Degraded (p1 5 1) 2 (1 ∷ 2 ∷ 3 ∷ 4 ∷ [])
    ∷ found Degraded (alone 4 4 1 3 3) 1 (1 ∷ [])
    ∷ found Degraded (alone 4 4 1 1 1) 1 (1 ∷ [])
    ∷ found Degraded (alone 20 1 1 20 3) 20 (1 ∷ [])
    ∷ found Degraded (alone 40 1 1 50 50) 40 (1 ∷ [])
    ∷ nothing Degraded (alone 4 1 0 3 1) 7
    ∷ nothing Degraded (alone 21 1 1 20 20) 7
    ∷ found Degraded (loaded 6 2) 1 (1 ∷ 2 ∷ [])
    ∷ found Degraded (loaded 5 2) 2 (2 ∷ 1 ∷ [])
    ∷ []

-- The least N, from G on: the order at it and not at the N that the table states; the first and the last speed of the range; none, because a
-- LO row needs more than 1,000 work units per slot, and because a HI row misses its deadline at G whatever N is.
abbrev normal : List Case
normal =
    found Normal (p1 8 2) 5 (1 ∷ 2 ∷ 3 ∷ 4 ∷ [])
    ∷ planned (p1 8 2) (1 ∷ 3 ∷ 4 ∷ 2 ∷ []) (pos 0 ∷ pos 3 ∷ pos 1 ∷ pos 1 ∷ [])
    ∷ found Normal (p1 2 2) 5 (1 ∷ 2 ∷ 3 ∷ 4 ∷ [])
    ∷ found Normal (alone 20 1 0 30 20) 20 (1 ∷ [])
    ∷ found Normal (alone 1000 1 0 995 995) 1000 (1 ∷ [])
    ∷ found Normal (alone 1 1 0 1000 1000) 1000 (1 ∷ [])
    ∷ nothing Normal (alone 1001 1 0 1000 995) 7
    ∷ nothing Normal (alone 1000 1 1 1000 995) 7
    ∷ found Normal (loaded 1 2) 6 (1 ∷ 2 ∷ [])
    ∷ found Normal (loaded 9 0) 2 (1 ∷ 2 ∷ [])
    ∷ found Normal (table_of (job 0 6 19 0 ∷ []) 1 1 16) 2 (1 ∷ [])
    ∷ lists (speeds_of Normal (alone 1 1 0 999 996)) (996 ∷ 997 ∷ 998 ∷ 999 ∷ 1000 ∷ [])
    ∷ lists (speeds_of Degraded (alone 1 1 0 4 2)) (1 ∷ 2 ∷ 3 ∷ 4 ∷ [])
    ∷ []

-- Refusals: the table is checked with its own figure for the speed sought, though another speed would do.
abbrev refusals : List Case
refusals =
    nothing Degraded (table_of [] 2 1 0) 3
    ∷ nothing Degraded (alone 4 4 1 3 4) 4
    ∷ nothing Degraded (alone 4 4 1 3 0) 4
    ∷ nothing Normal (alone 4 4 1 1001 4) 4
    ∷ nothing Normal (alone 4 4 1 3 4) 4
    ∷ nothing Normal (table_of (job 0 1 1 0 ∷ []) 2 1 17) 11
    ∷ nothing Degraded (table_of (job 4 1 4 0 ∷ []) 2 1 17) 11
    ∷ nothing Degraded (table_of (job 4 1 4 0 ∷ []) 2 1 16) 5
    ∷ nothing Normal (table_of (job 4 1 4 0 ∷ []) 2 1 16) 5
    ∷ []

-- Sheets: the reader's numbers first.
abbrev sheets : List Case
sheets =
    read Degraded (sheet_of (p1 5 5)) 0 2 (1 ∷ 2 ∷ 3 ∷ 4 ∷ [])
    ∷ read Normal (sheet_of (p1 8 2)) 0 5 (1 ∷ 2 ∷ 3 ∷ 4 ∷ [])
    ∷ read Degraded (sheet_of (alone 4 1 0 3 1)) 7 0 []
    ∷ read Degraded [] 1 0 []
    ∷ read Degraded (take 81 (sheet_of (alone 4 4 1 3 3))) 1 0 []
    ∷ read Normal (sheet_of (alone 4 4 1 3 3) ++ (10 ∷ [])) 1 0 []
    ∷ read Normal (take 32 (sheet_of (alone 4 4 1 3 3)) ++ rows_to 50) 2 0 []
    ∷ read Degraded (sheet_of (table_of [] 2 1 0)) 3 0 []
    ∷ read Degraded (sheet_of (alone 4 4 1 3 4)) 4 0 []
    ∷ read Normal (sheet_of (table_of (job 4 1 4 0 ∷ []) 2 1 17)) 11 0 []
    ∷ read Normal (sheet_of (table_of (job 4 1 4 0 ∷ []) 2 1 16)) 5 0 []
    ∷ read Normal (sheet_of (table_of (promising 0 4 4 0 5 ∷ []) 2 1 16)) 12 0 []
    ∷ []

-- The least G with a promise and without one, and no N that helps a promise which fails at G.
abbrev promises : List Case
promises =
    found Degraded (promised_part 6 6 0) 1 (2 ∷ 1 ∷ [])
    ∷ found Degraded (promised_part 6 6 3) 1 (1 ∷ 2 ∷ [])
    ∷ found Degraded (promised_part 6 1 4) 2 (1 ∷ 2 ∷ [])
    ∷ found Normal (promised_part 6 2 4) 2 (1 ∷ 2 ∷ [])
    ∷ found Normal (table_of (promising 0 1000 1 0 999 ∷ []) 999 999 0) 1000 (1 ∷ [])
    ∷ nothing Normal (table_of (promising 0 1000 1 0 1000 ∷ []) 1000 999 0) 7
    ∷ nothing Degraded (promised_part 6 1 7) 12
    ∷ nothing Normal (promised_part 6 1 7) 12
    ∷ []

-- A wait that asks for a faster processor: the least N with it and without it.
abbrev waits : List Case
waits =
    found Normal (WaitCases.cooler 1) 2 (1 ∷ 2 ∷ [])
    ∷ found Normal (WaitCases.cooler 0) 1 (2 ∷ 1 ∷ [])
    ∷ []

pub speed_cases_hold : T (all_hold (degraded ++ normal ++ refusals ++ sheets ++ promises ++ waits))
unfolding plan_of padded unfollowed passes sequence choice fill taker word table_of judge_of tightest work_slots refusal_number check_number planned_number rows_left searched_number searched_speed verdict_number verdict_yes verdict_row verdict_slack is_arrangement is_order check_order check_both fresh is_pending is_waiting is_ready chosen is_over brought serve slot row_ok tail_ok promise_ok check_wait check_table horizon worst_finish promised_moment slack meets makes_order least_speed search_of search_sheet digit_at written digit_of value_of is_field is_line number_at column_of table_in check_sheet read_of row_line sheet_of
speed_cases_hold = tt
