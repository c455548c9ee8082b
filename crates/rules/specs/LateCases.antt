-- Runs around deadlines (rule 13.13), computed by the running rule, and by the planning rule where the two differ, and checked by one theorem.
-- P1 to P8 stand among them: the runs of P7 and P8 are by the running rule too (rules 13.7, 13.8). Each of the faults 14.16 to 14.19 and 14.22
-- meets a case here; check 9 has its cases in record/specs/RecordCases.
use Rattle.std.specs.Prelude.{ℕ, true, false, not, List, [], ◌∷◌, ◌++◌, map, T, negsuc, get_or, replicate}
use Rattle.rules.specs.declared.Row.{Row}
use Rattle.rules.specs.declared.Table.{Table}
use Rattle.rules.specs.Calls.{one, forward, tell_one, tell_forward, tell_all}
use Rattle.rules.specs.Cases.{Case, stopped, ran, judged, told, lists, yes, job, end, figures, starred, all_hold}
use Rattle.rules.specs.Choice.{plan_of, padded, unfollowed, passes, sequence, choice, fill, taker, word}
use Rattle.rules.specs.Judge.{table_of, judge_of, tightest}
use Rattle.rules.specs.Need.{work_slots}
use Rattle.rules.specs.Numbers.{refusal_number, check_number, planned_number, rows_left, verdict_number, verdict_yes, verdict_row, verdict_slack}
use Rattle.rules.specs.Orders.{is_arrangement, is_order, check_order, check_both}
use Rattle.rules.specs.Running.{is_due, close_late, run_slot, run_after}
use Rattle.rules.specs.Slots.{fresh, is_pending, is_waiting, is_ready, chosen, is_over, brought, serve, slot, after}
use Rattle.rules.specs.Tables.{row_ok, tail_ok, promise_ok, check_wait, check_table}
use Rattle.rules.specs.Worst.{horizon, worst_finish, promised_moment, slack, meets}

-- rows at N of 2 and G of 1 work units per slot, without loading
abbrev rows : List Row → Table
rows r = table_of r 2 1 0

-- one LO row of this work and deadline
abbrev preview : ℕ → ℕ → Table
preview work deadline = rows (job 0 work deadline 0 ∷ [])

-- a HI row of six slots at G above two LO rows of these deadlines
abbrev below : ℕ → ℕ → Table
below d1 d2 = rows (job 0 6 9 1 ∷ job 0 4 d1 0 ∷ job 0 4 d2 0 ∷ [])

-- one LO row that loads for 16 slots
abbrev loading : Table
loading = table_of (job 0 4 9 0 ∷ []) 2 1 16

-- one HI row that is late at G
abbrev pen : Table
pen = rows (job 0 4 2 1 ∷ [])

-- a row that would be in time if the LO row above it were dropped at its deadline 3
abbrev late_above : Table
late_above = table_of (job 0 5 3 0 ∷ job 0 2 6 0 ∷ []) 1 1 0

-- No order is correct: at G the three rows take 5 slots, more than either HI row has when it stands lowest, and at N they take 4, more than the
-- LO row has. By the running rule and the order 1, 2, 3 the LO row is dropped at 3, and the last row runs in slot 3 (rule 19.8).
abbrev pub trouble : Table
trouble = rows (job 0 2 2 1 ∷ job 0 3 3 0 ∷ job 0 1 4 1 ∷ [])

-- the course of speed of a list of supplies
abbrev supplied : List ℕ → ℕ → ℕ
supplied vs u = get_or vs u 0

-- LO rows at their deadlines: done by the last slot, short of one work unit with allowance left, short of one with none left, closed before, and
-- still loading
abbrev last_slots : List Case
last_slots =
    told (preview 6 2) (1 ∷ []) 0 (forward (4 ∷ 2 ∷ []) ∷ []) (0 ∷ []) (2 ∷ []) (2 ∷ 6 ∷ 2 ∷ 2 ∷ [])
    ∷ ran (preview 6 2) (1 ∷ []) (4 ∷ 2 ∷ []) (end 2 true false ∷ [])
    ∷ told (preview 6 2) (1 ∷ []) 0 (one 4 ∷ one 1 ∷ one 5 ∷ []) (0 ∷ 0 ∷ 0 ∷ []) (1 ∷ 1 ∷ 0 ∷ []) (3 ∷ 5 ∷ 2 ∷ 2 ∷ [])
    ∷ lists (figures (preview 6 2) (after (preview 6 2) (padded (1 ∷ [])) (supplied (4 ∷ 1 ∷ 5 ∷ [])) 3)) (3 ∷ 6 ∷ 3 ∷ 3 ∷ [])
    ∷ lists (figures (preview 6 2) (run_after (preview 6 2) (padded (1 ∷ [])) (supplied (4 ∷ 1 ∷ 5 ∷ [])) 3)) (3 ∷ 5 ∷ 2 ∷ 2 ∷ [])
    ∷ told (preview 4 2) (1 ∷ []) 0 (forward (2 ∷ 1 ∷ []) ∷ []) (0 ∷ []) (2 ∷ []) (2 ∷ 3 ∷ 2 ∷ 2 ∷ [])
    ∷ lists (figures (preview 4 2) (after (preview 4 2) (padded (1 ∷ [])) (supplied (2 ∷ 1 ∷ [])) 2)) (2 ∷ 3 ∷ 2 ∷ 2 ∷ [])
    ∷ told (preview 2 2) (1 ∷ []) 0 (forward (2 ∷ 2 ∷ 2 ∷ []) ∷ []) (0 ∷ []) (3 ∷ []) (3 ∷ 2 ∷ 1 ∷ 1 ∷ [])
    ∷ told loading (1 ∷ []) 0 (forward (replicate 12 9) ∷ []) (0 ∷ []) (12 ∷ []) (12 ∷ 0 ∷ 9 ∷ 9 ∷ [])
    ∷ []

-- rows that wait below another: never run and closed at the deadline, two of one deadline, two of different ones, and HI rows
abbrev waiting : List Case
waiting =
    told (below 2 5) (1 ∷ 2 ∷ 3 ∷ []) 0 (forward (1 ∷ []) ∷ []) (0 ∷ []) (1 ∷ []) (1 ∷ 1 ∷ 1 ∷ 0 ∷ 0 ∷ 0 ∷ 0 ∷ 0 ∷ 0 ∷ 0 ∷ [])
    ∷ told (below 2 5) (1 ∷ 2 ∷ 3 ∷ []) 0 (forward (1 ∷ 1 ∷ []) ∷ []) (0 ∷ []) (2 ∷ []) (2 ∷ 2 ∷ 2 ∷ 0 ∷ 0 ∷ 0 ∷ 2 ∷ 0 ∷ 0 ∷ 0 ∷ [])
    ∷ told (below 2 2) (1 ∷ 2 ∷ 3 ∷ []) 0 (one 1 ∷ one 1 ∷ []) (0 ∷ 0 ∷ []) (1 ∷ 1 ∷ []) (2 ∷ 2 ∷ 2 ∷ 0 ∷ 0 ∷ 0 ∷ 2 ∷ 0 ∷ 0 ∷ 2 ∷ [])
    ∷ told (below 3 2) (1 ∷ 2 ∷ 3 ∷ []) 0 (forward (1 ∷ 1 ∷ 1 ∷ 1 ∷ []) ∷ []) (0 ∷ []) (4 ∷ []) (4 ∷ 4 ∷ 4 ∷ 0 ∷ 0 ∷ 0 ∷ 3 ∷ 0 ∷ 0 ∷ 2 ∷ [])
    ∷ told pen (1 ∷ []) 0 (forward (1 ∷ 1 ∷ []) ∷ []) (0 ∷ []) (2 ∷ []) (2 ∷ 2 ∷ 2 ∷ 0 ∷ [])
    ∷ ran pen (1 ∷ []) (1 ∷ 1 ∷ 1 ∷ 1 ∷ []) (end 4 true true ∷ [])
    ∷ []

-- deadlines and clocks at their limits, a row that a state put at a later clock finds late, columns after the last row
abbrev limits : List Case
limits =
    told (preview 4 1000000) (1 ∷ []) 999998 (one 1 ∷ []) (0 ∷ []) (1 ∷ []) (999999 ∷ 1 ∷ 1 ∷ 0 ∷ [])
    ∷ told (preview 6 1000000) (1 ∷ []) 999999 (one 1 ∷ []) (0 ∷ []) (1 ∷ []) (1000000 ∷ 1 ∷ 1 ∷ 1000000 ∷ [])
    ∷ told (below 2 5) (1 ∷ 2 ∷ 3 ∷ []) 1999999 (one 1 ∷ one 1 ∷ []) (0 ∷ 8 ∷ []) (1 ∷ 0 ∷ [])
    (2000000 ∷ 1 ∷ 1 ∷ 0 ∷ 0 ∷ 0 ∷ 2000000 ∷ 0 ∷ 0 ∷ 2000000 ∷ [])
    ∷ lists (tell_forward (preview 6 2) (padded (1 ∷ [])) 0 (1 ∷ 1 ∷ 1 ∷ []) fresh).state.closing (padded (2 ∷ []))
    ∷ lists (close_late pen (record { clock = 9; got = []; used = []; closing = [] })).closing []
    ∷ yes (is_due (preview 6 2) 2 1)
    ∷ yes (not (is_due (preview 6 2) 1 1))
    ∷ yes (not (is_due pen 9 1))
    ∷ []

-- what planner and judge say goes by the planning rule (rules 14.22, 19.1)
abbrev plans : List Case
plans =
    stopped late_above 3
    ∷ judged late_above (1 ∷ 2 ∷ []) false 1 (negsuc 1)
    ∷ lists (map (worst_finish late_above (padded (1 ∷ 2 ∷ []))) (1 ∷ 2 ∷ [])) (5 ∷ 7 ∷ [])
    ∷ ran late_above (1 ∷ 2 ∷ []) (replicate 7 1) (end 3 false false ∷ end 5 true false ∷ [])
    ∷ stopped trouble 7
    ∷ judged trouble (1 ∷ 2 ∷ 3 ∷ []) false 3 (negsuc 0)
    ∷ ran trouble (1 ∷ 2 ∷ 3 ∷ []) (1 ∷ 1 ∷ 1 ∷ 1 ∷ []) (end 2 true false ∷ end 3 false false ∷ end 4 true false ∷ [])
    ∷ ran trouble (1 ∷ 2 ∷ 3 ∷ []) (2 ∷ 2 ∷ 2 ∷ 2 ∷ []) (end 1 true false ∷ end 3 true false ∷ end 4 true false ∷ [])
    ∷ []

pub late_cases_hold : T (all_hold (starred ++ last_slots ++ waiting ++ limits ++ plans))
unfolding plan_of padded unfollowed passes sequence choice fill taker word table_of judge_of tightest work_slots refusal_number check_number planned_number rows_left verdict_number verdict_yes verdict_row verdict_slack is_arrangement is_order check_order check_both fresh is_pending is_waiting is_ready chosen is_over brought serve slot row_ok tail_ok promise_ok check_wait check_table horizon worst_finish promised_moment slack meets tell_one tell_forward tell_all close_late run_slot
late_cases_hold = tt
