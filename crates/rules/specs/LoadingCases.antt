-- Tables in which jobs load (rules 1.10, 2.14), beside P1 to P8, in which none does: one table of cases, computed from the definitions and
-- checked by one theorem.
use Rattle.std.specs.Prelude.{ℕ, true, false, not, List, [], ◌∷◌, ◌++◌, map, T, pos, negsuc, replicate}
use Rattle.rules.specs.declared.Table.{Table}
use Rattle.rules.specs.Calls.{one, forward, tell_one, tell_forward, tell_all}
use Rattle.rules.specs.Cases.{Case, planned, stopped, fails, ran, judged, accepted, refused, ordered, told, gives, lists, yes, job, end, starred, all_hold}
use Rattle.rules.specs.Choice.{plan_of, padded, unfollowed, passes, sequence, choice, fill, taker, word}
use Rattle.rules.specs.Judge.{table_of, judge_of, tightest}
use Rattle.rules.specs.Need.{work_slots}
use Rattle.rules.specs.Numbers.{refusal_number, check_number, planned_number, rows_left, verdict_number, verdict_yes, verdict_row, verdict_slack}
use Rattle.rules.specs.Orders.{is_arrangement, is_order, check_order, check_both}
use Rattle.rules.specs.Rows.{need_of, need_for, rows_of}
use Rattle.rules.specs.Running.{close_late, run_slot}
use Rattle.rules.specs.Slots.{fresh, is_pending, is_waiting, is_ready, chosen, allowance, is_over, brought, serve, slot}
use Rattle.rules.specs.Tables.{row_ok, tail_ok, promise_ok, check_wait, check_table}
use Rattle.rules.specs.Worst.{horizon, worst_finish, promised_moment, slack, meets}

-- A LO row of two working slots that a HI row, released at a, preempts. Each loads for 2 slots.
abbrev preempted : ℕ → Table
preempted a = table_of (job a 2 9 1 ∷ job 0 4 9 0 ∷ []) 2 1 2

-- one LO row of two working slots at N, and k slots of loading; its deadline is after its allowance, however long it loads
abbrev low : ℕ → Table
low k = table_of (job 0 4 30 0 ∷ []) 2 1 k

-- one HI row of three working slots at G, and k slots of loading
abbrev high : ℕ → Table
high k = table_of (job 0 3 5 1 ∷ []) 3 1 k

-- three rows that each load for k slots
abbrev three : ℕ → Table
three k = table_of (job 0 1 6 0 ∷ job 0 1 6 0 ∷ job 0 1 6 0 ∷ []) 2 2 k

-- a LO and a HI row: either may stand lowest at K = 0, the HI row at K = 1, and none at K = 2
abbrev two : ℕ → Table
two k = table_of (job 0 2 4 0 ∷ job 0 4 7 1 ∷ []) 2 1 k

-- a table of one row with K = k and a figure after its last row
abbrev followed : ℕ → Table
followed k =
    let t = table_of (job 0 1 1 0 ∷ job 1 0 0 0 ∷ []) 2 1 k in
    record {
      n = 1;
      normal = t.normal;
      degraded = t.degraded;
      loading = k;
      release = t.release;
      work = t.work;
      deadline = t.deadline;
      level = t.level;
      promised = t.promised;
      follows = t.follows;
    }

-- P1 with later deadlines
abbrev later : ℕ → Table
later k = table_of (job 0 20 12 1 ∷ job 5 15 14 0 ∷ job 5 11 24 1 ∷ job 0 5 8 0 ∷ []) 5 2 k

-- What a slot does. The row preempted after it has loaded (released at 3), between its loading slots (at 1) and right after the last of them
-- (at 2) loads for 2 slots in all; it ends just within its allowance of 4 slots, at which a row that loaded again would be dropped.
-- Supplies of loading slots are lost, whatever they are, and these slots count as used. A LO row is dropped at its allowance, K slots longer
-- (rules 1.9, 2.7); a HI row goes on.
abbrev runs : List Case
runs =
    told (preempted 3) (1 ∷ 2 ∷ []) 0 (map one (replicate 7 2)) (replicate 7 0) (2 ∷ 2 ∷ 2 ∷ 1 ∷ 1 ∷ 1 ∷ 2 ∷ []) (7 ∷ 2 ∷ 3 ∷ 6 ∷ 4 ∷ 4 ∷ 7 ∷ [])
    ∷ told (preempted 1) (1 ∷ 2 ∷ []) 0 (map one (replicate 7 2)) (replicate 7 0) (2 ∷ 1 ∷ 1 ∷ 1 ∷ 2 ∷ 2 ∷ 2 ∷ []) (7 ∷ 2 ∷ 3 ∷ 4 ∷ 4 ∷ 4 ∷ 7 ∷ [])
    ∷ told (preempted 2) (1 ∷ 2 ∷ []) 0 (forward (replicate 7 2) ∷ []) (0 ∷ []) (7 ∷ []) (7 ∷ 2 ∷ 3 ∷ 5 ∷ 4 ∷ 4 ∷ 7 ∷ [])
    ∷ told (preempted 3) (1 ∷ 2 ∷ []) 0 (forward (9 ∷ 9 ∷ []) ∷ []) (0 ∷ []) (2 ∷ []) (2 ∷ 0 ∷ 0 ∷ 0 ∷ 0 ∷ 2 ∷ 0 ∷ [])
    ∷ told (low 3) (1 ∷ []) 0 (forward (9 ∷ 9 ∷ 9 ∷ 1 ∷ []) ∷ []) (0 ∷ []) (4 ∷ []) (4 ∷ 1 ∷ 4 ∷ 0 ∷ [])
    ∷ told (low 3) (1 ∷ []) 0 (forward (9 ∷ 9 ∷ 9 ∷ 1 ∷ 4 ∷ []) ∷ []) (0 ∷ []) (5 ∷ []) (5 ∷ 4 ∷ 5 ∷ 5 ∷ [])
    ∷ told (low 3) (1 ∷ []) 0 (forward (9 ∷ 9 ∷ 9 ∷ 9 ∷ []) ∷ []) (0 ∷ []) (4 ∷ []) (4 ∷ 4 ∷ 4 ∷ 4 ∷ [])
    ∷ ran (low 3) (1 ∷ []) (1 ∷ 1 ∷ 1 ∷ 1 ∷ 1 ∷ []) (end 5 false false ∷ [])
    ∷ told (low 3) (1 ∷ []) 0 (forward (replicate 9 1) ∷ []) (0 ∷ []) (9 ∷ []) (9 ∷ 2 ∷ 5 ∷ 5 ∷ [])
    ∷ ran (low 0) (1 ∷ []) (1 ∷ 1 ∷ 1 ∷ 1 ∷ 1 ∷ []) (end 2 false false ∷ [])
    ∷ ran (low 16) (1 ∷ []) (replicate 18 1) (end 18 false false ∷ [])
    ∷ told (low 16) (1 ∷ []) 0 (forward (replicate 17 1) ∷ []) (0 ∷ []) (17 ∷ []) (17 ∷ 1 ∷ 17 ∷ 0 ∷ [])
    ∷ ran (high 2) (1 ∷ []) (1 ∷ 1 ∷ 1 ∷ 1 ∷ 1 ∷ []) (end 5 true false ∷ [])
    ∷ told (high 2) (1 ∷ []) 0 (forward (0 ∷ 0 ∷ 0 ∷ 0 ∷ 0 ∷ 3 ∷ []) ∷ []) (0 ∷ []) (6 ∷ []) (6 ∷ 3 ∷ 6 ∷ 6 ∷ [])
    ∷ lists (map (brought 2 1) (0 ∷ 1 ∷ 4294967295 ∷ [])) (0 ∷ 0 ∷ 0 ∷ [])
    ∷ lists (map (brought 2 2) (0 ∷ 1 ∷ 4294967295 ∷ [])) (0 ∷ 1 ∷ 4294967295 ∷ [])
    ∷ gives (brought 0 0 7) 7
    ∷ yes (is_over (low 3) 1 0 5)
    ∷ yes (not (is_over (low 3) 1 3 4))
    ∷ yes (not (is_over (high 2) 1 2 99))
    ∷ []

-- needs, allowances, worst finishes and horizons, in slots: K counts for each row and at every speed (rules 1.8 to 1.10, 3.6)
abbrev times : List Case
times =
    lists (map (need_for (later 2) 5) (rows_of (later 2))) (6 ∷ 5 ∷ 5 ∷ 3 ∷ [])
    ∷ lists (map (need_for (later 2) 2) (rows_of (later 2))) (12 ∷ 10 ∷ 8 ∷ 5 ∷ [])
    ∷ lists (map (need_of (two 1)) (rows_of (two 1))) (2 ∷ 3 ∷ [])
    ∷ lists (map (allowance (two 1)) (1 ∷ [])) (2 ∷ [])
    ∷ gives (allowance (preempted 3) 2) 4
    ∷ gives (allowance (low 3) 1) 5
    ∷ gives (horizon (later 2) 5) 24
    ∷ gives (horizon (later 2) 2) 40
    ∷ lists (map (worst_finish (preempted 3) (padded (1 ∷ 2 ∷ []))) (1 ∷ 2 ∷ [])) (7 ∷ 7 ∷ [])
    ∷ lists (map (worst_finish (two 2) (padded (1 ∷ 2 ∷ []))) (1 ∷ 2 ∷ [])) (3 ∷ 9 ∷ [])
    ∷ lists (map (worst_finish (two 2) (padded (2 ∷ 1 ∷ []))) (1 ∷ 2 ∷ [])) (7 ∷ 6 ∷ [])
    ∷ lists (map (worst_finish (table_of (job 6 3 30 1 ∷ []) 3 1 16) (padded (1 ∷ []))) (1 ∷ [])) (25 ∷ [])
    ∷ []

-- the planner and the judge: an order at K = 1 and none at K = 2 (rules 4.10, 7.2)
abbrev verdicts : List Case
verdicts =
    planned (two 0) (2 ∷ 1 ∷ []) (pos 3 ∷ pos 1 ∷ [])
    ∷ planned (two 1) (1 ∷ 2 ∷ []) (pos 2 ∷ pos 0 ∷ [])
    ∷ stopped (two 2) 3
    ∷ planned (three 1) (3 ∷ 2 ∷ 1 ∷ []) (pos 4 ∷ pos 2 ∷ pos 0 ∷ [])
    ∷ stopped (three 2) 7
    ∷ planned (high 2) (1 ∷ []) (pos 0 ∷ [])
    ∷ stopped (high 3) 1
    ∷ planned (later 0) (1 ∷ 3 ∷ 4 ∷ 2 ∷ []) (pos 2 ∷ pos 8 ∷ pos 3 ∷ pos 3 ∷ [])
    ∷ planned (later 1) (1 ∷ 4 ∷ 2 ∷ 3 ∷ []) (pos 1 ∷ pos 1 ∷ pos 3 ∷ pos 0 ∷ [])
    ∷ stopped (later 2) 15
    ∷ planned (preempted 3) (1 ∷ 2 ∷ []) (pos 2 ∷ pos 2 ∷ [])
    ∷ fails (two 1) 1
    ∷ judged (two 1) (1 ∷ 2 ∷ []) true 2 (pos 0)
    ∷ judged (two 2) (1 ∷ 2 ∷ []) false 2 (negsuc 1)
    ∷ judged (later 1) (1 ∷ 3 ∷ 4 ∷ 2 ∷ []) false 4 (negsuc 2)
    ∷ []

-- check 11: after 3 and 4, before 5 and 6 (rules 5.8, 10.11, 11.3)
abbrev checks : List Case
checks =
    accepted (low 16)
    ∷ refused (low 17) 11
    ∷ refused (low 4294967295) 11
    ∷ refused (table_of [] 2 1 17) 3
    ∷ refused (table_of (job 0 1 1 0 ∷ []) 2 3 17) 4
    ∷ refused (table_of (job 4 1 4 0 ∷ []) 2 1 17) 11
    ∷ refused (table_of (job 4 1 4 0 ∷ []) 2 1 16) 5
    ∷ refused (followed 17) 11
    ∷ refused (followed 16) 5
    ∷ ordered (two 16) (2 ∷ 1 ∷ [])
    ∷ []

pub loading_cases_hold : T (all_hold (starred ++ runs ++ times ++ verdicts ++ checks))
unfolding plan_of padded unfollowed passes sequence choice fill taker word table_of judge_of tightest work_slots refusal_number check_number planned_number rows_left verdict_number verdict_yes verdict_row verdict_slack is_arrangement is_order check_order check_both fresh is_pending is_waiting is_ready chosen is_over brought serve slot row_ok tail_ok promise_ok check_wait check_table horizon worst_finish promised_moment slack meets tell_one tell_forward tell_all close_late run_slot
loading_cases_hold = tt
