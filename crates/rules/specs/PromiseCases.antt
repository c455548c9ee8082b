-- Tables in which LO rows are promised a part (rule 1.11, section 20 of the rules), beside all others, in which none is: one table of cases, computed
-- from the definitions and checked by one theorem (rule 13.14). Each of the faults 14.23 to 14.29 meets one here, but for 14.26: it meets one in
-- searches/specs/SpeedCases, where the least speeds of such tables stand.
use Rattle.std.specs.Prelude.{ℕ, true, false, not, List, [], ◌∷◌, ◌++◌, T, pos, negsuc, replicate}
use Rattle.rules.specs.declared.Table.{Table}
use Rattle.rules.specs.Calls.{forward, tell_one, tell_forward, tell_all}
use Rattle.rules.specs.Cases.{Case, planned, stopped, fails, ran, judged, accepted, refused, ordered, told, gives, lists, yes, promising, job, end, all_hold}
use Rattle.rules.specs.Choice.{plan_of, padded, unfollowed, passes, sequence, choice, fill, taker, word}
use Rattle.rules.specs.Judge.{table_of, judge_of, tightest}
use Rattle.rules.specs.Need.{work_slots}
use Rattle.rules.specs.Numbers.{refusal_number, check_number, planned_number, rows_left, verdict_number, verdict_yes, verdict_row, verdict_slack}
use Rattle.rules.specs.Orders.{is_arrangement, is_order, check_order, check_both}
use Rattle.rules.specs.Running.{close_late, run_slot}
use Rattle.rules.specs.Slots.{fresh, is_pending, is_waiting, is_ready, chosen, allowance, is_over, brought, serve, slot}
use Rattle.rules.specs.Tables.{row_ok, tail_ok, promise_ok, check_wait, check_table}
use Rattle.rules.specs.Worst.{horizon, worst_finish, promised_moment, slack, meets}

-- one LO row of 10 work units, done in a slot at N, with this deadline in slots and r of it promised
abbrev coarse : ℕ → ℕ → Table
coarse d r = table_of (promising 0 10 d 0 r ∷ []) 10 1 0

-- the same with a HI row of 4 work units beside it
abbrev above : ℕ → Table
above r = table_of (promising 0 10 5 0 r ∷ job 0 4 6 1 ∷ []) 10 1 0

-- one LO row of two slots at N and four at G, with r of its work promised
abbrev alone : ℕ → Table
alone r = table_of (promising 0 8 4 0 r ∷ []) 4 2 0

-- a HI row that takes a slot at N and two at G, and a LO row released after it
abbrev behind : ℕ → Table
behind r = table_of (job 0 4 6 1 ∷ promising 1 8 7 0 r ∷ []) 4 2 0

-- a HI row that takes a slot at N and four at G, and a LO row with a work unit promised that is there before the row is dropped
abbrev first : ℕ → Table
first d = table_of (job 0 4 9 1 ∷ promising 0 8 d 0 1 ∷ []) 4 1 0

-- P1 with r of row 2's work promised
abbrev p1 : ℕ → Table
p1 r = table_of (job 0 20 10 1 ∷ promising 5 15 10 0 r ∷ job 5 11 19 1 ∷ job 0 5 5 0 ∷ []) 5 2 0

-- one LO row that loads for k slots
abbrev loaded : ℕ → Table
loaded k = table_of (promising 0 8 9 0 4 ∷ []) 8 2 k

-- the table of lemma 2 of Guo and Baruah at a G, with r of row 2's work promised (searches/specs/SpeedCases has it without)
abbrev cooler : ℕ → ℕ → Table
cooler g r = table_of (job 0 200 20 1 ∷ promising 0 180 18 0 r ∷ []) 20 g 0

-- Plans and verdicts. A promise that fails though the row is in time at N, and one that is kept at the deadline just; one that makes an allowance
-- longer, so that the HI row below fails; all of the work promised, and nothing; a row whose two slacks tie and one whose promise is the tighter;
-- a part that is there in time though the row is closed after its deadline at G; P1, which row 2's promise of 4 work units leaves no order; and lemma 2's
-- table, in which 171 work units are kept at G = 19 and 172 are not.
abbrev verdicts : List Case
verdicts =
    stopped (coarse 5 6) 1
    ∷ judged (coarse 5 6) (1 ∷ []) false 1 (negsuc 0)
    ∷ planned (coarse 6 6) (1 ∷ []) (pos 0 ∷ [])
    ∷ planned (coarse 5 5) (1 ∷ []) (pos 0 ∷ [])
    ∷ planned (coarse 5 0) (1 ∷ []) (pos 4 ∷ [])
    ∷ stopped (above 5) 3
    ∷ fails (above 5) 2
    ∷ judged (above 5) (1 ∷ 2 ∷ []) false 2 (negsuc 2)
    ∷ planned (above 0) (2 ∷ 1 ∷ []) (pos 2 ∷ pos 3 ∷ [])
    ∷ judged (above 0) (1 ∷ 2 ∷ []) true 2 (pos 1)
    ∷ planned (alone 8) (1 ∷ []) (pos 0 ∷ [])
    ∷ planned (alone 0) (1 ∷ []) (pos 2 ∷ [])
    ∷ planned (alone 4) (1 ∷ []) (pos 2 ∷ [])
    ∷ planned (behind 2) (1 ∷ 2 ∷ []) (pos 4 ∷ pos 4 ∷ [])
    ∷ planned (behind 3) (1 ∷ 2 ∷ []) (pos 4 ∷ pos 3 ∷ [])
    ∷ judged (behind 2) (1 ∷ 2 ∷ []) true 1 (pos 4)
    ∷ planned (first 5) (1 ∷ 2 ∷ []) (pos 5 ∷ pos 0 ∷ [])
    ∷ planned (first 4) (2 ∷ 1 ∷ []) (pos 2 ∷ pos 3 ∷ [])
    ∷ stopped (p1 4) 3
    ∷ judged (p1 4) (1 ∷ 2 ∷ 3 ∷ 4 ∷ []) false 2 (negsuc 1)
    ∷ planned (cooler 19 171) (2 ∷ 1 ∷ []) (pos 9 ∷ pos 0 ∷ [])
    ∷ stopped (cooler 19 172) 3
    ∷ judged (cooler 19 172) (2 ∷ 1 ∷ []) false 1 (negsuc 0)
    ∷ planned (cooler 20 172) (2 ∷ 1 ∷ []) (pos 9 ∷ pos 1 ∷ [])
    ∷ []

-- allowances, worst finishes and promised moments, in slots, K counted in each need
abbrev times : List Case
times =
    gives (allowance (coarse 5 6) 1) 6
    ∷ gives (allowance (coarse 5 0) 1) 1
    ∷ lists (allowance (loaded 0) 1 ∷ allowance (loaded 1) 1 ∷ allowance (loaded 2) 1 ∷ []) (2 ∷ 3 ∷ 4 ∷ [])
    ∷ gives (worst_finish (coarse 5 6) (padded (1 ∷ [])) 1) 1
    ∷ gives (promised_moment (coarse 5 6) (padded (1 ∷ [])) 1) 6
    ∷ gives (worst_finish (above 5) (padded (1 ∷ 2 ∷ [])) 2) 9
    ∷ gives (worst_finish (first 5) (padded (1 ∷ 2 ∷ [])) 2) 3
    ∷ gives (promised_moment (first 5) (padded (1 ∷ 2 ∷ [])) 2) 5
    ∷ gives (promised_moment (behind 2) (padded (1 ∷ 2 ∷ [])) 2) 3
    ∷ gives (promised_moment (loaded 2) (padded (1 ∷ [])) 1) 4
    ∷ planned (loaded 2) (1 ∷ []) (pos 5 ∷ [])
    ∷ []

-- Runs by the running rule: at G the row has got its part when its allowance is used up, with loading too; it may go on for more slots than at N;
-- whatever comes after the deadline takes nothing away; and a slot before its deadline it may lack the part. At less than G it may be dropped
-- without it.
abbrev runs : List Case
runs =
    told (coarse 20 6) (1 ∷ []) 0 (forward (replicate 5 1) ∷ []) (0 ∷ []) (5 ∷ []) (5 ∷ 5 ∷ 5 ∷ 0 ∷ [])
    ∷ told (coarse 20 6) (1 ∷ []) 0 (forward (replicate 7 1) ∷ []) (0 ∷ []) (7 ∷ []) (7 ∷ 6 ∷ 6 ∷ 6 ∷ [])
    ∷ told (coarse 20 0) (1 ∷ []) 0 (forward (replicate 7 1) ∷ []) (0 ∷ []) (7 ∷ []) (7 ∷ 1 ∷ 1 ∷ 1 ∷ [])
    ∷ told (coarse 6 6) (1 ∷ []) 0 (forward (1 ∷ 1 ∷ 1 ∷ 1 ∷ 1 ∷ 1 ∷ 0 ∷ 0 ∷ []) ∷ []) (0 ∷ []) (8 ∷ []) (8 ∷ 6 ∷ 6 ∷ 6 ∷ [])
    ∷ told (coarse 6 6) (1 ∷ []) 0 (forward (replicate 5 1) ∷ []) (0 ∷ []) (5 ∷ []) (5 ∷ 5 ∷ 5 ∷ 0 ∷ [])
    ∷ told (coarse 6 6) (1 ∷ []) 0 (forward (1 ∷ 1 ∷ 0 ∷ 1 ∷ 1 ∷ 1 ∷ []) ∷ []) (0 ∷ []) (6 ∷ []) (6 ∷ 5 ∷ 6 ∷ 6 ∷ [])
    ∷ told (loaded 2) (1 ∷ []) 0 (forward (replicate 4 2) ∷ []) (0 ∷ []) (4 ∷ []) (4 ∷ 4 ∷ 4 ∷ 4 ∷ [])
    ∷ ran (coarse 6 6) (1 ∷ []) (10 ∷ []) (end 1 true false ∷ [])
    ∷ yes (is_over (coarse 5 6) 1 5 6)
    ∷ yes (not (is_over (coarse 5 6) 1 5 5))
    ∷ []

-- check 12: after 3, 4, 11, and after every row has passed 5 with no figure after the last, before 6 (rules 5.9, 10.12, 11.3)
abbrev checks : List Case
checks =
    accepted (coarse 5 10)
    ∷ refused (coarse 5 11) 12
    ∷ refused (coarse 5 4294967295) 12
    ∷ refused (table_of (promising 0 10 5 1 1 ∷ []) 10 1 0) 12
    ∷ refused (table_of (job 0 1 1 0 ∷ promising 0 1 1 1 1 ∷ []) 2 1 0) 12
    ∷ refused (table_of (promising 0 1 1 0 2 ∷ job 4 1 4 0 ∷ []) 2 1 0) 5
    ∷ refused (table_of (promising 4 1 4 0 2 ∷ []) 2 1 0) 5
    ∷ refused (table_of (promising 0 1 1 0 2 ∷ []) 2 1 17) 11
    ∷ refused (table_of (promising 0 1 1 0 2 ∷ []) 2 3 0) 4
    ∷ refused (record {
      n = 1;
      normal = 2;
      degraded = 1;
      loading = 0;
      release = padded (0 ∷ []);
      work = padded (1 ∷ []);
      deadline = padded (1 ∷ []);
      level = padded (0 ∷ []);
      promised = padded (2 ∷ 1 ∷ []);
      follows = padded [];
    }) 5
    ∷ ordered (above 10) (2 ∷ 1 ∷ [])
    ∷ []

pub promise_cases_hold : T (all_hold (verdicts ++ times ++ runs ++ checks))
unfolding plan_of padded unfollowed passes sequence choice fill taker word table_of judge_of tightest work_slots refusal_number check_number planned_number rows_left verdict_number verdict_yes verdict_row verdict_slack is_arrangement is_order check_order check_both fresh is_pending is_waiting is_ready chosen is_over brought serve slot row_ok tail_ok promise_ok check_wait check_table horizon worst_finish promised_moment slack meets tell_one tell_forward tell_all close_late run_slot
promise_cases_hold = tt
