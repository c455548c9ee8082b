-- Tables in which rows follow rows (rule 1.12, section 21 of the rules), beside all others, in which none does: one table of cases, computed from the
-- definitions and checked by one theorem (rule 13.15). Each of the faults 14.30 to 14.37 meets one here.
use Rattle.std.specs.Prelude.{ℕ, true, false, not, List, [], ◌∷◌, ◌++◌, T, pos, negsuc, replicate}
use Rattle.rules.specs.declared.Row.{Row}
use Rattle.rules.specs.declared.Table.{Table}
use Rattle.rules.specs.declared.Refusal.TheVariants.{NotLower, ReleasedLater, FollowsLow}
use Rattle.rules.specs.Calls.{forward, tell_one, tell_forward, tell_all}
use Rattle.rules.specs.Cases.{Case, planned, stopped, judged, accepted, refused, ordered, disordered, told, gives, lists, yes, six_figures, promising, following, job, all_hold}
use Rattle.rules.specs.Choice.{plan_of, padded, unfollowed, tried, passes, sequence, choice, fill, taker, word}
use Rattle.rules.specs.Judge.{table_of, judge_of, tightest}
use Rattle.rules.specs.Need.{work_slots}
use Rattle.rules.specs.Numbers.{refusal_number, check_number, planned_number, rows_left, verdict_number, verdict_yes, verdict_row, verdict_slack}
use Rattle.rules.specs.Orders.{is_above, is_arrangement, is_order, check_order, check_both}
use Rattle.rules.specs.Running.{close_late, run_slot}
use Rattle.rules.specs.Slots.{fresh, is_pending, is_waiting, is_ready, chosen, is_over, brought, serve, slot}
use Rattle.rules.specs.Tables.{row_ok, tail_ok, promise_ok, check_wait, check_table}
use Rattle.rules.specs.Worst.{horizon, worst_finish, promised_moment, slack, meets}

-- at one work unit per slot, N and G alike
abbrev steady : List Row → Table
steady rows = table_of rows 1 1 0

-- a row of three slots, one that follows it, and a HI row that preempts the first
abbrev preempted : Table
preempted = steady (job 0 3 9 0 ∷ following 0 1 9 0 1 ∷ job 1 2 4 1 ∷ [])

-- a LO row of two slots at N and four at G, and a row that follows it
abbrev dropped : Table
dropped = table_of (job 0 4 9 0 ∷ following 0 2 9 0 1 ∷ []) 2 1 0

-- a LO row that a HI row keeps from its deadline, and a row that follows the LO row
abbrev overdue : Table
overdue = steady (job 0 2 2 0 ∷ following 0 1 5 0 1 ∷ job 0 2 2 1 ∷ [])

-- three rows alike, row 2 with row w, and row 3 with row v to follow
abbrev chain : ℕ → ℕ → Table
chain w v = steady (job 0 1 9 0 ∷ following 0 1 9 0 w ∷ following 0 1 9 0 v ∷ [])

-- a row that must be first, to follow row w
abbrev urgent : ℕ → Table
urgent w = steady (job 0 1 9 0 ∷ following 0 1 1 0 w ∷ [])

-- two rows of the latest deadline, the second to follow row w, and one of an earlier deadline
abbrev skipped : ℕ → Table
skipped w = steady (job 0 1 9 0 ∷ following 0 1 9 0 w ∷ job 0 1 8 0 ∷ [])

-- a HI row, a LO row that follows it and is tried before it, and a HI row, at whose trial the LO row stands above the row that it follows
abbrev broken : Table
broken = steady (job 0 1 9 1 ∷ following 0 1 2 0 1 ∷ job 0 1 9 1 ∷ [])

-- two rows of two work units, the second to follow row w
abbrev pub cooler : ℕ → Table
cooler w = table_of (job 0 2 4 0 ∷ following 0 2 3 0 w ∷ []) 2 1 0

-- a row of a release and a level, and one of another release and level to follow row w
abbrev two : ℕ → ℕ → ℕ → ℕ → ℕ → Table
two a level b other w = steady (job a 1 9 level ∷ following b 1 9 other w ∷ [])

-- Plans and verdicts. A row that follows a follower; a wait that makes it a 7, where with w at 0 it is not; a skip by which another row gets a place,
-- and which looks at the rows left alone; a trial above whose row a wait is broken; and a wait that asks for a faster processor, whose least speeds
-- stand in searches/specs/SpeedCases.
abbrev verdicts : List Case
verdicts =
    planned (chain 1 2) (1 ∷ 2 ∷ 3 ∷ []) (pos 8 ∷ pos 7 ∷ pos 6 ∷ [])
    ∷ planned (chain 0 0) (3 ∷ 2 ∷ 1 ∷ []) (pos 8 ∷ pos 7 ∷ pos 6 ∷ [])
    ∷ planned (chain 1 1) (1 ∷ 3 ∷ 2 ∷ []) (pos 8 ∷ pos 7 ∷ pos 6 ∷ [])
    ∷ judged (chain 1 2) (1 ∷ 2 ∷ 3 ∷ []) true 3 (pos 6)
    ∷ planned preempted (3 ∷ 1 ∷ 2 ∷ []) (pos 1 ∷ pos 4 ∷ pos 3 ∷ [])
    ∷ stopped (urgent 1) 3
    ∷ planned (urgent 0) (2 ∷ 1 ∷ []) (pos 0 ∷ pos 7 ∷ [])
    ∷ judged (urgent 1) (1 ∷ 2 ∷ []) false 2 (negsuc 0)
    ∷ planned (skipped 1) (3 ∷ 1 ∷ 2 ∷ []) (pos 7 ∷ pos 7 ∷ pos 6 ∷ [])
    ∷ planned (skipped 0) (3 ∷ 2 ∷ 1 ∷ []) (pos 7 ∷ pos 7 ∷ pos 6 ∷ [])
    ∷ lists (tried (skipped 1) (1 ∷ 2 ∷ 3 ∷ [])) (2 ∷ 3 ∷ [])
    ∷ lists (tried (skipped 1) (1 ∷ 3 ∷ [])) (1 ∷ 3 ∷ [])
    ∷ planned broken (1 ∷ 2 ∷ 3 ∷ []) (pos 8 ∷ pos 0 ∷ pos 6 ∷ [])
    ∷ gives (worst_finish broken (2 ∷ 1 ∷ 3 ∷ []) 3) 3
    ∷ planned (two 0 1 0 1 1) (1 ∷ 2 ∷ []) (pos 8 ∷ pos 7 ∷ [])
    ∷ planned (cooler 1) (1 ∷ 2 ∷ []) (pos 3 ∷ pos 1 ∷ [])
    ∷ []

-- Runs. A follower, HI or LO, is not run while the row that it follows is open, preempted or not, late or not, even by numbers that have it above that row; it runs once that
-- row is done, and once it is dropped, for its slots or by the clock.
abbrev runs : List Case
runs =
    told preempted (3 ∷ 1 ∷ 2 ∷ []) 0 (forward (replicate 5 1) ∷ []) (0 ∷ []) (5 ∷ []) (5 ∷ 3 ∷ 3 ∷ 5 ∷ 0 ∷ 0 ∷ 0 ∷ 2 ∷ 2 ∷ 3 ∷ [])
    ∷ told preempted (3 ∷ 1 ∷ 2 ∷ []) 0 (forward (replicate 6 1) ∷ []) (0 ∷ []) (6 ∷ []) (6 ∷ 3 ∷ 3 ∷ 5 ∷ 1 ∷ 1 ∷ 6 ∷ 2 ∷ 2 ∷ 3 ∷ [])
    ∷ told preempted (3 ∷ 2 ∷ 1 ∷ []) 0 (forward (replicate 6 1) ∷ []) (0 ∷ []) (6 ∷ []) (6 ∷ 3 ∷ 3 ∷ 5 ∷ 1 ∷ 1 ∷ 6 ∷ 2 ∷ 2 ∷ 3 ∷ [])
    ∷ gives (chosen preempted (2 ∷ 1 ∷ 3 ∷ []) fresh) 1
    ∷ gives (chosen (two 0 1 0 1 1) (2 ∷ 1 ∷ []) fresh) 1
    ∷ gives (chosen (two 0 1 0 0 1) (2 ∷ 1 ∷ []) fresh) 1
    ∷ gives (chosen (chain 1 1) (3 ∷ 1 ∷ 2 ∷ []) fresh) 1
    ∷ told (steady (job 0 3 2 1 ∷ following 0 1 9 1 1 ∷ [])) (2 ∷ 1 ∷ []) 0 (forward (replicate 4 1) ∷ []) (0 ∷ []) (4 ∷ []) (4 ∷ 3 ∷ 3 ∷ 3 ∷ 1 ∷ 1 ∷ 4 ∷ [])
    ∷ yes (is_waiting preempted fresh 2)
    ∷ yes (not (is_ready preempted fresh 2))
    ∷ yes (not (is_waiting preempted fresh 1))
    ∷ told dropped (1 ∷ 2 ∷ []) 0 (forward (1 ∷ 1 ∷ 2 ∷ []) ∷ []) (0 ∷ []) (3 ∷ []) (3 ∷ 2 ∷ 2 ∷ 2 ∷ 2 ∷ 1 ∷ 3 ∷ [])
    ∷ told overdue (3 ∷ 1 ∷ 2 ∷ []) 0 (forward (replicate 3 1) ∷ []) (0 ∷ []) (3 ∷ []) (3 ∷ 0 ∷ 0 ∷ 2 ∷ 1 ∷ 1 ∷ 3 ∷ 2 ∷ 2 ∷ 2 ∷ [])
    ∷ told (chain 1 2) (1 ∷ 2 ∷ 3 ∷ []) 0 (forward (replicate 3 1) ∷ []) (0 ∷ []) (3 ∷ []) (3 ∷ 1 ∷ 1 ∷ 1 ∷ 1 ∷ 1 ∷ 2 ∷ 1 ∷ 1 ∷ 3 ∷ [])
    ∷ told (chain 1 2) (3 ∷ 2 ∷ 1 ∷ []) 0 (forward (replicate 3 1) ∷ []) (0 ∷ []) (3 ∷ []) (3 ∷ 1 ∷ 1 ∷ 1 ∷ 1 ∷ 1 ∷ 2 ∷ 1 ∷ 1 ∷ 3 ∷ [])
    ∷ []

-- Checks: 13 for a row itself, one below it, one that is not there, and one far above sixty-four; 14 at a later release and not at the same; 15 for a HI
-- row and no other. Of several the first row counts, and in it the lowest number; 12 and whatever comes before it is first, 6 last. 6 is said to numbers
-- that have a follower above the row that it follows.
abbrev checks : List Case
checks =
    refused (steady (following 0 1 9 0 1 ∷ [])) 13
    ∷ refused (steady (following 0 1 9 0 2 ∷ job 0 1 9 0 ∷ [])) 13
    ∷ refused (two 0 0 0 0 2) 13
    ∷ refused (two 0 0 0 0 3) 13
    ∷ refused (chain 1 3) 13
    ∷ refused (two 0 0 0 0 65) 13
    ∷ refused (two 0 0 0 0 4294967295) 13
    ∷ accepted (two 0 0 0 0 1)
    ∷ accepted (two 0 0 1 0 1)
    ∷ refused (two 1 0 0 0 1) 14
    ∷ refused (two 1 1 0 1 1) 14
    ∷ refused (two 1 1 0 0 1) 14
    ∷ refused (steady (job 1 1 9 0 ∷ job 0 1 9 0 ∷ following 0 1 9 0 1 ∷ [])) 14
    ∷ refused (two 0 0 0 1 1) 15
    ∷ refused (two 0 0 1 1 1) 15
    ∷ refused (steady (job 0 1 9 0 ∷ job 0 1 9 1 ∷ following 0 1 9 1 1 ∷ [])) 15
    ∷ accepted (two 0 1 0 0 1)
    ∷ accepted (two 0 1 0 1 1)
    ∷ accepted (two 0 0 0 1 0)
    ∷ refused (steady (following 0 1 9 1 2 ∷ job 1 1 9 0 ∷ [])) 13
    ∷ refused (two 1 0 0 1 1) 14
    ∷ refused (steady (job 0 1 9 0 ∷ following 0 1 9 1 1 ∷ following 0 1 9 0 3 ∷ [])) 15
    ∷ refused (steady (job 1 1 9 0 ∷ following 0 1 9 0 1 ∷ following 0 1 9 0 3 ∷ [])) 14
    ∷ refused (steady (following 0 1 9 0 1 ∷ promising 0 1 9 0 2 ∷ [])) 12
    ∷ refused (steady (six_figures 0 1 9 0 2 1 ∷ [])) 12
    ∷ refused (steady (following 0 1 9 0 1 ∷ job 4 1 4 0 ∷ [])) 5
    ∷ refused (table_of (following 0 1 9 0 1 ∷ []) 1 1 17) 11
    ∷ refused (record {
      n = 1;
      normal = 2;
      degraded = 1;
      loading = 0;
      release = padded (0 ∷ []);
      work = padded (1 ∷ []);
      deadline = padded (1 ∷ []);
      level = padded (0 ∷ []);
      promised = padded [];
      follows = padded (0 ∷ 1 ∷ []);
    }) 5
    ∷ ordered (chain 1 2) (1 ∷ 2 ∷ 3 ∷ [])
    ∷ disordered (chain 1 2) (2 ∷ 1 ∷ 3 ∷ [])
    ∷ disordered (chain 1 2) (1 ∷ 3 ∷ 2 ∷ [])
    ∷ disordered (chain 1 1) (2 ∷ 1 ∷ 3 ∷ [])
    ∷ disordered (chain 1 1) (3 ∷ 1 ∷ 2 ∷ [])
    ∷ disordered (two 0 1 0 1 1) (2 ∷ 1 ∷ [])
    ∷ disordered (two 0 1 0 0 1) (2 ∷ 1 ∷ [])
    ∷ ordered (chain 1 1) (1 ∷ 3 ∷ 2 ∷ [])
    ∷ ordered (chain 0 0) (3 ∷ 2 ∷ 1 ∷ [])
    ∷ yes (is_above 1 2 (3 ∷ 1 ∷ 2 ∷ []))
    ∷ yes (not (is_above 2 1 (3 ∷ 1 ∷ 2 ∷ [])))
    ∷ gives (refusal_number NotLower) 13
    ∷ gives (refusal_number ReleasedLater) 14
    ∷ gives (refusal_number FollowsLow) 15
    ∷ []

pub wait_cases_hold : T (all_hold (verdicts ++ runs ++ checks))
unfolding plan_of padded unfollowed passes sequence choice fill taker word table_of judge_of tightest work_slots refusal_number check_number planned_number rows_left verdict_number verdict_yes verdict_row verdict_slack is_arrangement is_order check_order check_both fresh is_pending is_waiting is_ready chosen is_over brought serve slot row_ok tail_ok promise_ok check_wait check_table horizon worst_finish promised_moment slack meets tell_one tell_forward tell_all close_late run_slot
wait_cases_hold = tt
