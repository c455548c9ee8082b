-- Cases on proposals and commits, computed from the definitions and checked by a theorem for each of three tables (rule 13.16): what asking answers (rule 22.2), every number of a commit with
-- all later faults beside it (rule 11.10), the clocks at which a commit is accepted (rules 10.17, 10.18), the record afterwards (rules 22.4, 22.5), and lists in which
-- commits stand (rules 22.8, 22.9). Each of the faults 14.38 to 14.44 meets one here.
use Rattle.std.specs.Prelude.{ℕ, Bool, true, ◌&&◌, List, [], ◌∷◌, map, T, eqb}
use Rattle.rules.specs.declared.Row.{Row}
use Rattle.rules.specs.declared.Table.{Table}
use Rattle.record.specs.declared.Run.{Run}
use Rattle.record.specs.Records.{record_of, start_run, row_sound, tail_sound, is_sound}
use Rattle.rules.specs.Calls.{one, forward, Said, tell_one, tell_forward}
use Rattle.rules.specs.Cases.{following, job}
use Rattle.rules.specs.Choice.{plan_of, padded, unfollowed, passes, sequence, choice, fill, taker, word}
use Rattle.proposal.specs.Days.{Act, run, commit, begun, tell_day}
use Rattle.rules.specs.Judge.{table_of, judge_of, tightest}
use Rattle.rules.specs.Lists.{same}
use Rattle.rules.specs.Need.{work_slots}
use Rattle.rules.specs.Numbers.{refusal_number, check_number, planned_number, rows_left, verdict_yes}
use Rattle.rules.specs.Orders.{is_arrangement, is_order, check_order, check_both}
use Rattle.texts.specs.Fields.{digit_at, digit_of, is_field, value_of, written}
use Rattle.proposal.specs.Proposals.{ask_of, all_closed, released_from, check_turn, check_proposal}
use Rattle.rules.specs.Running.{close_late, run_slot}
use Rattle.rules.specs.Slots.{fresh, is_pending, is_waiting, is_ready, chosen, is_over, brought, serve, slot}
use Rattle.rules.specs.Tables.{row_ok, tail_ok, promise_ok, check_wait, check_table, zero_table}
use Rattle.rules.specs.Worst.{horizon, worst_finish, promised_moment, slack, meets}
use Rattle.texts.specs.Sheets.{read_of, check_sheet, is_line, number_at, column_of, table_in, row_line, sheet_of}
use Rattle.proposal.specs.Commits.{check_commit, commit_of}

pub data Case : Type 0 where
  -- asking for these bytes gives this number, this table, this order and this word of rows left
  asked : List ℕ → ℕ → Table → List ℕ → ℕ → Case
  -- a commit of this table and these row numbers to the record is answered 0: the record has both, at this clock and with zeros for all rows
  renews : Run → Table → List ℕ → ℕ → Case
  -- it is answered this number, and the record is as it was
  stays : Run → Table → List ℕ → ℕ → Case
  -- a list of acts on paper, from this table and order at this clock: the numbers and the values said, and of the sheet in hand its table, its order, the
  -- clock, work got, slots used and closing slots
  told : Table → List ℕ → ℕ → List Act → List ℕ → List ℕ → Table → List ℕ → ℕ → List ℕ → List ℕ → List ℕ → Case

-- two tables are the same
abbrev same_table : Table → Table → Bool
same_table a b =
    eqb a.n b.n
    && eqb a.normal b.normal
    && eqb a.degraded b.degraded
    && eqb a.loading b.loading
    && same a.release b.release
    && same a.work b.work
    && same a.deadline b.deadline
    && same a.level b.level
    && same a.promised b.promised
    && same a.follows b.follows

-- two records are the same, every field of them
abbrev same_run : Run → Run → Bool
same_run a b =
    same_table a.table b.table
    && same a.order b.order
    && eqb a.clock b.clock
    && same a.got b.got
    && same a.used b.used
    && same a.closing b.closing

abbrev holds : Case → Bool
holds (asked bytes number t order left) =
    eqb (planned_number (ask_of bytes).answer) number
    && same_table (ask_of bytes).table t
    && same (ask_of bytes).order (padded order)
    && eqb (rows_left (ask_of bytes).answer) left
holds (renews r t o clock) =
    eqb (check_number (commit_of r t (padded o)).check) 0 && same_run (commit_of r t (padded o)).run (start_run t (padded o) clock)
holds (stays r t o number) = eqb (check_number (commit_of r t (padded o)).check) number && same_run (commit_of r t (padded o)).run r
holds (told t o clock acts numbers values p place end got used closing) =
    let d = tell_day acts (begun t (padded o) clock) in
    same (map (λ (s : Said). s.number) d.said) numbers
    && same (map (λ (s : Said). s.value) d.said) values
    && same_table d.hand.table p
    && same d.hand.order (padded place)
    && eqb d.hand.state.clock end
    && same d.hand.state.got (padded got)
    && same d.hand.state.used (padded used)
    && same d.hand.state.closing (padded closing)

-- at one work unit per slot, N and G alike
abbrev steady : List Row → Table
steady rows = table_of rows 1 1 0

-- a record of this table and order, with these figures of its first rows
abbrev of : Table → List ℕ → ℕ → List ℕ → List ℕ → List ℕ → Run
of t o clock got used closing = record_of t (padded o) (record { clock = clock; got = padded got; used = padded used; closing = padded closing })

-- a drawing of two pen jobs; at clock 4 both are done, the second one in the slot before it
abbrev drawing : Table
drawing = steady (job 0 1 9 1 ∷ job 0 2 9 1 ∷ [])

abbrev drawn : ℕ → Run
drawn clock = of drawing (1 ∷ 2 ∷ []) clock (1 ∷ 2 ∷ []) (1 ∷ 2 ∷ []) (1 ∷ 4 ∷ [])

-- the same with its second job open
abbrev unfinished : ℕ → Run
unfinished clock = of drawing (1 ∷ 2 ∷ []) clock (1 ∷ 1 ∷ []) (1 ∷ 1 ∷ []) (1 ∷ 0 ∷ [])

-- the next drawing, of two jobs with this release; the first has to have the higher place
abbrev next : ℕ → Table
next a = steady (job a 1 11 1 ∷ job a 2 13 1 ∷ [])

abbrev tight : ℕ → Table
tight a = steady (job a 1 5 1 ∷ job a 2 7 1 ∷ [])

-- two jobs, the second to follow row w
abbrev waits : ℕ → Table
waits w = steady (job 4 1 13 1 ∷ following 4 2 13 1 w ∷ [])

-- a proposal with this row count, speeds and K, and two rows with these figures: each of the faults 3 to 15 can be put in by itself
abbrev faulty : ℕ → ℕ → ℕ → ℕ → ℕ → ℕ → ℕ → ℕ → Table
faulty n normal loading work promised release level w =
    record {
      n = n;
      normal = normal;
      degraded = 1;
      loading = loading;
      release = padded (release ∷ 0 ∷ []);
      work = padded (work ∷ 1 ∷ []);
      deadline = padded (9 ∷ 9 ∷ []);
      level = padded (0 ∷ level ∷ []);
      promised = padded (promised ∷ 0 ∷ []);
      follows = padded (0 ∷ w ∷ []);
    }

-- a drawing that no order serves
abbrev stuck : Table
stuck = steady (job 0 2 2 1 ∷ job 0 1 2 1 ∷ [])

abbrev pub asking : List Case
asking =
    asked (sheet_of (steady (job 7 1 9 1 ∷ []))) 0 (steady (job 7 1 9 1 ∷ [])) (1 ∷ []) 0
    ∷ asked (sheet_of stuck) 7 zero_table [] 3
    ∷ asked (sheet_of (steady (job 0 1 9 1 ∷ job 0 2 2 1 ∷ job 0 1 2 1 ∷ []))) 7 zero_table [] 6
    ∷ asked (sheet_of (steady (job 0 1 3 1 ∷ job 0 1 2 1 ∷ job 0 1 1 1 ∷ []))) 0 (steady (job 0 1 3 1 ∷ job 0 1 2 1 ∷ job 0 1 1 1 ∷ [])) (3 ∷ 2 ∷ 1 ∷ []) 0
    ∷ asked [] 1 zero_table [] 0
    ∷ asked (sheet_of (steady (job 7 1 7 1 ∷ []))) 5 zero_table [] 0
    ∷ []

abbrev pub committing : List Case
committing =
    -- at clock 0 every row of a sound record is open
    stays (of drawing (1 ∷ 2 ∷ []) 0 [] [] []) (next 0) (1 ∷ 2 ∷ []) 17
    -- at the clock of the last closing, with releases at it, and one below it
    ∷ renews (drawn 4) (next 4) (1 ∷ 2 ∷ []) 4
    ∷ stays (drawn 4) (next 3) (1 ∷ 2 ∷ []) 18
    -- later; one release of two is below the clock
    ∷ renews (drawn 7) (next 7) (1 ∷ 2 ∷ []) 7
    ∷ renews (drawn 7) (next 8) (2 ∷ 1 ∷ []) 7
    ∷ stays (drawn 7) (steady (job 7 1 11 1 ∷ job 6 2 13 1 ∷ [])) (1 ∷ 2 ∷ []) 18
    ∷ stays (drawn 7) (steady (job 6 1 11 1 ∷ job 7 2 13 1 ∷ [])) (1 ∷ 2 ∷ []) 18
    -- one row still open: the last, the first; a row count that differs from the proposal's
    ∷ stays (unfinished 4) (next 4) (1 ∷ 2 ∷ []) 17
    ∷ stays (of drawing (2 ∷ 1 ∷ []) 4 (0 ∷ 2 ∷ []) (0 ∷ 2 ∷ []) (0 ∷ 2 ∷ [])) (next 4) (1 ∷ 2 ∷ []) 17
    ∷ stays (unfinished 4) (steady (job 4 1 11 1 ∷ [])) (1 ∷ []) 17
    -- a LO row that is open, and a HI row that is open after its deadline
    ∷ stays (of (steady (job 0 1 9 1 ∷ job 0 2 9 0 ∷ [])) (1 ∷ 2 ∷ []) 4 (1 ∷ 1 ∷ []) (1 ∷ 1 ∷ []) (1 ∷ 0 ∷ [])) (next 4) (1 ∷ 2 ∷ []) 17
    ∷ stays (of (steady (job 0 3 2 1 ∷ [])) (1 ∷ []) 4 (1 ∷ []) (4 ∷ []) (0 ∷ [])) (next 4) (1 ∷ 2 ∷ []) 17
    ∷ renews (drawn 4) (steady (job 4 1 11 1 ∷ job 4 2 13 1 ∷ job 5 1 13 1 ∷ [])) (1 ∷ 2 ∷ 3 ∷ []) 4
    -- a row that was dropped is closed
    ∷ renews (of (table_of (job 0 4 9 0 ∷ []) 2 1 0) (1 ∷ []) 2 (2 ∷ []) (2 ∷ []) (2 ∷ [])) (next 4) (1 ∷ 2 ∷ []) 2
    -- an order that is correct for another table only
    ∷ renews (drawn 4) (tight 4) (1 ∷ 2 ∷ []) 4
    ∷ stays (drawn 4) (tight 4) (2 ∷ 1 ∷ []) 16
    ∷ stays (drawn 4) (steady (job 4 3 6 1 ∷ [])) (1 ∷ []) 16
    ∷ renews (drawn 4) (steady (job 4 1 7 1 ∷ job 4 2 6 1 ∷ [])) (2 ∷ 1 ∷ []) 4
    -- the waits that count are those of the proposal, and not those of the sheet in hand
    ∷ stays (drawn 4) (waits 1) (2 ∷ 1 ∷ []) 6
    ∷ stays (of (waits 1) (1 ∷ 2 ∷ []) 7 (1 ∷ 2 ∷ []) (1 ∷ 2 ∷ []) (5 ∷ 7 ∷ [])) (waits 1) (2 ∷ 1 ∷ []) 6
    ∷ renews (drawn 4) (waits 1) (1 ∷ 2 ∷ []) 4
    ∷ renews (of (waits 1) (1 ∷ 2 ∷ []) 7 (1 ∷ 2 ∷ []) (1 ∷ 2 ∷ []) (5 ∷ 7 ∷ [])) (next 7) (2 ∷ 1 ∷ []) 7
    -- a damaged record, with a good proposal and with one of zeros
    ∷ stays (of drawing (1 ∷ 2 ∷ []) 4 (1 ∷ 3 ∷ []) (1 ∷ 2 ∷ []) (1 ∷ 4 ∷ [])) (next 4) (1 ∷ 2 ∷ []) 9
    ∷ stays (of drawing (1 ∷ 2 ∷ []) 4 (1 ∷ 2 ∷ []) (1 ∷ 2 ∷ []) (1 ∷ 5 ∷ [])) zero_table [] 9
    ∷ stays (of drawing (1 ∷ 1 ∷ []) 4 (1 ∷ 2 ∷ []) (1 ∷ 2 ∷ []) (1 ∷ 4 ∷ [])) (next 4) (1 ∷ 2 ∷ []) 9
    -- each number in its turn: a fault, and all later ones beside it
    ∷ stays (unfinished 4) (faulty 0 0 17 0 2 1 1 2) (2 ∷ 2 ∷ []) 3
    ∷ stays (unfinished 4) (faulty 2 0 17 0 2 1 1 2) (2 ∷ 2 ∷ []) 4
    ∷ stays (unfinished 4) (faulty 2 1 17 0 2 1 1 2) (2 ∷ 2 ∷ []) 11
    ∷ stays (unfinished 4) (faulty 2 1 16 0 2 1 1 2) (2 ∷ 2 ∷ []) 5
    ∷ stays (unfinished 4) (faulty 2 1 16 1 2 1 1 2) (2 ∷ 2 ∷ []) 12
    ∷ stays (unfinished 4) (faulty 2 1 16 1 1 1 1 2) (2 ∷ 2 ∷ []) 13
    ∷ stays (unfinished 4) (faulty 2 1 16 1 1 1 1 1) (2 ∷ 2 ∷ []) 14
    ∷ stays (unfinished 4) (faulty 2 1 16 1 1 0 1 1) (2 ∷ 2 ∷ []) 15
    ∷ stays (unfinished 4) (faulty 2 1 16 1 1 0 0 1) (2 ∷ 2 ∷ []) 6
    ∷ stays (unfinished 4) (faulty 2 1 16 1 1 0 0 1) (1 ∷ 2 ∷ []) 16
    ∷ stays (unfinished 4) (faulty 2 1 0 1 1 0 0 1) (1 ∷ 2 ∷ []) 17
    ∷ stays (drawn 4) (faulty 2 1 0 1 1 0 0 1) (1 ∷ 2 ∷ []) 18
    ∷ []

abbrev pub days : List Case
days =
    -- the sheet is over, the next one is committed and goes on at the clock that the first one left
    told drawing (1 ∷ 2 ∷ []) 0 (run (forward (1 ∷ 1 ∷ 1 ∷ [])) ∷ commit (next 4) (padded (1 ∷ 2 ∷ [])) ∷ run (one 1) ∷ run (one 1) ∷ [])
    (0 ∷ 0 ∷ 0 ∷ 0 ∷ []) (3 ∷ 0 ∷ 0 ∷ 1 ∷ []) (next 4) (1 ∷ 2 ∷ []) 5 (1 ∷ 0 ∷ []) (1 ∷ 0 ∷ []) (5 ∷ 0 ∷ [])
    -- a commit too early changes nothing, and the run goes on
    ∷ told drawing (1 ∷ 2 ∷ []) 0 (run (one 1) ∷ commit (next 4) (padded (1 ∷ 2 ∷ [])) ∷ run (one 1) ∷ [])
    (0 ∷ 17 ∷ 0 ∷ []) (1 ∷ 0 ∷ 2 ∷ []) drawing (1 ∷ 2 ∷ []) 2 (1 ∷ 1 ∷ []) (1 ∷ 1 ∷ []) (1 ∷ 0 ∷ [])
    -- slots before the earliest release of the new sheet supply nothing, those of the old one among them but for three, and the deadline of the new one is kept
    ∷ told drawing (1 ∷ 2 ∷ []) 0
    (run (forward (0 ∷ 0 ∷ 1 ∷ 0 ∷ 1 ∷ 1 ∷ [])) ∷ commit (steady (job 8 1 9 1 ∷ [])) (padded (1 ∷ [])) ∷ run (forward (0 ∷ 0 ∷ 1 ∷ [])) ∷ [])
    (0 ∷ 0 ∷ 0 ∷ []) (6 ∷ 0 ∷ 3 ∷ []) (steady (job 8 1 9 1 ∷ [])) (1 ∷ []) 9 (1 ∷ []) (1 ∷ []) (9 ∷ [])
    -- from another clock than 0, up to the earliest release no slot runs a row
    ∷ told (next 4) (1 ∷ 2 ∷ []) 3 (run (one 9) ∷ run (one 1) ∷ []) (0 ∷ 0 ∷ []) (0 ∷ 1 ∷ []) (next 4) (1 ∷ 2 ∷ []) 5 (1 ∷ 0 ∷ []) (1 ∷ 0 ∷ []) (5 ∷ 0 ∷ [])
    ∷ []

-- every case of a list holds
abbrev all_hold : List Case → Bool
all_hold [] = true
all_hold (c ∷ cs) = holds c && all_hold cs

pub asked_hold : T (all_hold asking)
unfolding ask_of digit_at digit_of read_of check_sheet is_line is_field number_at column_of table_in value_of written sheet_of row_line plan_of padded unfollowed passes sequence choice fill taker
    word table_of work_slots check_number refusal_number planned_number rows_left is_pending is_waiting is_ready chosen is_over brought serve slot fresh row_ok tail_ok promise_ok
    check_wait check_table horizon worst_finish promised_moment slack meets
asked_hold = tt

pub commits_hold : T (all_hold committing)
unfolding commit_of check_commit check_proposal check_turn all_closed released_from judge_of tightest verdict_yes row_sound tail_sound is_sound padded table_of work_slots
    check_number refusal_number is_arrangement is_order check_order check_both is_pending is_waiting is_ready chosen is_over brought serve slot fresh row_ok tail_ok promise_ok
    check_wait check_table horizon worst_finish promised_moment slack meets
commits_hold = tt

pub days_hold : T (all_hold days)
unfolding tell_day tell_one tell_forward close_late run_slot check_proposal check_turn all_closed released_from judge_of tightest verdict_yes padded table_of work_slots
    check_number refusal_number is_arrangement is_order check_order check_both is_pending is_waiting is_ready chosen is_over brought serve slot fresh row_ok tail_ok promise_ok
    check_wait check_table horizon worst_finish promised_moment slack meets
days_hold = tt
