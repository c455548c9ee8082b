-- That the rules kept here are those from before w: P1, a table with promised parts and one with loading, with a w beyond every limit, which they do not
-- look at; tables in which a wait would change the answer; and sheets of before. Without promised parts they do not look at r either. One table of cases,
-- computed and checked by one theorem.
use Rattle.std.specs.Prelude.{ℕ, Bool, false, ◌&&◌, List, [], ◌∷◌, map, T, eqb, replicate}
use Rattle.std.specs.Int.Count.{ones, ones_in}
use Rattle.rules.specs.declared.Table.{Table}
use Rattle.rules.specs.declared.Sought.TheVariants.{Normal}
use Rattle.rules.specs.Calls.{one, forward}
use Rattle.rules.specs.Cases.{six_figures, job, following}
use Rattle.rules.specs.Choice.{padded, sequence, word}
use Rattle.rules.specs.Judge.{table_of}
use Rattle.rules.specs.Lists.{same, joined}
use Rattle.rules.specs.Need.{work_slots}
use Rattle.rules.specs.Numbers.{refusal_number, check_number, planned_number, rows_left, searched_number, searched_speed, verdict_number, verdict_row}
use Rattle.rules.specs.Orders.{is_arrangement}
use Rattle.rules.specs.Rows.{at, rows_of}
use Rattle.rules.specs.Running.{close_late}
use Rattle.rules.specs.Slots.{State, fresh, is_pending, is_waiting, is_ready, brought}
use Rattle.rules.specs.Tables.{row_ok, promise_ok}
use Rattle.texts.specs.Fields.{digit_at, digit_of, written, value_of, is_field}
use Rattle.texts.specs.Reports.{figure_at, figure}
use Rattle.texts.specs.Sheets.{is_line, number_at}
use Rattle.texts.specs.Quoted.{bytes}
use Rattle.record.specs.Records.{record_of, tail_sound}
use Rattle.unwaited.specs.OldRecords as Records
use Rattle.unwaited.specs.OldSheets as Sheets
use Rattle.unwaited.specs.OldTexts as Texts
use Rattle.unwaited.specs.Unwaited as Then
use Rattle.unwaited.specs.Unwaited.{Past, loading, with_promises}

-- the rules from before promised parts
abbrev without : Past
without = loading false

-- P1; a LO row with half of its work promised above a HI row; and a LO row with half of its work promised that loads for 2 slots: every row follows row 99
abbrev p1 : Table
p1 = table_of (following 0 20 10 1 99 ∷ following 5 15 10 0 99 ∷ following 5 11 19 1 99 ∷ following 0 5 5 0 99 ∷ []) 5 2 0

abbrev above : Table
above = table_of (six_figures 0 10 5 0 5 99 ∷ following 0 4 6 1 99 ∷ []) 10 1 0

abbrev loaded : Table
loaded = table_of (six_figures 0 8 9 0 4 99 ∷ []) 8 2 2

-- one row, with an r and a w in every entry of their columns, after the last row too
abbrev overfull : ℕ → ℕ → Table
overfull r w =
    record {
      n = 1;
      normal = 2;
      degraded = 1;
      loading = 0;
      release = replicate 64 0;
      work = 1 ∷ replicate 63 0;
      deadline = 1 ∷ replicate 63 0;
      level = replicate 64 0;
      promised = replicate 64 r;
      follows = replicate 64 w;
    }

-- a row of three slots, one that follows it, and a HI row that preempts the first; a row that must be first and follows another; two rows of which the
-- second follows the first
abbrev preempted : Table
preempted = table_of (job 0 3 9 0 ∷ following 0 1 9 0 1 ∷ job 1 2 4 1 ∷ []) 1 1 0

abbrev urgent : Table
urgent = table_of (job 0 1 9 0 ∷ following 0 1 1 0 1 ∷ []) 1 1 0

abbrev cooler : Table
cooler = table_of (job 0 2 4 0 ∷ following 0 2 3 0 1 ∷ []) 2 1 0

abbrev order : List ℕ
order = padded (1 ∷ 2 ∷ [])

-- the clock, and of each row the work got, the slots used and the closing slot
abbrev shows : Table → State → List ℕ → Bool
shows t s xs = same (s.clock ∷ joined (λ i. at s.got i ∷ at s.used i ∷ at s.closing i ∷ []) (rows_of t)) xs

-- the planner, worst finishes, promised moments, the judge and a search
abbrev verdicts : Bool
verdicts =
    same (Then.plan_of with_promises p1).order (padded (1 ∷ 2 ∷ 3 ∷ 4 ∷ []))
    && same (map (Then.worst_finish with_promises p1 (padded (1 ∷ 2 ∷ 3 ∷ 4 ∷ []))) (rows_of p1)) (10 ∷ 8 ∷ 19 ∷ 5 ∷ [])
    && eqb (rows_left (Then.plan_of with_promises above).answer) 3
    && same (Then.plan_of without above).order (padded (2 ∷ 1 ∷ []))
    && same (map (Then.allowance with_promises above) (rows_of above)) (5 ∷ 1 ∷ [])
    && same (map (Then.allowance without above) (rows_of above)) (1 ∷ 1 ∷ [])
    && eqb (verdict_number (Then.judge_of with_promises above order)) 0
    && eqb (verdict_row (Then.judge_of with_promises above order)) 2
    && same (Then.allowance with_promises loaded 1 ∷ Then.worst_finish with_promises loaded (padded (1 ∷ [])) 1 ∷ Then.promised_moment with_promises loaded (padded (1 ∷ [])) 1 ∷ []) (4 ∷ 3 ∷ 4 ∷ [])
    && same (Then.plan_of with_promises urgent).order (padded (2 ∷ 1 ∷ []))
    && same (Then.plan_of with_promises preempted).order (padded (3 ∷ 2 ∷ 1 ∷ []))
    && eqb (searched_speed (Then.search_of with_promises Normal cooler).answer) 1

-- the checks of a table, with promised parts and without, and of an order
abbrev checks : Bool
checks =
    eqb (check_number (Then.check_table with_promises p1)) 0
    && eqb (check_number (Then.check_table with_promises (overfull 0 7))) 0
    && eqb (check_number (Then.check_table with_promises (overfull 7 7))) 5
    && eqb (check_number (Then.check_table without (overfull 7 7))) 0
    && eqb (check_number (Then.check_both with_promises urgent (padded (2 ∷ 1 ∷ [])))) 0
    && eqb (check_number (Then.check_both with_promises urgent (padded (2 ∷ 2 ∷ [])))) 6

-- runs, and a record: a follower does not wait
abbrev runs : Bool
runs =
    eqb (Then.chosen preempted (2 ∷ 1 ∷ 3 ∷ []) fresh) 2
    && shows preempted (Then.tell_all with_promises preempted (padded (3 ∷ 2 ∷ 1 ∷ [])) (forward (replicate 6 1) ∷ []) fresh).state (6 ∷ 3 ∷ 3 ∷ 6 ∷ 1 ∷ 1 ∷ 1 ∷ 2 ∷ 2 ∷ 3 ∷ [])
    && shows loaded (Then.tell_all with_promises loaded (padded (1 ∷ [])) (map one (replicate 4 2)) fresh).state (4 ∷ 4 ∷ 4 ∷ 4 ∷ [])
    && shows loaded (Then.tell_all without loaded (padded (1 ∷ [])) (map one (replicate 4 2)) fresh).state (4 ∷ 2 ∷ 3 ∷ 3 ∷ [])
    && Records.is_sound with_promises (record_of urgent (padded (2 ∷ 1 ∷ [])) fresh)
    && eqb (at (Records.next_run with_promises (record_of urgent (padded (2 ∷ 1 ∷ [])) fresh) 1).closing 2) 1

-- A sheet with rows of four figures, with rows of five, and with rows of six: the first two were taken, each at its time, and the field of 0 at each row
-- makes the second of the first, and the third of the second. How long a row's line was, and how many bytes the program kept.
abbrev four : List ℕ
four = bytes "       2       3       2       0\n       4      56     789       1\n       0       7      99       0\n"

abbrev five : List ℕ
five = bytes "       2       3       2       0\n       4      56     789       1       0\n       0       7      99       0       0\n"

abbrev six : List ℕ
six = bytes "       2       3       2       0\n       4      56     789       1       0       0\n       0       7      99       0       0       0\n"

abbrev sheets : Bool
sheets =
    eqb (check_number (Sheets.check_sheet with_promises four)) 1
    && eqb (check_number (Sheets.check_sheet with_promises five)) 0
    && eqb (check_number (Sheets.check_sheet with_promises six)) 1
    && eqb (check_number (Sheets.check_sheet without four)) 0
    && eqb (at (Sheets.table_in 5 five).work 2) 7
    && same (Sheets.sheet_of 5 (Sheets.table_in 5 five)) five
    && same (Sheets.widen 4 four) five
    && same (Sheets.widen 5 five) six
    && same (map Sheets.line_size (4 ∷ 5 ∷ 6 ∷ [])) (33 ∷ 41 ∷ 49 ∷ [])
    && same (map Sheets.kept_of (4 ∷ 5 ∷ 6 ∷ [])) (2146 ∷ 2658 ∷ 3170 ∷ [])

-- the program's text and the report's
abbrev texts : Bool
texts =
    same (Texts.program_text with_promises five) (bytes "       0       2\n       1       1     757\n       2       2      96\n")
    && same (Texts.program_text with_promises six) (bytes "       1       0\n")
    && same (Texts.report_text with_promises loaded (padded (1 ∷ []))) (bytes "         1         1         3         3         5\n         3         0\n")
    && same (Texts.report_text without loaded (padded (1 ∷ []))) (bytes "         1         1         3         3         6\n         3         0\n")

pub before_waits : T (verdicts && checks && runs && sheets && texts)
unfolding padded sequence word table_of work_slots brought refusal_number check_number planned_number rows_left searched_number searched_speed verdict_number verdict_row is_arrangement fresh is_pending is_waiting is_ready row_ok promise_ok tail_sound digit_at digit_of written value_of is_field is_line number_at figure_at figure ones ones_in Records.row_sound Records.is_sound Records.next_run Sheets.line_size Sheets.column_of Sheets.table_in Sheets.check_lines Sheets.read_lines Sheets.row_line Sheets.sheet_of Sheets.wide_row Sheets.widen_rows Texts.job_line Texts.last_line Texts.report_text Texts.place_line Texts.program_text Then.chosen Then.is_over Then.serve Then.slot Then.horizon Then.worst_finish Then.promised_moment Then.slack Then.meets Then.tail_ok Then.promises_ok Then.check_table Then.check_order Then.check_both Then.passes Then.taker Then.fill Then.choice Then.plan_of Then.tightest Then.judge_of Then.makes_order Then.least_speed Then.search_of Then.run_slot Then.tell_one Then.tell_forward Then.tell_all close_late
before_waits = tt
