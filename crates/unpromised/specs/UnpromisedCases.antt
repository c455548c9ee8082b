-- That the rules kept for the time before r are those: P1 and P3 with an r and a w beyond every limit, which they do not look at, and sheets of before.
-- One table of cases, computed and checked by one theorem.
use Rattle.std.specs.Prelude.{ℕ, Bool, not, ◌&&◌, List, [], ◌∷◌, map, T, eqb, replicate}
use Rattle.std.specs.Int.Count.{ones, ones_in}
use Rattle.rules.specs.declared.Table.{Table}
use Rattle.rules.specs.declared.Sought.TheVariants.{Degraded}
use Rattle.rules.specs.Calls.{one, forward}
use Rattle.rules.specs.Cases.{six_figures}
use Rattle.rules.specs.Choice.{padded, sequence, word}
use Rattle.rules.specs.Judge.{table_of}
use Rattle.rules.specs.Lists.{same}
use Rattle.rules.specs.Need.{work_slots}
use Rattle.rules.specs.Numbers.{refusal_number, check_number, planned_number, rows_left, searched_number, searched_speed, verdict_number, verdict_yes, verdict_row}
use Rattle.rules.specs.Orders.{is_arrangement}
use Rattle.rules.specs.Rows.{at, rows_of}
use Rattle.rules.specs.Running.{close_late}
use Rattle.rules.specs.Slots.{State, fresh, is_pending, brought}
use Rattle.rules.specs.Tables.{row_ok}
use Rattle.texts.specs.Fields.{digit_at, digit_of, written, value_of, is_field}
use Rattle.texts.specs.Reports.{figure_at, figure}
use Rattle.texts.specs.Sheets.{is_line, number_at}
use Rattle.texts.specs.Quoted.{bytes}
use Rattle.record.specs.Records.{record_of, tail_sound}
use Rattle.unwaited.specs.OldRecords as Records
use Rattle.unwaited.specs.OldSheets as Sheets
use Rattle.unwaited.specs.OldTexts as Texts
use Rattle.unwaited.specs.Unwaited as Then
use Rattle.unpromised.specs.Unpromised.{with_loading}

-- P1 and P3, and two rows that load for 3 slots; every row, LO or HI, is promised 99 work units and follows row 99
abbrev p1 : Table
p1 = table_of (six_figures 0 20 10 1 99 99 ∷ six_figures 5 15 10 0 99 99 ∷ six_figures 5 11 19 1 99 99 ∷ six_figures 0 5 5 0 99 99 ∷ []) 5 2 0

abbrev p3 : Table
p3 = table_of (six_figures 0 2 2 0 99 99 ∷ six_figures 0 4 4 1 99 99 ∷ []) 2 1 0

abbrev loaded : Table
loaded = table_of (six_figures 0 2 2 0 99 99 ∷ six_figures 0 4 14 1 99 99 ∷ []) 2 1 3

-- one row, with an r of 7 work units and a w of 7 in every entry of their columns, after the last row too
abbrev followed : Table
followed =
    record {
      n = 1;
      normal = 2;
      degraded = 1;
      loading = 0;
      release = replicate 64 0;
      work = 1 ∷ replicate 63 0;
      deadline = 1 ∷ replicate 63 0;
      level = replicate 64 0;
      promised = replicate 64 7;
      follows = replicate 64 7;
    }

abbrev order : List ℕ
order = padded (1 ∷ 2 ∷ [])

-- the clock, and of both rows the work got, the slots used and the closing slot
abbrev shows : State → List ℕ → Bool
shows s xs = same (s.clock ∷ at s.got 1 ∷ at s.used 1 ∷ at s.closing 1 ∷ at s.got 2 ∷ at s.used 2 ∷ at s.closing 2 ∷ []) xs

-- the planner, worst finishes, the judge, the checks and a search
abbrev verdicts : Bool
verdicts =
    eqb (planned_number (Then.plan_of with_loading p1).answer) 0
    && same (Then.plan_of with_loading p1).order (padded (1 ∷ 2 ∷ 3 ∷ 4 ∷ []))
    && same (map (Then.worst_finish with_loading p1 (padded (1 ∷ 2 ∷ 3 ∷ 4 ∷ []))) (rows_of p1)) (10 ∷ 8 ∷ 19 ∷ 5 ∷ [])
    && same (map (Then.worst_finish with_loading loaded order) (rows_of loaded)) (4 ∷ 11 ∷ [])
    && eqb (rows_left (Then.plan_of with_loading p3).answer) 3
    && eqb (verdict_number (Then.judge_of with_loading p3 order)) 0
    && not (verdict_yes (Then.judge_of with_loading p3 order))
    && eqb (verdict_row (Then.judge_of with_loading p3 order)) 2
    && eqb (check_number (Then.check_table with_loading p3)) 0
    && eqb (check_number (Then.check_table with_loading followed)) 0
    && eqb (searched_speed (Then.search_of with_loading Degraded p3).answer) 2
    && eqb (searched_number (Then.search_of with_loading Degraded loaded).answer) 7

-- the runs of P7 and P8, and a record
abbrev runs : Bool
runs =
    shows (Then.tell_all with_loading p3 order (forward (replicate 5 1) ∷ []) fresh).state (5 ∷ 1 ∷ 1 ∷ 1 ∷ 4 ∷ 4 ∷ 5 ∷ [])
    && shows (Then.tell_all with_loading p3 order (map one (replicate 5 2)) fresh).state (5 ∷ 2 ∷ 1 ∷ 1 ∷ 4 ∷ 2 ∷ 3 ∷ [])
    && Records.is_sound with_loading (record_of p3 order fresh)
    && eqb (at (Records.next_run with_loading (record_of p3 order fresh) 1).closing 1) 1

-- a sheet of before is taken, and one of today is not; the fields of r = 0 and w = 0 at each row make the one of the other
abbrev before : List ℕ
before = bytes "       2       3       2       0\n       4      56     789       1\n       0       7      99       0\n"

abbrev today : List ℕ
today = bytes "       2       3       2       0\n       4      56     789       1       0       0\n       0       7      99       0       0       0\n"

abbrev sheets : Bool
sheets =
    eqb (check_number (Sheets.check_sheet with_loading before)) 0
    && eqb (check_number (Sheets.check_sheet with_loading today)) 1
    && eqb (at (Sheets.table_in 4 before).work 2) 7
    && same (Sheets.sheet_of 4 (Sheets.table_in 4 before)) before
    && same (Sheets.widen 5 (Sheets.widen 4 before)) today

-- the program's text and the report's
abbrev texts : Bool
texts =
    same (Texts.program_text with_loading before) (bytes "       0       2\n       1       1     757\n       2       2      96\n")
    && same (Texts.report_text with_loading loaded order)
    (bytes "         1         1         4         4        -2\n         2         2         5        11         3\n         9         1\n")

pub before_promises : T (verdicts && runs && sheets && texts)
unfolding padded sequence word table_of work_slots brought refusal_number check_number planned_number rows_left searched_number searched_speed verdict_number verdict_yes verdict_row is_arrangement fresh is_pending row_ok tail_sound digit_at digit_of written value_of is_field is_line number_at figure_at figure ones ones_in Records.row_sound Records.is_sound Records.next_run Sheets.line_size Sheets.column_of Sheets.table_in Sheets.check_lines Sheets.read_lines Sheets.row_line Sheets.sheet_of Sheets.wide_row Sheets.widen_rows Texts.job_line Texts.last_line Texts.report_text Texts.place_line Texts.program_text Then.chosen Then.is_over Then.serve Then.slot Then.horizon Then.worst_finish Then.slack Then.meets Then.tail_ok Then.promises_ok Then.check_table Then.check_order Then.check_both Then.passes Then.taker Then.fill Then.choice Then.plan_of Then.tightest Then.judge_of Then.makes_order Then.least_speed Then.search_of Then.run_slot Then.tell_one Then.tell_forward Then.tell_all close_late
before_promises = tt
