-- That the rules from before loading are those without it: P1 and P3 with a K, an r and a w beyond every limit, which they do not look at, and sheets of
-- before. One table of cases, computed and checked by one theorem.
use Rattle.std.specs.Prelude.{ℕ, Bool, not, ◌&&◌, List, [], ◌∷◌, map, T, eqb, replicate}
use Rattle.rules.specs.declared.Table.{Table}
use Rattle.rules.specs.Calls.{one, forward}
use Rattle.rules.specs.Cases.{six_figures}
use Rattle.rules.specs.Choice.{padded, sequence, word}
use Rattle.rules.specs.Judge.{table_of}
use Rattle.rules.specs.Lists.{same}
use Rattle.rules.specs.Numbers.{refusal_number, check_number, planned_number, rows_left, verdict_number, verdict_yes, verdict_row}
use Rattle.rules.specs.Orders.{is_arrangement}
use Rattle.rules.specs.Rows.{at, rows_of}
use Rattle.rules.specs.Running.{close_late}
use Rattle.rules.specs.Slots.{State, fresh, is_pending}
use Rattle.rules.specs.Tables.{row_ok}
use Rattle.texts.specs.Fields.{digit_at, digit_of, written, value_of, is_field}
use Rattle.texts.specs.Sheets.{is_line, number_at}
use Rattle.texts.specs.Quoted.{bytes}
use Rattle.record.specs.Records.{record_of, tail_sound}
use Rattle.unwaited.specs.OldRecords as Records
use Rattle.unwaited.specs.Unwaited as Then
use Rattle.unloaded.specs.OldSheets as Sheets
use Rattle.unloaded.specs.Unloaded.{need, without}

-- P1 and P3 with K = 99 slots; every row is promised 99 work units and follows row 99
abbrev p1 : Table
p1 = table_of (six_figures 0 20 10 1 99 99 ∷ six_figures 5 15 10 0 99 99 ∷ six_figures 5 11 19 1 99 99 ∷ six_figures 0 5 5 0 99 99 ∷ []) 5 2 99

abbrev p3 : Table
p3 = table_of (six_figures 0 2 2 0 99 99 ∷ six_figures 0 4 4 1 99 99 ∷ []) 2 1 99

abbrev order : List ℕ
order = padded (1 ∷ 2 ∷ [])

-- the clock, and of both rows the work got, the slots used and the closing slot
abbrev shows : State → List ℕ → Bool
shows s xs = same (s.clock ∷ at s.got 1 ∷ at s.used 1 ∷ at s.closing 1 ∷ at s.got 2 ∷ at s.used 2 ∷ at s.closing 2 ∷ []) xs

-- the planner, worst finishes, the judge and the checks
abbrev verdicts : Bool
verdicts =
    eqb (planned_number (Then.plan_of without p1).answer) 0
    && same (Then.plan_of without p1).order (padded (1 ∷ 2 ∷ 3 ∷ 4 ∷ []))
    && same (map (Then.worst_finish without p1 (padded (1 ∷ 2 ∷ 3 ∷ 4 ∷ []))) (rows_of p1)) (10 ∷ 8 ∷ 19 ∷ 5 ∷ [])
    && eqb (rows_left (Then.plan_of without p3).answer) 3
    && eqb (verdict_number (Then.judge_of without p3 order)) 0
    && not (verdict_yes (Then.judge_of without p3 order))
    && eqb (verdict_row (Then.judge_of without p3 order)) 2
    && eqb (check_number (Then.check_table without p3)) 0

-- the runs of P7 and P8, and a record
abbrev runs : Bool
runs =
    shows (Then.tell_all without p3 order (forward (replicate 5 1) ∷ []) fresh).state (5 ∷ 1 ∷ 1 ∷ 1 ∷ 4 ∷ 4 ∷ 5 ∷ [])
    && shows (Then.tell_all without p3 order (map one (replicate 5 2)) fresh).state (5 ∷ 2 ∷ 1 ∷ 1 ∷ 4 ∷ 2 ∷ 3 ∷ [])
    && Records.is_sound without (record_of p3 order fresh)
    && eqb (at (Records.next_run without (record_of p3 order fresh) 1).closing 1) 1

-- a sheet of before, with its line ended after G, is taken, and one of today is not; the field of K = 0 makes the one of the other
abbrev sheets : Bool
sheets =
    eqb (check_number (Sheets.check_sheet (bytes "       1       3       2\n       4      56     789       1\n"))) 0
    && eqb (check_number (Sheets.check_sheet (bytes "       1       3       2       0\n       4      56     789       1\n"))) 2
    && eqb (Sheets.table_in (bytes "       1       3       2\n       4      56     789       1\n")).degraded 2
    && eqb (at (Sheets.table_in (bytes "       1       3       2\n       4      56     789       1\n")).work 1) 56
    && same (Sheets.with_field (bytes "       1       3       2\n       4      56     789       1\n"))
    (bytes "       1       3       2       0\n       4      56     789       1\n")

pub before_loading : T (verdicts && runs && sheets)
unfolding padded sequence word table_of refusal_number check_number planned_number rows_left verdict_number verdict_yes verdict_row is_arrangement fresh is_pending row_ok tail_sound digit_at digit_of written value_of is_field is_line number_at Records.row_sound Records.is_sound Records.next_run Sheets.column_of Sheets.table_in Sheets.check_sheet Sheets.with_field need Then.chosen Then.is_over Then.serve Then.slot Then.horizon Then.worst_finish Then.slack Then.meets Then.tail_ok Then.promises_ok Then.check_table Then.check_order Then.check_both Then.passes Then.taker Then.fill Then.choice Then.plan_of Then.tightest Then.judge_of Then.run_slot Then.tell_one Then.tell_forward Then.tell_all close_late
before_loading = tt
