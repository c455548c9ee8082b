-- Sheets and what reader and program make of them, as texts: the program's text for P1 (rule 13.10), sheets for each number from 1 to 5, for
-- 7 and 11 to 15, sheets with two faults that tell which check comes first (rule 11.2), 64 rows with nothing and with one byte after them (rule 6.7),
-- numbers as fields (rules 6.1 to 6.3), tables written back into bytes that are too few, enough, and more (section 15 of the rules), and
-- the reports of P1 and of P3 under two orders each, of ten rows, and of a row with the largest slack there is (section 16).
use Rattle.std.specs.Prelude.{ℕ, zero, suc, Bool, true, not, ◌&&◌, List, [], ◌∷◌, ◌++◌, T, eqb, ℤ, pos, negsuc, get_or, replicate}
use Prim.Native.String.{String}
use Rattle.std.specs.Int.Count.{ones, ones_in}
use Rattle.rules.specs.declared.Table.{Table}
use Rattle.rules.specs.declared.Refusal.TheVariants.{NotAnOrder}
use Rattle.rules.specs.Plans.{Refused}
use Rattle.rules.specs.Choice.{plan_of, padded, unfollowed, passes, sequence, choice, fill, taker, word}
use Rattle.rules.specs.Lists.{same}
use Rattle.rules.specs.Need.{work_slots}
use Rattle.rules.specs.Numbers.{refusal_number, check_number}
use Rattle.rules.specs.Orders.{is_arrangement, is_order, check_order, check_both}
use Rattle.rules.specs.Slots.{fresh, is_pending, is_waiting, is_ready, chosen, is_over, brought, serve, slot, after}
use Rattle.rules.specs.Tables.{row_ok, tail_ok, promise_ok, check_wait, check_table}
use Rattle.rules.specs.Worst.{horizon, worst_finish, promised_moment, slack, meets}
use Rattle.texts.specs.Fields.{digit_at, written, fits_field, digit_of, value_of, is_field}
use Rattle.texts.specs.Quoted.{bytes}
use Rattle.texts.specs.Program.{place_line, plan_text, program_text}
use Rattle.texts.specs.Reports.{figure_at, figure, job_line, needs_of, late_rows, last_line, report_text, check_report, report_of}
use Rattle.texts.specs.Lent.{check_room}
use Rattle.texts.specs.Sheets.{is_line, number_at, column_of, table_in, check_sheet, read_of, row_line, sheet_of, check_write, write_of}

pub data Text : Type 0 where
  -- a sheet and what the program writes for it
  text : String → String → Text
  -- a sheet of 64 such rows with these bytes after it, and what the program writes for it
  rows64 : String → String → List ℕ → String → Text
  -- a sheet that is read: n, N, G and K, and the six columns
  read : String → List ℕ → List ℕ → List ℕ → List ℕ → List ℕ → List ℕ → List ℕ → Text
  -- a sheet that is refused with this number, and the table of zeros
  refused : String → ℕ → Text
  -- a table (n, N, G and K, and the six columns) and lent bytes; the writer's number and length, and all bytes afterwards
  write : List ℕ → List ℕ → List ℕ → List ℕ → List ℕ → List ℕ → List ℕ → List ℕ → ℕ → ℕ → List ℕ → Text
  -- a table (n, N, G and K, and the six columns), an order and lent bytes; the report's number and length, and all bytes afterwards
  report : List ℕ → List ℕ → List ℕ → List ℕ → List ℕ → List ℕ → List ℕ → List ℕ → List ℕ → ℕ → ℕ → List ℕ → Text
  -- a whole number and its ten bytes
  ten_bytes : ℤ → String → Text
  -- a number and its eight bytes
  field : ℕ → String → Text
  -- a number that no field holds, and its last eight digits
  cut : ℕ → String → Text
  -- no field: these bytes, whose value is this
  no_field : String → ℕ → Text

abbrev times : ℕ → List ℕ → List ℕ
times zero xs = []
times (suc k) xs = xs ++ times k xs

abbrev is_table : Table → List ℕ → List ℕ → List ℕ → List ℕ → List ℕ → List ℕ → List ℕ → Bool
is_table t first release work deadline level promised follows =
    same (t.n ∷ t.normal ∷ t.degraded ∷ t.loading ∷ []) first
    && same t.release (padded release)
    && same t.work (padded work)
    && same t.deadline (padded deadline)
    && same t.level (padded level)
    && same t.promised (padded promised)
    && same t.follows (padded follows)

abbrev table_for : List ℕ → List ℕ → List ℕ → List ℕ → List ℕ → List ℕ → List ℕ → Table
table_for first release work deadline level promised follows =
    record {
      n = get_or first 0 0;
      normal = get_or first 1 0;
      degraded = get_or first 2 0;
      loading = get_or first 3 0;
      release = padded release;
      work = padded work;
      deadline = padded deadline;
      level = padded level;
      promised = padded promised;
      follows = padded follows;
    }

abbrev holds : Text → Bool
holds (text sheet output) = same (program_text (bytes sheet)) (bytes output)
holds (rows64 first row rest output) = same (program_text (bytes first ++ times 64 (bytes row) ++ rest)) (bytes output)
holds (read sheet first release work deadline level promised follows) =
    eqb (check_number (read_of (bytes sheet)).check) 0
    && is_table (read_of (bytes sheet)).table first release work deadline level promised follows
holds (refused sheet number) =
    eqb (check_number (read_of (bytes sheet)).check) number
    && is_table (read_of (bytes sheet)).table (0 ∷ 0 ∷ 0 ∷ 0 ∷ []) [] [] [] [] [] []
holds (write first release work deadline level promised follows lent number size after) =
    let b = write_of (table_for first release work deadline level promised follows) lent in
    eqb (check_number b.said.check) number && eqb b.said.size size && same b.bytes after
holds (report first release work deadline level promised follows order lent number size after) =
    let b = report_of (table_for first release work deadline level promised follows) (padded order) lent in
    eqb (check_number b.said.check) number && eqb b.said.size size && same b.bytes after
holds (ten_bytes z digits) = same (figure z) (bytes digits)
holds (field v digits) = same (written v) (bytes digits) && is_field (bytes digits) && eqb (value_of (bytes digits)) v && fits_field v
holds (cut v digits) = same (written v) (bytes digits) && not (fits_field v)
holds (no_field digits v) = not (is_field (bytes digits)) && eqb (value_of (bytes digits)) v

-- sheets and what the program writes (rules 12.3 to 12.5); the first is P1 (rule 13.10), the second P3
abbrev texts : List Text
texts =
    text "       4       5       2       0\n       0      20      10       1       0       0\n       5      15      10       0       0       0\n       5      11      19       1       0       0\n       0       5       5       0       0       0\n" "       0       4\n       1       1       0\n       2       2       2\n       3       3       0\n       4       4       0\n"
    ∷ text "       2       2       1       0\n       0       2       2       0       0       0\n       0       4       4       1       0       0\n" "       7       2\n"
    ∷ text "       3       1       1       0\n       0       2       1       0       0       0\n       0       1       9       0       0       0\n       0       2       1       1       0       0\n" "       7       2\n"
    ∷ text "       1       1       1       0\n       0       1 1000000       1       0       0\n" "       0       1\n       1       1  999999\n"
    ∷ text "       2       1       1       0\n       0       1       2       0       0       0\n       0       1       2       0       0       0\n" "       0       2\n       1       2       1\n       2       1       0\n"
    ∷ text "      10       1       1       0\n       0       1      64       0       0       0\n       0       1      64       0       0       0\n       0       1      64       0       0       0\n       0       1      64       0       0       0\n       0       1      64       0       0       0\n       0       1      64       0       0       0\n       0       1      64       0       0       0\n       0       1      64       0       0       0\n       0       1      64       0       0       0\n       0       1      64       0       0       0\n" "       0      10\n       1      10      63\n       2       9      62\n       3       8      61\n       4       7      60\n       5       6      59\n       6       5      58\n       7       4      57\n       8       3      56\n       9       2      55\n      10       1      54\n"
    ∷ text "" "       1       0\n"
    ∷ text "       1       1       1       0" "       1       0\n"
    ∷ text "       x       1       1       0" "       1       0\n"
    ∷ text "00000004       5       2       0\n" "       2       0\n"
    ∷ text "       1       1       1       0 " "       2       0\n"
    ∷ text "      1        1       1       0\n" "       2       0\n"
    ∷ text "      65       1       x       0\n" "       2       0\n"
    ∷ text "      65       1       1       0\n" "       3       0\n"
    ∷ text "       0       1       1       0\n" "       3       0\n"
    ∷ text "       1       1       1       0\n" "       1       0\n"
    ∷ text "       2       1       1       0\n       0       1       1       x       0       0\n" "       1       0\n"
    ∷ text "       1       2       3       0\n       0       1       1      -0       0       0\n" "       2       0\n"
    ∷ text "       2       2       1       0\n       0       1       1       0       0       0\n       0       1       1               0       0\n" "       2       0\n"
    ∷ text "       1       2       1       0\n       0       1       1       0       0       0 " "       2       0\n"
    ∷ text "       1       2       3       0\n       4       1       4       0       0       0\n" "       4       0\n"
    ∷ text "       1       2       1       0\n       4       1       4       0       0       0\n" "       5       0\n"
    ∷ text "       1       2       1       0\n       0       1       1       2       0       0\n" "       5       0\n"
    ∷ text "       1       2       1       0\n       0       110000001       0       0       0\n" "       5       0\n"
    ∷ text "       1       2       1       0\n       0       1       1       0       0       0\n " "       1       0\n"
    ∷ text "       2       2       1       1\n       0       2       2       0       0       0\n       0       4       9       1       0       0\n" "       0       2\n       1       1       0\n       2       2       2\n"
    ∷ text "       1       2       1      16\n       0       1      17       0       0       0\n" "       0       1\n       1       1       0\n"
    ∷ text "       1       2       1      16\n       0       1      16       0       0       0\n" "       7       1\n"
    ∷ text "       1       2       1      17\n       0       1      18       0       0       0\n" "      11       0\n"
    ∷ text "       1       2       3      17\n       4       1       4       0       0       0\n" "       4       0\n"
    ∷ text "       1       2       199999999\n       4       1       4       0       0       0\n" "      11       0\n"
    ∷ text "       1       2       1      17\n       4       1       4      -0       0       0\n" "       2       0\n"
    ∷ text "      65       1       1      17\n" "       3       0\n"
    ∷ text "       1       x       1      17\n" "       2       0\n"
    ∷ text "       1       2       1      17\n" "       1       0\n"
    ∷ text "       1       1       1\n       0       1 1000000       1       0       0\n" "       2       0\n"
    ∷ text "       1       1       1      00\n       0       1 1000000       1       0       0\n" "       2       0\n"
    ∷ text "       1       1       1        \n       0       1 1000000       1       0       0\n" "       2       0\n"
    ∷ text "       1      10       1       0\n       0      10       6       0       6       0\n" "       0       1\n       1       1       0\n"
    ∷ text "       1      10       1       0\n       0      10       5       0       6       0\n" "       7       1\n"
    ∷ text "       2       2       1       0\n       0       4       2       0       2       0\n       0       4       7       1       0       0\n" "       0       2\n       1       1       0\n       2       2       1\n"
    ∷ text "       1       2       1       0\n       0       1       1       0       2       0\n" "      12       0\n"
    ∷ text "       1       2       1       0\n       0       1       1       1       1       0\n" "      12       0\n"
    ∷ text "       2       2       1       0\n       0       1       1       0       2       0\n       4       1       4       0       0       0\n" "       5       0\n"
    ∷ text "       1       2       1      17\n       0       1       1       0       2       0\n" "      11       0\n"
    ∷ text "       1       2       1       0\n       0       1       1       0      -0       0\n" "       2       0\n"
    ∷ text "       1       2       1       0\n       0       1       1       0\n" "       1       0\n"
    ∷ text "       1       2       1       0\n       0       1       1       0       0\n" "       1       0\n"
    ∷ text "       2       2       1       0\n       0       2       2       0       0       0\n       0       2       9       0       0       1\n" "       0       2\n       1       1       1\n       2       2       7\n"
    ∷ text "       2       2       1       0\n       0       2       9       0       0       0\n       0       2       1       0       0       1\n" "       7       2\n"
    ∷ text "       1       2       1       0\n       0       1       1       0       0       1\n" "      13       0\n"
    ∷ text "       2       2       1       0\n       1       1       2       0       0       0\n       0       1       2       0       0       1\n" "      14       0\n"
    ∷ text "       2       2       1       0\n       0       1       2       0       0       0\n       0       1       2       1       0       1\n" "      15       0\n"
    ∷ text "       1       2       1       0\n       0       1       1       0       2       1\n" "      12       0\n"
    ∷ text "       1       2       1       0\n       0       1       1       0       0      01\n" "       2       0\n"
    ∷ rows64 "      64       2       1       0\n" "       0       1       1       x       0       0\n" [] "       2       0\n"
    ∷ rows64 "      64       2       1       0\n" "       0       1       1       x       0       0\n" (10 ∷ []) "       1       0\n"
    ∷ []

-- sheets and what the reader makes of them (rule 6.8)
abbrev readings : List Text
readings =
    read "       2      12       3       0\n       4      56     789       0       0       0\n  101112  131415  161718       1       0       0\n" (2 ∷ 12 ∷ 3 ∷ 0 ∷ []) (4 ∷ 101112 ∷ []) (56 ∷ 131415 ∷ []) (789 ∷ 161718 ∷ []) (0 ∷ 1 ∷ []) [] []
    ∷ read "       1    1000    1000       0\n  999999 1000000 1000000       1       0       0\n" (1 ∷ 1000 ∷ 1000 ∷ 0 ∷ []) (999999 ∷ []) (1000000 ∷ []) (1000000 ∷ []) (1 ∷ []) [] []
    ∷ read "       1       7       5      16\n       3      21      99       1       0       0\n" (1 ∷ 7 ∷ 5 ∷ 16 ∷ []) (3 ∷ []) (21 ∷ []) (99 ∷ []) (1 ∷ []) [] []
    ∷ read "       2       7       5       0\n       3      21      99       0      20       0\n       4      22      98       0      22       0\n" (2 ∷ 7 ∷ 5 ∷ 0 ∷ []) (3 ∷ 4 ∷ []) (21 ∷ 22 ∷ []) (99 ∷ 98 ∷ []) (0 ∷ 0 ∷ []) (20 ∷ 22 ∷ []) []
    ∷ read "       2       7       5       0\n       3      21      99       0      20       0\n       4      22      98       0       0       1\n" (2 ∷ 7 ∷ 5 ∷ 0 ∷ []) (3 ∷ 4 ∷ []) (21 ∷ 22 ∷ []) (99 ∷ 98 ∷ []) (0 ∷ 0 ∷ []) (20 ∷ 0 ∷ []) (0 ∷ 1 ∷ [])
    ∷ refused "       1       2       1       0\n       0       1       1       0       099999999\n" 13
    ∷ refused "       1       2       1       0\n" 1
    ∷ refused "       1       2       1       0\n       0       1       1       0       2       0\n" 12
    ∷ refused "       1       2       1      17\n       0       1       1       0       0       0\n" 11
    ∷ refused "       1       2       1       0\n       0       1       1      00       0       0\n" 2
    ∷ refused "      65       2       1       0\n" 3
    ∷ refused "       1    1001       1       0\n       0       1       1       0       0       0\n" 4
    ∷ refused "       1       2       1       0\n       4       1       4       0       0       0\n" 5
    ∷ []

-- numbers and their bytes (rules 6.1 to 6.3)
abbrev fields : List Text
fields =
    field 0 "       0"
    ∷ field 9 "       9"
    ∷ field 10 "      10"
    ∷ field 1023 "    1023"
    ∷ field 12345678 "12345678"
    ∷ field 99999999 "99999999"
    ∷ cut 100000000 "00000000"
    ∷ cut 4294967295 "94967295"
    ∷ no_field "        " 0
    ∷ no_field "      00" 0
    ∷ no_field "      1 " 10
    ∷ no_field "    1 23" 1023
    ∷ no_field "       /" 0
    ∷ no_field "       :" 0
    ∷ no_field "      12 " 12
    ∷ no_field "1234567" 12345670
    ∷ []

-- so many bytes 7, which no sheet has
abbrev sevens : ℕ → List ℕ
sevens k = replicate k 7

-- the table of P3 lent so many bytes (33 + 49 x 2 are 131): the writer's number and length, and all bytes afterwards
abbrev write_p3 : List ℕ → ℕ → ℕ → List ℕ → Text
write_p3 lent number size after = write (2 ∷ 2 ∷ 1 ∷ 0 ∷ []) (0 ∷ 0 ∷ []) (2 ∷ 4 ∷ []) (2 ∷ 4 ∷ []) (0 ∷ 1 ∷ []) [] [] lent number size after

abbrev sheet_p3 : List ℕ
sheet_p3 = bytes "       2       2       1       0\n       0       2       2       0       0       0\n       0       4       4       1       0       0\n"

-- tables and what the writer makes of them (section 15 of the rules): room, and then the order of the checks, with too little room and with
-- enough (rule 11.6)
abbrev writings : List Text
writings =
    write_p3 (sevens 131) 0 131 sheet_p3
    ∷ write_p3 (sevens 2800) 0 131 (sheet_p3 ++ sevens 2669)
    ∷ write (3 ∷ 5 ∷ 2 ∷ 16 ∷ []) (1 ∷ 2 ∷ 3 ∷ []) (4 ∷ 5 ∷ 6 ∷ []) (7 ∷ 8 ∷ 9 ∷ []) (0 ∷ 1 ∷ 0 ∷ []) [] [] (sevens 180) 0 180 (bytes "       3       5       2      16\n       1       4       7       0       0       0\n       2       5       8       1       0       0\n       3       6       9       0       0       0\n")
    ∷ write_p3 (sevens 134) 0 131 (sheet_p3 ++ 7 ∷ 7 ∷ 7 ∷ [])
    ∷ write_p3 (sevens 130) 10 0 (sevens 130)
    ∷ write_p3 (sevens 33) 10 0 (sevens 33)
    ∷ write_p3 [] 10 0 []
    ∷ write (2 ∷ 12 ∷ 3 ∷ 0 ∷ []) (4 ∷ 101112 ∷ []) (56 ∷ 131415 ∷ []) (789 ∷ 161718 ∷ []) (0 ∷ 1 ∷ []) [] [] (sevens 132) 0 131 (bytes "       2      12       3       0\n       4      56     789       0       0       0\n  101112  131415  161718       1       0       0\n" ++ 7 ∷ [])
    ∷ write (1 ∷ 1000 ∷ 1000 ∷ 0 ∷ []) (999999 ∷ []) (1000000 ∷ []) (1000000 ∷ []) (1 ∷ []) [] [] (sevens 82) 0 82 (bytes "       1    1000    1000       0\n  999999 1000000 1000000       1       0       0\n")
    ∷ write (1 ∷ 7 ∷ 5 ∷ 0 ∷ []) (3 ∷ []) (21 ∷ []) (99 ∷ []) (0 ∷ []) (20 ∷ []) [] (sevens 82) 0 82 (bytes "       1       7       5       0\n       3      21      99       0      20       0\n")
    ∷ write (2 ∷ 7 ∷ 5 ∷ 0 ∷ []) (3 ∷ 4 ∷ []) (21 ∷ 22 ∷ []) (99 ∷ 98 ∷ []) (0 ∷ 0 ∷ []) (20 ∷ []) (0 ∷ 1 ∷ []) (sevens 131) 0 131 (bytes "       2       7       5       0\n       3      21      99       0      20       0\n       4      22      98       0       0       1\n")
    ∷ write (1 ∷ 7 ∷ 5 ∷ 0 ∷ []) (3 ∷ []) (21 ∷ []) (99 ∷ []) (0 ∷ []) [] (1 ∷ []) (sevens 81) 13 0 (sevens 81)
    ∷ write (1 ∷ 7 ∷ 5 ∷ 0 ∷ []) (3 ∷ []) (21 ∷ []) (99 ∷ []) (0 ∷ []) [] (0 ∷ 1 ∷ []) (sevens 82) 5 0 (sevens 82)
    ∷ write (1 ∷ 7 ∷ 5 ∷ 0 ∷ []) (3 ∷ []) (21 ∷ []) (99 ∷ []) (0 ∷ []) (22 ∷ []) [] (sevens 81) 12 0 (sevens 81)
    ∷ write (1 ∷ 7 ∷ 5 ∷ 0 ∷ []) (3 ∷ []) (21 ∷ []) (99 ∷ []) (1 ∷ []) (1 ∷ []) [] (sevens 82) 12 0 (sevens 82)
    ∷ write (1 ∷ 7 ∷ 5 ∷ 0 ∷ []) (3 ∷ []) (21 ∷ []) (99 ∷ []) (0 ∷ []) (1 ∷ 1 ∷ []) [] (sevens 82) 5 0 (sevens 82)
    ∷ write (0 ∷ 0 ∷ 0 ∷ 0 ∷ []) [] [] [] [] [] [] [] 3 0 []
    ∷ write (65 ∷ 2 ∷ 3 ∷ 17 ∷ []) [] [] [] [] [] [] (sevens 3) 3 0 (sevens 3)
    ∷ write (1 ∷ 2 ∷ 3 ∷ 17 ∷ []) (4 ∷ []) (1 ∷ []) (4 ∷ []) (0 ∷ []) [] [] (sevens 81) 4 0 (sevens 81)
    ∷ write (1 ∷ 2 ∷ 1 ∷ 17 ∷ []) (4 ∷ []) (1 ∷ []) (4 ∷ []) (0 ∷ []) [] [] (sevens 81) 11 0 (sevens 81)
    ∷ write (1 ∷ 2 ∷ 1 ∷ 17 ∷ []) (0 ∷ []) (1 ∷ []) (4 ∷ []) (0 ∷ []) [] [] (sevens 82) 11 0 (sevens 82)
    ∷ write (1 ∷ 2 ∷ 1 ∷ 0 ∷ []) (4 ∷ []) (1 ∷ []) (4 ∷ []) (0 ∷ []) [] [] (sevens 81) 5 0 (sevens 81)
    ∷ write (1 ∷ 2 ∷ 1 ∷ 0 ∷ []) (4 ∷ []) (1 ∷ []) (4 ∷ []) (0 ∷ []) [] [] (sevens 84) 5 0 (sevens 84)
    ∷ write (1 ∷ 2 ∷ 1 ∷ 0 ∷ []) (0 ∷ 1 ∷ []) (1 ∷ []) (1 ∷ []) (0 ∷ []) [] [] (sevens 82) 5 0 (sevens 82)
    ∷ []

-- whole numbers and their figures (rule 16.1)
abbrev tens : List Text
tens =
    ten_bytes (pos 0) "         0"
    ∷ ten_bytes (pos 7) "         7"
    ∷ ten_bytes (negsuc 0) "        -1"
    ∷ ten_bytes (negsuc 8) "        -9"
    ∷ ten_bytes (negsuc 9) "       -10"
    ∷ ten_bytes (pos 1000000) "   1000000"
    ∷ ten_bytes (negsuc 98) "       -99"
    ∷ ten_bytes (negsuc 99) "      -100"
    ∷ ten_bytes (negsuc 998) "      -999"
    ∷ ten_bytes (negsuc 1023) "     -1024"
    ∷ ten_bytes (negsuc 12344) "    -12345"
    ∷ ten_bytes (negsuc 999998) "   -999999"
    ∷ ten_bytes (negsuc 9999998) "  -9999999"
    ∷ ten_bytes (negsuc 63999999) " -64000000"
    ∷ ten_bytes (pos 99999999) "  99999999"
    ∷ ten_bytes (negsuc 99999998) " -99999999"
    ∷ ten_bytes (pos 123456789) " 123456789"
    ∷ ten_bytes (negsuc 123456788) "-123456789"
    ∷ ten_bytes (pos 2147483647) "2147483647"
    ∷ []

-- the tables of P1 and of P3 under an order, lent so many bytes (51 x 4 + 21 are 225, 51 x 2 + 21 are 123)
abbrev report_p1 : List ℕ → List ℕ → ℕ → ℕ → List ℕ → Text
report_p1 = report (4 ∷ 5 ∷ 2 ∷ 0 ∷ []) (0 ∷ 5 ∷ 5 ∷ 0 ∷ []) (20 ∷ 15 ∷ 11 ∷ 5 ∷ []) (10 ∷ 10 ∷ 19 ∷ 5 ∷ []) (1 ∷ 0 ∷ 1 ∷ 0 ∷ []) [] []

abbrev report_p3 : List ℕ → List ℕ → ℕ → ℕ → List ℕ → Text
report_p3 = report (2 ∷ 2 ∷ 1 ∷ 0 ∷ []) (0 ∷ 0 ∷ []) (2 ∷ 4 ∷ []) (2 ∷ 4 ∷ []) (0 ∷ 1 ∷ []) [] []

-- tables, orders and their reports (section 16 of the rules): room, and then the order of the checks, with too little room and with enough
-- (rule 11.7)
abbrev reports : List Text
reports =
    report_p1 (1 ∷ 2 ∷ 3 ∷ 4 ∷ []) (sevens 225) 0 225 (bytes "         1         1         4        10         0\n         2         2         3         8         2\n         3         3         3        19         0\n         4         4         1         5         0\n        11         0\n")
    ∷ report_p3 (1 ∷ 2 ∷ []) (sevens 123) 0 123 (bytes "         1         1         1         1         1\n         2         2         2         5        -1\n         3         1\n")
    ∷ report_p3 (2 ∷ 1 ∷ []) (sevens 126) 0 123 (bytes "         1         2         2         4         0\n         2         1         1         3        -1\n         3         1\n" ++ 7 ∷ 7 ∷ 7 ∷ [])
    ∷ report (1 ∷ 1 ∷ 1 ∷ 0 ∷ []) (0 ∷ []) (1 ∷ []) (1000000 ∷ []) (1 ∷ []) [] [] (1 ∷ []) (sevens 3285) 0 72 (bytes "         1         1         1         1    999999\n         1         0\n" ++ sevens 3213)
    ∷ report_p1 (4 ∷ 3 ∷ 2 ∷ 1 ∷ []) (sevens 225 ++ 1 ∷ 2 ∷ 3 ∷ []) 0 225 (bytes "         1         4         1         1         4\n         2         3         3        11         8\n         3         2         3        11        -1\n         4         1         4        20       -10\n        11         2\n" ++ 1 ∷ 2 ∷ 3 ∷ [])
    ∷ report (2 ∷ 2 ∷ 1 ∷ 0 ∷ []) (0 ∷ 0 ∷ []) (1 ∷ 1 ∷ []) (5 ∷ 5 ∷ []) (0 ∷ 0 ∷ []) [] [] (2 ∷ 1 ∷ []) (sevens 123) 0 123 (bytes "         1         2         1         1         4\n         2         1         1         2         3\n         2         0\n")
    ∷ report (10 ∷ 1 ∷ 1 ∷ 0 ∷ []) (replicate 10 0) (replicate 10 1) (replicate 10 64) (replicate 10 0) [] [] (10 ∷ 9 ∷ 8 ∷ 7 ∷ 6 ∷ 5 ∷ 4 ∷ 3 ∷ 2 ∷ 1 ∷ []) (sevens 531) 0 531 (bytes "         1        10         1         1        63\n         2         9         1         2        62\n         3         8         1         3        61\n         4         7         1         4        60\n         5         6         1         5        59\n         6         5         1         6        58\n         7         4         1         7        57\n         8         3         1         8        56\n         9         2         1         9        55\n        10         1         1        10        54\n        10         0\n")
    ∷ report (2 ∷ 10 ∷ 1 ∷ 0 ∷ []) (0 ∷ 0 ∷ []) (10 ∷ 10 ∷ []) (5 ∷ 9 ∷ []) (0 ∷ 0 ∷ []) (6 ∷ 2 ∷ []) [] (1 ∷ 2 ∷ []) (sevens 123) 0 123 (bytes "         1         1         1         1        -1\n         2         2         1         2         1\n         2         1\n")
    ∷ report (1 ∷ 7 ∷ 5 ∷ 0 ∷ []) (3 ∷ []) (21 ∷ []) (99 ∷ []) (0 ∷ []) (22 ∷ []) [] (2 ∷ []) [] 12 0 []
    ∷ report (2 ∷ 2 ∷ 1 ∷ 0 ∷ []) (0 ∷ 0 ∷ []) (2 ∷ 2 ∷ []) (9 ∷ 9 ∷ []) (0 ∷ 1 ∷ []) [] (0 ∷ 1 ∷ []) (2 ∷ 1 ∷ []) [] 15 0 []
    ∷ report (2 ∷ 2 ∷ 1 ∷ 0 ∷ []) (0 ∷ 0 ∷ []) (2 ∷ 2 ∷ []) (9 ∷ 9 ∷ []) (0 ∷ 0 ∷ []) [] (0 ∷ 1 ∷ []) (2 ∷ 1 ∷ []) [] 6 0 []
    ∷ report_p3 (1 ∷ 2 ∷ []) (sevens 122) 10 0 (sevens 122)
    ∷ report_p3 (2 ∷ 1 ∷ []) [] 10 0 []
    ∷ report_p3 (2 ∷ 2 ∷ []) [] 6 0 []
    ∷ report_p3 (2 ∷ 2 ∷ []) (sevens 130) 6 0 (sevens 130)
    ∷ report_p3 (1 ∷ 2 ∷ 3 ∷ []) (sevens 123) 6 0 (sevens 123)
    ∷ report (65 ∷ 2 ∷ 3 ∷ 17 ∷ []) [] [] [] [] [] [] [] (sevens 3) 3 0 (sevens 3)
    ∷ report (1 ∷ 2 ∷ 3 ∷ 17 ∷ []) (4 ∷ []) (1 ∷ []) (4 ∷ []) (0 ∷ []) [] [] [] (sevens 3) 4 0 (sevens 3)
    ∷ report (1 ∷ 2 ∷ 1 ∷ 17 ∷ []) (4 ∷ []) (1 ∷ []) (4 ∷ []) (0 ∷ []) [] [] [] (sevens 3) 11 0 (sevens 3)
    ∷ report (2 ∷ 2 ∷ 1 ∷ 3 ∷ []) (0 ∷ 0 ∷ []) (2 ∷ 4 ∷ []) (2 ∷ 14 ∷ []) (0 ∷ 1 ∷ []) [] [] (1 ∷ 2 ∷ []) (sevens 123) 0 123 (bytes "         1         1         4         4        -2\n         2         2         5        11         3\n         9         1\n")
    ∷ report (1 ∷ 2 ∷ 1 ∷ 0 ∷ []) (4 ∷ []) (1 ∷ []) (4 ∷ []) (0 ∷ []) [] [] [] (sevens 3) 5 0 (sevens 3)
    ∷ []

-- every text of a list holds
abbrev all_hold : List Text → Bool
all_hold [] = true
all_hold (x ∷ xs) = holds x && all_hold xs

pub texts_hold : T (all_hold (texts ++ readings ++ fields ++ writings ++ tens ++ reports))
unfolding is_arrangement is_order check_order check_both slack figure_at figure job_line needs_of late_rows last_line report_text check_report report_of plan_of padded unfollowed passes sequence choice fill taker word digit_at written digit_of value_of is_field work_slots refusal_number check_number place_line program_text is_line number_at column_of table_in check_sheet read_of row_line sheet_of check_room check_write write_of fresh is_pending is_waiting is_ready chosen is_over brought serve slot row_ok tail_ok promise_ok check_wait check_table horizon worst_finish promised_moment meets ones ones_in
texts_hold = tt

-- a planner's refusal (rule 12.4), which the checks of a sheet that is read leave no table for
pub refusal_text : (t : Table) (o : List ℕ) → T (same (plan_text t o (Refused NotAnOrder)) (bytes "       6       0\n"))
unfolding refusal_number written digit_at
refusal_text t o = tt
