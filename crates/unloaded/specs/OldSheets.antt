-- What the rules said of sheets before jobs could load: a first line of 25 bytes with n, N and G, and lines of 33 bytes for the rows. The table read
-- has K = 0, and r = 0 and w = 0 in every row. The program took such sheets.
use Rattle.std.specs.Prelude.{ℕ, ◌+◌, ◌-◌, ◌*◌, cond, List, [], ◌∷◌, ◌++◌, map, eqb, ltb, length, take, drop, replicate}
use Rattle.rules.specs.declared.Table.{Table}
use Rattle.rules.specs.declared.Refusal.TheVariants.{Length, Malformed, RowCount}
use Rattle.rules.specs.declared.Reading.{Reading}
use Rattle.rules.specs.Checks.{Check, Refused}
use Rattle.rules.specs.Lists.{all, rows_to, joined}
use Rattle.rules.specs.Rows.{rows_of}
use Rattle.rules.specs.Tables.{count_ok}
use Rattle.texts.specs.Fields.{written, line}
use Rattle.texts.specs.Sheets.{is_line, number_at, read_checked}
use Rattle.unwaited.specs.OldSheets.{row_line}
use Rattle.unwaited.specs.OldTexts.{read_text}
use Rattle.unwaited.specs.Unwaited.{check_table}
use Rattle.unloaded.specs.Unloaded.{without}

-- the byte at which row i's line starts
abbrev pub line_of : ℕ → ℕ
line_of i = 25 + 33 * (i - 1)

unfoldable pub column_of : List ℕ → ℕ → ℕ → List ℕ
column_of bytes n j = take 64 (map (λ i. number_at bytes (line_of i) j) (rows_to n) ++ replicate 64 0)

unfoldable pub table_in : List ℕ → Table
table_in bytes =
    let n = number_at bytes 0 1 in
    record {
      n = n;
      normal = number_at bytes 0 2;
      degraded = number_at bytes 0 3;
      loading = 0;
      release = column_of bytes n 1;
      work = column_of bytes n 2;
      deadline = column_of bytes n 3;
      level = column_of bytes n 4;
      promised = replicate 64 0;
      follows = replicate 64 0;
    }

-- the reader
unfoldable pub check_sheet : List ℕ → Check
check_sheet bytes =
    cond (ltb (length bytes) 25)
    (Refused Length)
    (cond (is_line bytes 0 3)
    (cond (count_ok (number_at bytes 0 1))
    (cond (eqb (length bytes) (25 + 33 * number_at bytes 0 1))
    (cond (all (λ i. is_line bytes (line_of i) 4) (rows_to (number_at bytes 0 1))) (check_table without (table_in bytes)) (Refused Malformed))
    (Refused Length))
    (Refused RowCount))
    (Refused Malformed))

unfoldable pub read_of : List ℕ → Reading
read_of bytes = read_checked (check_sheet bytes) (table_in bytes)

-- the sheet of a table
unfoldable pub sheet_of : Table → List ℕ
sheet_of t = line (t.n ∷ t.normal ∷ t.degraded ∷ []) ++ joined (row_line 4 t) (rows_of t)

-- the program from input to output; of its input it looked at 2,138 bytes
unfoldable pub program_text : List ℕ → List ℕ
program_text input = let r = read_of (take 2138 input) in read_text without r.check r.table

-- bytes with the field of K = 0 put in before the end of the first line, as a fourth field
unfoldable pub with_field : List ℕ → List ℕ
with_field bytes = take 24 bytes ++ (written 0 ++ drop 24 bytes)
