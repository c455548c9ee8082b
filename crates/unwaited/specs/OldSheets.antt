-- What the rules said of sheets before w: a line of 41 bytes for each row, with five figures; before r it was one of 33 bytes, with four. The table
-- read has zeros for the figures that a line has not. How many figures a line has, f, is a parameter here, so that today's lines, with six, are among
-- them, and what one field more at each row makes of a sheet is said once.
use Rattle.std.specs.Prelude.{ℕ, ◌+◌, ◌-◌, ◌*◌, ◌/◌, cond, List, [], ◌∷◌, ◌++◌, map, eqb, ltb, leb, length, take, drop, replicate, Ok, Err}
use Rattle.rules.specs.declared.Table.{Table}
use Rattle.rules.specs.declared.Refusal.TheVariants.{Length, Malformed, RowCount}
use Rattle.rules.specs.declared.Reading.{Reading}
use Rattle.rules.specs.declared.Sought.{Sought}
use Rattle.rules.specs.declared.Searching.{Searching}
use Rattle.rules.specs.Checks.{Check, Refused}
use Rattle.rules.specs.Lists.{all, rows_to, joined}
use Rattle.rules.specs.Rows.{at, rows_of, release_of, work_of, deadline_of, promised_of, follows_of}
use Rattle.rules.specs.Tables.{count_ok}
use Rattle.texts.specs.Fields.{written, line}
use Rattle.texts.specs.Sheets.{is_line, number_at, read_checked}
use Rattle.searches.specs.Speeds.{search_refused}
use Rattle.unwaited.specs.Unwaited.{Past, check_table, search_of}

-- the bytes of a row's line, f fields and its end, and the byte at which row i's line starts
unfoldable pub line_size : ℕ → ℕ
line_size f = 8 * f + 1

abbrev pub line_of : ℕ → ℕ → ℕ
line_of f i = 33 + line_size f * (i - 1)

-- the j-th figures of the first n rows, zeros after; zeros alone where a line has no j-th figure
unfoldable pub column_of : ℕ → List ℕ → ℕ → ℕ → List ℕ
column_of f bytes n j = cond (leb j f) (take 64 (map (λ i. number_at bytes (line_of f i) j) (rows_to n) ++ replicate 64 0)) (replicate 64 0)

unfoldable pub table_in : ℕ → List ℕ → Table
table_in f bytes =
    let n = number_at bytes 0 1 in
    record {
      n = n;
      normal = number_at bytes 0 2;
      degraded = number_at bytes 0 3;
      loading = number_at bytes 0 4;
      release = column_of f bytes n 1;
      work = column_of f bytes n 2;
      deadline = column_of f bytes n 3;
      level = column_of f bytes n 4;
      promised = column_of f bytes n 5;
      follows = column_of f bytes n 6;
    }

-- the reader, with the checks of a table as they are given to it
unfoldable pub check_lines : ℕ → (Table → Check) → List ℕ → Check
check_lines f check bytes =
    cond (ltb (length bytes) 33)
    (Refused Length)
    (cond (is_line bytes 0 4)
    (cond (count_ok (number_at bytes 0 1))
    (cond (eqb (length bytes) (33 + line_size f * number_at bytes 0 1))
    (cond (all (λ i. is_line bytes (line_of f i) f) (rows_to (number_at bytes 0 1))) (check (table_in f bytes)) (Refused Malformed))
    (Refused Length))
    (Refused RowCount))
    (Refused Malformed))

unfoldable pub read_lines : ℕ → (Table → Check) → List ℕ → Reading
read_lines f check bytes = read_checked (check_lines f check bytes) (table_in f bytes)

-- the figures of a row's line at a time, and the reader of that time
abbrev pub fields_of : Past → ℕ
fields_of p = cond p.promises 5 4

abbrev pub check_sheet : Past → List ℕ → Check
check_sheet p = check_lines (fields_of p) (check_table p)

abbrev pub read_of : Past → List ℕ → Reading
read_of p = read_lines (fields_of p) (check_table p)

-- the bytes that the program kept of its input: one more than the longest sheet has
abbrev pub kept_of : ℕ → ℕ
kept_of f = 33 + line_size f * 64 + 1

-- the sheet of a table, with the first f figures of each row
abbrev pub figures_of : Table → ℕ → List ℕ
figures_of t i = release_of t i ∷ work_of t i ∷ deadline_of t i ∷ at t.level i ∷ promised_of t i ∷ follows_of t i ∷ []

unfoldable pub row_line : ℕ → Table → ℕ → List ℕ
row_line f t i = line (take f (figures_of t i))

unfoldable pub sheet_of : ℕ → Table → List ℕ
sheet_of f t = line (t.n ∷ t.normal ∷ t.degraded ∷ t.loading ∷ []) ++ joined (row_line f t) (rows_of t)

-- the searches of a sheet
abbrev pub search_read : Past → Check → Sought → Table → Searching
search_read p (Ok tt) f t = search_of p f t
search_read p (Err r) f t = search_refused r

unfoldable pub search_sheet : Past → Sought → List ℕ → Searching
search_sheet p f bytes = search_read p (read_of p bytes).check f (read_of p bytes).table

-- as many bytes as row i's line has, from its first on, with the field of 0 put in before the last of them, after f fields
unfoldable pub wide_row : ℕ → List ℕ → ℕ → List ℕ
wide_row f bytes i = let row = drop (line_of f i) bytes in take (8 * f) row ++ (written 0 ++ take 1 (drop (8 * f) row))

-- bytes with that field put in at each of their first k rows
unfoldable pub widen_rows : ℕ → ℕ → List ℕ → List ℕ
widen_rows f k bytes = take 33 bytes ++ (joined (wide_row f bytes) (rows_to k) ++ drop (33 + line_size f * k) bytes)

-- and at each row that they have, whatever these bytes are: their first line is 33 bytes
abbrev pub rows_in : ℕ → List ℕ → ℕ
rows_in f bytes = (length bytes - 33) / line_size f

abbrev pub widen : ℕ → List ℕ → List ℕ
widen f bytes = widen_rows f (rows_in f bytes) bytes
