-- The sheet: a first line of 33 bytes with n, N, G and K, a line of 49 bytes for each row, and no byte more (rules 6.4 to 6.7); what the reader
-- makes of any bytes (rule 6.8), and what the writer makes of any table and any bytes that it is lent (section 15 of the rules).
use Rattle.std.specs.Prelude.{ℕ, ◌+◌, ◌-◌, ◌*◌, Bool, cond, ◌&&◌, List, [], ◌∷◌, ◌++◌, map, eqb, ltb, length, get_or, take, replicate, Ok, Err}
use Rattle.rules.specs.declared.Table.{Table}
use Rattle.rules.specs.declared.Refusal.TheVariants.{Length, Malformed, RowCount}
use Rattle.rules.specs.declared.Reading.{Reading}
use Rattle.rules.specs.Checks.{Check, Passed, Refused}
use Rattle.rules.specs.Lists.{all, rows_to, joined}
use Rattle.rules.specs.Rows.{at, rows_of, release_of, work_of, deadline_of, promised_of, follows_of}
use Rattle.rules.specs.Tables.{count_ok, and_then, check_table, zero_table}
use Rattle.texts.specs.Fields.{value_of, is_field, field_at, line}
use Rattle.texts.specs.Lent.{check_room, WrittenBack, write_checked}

-- k fields and a line end are well formed from byte start on (rules 6.1, 6.4)
unfoldable pub is_line : List ℕ → ℕ → ℕ → Bool
is_line bytes start k = all (λ j. is_field (field_at bytes (start + 8 * (j - 1)))) (rows_to k) && eqb (get_or bytes (start + 8 * k) 0) 10

-- the number in the j-th field (from 1) of the line that starts at a byte (rule 6.3)
unfoldable pub number_at : List ℕ → ℕ → ℕ → ℕ
number_at bytes start j = value_of (field_at bytes (start + 8 * (j - 1)))

-- the byte at which row i's line starts (rules 6.5, 6.6)
abbrev pub line_of : ℕ → ℕ
line_of i = 33 + 49 * (i - 1)

-- the j-th figures of the first n rows, zeros after (rules 6.6, 6.8)
unfoldable pub column_of : List ℕ → ℕ → ℕ → List ℕ
column_of bytes n j = take 64 (map (λ i. number_at bytes (line_of i) j) (rows_to n) ++ replicate 64 0)

-- the table that the bytes state (rules 6.5, 6.6)
unfoldable pub table_in : List ℕ → Table
table_in bytes =
    let n = number_at bytes 0 1 in
    record {
      n = n;
      normal = number_at bytes 0 2;
      degraded = number_at bytes 0 3;
      loading = number_at bytes 0 4;
      release = column_of bytes n 1;
      work = column_of bytes n 2;
      deadline = column_of bytes n 3;
      level = column_of bytes n 4;
      promised = column_of bytes n 5;
      follows = column_of bytes n 6;
    }

-- the reader's checks: too short (1), first line (2), row count (3), length (1), row lines (2), then those of the table, of which
-- 4, 11, 5, 12 and 13 to 15 are left (rules 6.7, 11.2)
unfoldable pub check_sheet : List ℕ → Check
check_sheet bytes =
    cond (ltb (length bytes) 33)
    (Refused Length)
    (cond (is_line bytes 0 4)
    (cond (count_ok (number_at bytes 0 1))
    (cond (eqb (length bytes) (33 + 49 * number_at bytes 0 1))
    (cond (all (λ i. is_line bytes (line_of i) 6) (rows_to (number_at bytes 0 1))) (check_table (table_in bytes)) (Refused Malformed))
    (Refused Length))
    (Refused RowCount))
    (Refused Malformed))

-- a refusal comes with the table of zeros (rule 6.8)
abbrev pub read_checked : Check → Table → Reading
read_checked (Ok tt) t = record { check = Passed; table = t }
read_checked (Err r) t = record { check = Refused r; table = zero_table }

-- the reader's answer for any bytes: the number and the whole table, all zero on a refusal (rule 6.8)
unfoldable pub read_of : List ℕ → Reading
read_of bytes = read_checked (check_sheet bytes) (table_in bytes)

-- row i's line: its release and its work, its deadline, its level, its promised part and the row that it follows (rules 6.6, 15.1)
unfoldable pub row_line : Table → ℕ → List ℕ
row_line t i = line (release_of t i ∷ work_of t i ∷ deadline_of t i ∷ at t.level i ∷ promised_of t i ∷ follows_of t i ∷ [])

-- the sheet of a table: the line of n, N, G and K, then the lines of its rows (rules 6.5, 6.6, 15.1)
unfoldable pub sheet_of : Table → List ℕ
sheet_of t = line (t.n ∷ t.normal ∷ t.degraded ∷ t.loading ∷ []) ++ joined (row_line t) (rows_of t)

-- the writer's checks: those of the table first, 10 last (rules 11.6, 15.4)
unfoldable pub check_write : Table → ℕ → Check
check_write t room = and_then (check_table t) (check_room (length (sheet_of t)) room)

-- the writer's answer for any table and any lent bytes (rules 15.2 to 15.5)
unfoldable pub write_of : Table → List ℕ → WrittenBack
write_of t lent = write_checked (check_write t (length lent)) (sheet_of t) lent
