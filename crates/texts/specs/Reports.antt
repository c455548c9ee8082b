-- The report: every job of a table under an order, a line for each place and a last line of totals (section 16 of the rules).
use Rattle.std.specs.Prelude.{ℕ, suc, ◌*◌, cond, ◌&&◌, List, [], ◌∷◌, ◌++◌, map, ltb, leb, ℤ, pos, negsuc, length}
use Rattle.std.specs.Int.Signed.{lt_z}
use Rattle.rules.specs.declared.Table.{Table}
use Rattle.rules.specs.Checks.{Check}
use Rattle.rules.specs.Lists.{rows_to, sum, joined}
use Rattle.rules.specs.Orders.{check_both}
use Rattle.rules.specs.Rows.{at, rows_of, need_of}
use Rattle.rules.specs.Tables.{and_then}
use Rattle.rules.specs.Worst.{worst_finish, slack}
use Rattle.texts.specs.Fields.{weights, digit_at}
use Rattle.texts.specs.Lent.{check_room, WrittenBack, write_checked}

-- what a digit counts for at each of the ten columns of a figure, from the left: two columns, then the eight of a field (rule 16.1)
abbrev pub columns : List ℕ
columns = 1000000000 ∷ 100000000 ∷ weights

-- the byte of a whole number at a column: its digit there, and a space before its first digit; but right before the first digit of a
-- number below 0 a minus, byte 45 (rule 16.1)
unfoldable pub figure_at : ℤ → ℕ → ℕ
figure_at (pos v) w = digit_at v w
figure_at (negsuc m) w = cond (ltb (suc m) w && leb w (10 * suc m)) 45 (digit_at (suc m) w)

-- the ten bytes of a whole number (rule 16.1)
unfoldable pub figure : ℤ → List ℕ
figure z = map (figure_at z) columns

-- whole numbers as figures on a line, which ends with byte 10 (rule 16.4)
abbrev pub figures : List ℤ → List ℕ
figures [] = 10 ∷ []
figures (z ∷ zs) = figure z ++ figures zs

-- 1 for a slack below 0 slots, else 0 (rule 16.3)
abbrev pub is_late : ℤ → ℕ
is_late z = cond (lt_z z (pos 0)) 1 0

-- the line of place k: the place and its row; the row's need at N, worst finish and slack, in slots (rule 16.2)
unfoldable pub job_line : Table → List ℕ → ℕ → List ℕ
job_line t o k = let i = at o k in figures (pos k ∷ pos i ∷ pos (need_of t i) ∷ pos (worst_finish t o i) ∷ slack t o i ∷ [])

-- the needs of all rows at N added up, in slots (rule 16.3)
unfoldable pub needs_of : Table → ℕ
needs_of t = sum (need_of t) (rows_of t)

-- how many rows have a slack below 0 slots (rule 16.3)
unfoldable pub late_rows : Table → List ℕ → ℕ
late_rows t o = sum (λ i. is_late (slack t o i)) (rows_of t)

-- the last line (rule 16.3)
unfoldable pub last_line : Table → List ℕ → List ℕ
last_line t o = figures (pos (needs_of t) ∷ pos (late_rows t o) ∷ [])

-- the text of the report: the places, highest first, and the last line (rules 16.2, 16.3)
unfoldable pub report_text : Table → List ℕ → List ℕ
report_text t o = joined (job_line t o) (rows_to t.n) ++ last_line t o

-- the checks of the report: those of table and order first, 10 last (rules 11.7, 16.7)
unfoldable pub check_report : Table → List ℕ → ℕ → Check
check_report t o room = and_then (check_both t o) (check_room (length (report_text t o)) room)

-- the report's answer for any table, any sixty-four numbers and any lent bytes (rules 16.5 to 16.8)
unfoldable pub report_of : Table → List ℕ → List ℕ → WrittenBack
report_of t o lent = write_checked (check_report t o (length lent)) (report_text t o) lent
