-- How long the sheet of a table is, what the writer's checks say of table and room, and what stands in the lent bytes once it is written.
use Rattle.std.specs.Prelude.{ℕ, ◌+◌, ◌*◌, ◌≤◌, ◌<◌, List, [], ◌∷◌, ◌++◌, ◌≡◌, length, get_or}
use Rattle.std.proofs.Math.Path.{ap}
use Rattle.std.proofs.Common.{arith, length-append}
use Rattle.rules.specs.declared.Table.{Table}
use Rattle.rules.specs.declared.Refusal.{Refusal}
use Rattle.rules.specs.declared.Refusal.TheVariants.{NoRoom}
use Rattle.rules.specs.Checks.{Check, Passed, Refused}
use Rattle.rules.specs.Lists.{rows_to, joined}
use Rattle.rules.specs.Rows.{at, release_of, work_of, deadline_of, promised_of, follows_of}
use Rattle.rules.specs.Tables.{check_table, Accepted}
use Rattle.texts.specs.Fields.{written, line}
use Rattle.texts.specs.Lent.{check_room, write_checked}
use Rattle.texts.specs.Sheets.{row_line, sheet_of, check_write, write_of}
use Rattle.theory.specs.Room as Room
use Rattle.theory.specs.Room.{both_passed, room_passed}
use Rattle.fields.specs.Lengths.{line_long, joined_long}
use Rattle.sheet.specs.Lines.{up_down}

-- the line of the row at index k: its release, its work, then a line of its four other figures
pub row_line_lem : (t : Table) (k : ℕ)
    → written (get_or t.release k 0)
    ++ (written (get_or t.work k 0) ++ line (get_or t.deadline k 0 ∷ get_or t.level k 0 ∷ get_or t.promised k 0 ∷ get_or t.follows k 0 ∷ []))
    ≡ row_line t (k + 1)
unfolding row_line
row_line_lem t k = rw (up_down k)

-- ---- lengths, in bytes
row_long : (t : Table) (i : ℕ) → length (row_line t i) ≡ 49
unfolding row_line
row_long t i = line_long (release_of t i ∷ work_of t i ∷ deadline_of t i ∷ at t.level i ∷ promised_of t i ∷ follows_of t i ∷ [])

pub rows_long : (t : Table) (n : ℕ) → length (joined (row_line t) (rows_to n)) ≡ 49 * n
rows_long t n = joined_long (row_line t) 49 (row_long t) n

pub head_long : (t : Table) → length (line (t.n ∷ t.normal ∷ t.degraded ∷ t.loading ∷ [])) ≡ 33
head_long t = line_long (t.n ∷ t.normal ∷ t.degraded ∷ t.loading ∷ [])

-- 33 for the first line and 49 for each row: 3,169 with 64 rows (rules 6.5 to 6.7)
pub sheet_long : (t : Table) → length (sheet_of t) ≡ 33 + 49 * t.n
unfolding sheet_of
sheet_long t =
    omega (arith, length-append (line (t.n ∷ t.normal ∷ t.degraded ∷ t.loading ∷ [])) (joined (row_line t) (rows_to t.n)), head_long t, rows_long t t.n)

-- ---- the checks
module _ (t : Table) (room : ℕ) where
  abbrev room_for : Check
  room_for = check_room (length (sheet_of t)) room

  pub too_short : room < 33 + 49 * t.n → room_for ≡ Refused NoRoom
  too_short h = Room.too_short (length (sheet_of t)) room (omega (arith, sheet_long t))

  pub long_enough : 33 + 49 * t.n ≤ room → room_for ≡ Passed
  long_enough h = Room.long_enough (length (sheet_of t)) room (omega (arith, sheet_long t))

  -- an accepted table whose sheet fits is not refused
  pub passes : Accepted t → 33 + 49 * t.n ≤ room → check_write t room ≡ Passed
  unfolding check_write
  passes a h = rw (a, long_enough h)

  -- where nothing is refused the table is accepted and its sheet fits
  pub fits : check_write t room ≡ Passed → Accepted t × (33 + 49 * t.n ≤ room)
  unfolding check_write
  fits e = let p = both_passed (check_table t) room_for e in (p.0, omega (arith, room_passed (length (sheet_of t)) room p.1, sheet_long t))

-- ---- what is said and what stands in the lent bytes
module _ (t : Table) (lent : List ℕ) where
  pub back_refused : (r : Refusal) → check_write t (length lent) ≡ Refused r → write_of t lent ≡ write_checked (Refused r) (sheet_of t) lent
  unfolding write_of
  back_refused r e = ap (λ (c : Check). write_checked c (sheet_of t) lent) e

  pub back_passed : check_write t (length lent) ≡ Passed → write_of t lent ≡ write_checked Passed (sheet_of t) lent
  unfolding write_of
  back_passed e = ap (λ (c : Check). write_checked c (sheet_of t) lent) e
