-- Old sheets. Whatever the bytes, with the fields of r = 0 and w = 0 put in at each row they are answered as the old reader answered them without; a sheet
-- that the old reader accepted is answered 1 (rule 20.6); and the sheet of a table whose r and w are all 0 is its old sheet with those fields, 16 bytes
-- longer for each row (rule 20.2). The field of w = 0 is put in by the crate unwaited, with whose reader the one of before r is compared first.
use Rattle.std.specs.Prelude.{ℕ, ◌+◌, ◌*◌, true, false, ◌≡◌, refl, List, length}
use Rattle.std.proofs.Common.{ap, ◌∙◌, arith}
use Rattle.rules.specs.declared.Table.{Table}
use Rattle.rules.specs.declared.Refusal.TheVariants.{Length}
use Rattle.rules.specs.declared.Sought.{Sought}
use Rattle.rules.specs.Checks.{Passed, Refused}
use Rattle.rules.specs.Lists.{all_zero}
use Rattle.rules.specs.Rows.{at}
use Rattle.rules.specs.Tables.{count_ok, zero_table}
use Rattle.texts.specs.Sheets.{is_line, number_at, read_of, sheet_of}
use Rattle.searches.specs.Speeds.{search_sheet}
use Rattle.unwaited.specs.OldSheets as Old
use Rattle.unwaited.specs.OldSheets.{line_size, widen}
use Rattle.unwaited.proofs.Same as Tables
use Rattle.unwaited.proofs.SameSheets as Since
use Rattle.unwaited.proofs.SameSheets.{read_alike, stated_before, read_before, search_read_same}
use Rattle.unwaited.specs.Unwaited.{with_promises, check_table}
use Rattle.unwaited.proofs.WidenedSheets as Lines
use Rattle.unwaited.proofs.WidenedSheets.{read_wider}
use Rattle.unpromised.specs.Unpromised.{with_loading}
use Rattle.unpromised.specs.Same.{own}

-- a table that an old sheet states passes check 12, which was not there then
pub check_then : (bytes : List ℕ) → check_table with_promises (Old.table_in 4 bytes) ≡ check_table with_loading (Old.table_in 4 bytes)
check_then bytes =
    let t = Old.table_in 4 bytes in
    let b = stated_before false bytes in
    Tables.check_between with_promises with_loading t (Tables.own t b.free) b

then_read : (bytes : List ℕ) → Old.read_of with_promises (widen 4 bytes) ≡ Old.read_of with_loading bytes
then_read bytes = read_wider 4 (check_table with_promises) bytes ∙ read_alike 4 (check_table with_promises) (check_table with_loading) bytes (check_then bytes)

-- 1. With the fields of r = 0 and w = 0 put in at each row, bytes are answered as they were by the old reader: number and table, refusals included.
pub read_same : (bytes : List ℕ) → read_of (widen 5 (widen 4 bytes)) ≡ Old.read_of with_loading bytes
read_same bytes = Since.read_same (widen 4 bytes) ∙ then_read bytes

-- so are the searches of a sheet (rule 18.7)
pub search_sheet_same : (f : Sought) (bytes : List ℕ) → search_sheet f (widen 5 (widen 4 bytes)) ≡ Old.search_sheet with_loading f bytes
unfolding search_sheet Old.search_sheet
search_sheet_same f bytes =
    let r = Old.read_of with_loading bytes in
    rw (read_same bytes) (search_read_same with_loading r.check f r.table (read_before false bytes))

-- 2. Bytes with a well-formed first line of 1 to 64 rows that are as long as a sheet was before r are answered 1, with the table of zeros. So is every sheet that the
-- old reader accepted.
pub old_length : (bytes : List ℕ) → is_line bytes 0 4 ≡ true → count_ok (number_at bytes 0 1) ≡ true → length bytes ≡ 33 + 33 * number_at bytes 0 1
    → read_of bytes ≡ record { check = Refused Length; table = zero_table }
unfolding line_size
old_length bytes l c e = Since.old_length 4 (omega arith) bytes l c e

pub old_refused : (bytes : List ℕ) → Old.check_sheet with_loading bytes ≡ Passed → read_of bytes ≡ record { check = Refused Length; table = zero_table }
old_refused bytes h = Since.old_refused with_loading bytes h

-- 3. The sheet of a table whose r and w are all 0 is its old sheet with the fields of r = 0 and w = 0 put in at each row, and so 16 bytes longer for each.
module _ (t : Table) (none : all_zero t.promised ≡ true) (free : all_zero t.follows ≡ true) where
  none_next : (i : ℕ) → at t.promised i ≡ 0
  none_next = Tables.none_promised with_loading t (own t none free) refl

  pub sheet_wider : sheet_of t ≡ widen 5 (widen 4 (Old.sheet_of 4 t))
  sheet_wider = Since.sheet_wider t free ∙ ap (widen 5) (Lines.sheet_wider 4 (omega arith) t none_next)

  pub old_long : length (Old.sheet_of 4 t) ≡ 33 + 33 * t.n
  unfolding line_size
  old_long = Lines.old_long 4 (omega arith) t none_next

  pub wider_by : length (sheet_of t) ≡ length (Old.sheet_of 4 t) + 16 * t.n
  wider_by = omega (arith, Since.wider_by t free, Lines.wider_by 4 (omega arith) t none_next)
