-- Old sheets. Whatever the bytes, with the field of w = 0 put in at each row they are answered as the old reader answered them without it; a sheet that
-- an old reader accepted is answered 1; and the sheet of a table whose w is all 0 is its old sheet with those fields, 8 bytes longer for each row (rule
-- 21.6).
use Rattle.std.specs.Prelude.{ℕ, ◌+◌, ◌*◌, ◌<◌, Bool, true, false, ◌≡◌, refl, List, eqb, ltb, leb, length, Ok, Err}
use Rattle.std.proofs.Common.{true≢false, ap, ◌∙◌, mul-le-mul_right, arith, le-ltb, leb-true, eqb-true, ne_eqb}
use Rattle.rules.specs.declared.Table.{Table}
use Rattle.rules.specs.declared.Refusal.TheVariants.{Length}
use Rattle.rules.specs.declared.Sought.{Sought}
use Rattle.rules.specs.Checks.{Check, Passed, Refused}
use Rattle.rules.specs.Lists.{all_zero}
use Rattle.rules.specs.Tables.{count_ok, check_table, zero_table}
use Rattle.texts.specs.Sheets.{is_line, number_at, column_of, table_in, check_sheet, read_checked, read_of, row_line, sheet_of}
use Rattle.searches.specs.Speeds.{search_read, search_sheet}
use Rattle.theory.specs.Facts.{clash}
use Rattle.theory.specs.Tests.{by_bool, and_left}
use Rattle.unwaited.specs.OldSheets as Old
use Rattle.unwaited.specs.OldSheets.{line_size, check_lines, read_lines, fields_of, widen}
use Rattle.unwaited.specs.Unwaited as Then
use Rattle.unwaited.specs.Unwaited.{Past, loading, with_promises, Before}
use Rattle.unwaited.proofs.Same.{own, loaded, none_follows, check_same}
use Rattle.unwaited.proofs.SameAnswers.{search_same}
use Rattle.unwaited.proofs.Widened.{size_is}
use Rattle.unwaited.proofs.WidenedSheets as Lines
use Rattle.unwaited.proofs.WidenedSheets.{read_wider}

-- today's reader and sheets are those of lines with six figures
pub today : (bytes : List ℕ) → read_of bytes ≡ read_lines 6 check_table bytes
unfolding read_of check_sheet table_in column_of read_lines check_lines Old.table_in Old.column_of line_size
today bytes = refl

pub today_sheet : (t : Table) → sheet_of t ≡ Old.sheet_of 6 t
unfolding sheet_of row_line Old.sheet_of Old.row_line
today_sheet t = refl

-- the table that a reader answers is the one that the bytes state, or that of zeros
answered : (P : Table → Type 0) (f : ℕ) (check : Table → Check) (bytes : List ℕ) → P (Old.table_in f bytes) → P zero_table
    → P (read_lines f check bytes).table
unfolding read_lines
answered P f check bytes h z = by (check_lines f check bytes)
  where
    by : (c : Check) → P (read_checked c (Old.table_in f bytes)).table
    by (Ok tt) = h
    by (Err r) = z

-- readers that check the table stated alike answer alike
pub read_alike : (f : ℕ) (check other : Table → Check) (bytes : List ℕ) → check (Old.table_in f bytes) ≡ other (Old.table_in f bytes)
    → read_lines f check bytes ≡ read_lines f other bytes
unfolding read_lines check_lines
read_alike f check other bytes e = rw e

-- no table that was stated then has a w but 0, and before promised parts none had an r but 0; so it is of those answered
pub stated_before : (promises : Bool) (bytes : List ℕ) → Before (loading promises) (Old.table_in (fields_of (loading promises)) bytes)
unfolding Old.table_in Old.column_of
stated_before true bytes = loaded true (Old.table_in 5 bytes) (λ e. absurd (true≢false e)) refl
stated_before false bytes = loaded false (Old.table_in 4 bytes) (λ _. refl) refl

pub read_before : (promises : Bool) (bytes : List ℕ) → Before (loading promises) (Old.read_of (loading promises) bytes).table
read_before promises bytes =
    answered (Before (loading promises)) (fields_of (loading promises)) (Then.check_table (loading promises)) bytes (stated_before promises bytes)
    (loaded promises zero_table (λ _. refl) refl)

-- 1. With the field of w = 0 put in at each row, bytes are answered as they were by the old reader: number and table, refusals included.
pub read_same : (bytes : List ℕ) → read_of (widen 5 bytes) ≡ Old.read_of with_promises bytes
read_same bytes =
    today (widen 5 bytes)
    ∙ read_wider 5 check_table bytes
    ∙ read_alike 5 check_table (Then.check_table with_promises) bytes (check_same with_promises (Old.table_in 5 bytes) (stated_before true bytes))

-- so are the searches of a sheet (rule 18.7)
pub search_read_same : (p : Past) (c : Check) (f : Sought) (t : Table) → Before p t → search_read c f t ≡ Old.search_read p c f t
search_read_same p (Ok tt) f t b = search_same p f t b
search_read_same p (Err r) f t b = refl

pub search_sheet_same : (f : Sought) (bytes : List ℕ) → search_sheet f (widen 5 bytes) ≡ Old.search_sheet with_promises f bytes
unfolding search_sheet Old.search_sheet
search_sheet_same f bytes =
    let r = Old.read_of with_promises bytes in
    rw (read_same bytes) (search_read_same with_promises r.check f r.table (read_before true bytes))

-- 2. Bytes with a well-formed first line of 1 to 64 rows that are as long as a sheet of rows with fewer than six fields are answered 1, with the table of zeros. So is
-- every sheet that an old reader accepted.
pub old_length : (f : ℕ) → f < 6 → (bytes : List ℕ) → is_line bytes 0 4 ≡ true → count_ok (number_at bytes 0 1) ≡ true
    → length bytes ≡ 33 + line_size f * number_at bytes 0 1 → read_of bytes ≡ record { check = Refused Length; table = zero_table }
unfolding read_of check_sheet
old_length f few bytes l c e =
    let n = number_at bytes 0 1 in
    let some = leb-true 1 n (and_left (leb 1 n) (leb n 64) c) in
    let less = mul-le-mul_right {m = line_size f} {n = 41} n (omega (arith, size_is f)) in
    rw (le-ltb (length bytes) 33 (omega arith), l, c, ne_eqb (length bytes) (33 + 49 * n) (λ q. omega (arith, less)))

accepted_length : (f : ℕ) → f < 6 → (check : Table → Check) (bytes : List ℕ) → check_lines f check bytes ≡ Passed
    → read_of bytes ≡ record { check = Refused Length; table = zero_table }
unfolding check_lines
accepted_length f few check bytes h =
    let n = number_at bytes 0 1 in
    by_bool (ltb (length bytes) 33)
    (λ e1. clash (rw e1 at h))
    (λ e1. by_bool (is_line bytes 0 4)
    (λ e2. by_bool (count_ok n)
    (λ e3. by_bool (eqb (length bytes) (33 + line_size f * n))
    (λ e4. old_length f few bytes e2 e3 (eqb-true (length bytes) (33 + line_size f * n) e4))
    (λ e4. clash (rw (e1, e2, e3, e4) at h)))
    (λ e3. clash (rw (e1, e2, e3) at h)))
    (λ e2. clash (rw (e1, e2) at h)))

pub old_refused : (p : Past) (bytes : List ℕ) → Old.check_sheet p bytes ≡ Passed → read_of bytes ≡ record { check = Refused Length; table = zero_table }
old_refused p bytes h = accepted_length (fields_of p) (few p.promises) (Then.check_table p) bytes h
  where
    few : (b : Bool) → fields_of (loading b) < 6
    few true = omega arith
    few false = omega arith

-- 3. The sheet of a table whose w is all 0 is its old sheet with the field of w = 0 put in at each row, and so 8 bytes longer for each.
module _ (t : Table) (free : all_zero t.follows ≡ true) where
  pub sheet_wider : sheet_of t ≡ widen 5 (Old.sheet_of 5 t)
  sheet_wider = today_sheet t ∙ Lines.sheet_wider 5 (omega arith) t (none_follows with_promises t (own t free))

  pub wider_by : length (sheet_of t) ≡ length (Old.sheet_of 5 t) + 8 * t.n
  wider_by = ap length (today_sheet t) ∙ Lines.wider_by 5 (omega arith) t (none_follows with_promises t (own t free))
