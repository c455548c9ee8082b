-- There and back: reading the sheet of an accepted table gives that table, and each sheet that the reader accepts is the sheet of the table
-- that it states. So of all byte strings just one reads as a table (rules 15.6 to 15.8).
use Rattle.std.specs.Prelude.{ℕ, zero, suc, ◌+◌, ◌*◌, ◌≤◌, ◌<◌, true, ◌&&◌, ◌≡◌, length, get_or, drop, Ok, Err}
use mathlib.Core.List.{List, [], ◌∷◌, ◌++◌, append_assoc, append-nil}
use Rattle.std.proofs.Math.Path.{refl, sym, ap}
use Rattle.std.proofs.Common.{◌∙◌, add-one, arith, length-append, take_at, get_or-append-add, ext_get_or}
use borrow.Author.Tests.{le-ltb, le-leb, eq-eqb}
use Rattle.std.proofs.Math.Seq.{drop-append-add}
use Rattle.rules.specs.declared.Table.{Table}
use Rattle.rules.specs.declared.Reading.{Reading}
use Rattle.rules.specs.Checks.{Check, Passed}
use Rattle.rules.specs.Lists.{all_zero, rows_to, joined}
use Rattle.rules.specs.Rows.{at, release_of, work_of, deadline_of, promised_of, follows_of}
use Rattle.rules.specs.Tables.{tail_ok, Accepted, FullTable}
use Rattle.texts.specs.Fields.{written, is_field, field_at, line}
use Rattle.texts.specs.Sheets.{is_line, number_at, column_of, table_in, check_sheet, read_checked, read_of, row_line, sheet_of}
use Rattle.checks.specs.RowLists.{zero_at}
use Rattle.theory.specs.Facts.{clash, Row, TableFacts, facts, accepted_tail}
use Rattle.theory.specs.Tests.{by_eqb, by-ltb, and_left, and_right}
use Rattle.fields.specs.Lengths.{written_long, joined_more}
use Rattle.fields.specs.Values.{value_written, field_written}
use Rattle.sheet.specs.Lines.{lines_ok, fields_ok, up_down, fields_go, fields_end, lines_go}
use Rattle.sheet.specs.SheetsDiffer.{column_long, column_at_lem, column_zero, accepts, sheets_differ}
use Rattle.sheet.specs.Writer.{rows_long, head_long, sheet_long}

-- ---- a line of fields at the start of some bytes
nth_field : (vs rest : List ℕ) (j : ℕ) → j < length vs → field_at (line vs ++ rest) (8 * j) ≡ written (get_or vs j 0)
nth_field [] rest j h = absurd (omega arith)
nth_field (v ∷ vs) rest zero h = rw (append_assoc (written v) (line vs) rest) (take_at (written v) (line vs ++ rest) 8 (written_long v))
nth_field (v ∷ vs) rest (suc j) h =
    let e : 8 * suc j ≡ length (written v) + 8 * j = omega (arith, written_long v) in
    rw (append_assoc (written v) (line vs) rest, e, drop-append-add (written v) (line vs ++ rest) (8 * j)) (nth_field vs rest j (omega arith))

line_end : (vs rest : List ℕ) → get_or (line vs ++ rest) (8 * length vs) 0 ≡ 10
line_end [] rest = refl
line_end (v ∷ vs) rest =
    let e : 8 * suc (length vs) ≡ length (written v) + 8 * length vs = omega (arith, written_long v) in
    rw (append_assoc (written v) (line vs) rest, e, get_or-append-add (written v) (line vs ++ rest) (8 * length vs) 0) (line_end vs rest)

-- ---- a line of fields after some bytes
module _ (before vs rest : List ℕ) (start : ℕ) (long : length before ≡ start) (small : (j : ℕ) → j < length vs → get_or vs j 0 < 100000000) where
  abbrev bytes : List ℕ
  bytes = before ++ (line vs ++ rest)

  field_there : (j : ℕ) → j < length vs → field_at bytes (start + 8 * j) ≡ written (get_or vs j 0)
  field_there j h = rw (← long, drop-append-add before (line vs ++ rest) (8 * j)) (nth_field vs rest j h)

  end_there : get_or bytes (start + 8 * length vs) 0 ≡ 10
  end_there = rw (← long, get_or-append-add before (line vs ++ rest) (8 * length vs) 0) (line_end vs rest)

  formed : (j : ℕ) → j ≤ length vs → fields_ok bytes start j ≡ true
  formed zero h = refl
  formed (suc j) h =
      let f : is_field (field_at bytes (start + 8 * j)) ≡ true = rw (field_there j (omega arith)) (field_written (get_or vs j 0) (small j (omega arith))) in
      let more : fields_ok bytes start (j + 1) ≡ true = fields_go bytes start j (formed j (omega arith)) f in
      rw (add-one j) at more

  -- the line is well formed, and its numbers are those that were written
  line_there : is_line bytes start (length vs) ≡ true
  line_there = fields_end bytes start (length vs) (length vs) refl (formed (length vs) (omega arith)) ∙ eq-eqb _ _ end_there

  number_there : (j : ℕ) → j < length vs → number_at bytes start (j + 1) ≡ get_or vs j 0
  unfolding number_at
  number_there j h = rw (up_down j, field_there j h) (value_written (get_or vs j 0) (small j h))

-- ---- the lines of rows, taken apart at one of them
pub record Around (f : ℕ → List ℕ) (k n : ℕ) : Type 0 where
  pub rest : List ℕ
  pub parts : joined f (rows_to n) ≡ joined f (rows_to k) ++ (f (k + 1) ++ rest)

pub around : (f : ℕ → List ℕ) (k n : ℕ) → k < n → Around f k n
around f k zero h = absurd (omega arith)
around f k (suc m) h =
    let more : joined f (rows_to (suc m)) ≡ joined f (rows_to m) ++ f (suc m) = rw (add-one m) at (joined_more f m) in
    by_eqb k m
    (λ _ e. record { rest = []; parts = more ∙ rw (e, add-one m, append-nil (f (suc m))) })
    (λ _ e.
    let a = around f k m (omega arith) in
    record {
      rest = a.rest ++ f (suc m);
      parts =
          more
          ∙ ap (λ (l : List ℕ). l ++ f (suc m)) a.parts
          ∙ append_assoc (joined f (rows_to k)) (f (k + 1) ++ a.rest) (f (suc m))
          ∙ ap (λ (l : List ℕ). joined f (rows_to k) ++ l) (append_assoc (f (k + 1)) a.rest (f (suc m)));
    })

-- ---- the sheet of an accepted table
-- numbers that a field holds, by their index: one more before those that are known to be held
small_first : (v : ℕ) (vs : List ℕ) → v < 100000000 → ((j : ℕ) → j < length vs → get_or vs j 0 < 100000000)
    → (j : ℕ) → j < length (v ∷ vs) → get_or (v ∷ vs) j 0 < 100000000
small_first v vs h hs zero k = h
small_first v vs h hs (suc j) k = hs j (omega arith)

four_small : (a b c d : ℕ) → a < 100000000 → b < 100000000 → c < 100000000 → d < 100000000
    → (j : ℕ) → j < 4 → get_or (a ∷ b ∷ c ∷ d ∷ []) j 0 < 100000000
four_small a b c d ha hb hc hd =
    small_first a (b ∷ c ∷ d ∷ []) ha (small_first b (c ∷ d ∷ []) hb (small_first c (d ∷ []) hc (small_first d [] hd (λ j h. absurd (omega arith)))))

module _ (t : Table) (accepted : Accepted t) where
  abbrev head : List ℕ
  head = t.n ∷ t.normal ∷ t.degraded ∷ t.loading ∷ []

  abbrev row : ℕ → List ℕ
  row i = release_of t i ∷ work_of t i ∷ deadline_of t i ∷ at t.level i ∷ promised_of t i ∷ follows_of t i ∷ []

  abbrev lines : List ℕ
  lines = joined (row_line t) (rows_to t.n)

  known : TableFacts t
  known = facts t accepted

  head_small : (j : ℕ) → j < 4 → get_or head j 0 < 100000000
  head_small =
      four_small t.n t.normal t.degraded t.loading
      (omega (arith, known.few))
      (omega (arith, known.fast))
      (omega (arith, known.fast, known.slower))
      (omega (arith, known.loads))

  -- the row that a row follows has a lower number, or is none
  follows_small : (i : ℕ) → Row t i → follows_of t i < 100000000
  follows_small i r =
      by-ltb 0 (follows_of t i)
      (λ _ h. omega (arith, known.lower i r h, r.up_to, known.few))
      (λ _ h. omega arith)

  row_small : (i : ℕ) → Row t i → (j : ℕ) → j < 6 → get_or (row i) j 0 < 100000000
  row_small i r =
      let f = known.row i r in
      small_first (release_of t i) (work_of t i ∷ deadline_of t i ∷ at t.level i ∷ promised_of t i ∷ follows_of t i ∷ [])
      (omega (arith, f.before, f.soon))
      (small_first (work_of t i) (deadline_of t i ∷ at t.level i ∷ promised_of t i ∷ follows_of t i ∷ [])
      (omega (arith, f.light))
      (four_small (deadline_of t i) (at t.level i) (promised_of t i) (follows_of t i)
      (omega (arith, f.soon))
      (omega (arith, f.level))
      (omega (arith, f.light, (known.part i r).within))
      (follows_small i r)))

  -- the first line
  head_line : is_line (sheet_of t) 0 4 ≡ true
  unfolding sheet_of
  head_line = line_there [] head lines 0 refl head_small

  head_number : (j : ℕ) → j < 4 → number_at (sheet_of t) 0 (j + 1) ≡ get_or head j 0
  unfolding sheet_of
  head_number = number_there [] head lines 0 refl head_small

  -- the line of the row at index k, with what stands before it and after it
  module _ (k : ℕ) (h : k < t.n) where
    apart : Around (row_line t) k t.n
    apart = around (row_line t) k t.n h

    abbrev front : List ℕ
    front = line head ++ joined (row_line t) (rows_to k)

    front_long : length front ≡ 33 + 49 * k
    front_long = omega (arith, length-append (line head) (joined (row_line t) (rows_to k)), head_long t, rows_long t k)

    whole : sheet_of t ≡ front ++ (line (row (k + 1)) ++ apart.rest)
    unfolding sheet_of row_line
    whole = ap (λ (l : List ℕ). line head ++ l) apart.parts ∙ sym (append_assoc (line head) (joined (row_line t) (rows_to k)) (row_line t (k + 1) ++ apart.rest))

    small : (j : ℕ) → j < 6 → get_or (row (k + 1)) j 0 < 100000000
    small = row_small (k + 1) (record { from = omega arith; up_to = omega arith })

    row_there : is_line (sheet_of t) (33 + 49 * k) 6 ≡ true
    row_there = rw whole (line_there front (row (k + 1)) apart.rest (33 + 49 * k) front_long small)

    row_number : (j : ℕ) → j < 6 → number_at (sheet_of t) (33 + 49 * k) (j + 1) ≡ get_or (row (k + 1)) j 0
    row_number j l = rw whole (number_there front (row (k + 1)) apart.rest (33 + 49 * k) front_long small j l)

  lines_there : (n : ℕ) → n ≤ t.n → lines_ok (sheet_of t) n ≡ true
  lines_there zero h = refl
  lines_there (suc k) h =
      let more : lines_ok (sheet_of t) (k + 1) ≡ true = lines_go (sheet_of t) k (lines_there k (omega arith)) (row_there k (omega arith)) in
      rw (add-one k) at more

  -- a column of the table, read back: j from 0, the row's figure there is the column's
  column_back : (j : ℕ) (xs : List ℕ) → j < 6 → ((i : ℕ) → get_or (row i) j 0 ≡ at xs i) → length xs ≡ 64 → all_zero (drop t.n xs) ≡ true
      → column_of (sheet_of t) t.n (j + 1) ≡ xs
  column_back j xs l same long zeros =
      let c = column_long (sheet_of t) t.n (j + 1) in
      ext_get_or 0 (column_of (sheet_of t) t.n (j + 1)) xs (omega arith)
      (λ i h.
      by-ltb i t.n
      (λ _ k. column_at_lem (sheet_of t) t.n (j + 1) i known.few k ∙ row_number i k j l ∙ same (i + 1) ∙ rw (up_down i))
      (λ _ k. column_zero (sheet_of t) t.n (j + 1) i k (omega arith) ∙ sym (zero_at xs t.n i zeros k)))

  -- what tail_ok says, column by column
  tails : (all_zero (drop t.n t.release) ≡ true)
      × (all_zero (drop t.n t.work) ≡ true)
      × (all_zero (drop t.n t.deadline) ≡ true)
      × (all_zero (drop t.n t.level) ≡ true)
      × (all_zero (drop t.n t.promised) ≡ true)
      × (all_zero (drop t.n t.follows) ≡ true)
  unfolding tail_ok
  tails =
      let a = all_zero (drop t.n t.release) in
      let b = all_zero (drop t.n t.work) in
      let d = all_zero (drop t.n t.deadline) in
      let l = all_zero (drop t.n t.level) in
      let p = all_zero (drop t.n t.promised) in
      let w = all_zero (drop t.n t.follows) in
      let e6 = accepted_tail t accepted in
      let e5 = and_left (a && b && d && l && p) w e6 in
      let e4 = and_left (a && b && d && l) p e5 in
      let e3 = and_left (a && b && d) l e4 in
      let e2 = and_left (a && b) d e3 in (
        and_left a b e2,
        and_right a b e2,
        and_right (a && b) d e3,
        and_right (a && b && d) l e4,
        and_right (a && b && d && l) p e5,
        and_right (a && b && d && l && p) w e6,
      )

  -- the table that the sheet states is the table
  table_back : FullTable t → table_in (sheet_of t) ≡ t
  unfolding table_in
  table_back f =
      rw (
        head_number 0 (omega arith),
        head_number 1 (omega arith),
        head_number 2 (omega arith),
        head_number 3 (omega arith),
        column_back 0 t.release (omega arith) (λ i. refl) f.release tails.0,
        column_back 1 t.work (omega arith) (λ i. refl) f.work tails.1,
        column_back 2 t.deadline (omega arith) (λ i. refl) f.deadline tails.2,
        column_back 3 t.level (omega arith) (λ i. refl) f.level tails.3,
        column_back 4 t.promised (omega arith) (λ i. refl) f.promised tails.4,
        column_back 5 t.follows (omega arith) (λ i. refl) f.follows tails.5,
      )

  -- and no check refuses it
  check_back : FullTable t → check_sheet (sheet_of t) ≡ Passed
  unfolding check_sheet
  check_back f =
      rw (
        le-ltb (length (sheet_of t)) 33 (omega (arith, sheet_long t)),
        head_line,
        head_number 0 (omega arith),
        le-leb 1 t.n known.some,
        le-leb t.n 64 known.few,
        eq-eqb (length (sheet_of t)) (33 + 49 * t.n) (sheet_long t),
        lines_there t.n (omega arith),
        table_back f,
      )
      accepted

  -- Reading the sheet of an accepted table gives 0 and that table (rule 15.6).
  pub read_back_lem : FullTable t → read_of (sheet_of t) ≡ record { check = Passed; table = t }
  unfolding read_of
  read_back_lem f = rw (check_back f) (ap (λ (u : Table). read_checked Passed u) (table_back f))

-- ---- a sheet that the reader accepts
-- every table that is read has room for 64 rows
pub table_full : (bytes : List ℕ) → FullTable (table_in bytes)
unfolding table_in
table_full bytes =
    let n = number_at bytes 0 1 in
    record { release = column_long bytes n 1; work = column_long bytes n 2; deadline = column_long bytes n 3; level = column_long bytes n 4; promised = column_long bytes n 5; follows = column_long bytes n 6 }

-- It is the sheet of the table that it states: reading and writing gives the same bytes (rule 15.7).
pub sheet_back : (bytes : List ℕ) → check_sheet bytes ≡ Passed → sheet_of (table_in bytes) ≡ bytes
sheet_back bytes e =
    let t = table_in bytes in
    let a = (accepts bytes e).accepted in
    let f = table_full bytes in
    sheets_differ (sheet_of t) bytes (check_back t a f) e (table_back t a f)

-- what a reading without refusal says of the bytes
read_passed : (bytes : List ℕ) (t : Table) → read_of bytes ≡ record { check = Passed; table = t } → (check_sheet bytes ≡ Passed) × (table_in bytes ≡ t)
unfolding read_of
read_passed bytes t e = go (check_sheet bytes) e
  where
    go : (c : Check) → read_checked c (table_in bytes) ≡ record { check = Passed; table = t } → (c ≡ Passed) × (table_in bytes ≡ t)
    go (Ok tt) q = (refl, ap (λ (r : Reading). r.table) q)
    go (Err r) q = clash (ap (λ (r : Reading). r.check) q)

-- Of all byte strings just the table's sheet reads as the table (rule 15.7).
pub only_sheet : (bytes : List ℕ) (t : Table) → read_of bytes ≡ record { check = Passed; table = t } → bytes ≡ sheet_of t
only_sheet bytes t e = let p = read_passed bytes t e in sym (sheet_back bytes p.0) ∙ ap sheet_of p.1
