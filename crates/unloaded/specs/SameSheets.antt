-- Old sheets. Whatever the bytes, with the fields of K = 0, r = 0 and w = 0 put in they are answered as the old reader answered them without; bytes that
-- the old reader accepted are answered 2; and the sheet of a table with K = 0 and an r and a w of all 0 is its old sheet with those fields. The fields of
-- r = 0 and w = 0 are put in by the crates unpromised and unwaited; here the reader of before K is compared with the one of before r.
use Rattle.std.specs.Prelude.{ℕ, ◌+◌, ◌-◌, ◌*◌, ◌/◌, ◌%◌, ◌≤◌, ◌<◌, Bool, true, false, ◌||◌, ◌≡◌, List, [], ◌∷◌, ◌++◌, eqb, ltb, leb, length, get_or, take, drop}
use Rattle.std.proofs.Common.{true≢false, sym, subst, ◌∙◌, append_assoc, length-append, length-take, length-drop, take-append-drop, take_at, drop_at, length-take-le, drop-drop, get_or-drop, drop-cons, lt-ltb, le-ltb, leb-true, eqb-true, eq-eqb, ne_eqb}
use Rattle.std.proofs.Math.Path.{refl, ap}
use native.Mathlib.Omega.{arith}
use Rattle.rules.specs.declared.Table.{Table}
use Rattle.rules.specs.declared.Refusal.TheVariants.{Malformed}
use Rattle.rules.specs.Checks.{Passed, Refused}
use Rattle.rules.specs.Lists.{all, all_zero, rows_to, joined}
use Rattle.rules.specs.Rows.{rows_of}
use Rattle.rules.specs.Tables.{count_ok, zero_table}
use Rattle.texts.specs.Fields.{digit_at, written, line, value_of, is_field, field_at}
use Rattle.texts.specs.Sheets.{is_line, number_at, check_sheet, read_of, sheet_of}
use Rattle.theory.specs.Agree.{map_agree, all_agree}
use Rattle.theory.specs.Tests.{by_bool, by-ltb, by_eqb, and_left, and_right}
use Rattle.theory.specs.Facts.{all_in, clash}
use Rattle.fields.specs.Bytes.{field_within}
use Rattle.fields.specs.Lengths.{written_long}
use Rattle.unwaited.specs.OldSheets as Then
use Rattle.unwaited.specs.OldSheets.{line_size, check_lines, read_lines, row_line, widen}
use Rattle.unwaited.proofs.Same.{check_between}
use Rattle.unwaited.specs.Unwaited.{check_table}
use Rattle.unwaited.proofs.Widened.{zero_field, zero_value}
use Rattle.unpromised.specs.Same.{own}
use Rattle.unpromised.specs.SameSheets as Since
use Rattle.unpromised.specs.Unpromised.{with_loading}
use Rattle.unloaded.specs.OldSheets as Old
use Rattle.unloaded.specs.OldSheets.{with_field}
use Rattle.unloaded.specs.Same.{before}
use Rattle.unloaded.specs.Unloaded.{without}

-- a table that an old sheet states passes check 11, which was not there then
check_then : (bytes : List ℕ) → check_table with_loading (Old.table_in bytes) ≡ check_table without (Old.table_in bytes)
unfolding Old.table_in
check_then bytes = let t = Old.table_in bytes in check_between with_loading without t (own t refl refl) (before t refl refl refl)

-- a are the three fields of the first line, r all bytes after them
module _ (a r : List ℕ) (head : length a ≡ 24) where
  abbrev was : List ℕ
  was = a ++ r

  abbrev now : List ℕ
  now = a ++ (written 0 ++ r)

  longer : length now ≡ length was + 8
  longer = omega (arith, length-append a r, length-append a (written 0 ++ r), length-append (written 0) r, written_long 0)

  -- what stands after the new field
  rest_now : (m : ℕ) → drop (32 + m) now ≡ drop m r
  rest_now m =
      sym (drop-drop m 32 now)
      ∙ ap (drop m) (sym (drop-drop 8 24 now) ∙ ap (drop 8) (drop_at a (written 0 ++ r) 24 head) ∙ drop_at (written 0) r 8 (written_long 0))

  rest_was : (m : ℕ) → drop (24 + m) was ≡ drop m r
  rest_was m = sym (drop-drop m 24 was) ∙ ap (drop m) (drop_at a r 24 head)

  byte_moved : (m : ℕ) → get_or now (32 + m) 0 ≡ get_or was (24 + m) 0
  byte_moved m =
      let n = get_or-drop 32 now m 0 in
      let w = get_or-drop 24 was m 0 in
      sym n ∙ ap (λ (l : List ℕ). get_or l m 0) (moved_whole) ∙ w
    where
      moved_whole : drop 32 now ≡ drop 24 was
      moved_whole = rest_now 0 ∙ sym (rest_was 0)

  field_moved : (m : ℕ) → field_at now (32 + m) ≡ field_at was (24 + m)
  field_moved m = ap (take 8) (rest_now m ∙ sym (rest_was m))

  -- a line after the first, and the number in one of its fields
  number_moved : (m j : ℕ) → number_at now (33 + m) j ≡ number_at was (25 + m) j
  unfolding number_at
  number_moved m j =
      let p : 33 + m + 8 * (j - 1) ≡ 32 + (1 + m + 8 * (j - 1)) = omega arith in
      let q : 25 + m + 8 * (j - 1) ≡ 24 + (1 + m + 8 * (j - 1)) = omega arith in
      rw (p, q) (ap value_of (field_moved (1 + m + 8 * (j - 1))))

  line_moved : (m k : ℕ) → is_line now (33 + m) k ≡ is_line was (25 + m) k
  unfolding is_line
  line_moved m k =
      let p : 33 + m + 8 * k ≡ 32 + (1 + m + 8 * k) = omega arith in
      let q : 25 + m + 8 * k ≡ 24 + (1 + m + 8 * k) = omega arith in
      rw (
        p,
        q,
        byte_moved (1 + m + 8 * k),
        all_agree (λ j. is_field (field_at now (33 + m + 8 * (j - 1)))) (λ j. is_field (field_at was (25 + m + 8 * (j - 1)))) each (rows_to k),
      )
    where
      each : (j : ℕ) → is_field (field_at now (33 + m + 8 * (j - 1))) ≡ is_field (field_at was (25 + m + 8 * (j - 1)))
      each j =
          let p : 33 + m + 8 * (j - 1) ≡ 32 + (1 + m + 8 * (j - 1)) = omega arith in
          let q : 25 + m + 8 * (j - 1) ≡ 24 + (1 + m + 8 * (j - 1)) = omega arith in
          rw (p, q) (ap is_field (field_moved (1 + m + 8 * (j - 1))))

  -- the first line: its three old fields, and the new one
  field_kept : (s : ℕ) → s + 8 ≤ 24 → field_at now s ≡ field_at was s
  field_kept s h = field_within a (written 0 ++ r) s (omega (arith, head)) ∙ sym (field_within a r s (omega (arith, head)))

  field_new : field_at now 24 ≡ written 0
  field_new = ap (take 8) (drop_at a (written 0 ++ r) 24 head) ∙ take_at (written 0) r 8 (written_long 0)

  first_same : is_line now 0 4 ≡ is_line was 0 3
  unfolding is_line
  first_same =
      rw (
        field_kept 0 (omega arith),
        field_kept 8 (omega arith),
        field_kept 16 (omega arith),
        field_new,
        zero_field,
        byte_moved 0,
      )

  count_same : number_at now 0 1 ≡ number_at was 0 1
  unfolding number_at
  count_same = ap value_of (field_kept 0 (omega arith))

  column_same : (n j : ℕ) → leb j 4 ≡ true → Then.column_of 4 now n j ≡ Old.column_of was n j
  unfolding line_size Then.column_of Old.column_of
  column_same n j e =
      rw (e, map_agree (λ i. number_at now (Then.line_of 4 i) j) (λ i. number_at was (Old.line_of i) j) (λ i. number_moved (33 * (i - 1)) j) (rows_to n))

  table_same : Then.table_in 4 now ≡ Old.table_in was
  unfolding Then.table_in Then.column_of Old.table_in number_at
  table_same =
      rw (
        field_kept 0 (omega arith),
        field_kept 8 (omega arith),
        field_kept 16 (omega arith),
        field_new,
        zero_value,
        column_same (value_of (field_at was 0)) 1 refl,
        column_same (value_of (field_at was 0)) 2 refl,
        column_same (value_of (field_at was 0)) 3 refl,
        column_same (value_of (field_at was 0)) 4 refl,
      )

  short_same : ltb (length now) 33 ≡ ltb (length was) 25
  short_same =
      by-ltb (length was) 25
      (λ e h. rw (e, lt-ltb (length now) 33 (omega (arith, longer))))
      (λ e h. rw (e, le-ltb (length now) 33 (omega (arith, longer))))

  long_same : (n : ℕ) → eqb (length now) (33 + 33 * n) ≡ eqb (length was) (25 + 33 * n)
  long_same n =
      by_eqb (length was) (25 + 33 * n)
      (λ e h. rw e (eq-eqb (length now) (33 + 33 * n) (omega (arith, longer))))
      (λ e h. rw (e, ne_eqb (length now) (33 + 33 * n) (λ q. h (omega (arith, longer)))))

  -- the whole reader
  check_now : Then.check_sheet with_loading now ≡ Old.check_sheet was
  unfolding line_size check_lines Old.check_sheet
  check_now =
      rw (
        short_same,
        first_same,
        count_same,
        long_same (number_at was 0 1),
        all_agree (λ i. is_line now (Then.line_of 4 i) 4) (λ i. is_line was (Old.line_of i) 4) (λ i. line_moved (33 * (i - 1)) 4) (rows_to (number_at was 0 1)),
        table_same,
        check_then was,
      )

  read_now : Then.read_of with_loading now ≡ Old.read_of was
  unfolding read_lines Old.read_of
  read_now = rw (check_now, table_same)

-- any bytes are 8 longer by the field
pub field_long : (bytes : List ℕ) → length (with_field bytes) ≡ length bytes + 8
unfolding with_field
field_long bytes =
    omega (
      arith,
      length-append (take 24 bytes) (written 0 ++ drop 24 bytes),
      length-append (written 0) (drop 24 bytes),
      written_long 0,
      length-take 24 bytes,
      length-drop 24 bytes,
    )

pub then_read : (bytes : List ℕ) → Then.read_of with_loading (with_field bytes) ≡ Old.read_of bytes
unfolding with_field read_lines check_lines Old.read_of Old.check_sheet
then_read bytes =
    by-ltb (length bytes) 24
    (λ _ h. short h)
    (λ _ h. subst (λ (l : List ℕ). Then.read_of with_loading (take 24 bytes ++ (written 0 ++ drop 24 bytes)) ≡ Old.read_of l) (take-append-drop 24 bytes)
    (read_now (take 24 bytes) (drop 24 bytes) (length-take-le 24 bytes h)))
  where
    with : List ℕ
    with = take 24 bytes ++ (written 0 ++ drop 24 bytes)

    size : length with ≡ length bytes + 8
    size = field_long bytes

    short : length bytes < 24 → Then.read_of with_loading with ≡ Old.read_of bytes
    short h = rw (lt-ltb (length with) 33 (omega (arith, size)), lt-ltb (length bytes) 25 (omega arith))

-- 1. With the fields of K = 0, r = 0 and w = 0 put in, bytes are answered as they were by the old reader: number and table, refusals included.
pub read_same : (bytes : List ℕ) → read_of (widen 5 (widen 4 (with_field bytes))) ≡ Old.read_of bytes
read_same bytes = Since.read_same (with_field bytes) ∙ then_read bytes

-- no byte of a field is a line end
digit_no_end : (v w : ℕ) → eqb 10 (digit_at v w) ≡ false
unfolding digit_at
digit_no_end v w = by_bool (leb w v || eqb w 1) (λ e. rw e (ne_eqb 10 (48 + v / w % 10) (λ q. omega arith))) (λ e. rw e)

end_no_field : (xs : List ℕ) → is_field (10 ∷ xs) ≡ false
unfolding is_field written
end_no_field xs = rw (digit_no_end (value_of (10 ∷ xs)) 10000000)

-- where a line end stands in place of K's field, the first line is malformed
no_fourth : (bytes : List ℕ) → 24 < length bytes → get_or bytes 24 0 ≡ 10 → is_line bytes 0 4 ≡ false
unfolding is_line
no_fourth bytes h e = by_bool (is_line bytes 0 4) (λ t. absurd (true≢false (sym (all_in p (rows_to 4) (and_left (all p (rows_to 4)) _ t) 4 (omega arith)) ∙ fourth))) (λ t. t)
  where
    p : ℕ → Bool
    p j = is_field (field_at bytes (0 + 8 * (j - 1)))

    fourth : p 4 ≡ false
    fourth = ap (λ (l : List ℕ). is_field (take 8 l)) (drop-cons bytes 24 0 h ∙ ap (λ (b : ℕ). b ∷ drop 25 bytes) e) ∙ end_no_field (take 7 (drop 25 bytes))

line_end : (bytes : List ℕ) → is_line bytes 0 3 ≡ true → get_or bytes 24 0 ≡ 10
unfolding is_line
line_end bytes e = eqb-true (get_or bytes 24 0) 10 (and_right (all (λ j. is_field (field_at bytes (0 + 8 * (j - 1)))) (rows_to 3)) (eqb (get_or bytes 24 0) 10) e)

-- what an accepted old sheet has
record OldSheet (bytes : List ℕ) : Type 0 where
  long : 33 ≤ length bytes
  first : is_line bytes 0 3 ≡ true

old_sheet : (bytes : List ℕ) → Old.check_sheet bytes ≡ Passed → OldSheet bytes
unfolding Old.check_sheet
old_sheet bytes h =
    by_bool (ltb (length bytes) 25)
    (λ e1. clash (rw e1 at h))
    (λ e1. by_bool (is_line bytes 0 3)
    (λ e2. by_bool (count_ok (number_at bytes 0 1))
    (λ e3. by_bool (eqb (length bytes) (25 + 33 * number_at bytes 0 1))
    (λ e4. record {
      long = omega (
        arith,
        eqb-true (length bytes) (25 + 33 * number_at bytes 0 1) e4,
        leb-true 1 (number_at bytes 0 1) (and_left (leb 1 (number_at bytes 0 1)) (leb (number_at bytes 0 1) 64) e3),
      );
      first = e2;
    })
    (λ e4. clash (rw (e1, e2, e3, e4) at h)))
    (λ e3. clash (rw (e1, e2, e3) at h)))
    (λ e2. clash (rw (e1, e2) at h)))

-- 2. Bytes that begin with a well-formed first line of three fields, and are long enough for one of four, are answered 2 with the table of
-- zeros, whatever comes after it. So is every sheet that the old reader accepted.
pub first_malformed : (bytes : List ℕ) → 33 ≤ length bytes → is_line bytes 0 3 ≡ true → read_of bytes ≡ record { check = Refused Malformed; table = zero_table }
unfolding read_of check_sheet
first_malformed bytes h e = rw (le-ltb (length bytes) 33 h, no_fourth bytes (omega arith) (line_end bytes e))

pub old_malformed : (bytes : List ℕ) → Old.check_sheet bytes ≡ Passed → read_of bytes ≡ record { check = Refused Malformed; table = zero_table }
old_malformed bytes h = let o = old_sheet bytes h in first_malformed bytes o.long o.first

-- 3. The sheet of a table with K = 0 and an r and a w of all 0 is its old sheet with the field of K = 0, and with those of r = 0 and w = 0 at each row, and so
-- 8 bytes longer for each of these fields.
then_sheet : (t : Table) → t.loading ≡ 0 → Then.sheet_of 4 t ≡ with_field (Old.sheet_of t)
unfolding Then.sheet_of Old.sheet_of with_field
then_sheet t none = ap (λ (k : ℕ). line (t.n ∷ t.normal ∷ t.degraded ∷ k ∷ []) ++ joined (row_line 4 t) (rows_of t)) none ∙ sym whole
  where
    a : List ℕ
    a = written t.n ++ (written t.normal ++ written t.degraded)

    r : List ℕ
    r = 10 ∷ joined (row_line 4 t) (rows_of t)

    head : length a ≡ 24
    head =
        omega (
          arith,
          length-append (written t.n) (written t.normal ++ written t.degraded),
          length-append (written t.normal) (written t.degraded),
          written_long t.n,
          written_long t.normal,
          written_long t.degraded,
        )

    old : line (t.n ∷ t.normal ∷ t.degraded ∷ []) ++ joined (row_line 4 t) (rows_of t) ≡ a ++ r
    old = simp append_assoc

    whole : take 24 (line (t.n ∷ t.normal ∷ t.degraded ∷ []) ++ joined (row_line 4 t) (rows_of t))
        ++ (written 0 ++ drop 24 (line (t.n ∷ t.normal ∷ t.degraded ∷ []) ++ joined (row_line 4 t) (rows_of t)))
        ≡ line (t.n ∷ t.normal ∷ t.degraded ∷ 0 ∷ []) ++ joined (row_line 4 t) (rows_of t)
    whole = rw (old, take_at a r 24 head, drop_at a r 24 head) (simp append_assoc)

pub sheet_longer : (t : Table) → t.loading ≡ 0 → all_zero t.promised ≡ true → all_zero t.follows ≡ true
    → sheet_of t ≡ widen 5 (widen 4 (with_field (Old.sheet_of t)))
sheet_longer t none nothing free = Since.sheet_wider t nothing free ∙ ap (λ (l : List ℕ). widen 5 (widen 4 l)) (then_sheet t none)

pub eights_longer : (t : Table) → t.loading ≡ 0 → all_zero t.promised ≡ true → all_zero t.follows ≡ true
    → length (sheet_of t) ≡ length (Old.sheet_of t) + 8 + 16 * t.n
eights_longer t none nothing free =
    Since.wider_by t nothing free ∙ ap (λ (k : ℕ). k + 16 * t.n) (ap length (then_sheet t none) ∙ field_long (Old.sheet_of t))
