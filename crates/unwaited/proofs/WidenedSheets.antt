-- Sheets with one field of 0 more at each row, where a row's line has f fields: whatever the bytes, a reader answers them as it answered them without it;
-- and where the next figure of every row is 0, the sheet with that figure is the one without it, with these fields.
use Rattle.std.specs.Prelude.{ℕ, zero, suc, ◌+◌, ◌-◌, ◌*◌, ◌/◌, ◌≤◌, ◌<◌, ◌≡◌, refl, leb, get_or}
use Rattle.std.proofs.Math.Path.{sym, ap}
use Rattle.std.proofs.Common.{◌∙◌, mul-suc, mul-add, mul-one, take_all, take-take, length-take-le, get_or-take}
use mathlib.Core.List.{List, [], ◌∷◌, ◌++◌, append_assoc, append-nil}
use Rattle.std.proofs.Math.Nat.{mul-div-le, lt-mul-div-succ, mul-div_cancel_left, div-eq_of_lt}
use native.Mathlib.Omega.{arith}
use Rattle.std.proofs.Math.ListN.{length, take, drop, length-append, take-append-drop}
use Rattle.std.proofs.Math.Seq.{take_at, drop_at}
use borrow.Author.Tests.{lt-ltb, le-ltb, leb-true, eq-eqb, ne_eqb}
use Rattle.rules.specs.declared.Table.{Table}
use Rattle.rules.specs.Checks.{Check}
use Rattle.rules.specs.Lists.{rows_to, joined}
use Rattle.rules.specs.Tables.{count_ok}
use Rattle.texts.specs.Fields.{written, line, value_of, field_at}
use Rattle.texts.specs.Sheets.{is_line, number_at}
use Rattle.theory.specs.Tests.{by_bool, by-ltb, by_eqb, and_right}
use Rattle.fields.specs.Bytes.{field_within}
use Rattle.fields.specs.Lengths.{written_long, line_long, joined_long}
use Rattle.sheet.specs.Lines.{up_down}
use Rattle.sheet.specs.RoundTrip.{Around, around}
use Rattle.unwaited.specs.OldSheets.{line_size, table_in, check_lines, read_lines, kept_of, figures_of, row_line, sheet_of, wide_row, widen_rows, rows_in, widen}
use Rattle.unwaited.proofs.Widened.{size_is, lines_more, lines_le, rows_joined, wide_first, widened_long, lines_same, column_same}

-- ---- two byte strings that begin with the same 33 bytes, read as lines of f fields and of g
module _ (a b : List ℕ) (first : take 33 a ≡ take 33 b) (la : 33 ≤ length a) (lb : 33 ≤ length b) where
  abbrev stated : ℕ
  stated = number_at b 0 1

  in_first : (c : List ℕ) → 33 ≤ length c → (p : ℕ) → p + 8 ≤ 33 → field_at c p ≡ field_at (take 33 c) p
  in_first c l p h = ap (λ (x : List ℕ). field_at x p) (sym (take-append-drop 33 c)) ∙ field_within (take 33 c) (drop 33 c) p (omega (arith, length-take-le 33 c l))

  first_field : (p : ℕ) → p + 8 ≤ 33 → field_at a p ≡ field_at b p
  first_field p h = in_first a la p h ∙ ap (λ (x : List ℕ). field_at x p) first ∙ sym (in_first b lb p h)

  first_end : get_or a 32 0 ≡ get_or b 32 0
  first_end = sym (get_or-take 33 a 32 0 (omega arith)) ∙ ap (λ (x : List ℕ). get_or x 32 0) first ∙ get_or-take 33 b 32 0 (omega arith)

  first_line : is_line a 0 4 ≡ is_line b 0 4
  unfolding is_line
  first_line =
      rw (first_field 0 (omega arith), first_field 8 (omega arith), first_field 16 (omega arith), first_field 24 (omega arith), first_end)

  first_number : (j : ℕ) → j < 4 → number_at a 0 (j + 1) ≡ number_at b 0 (j + 1)
  unfolding number_at
  first_number j h = let z : 0 + 8 * j ≡ 8 * j = omega arith in rw (up_down j, z) (ap value_of (first_field (8 * j) (omega arith)))

  count_same : number_at a 0 1 ≡ stated
  count_same = first_number 0 (omega arith)

  -- of a wrong length, both are refused alike
  pub wrong_length : (f g : ℕ) (check : Table → Check) → (stated ≤ 64 → length a ≡ 33 + line_size f * stated → ⊥)
      → (stated ≤ 64 → length b ≡ 33 + line_size g * stated → ⊥) → read_lines f check a ≡ read_lines g check b
  unfolding read_lines check_lines
  wrong_length f g check wa wb =
      let sa = le-ltb (length a) 33 la in
      let sb = le-ltb (length b) 33 lb in
      by_bool (is_line b 0 4)
      (λ e. by_bool (count_ok stated)
      (λ c.
      let few = leb-true stated 64 (and_right (leb 1 stated) (leb stated 64) c) in
      rw (sa, sb, first_line, e, count_same, c, ne_eqb (length a) (33 + line_size f * stated) (wa few), ne_eqb (length b) (33 + line_size g * stated) (wb few)))
      (λ c. rw (sa, sb, first_line, e, count_same, c)))
      (λ e. rw (sa, sb, first_line, e))

-- ---- bytes with a field more at each row
module _ (f : ℕ) (bytes : List ℕ) where
  abbrev rows : ℕ
  rows = rows_in f bytes

  rows_within : 33 ≤ length bytes → 33 + line_size f * rows ≤ length bytes
  rows_within h = omega (arith, mul-div-le (length bytes - 33) (line_size f))

  rows_most : length bytes < 33 + line_size f * rows + line_size f
  rows_most =
      let p : 0 < line_size f = omega (arith, size_is f) in
      omega (arith, lt-mul-div-succ (length bytes - 33) {b = line_size f} p, mul-add (line_size f) rows 1, mul-one (line_size f), p)

  no_rows_lem : length bytes < 33 → rows ≡ 0
  no_rows_lem h =
      let e : length bytes - 33 ≡ 0 = omega arith in
      ap (λ (n : ℕ). n / line_size f) e ∙ div-eq_of_lt (omega (arith, size_is f))

  -- fewer than 33 bytes stay as they are, and others keep their first 33
  short_widen : length bytes < 33 → widen f bytes ≡ bytes
  unfolding widen_rows
  short_widen h =
      let e : 33 + line_size f * 0 ≡ 33 = omega arith in
      ap (λ (k : ℕ). take 33 bytes ++ (joined (wide_row f bytes) (rows_to k) ++ drop (33 + line_size f * k) bytes)) (no_rows_lem h)
      ∙ ap (λ (k : ℕ). take 33 bytes ++ drop k bytes) e
      ∙ take-append-drop 33 bytes

  pub widen_first : 33 ≤ length bytes → take 33 (widen f bytes) ≡ take 33 bytes
  widen_first h = wide_first f bytes rows (rows_within h)

  -- 8 bytes longer for each row
  pub widen_long : length (widen f bytes) ≡ length bytes + 8 * rows
  widen_long =
      by-ltb (length bytes) 33
      (λ _ h. omega (arith, ap length (short_widen h), no_rows_lem h))
      (λ _ h. widened_long f bytes rows (rows_within h))

  -- of the length that their first line states, just if they were before
  length_kept : 33 ≤ length bytes → (n : ℕ) → length (widen f bytes) ≡ 33 + line_size (suc f) * n → length bytes ≡ 33 + line_size f * n
  length_kept h n e =
      by-ltb rows n
      (λ _ q. absurd (omega (arith, widen_long, lines_more f n, rows_most, mul-suc (line_size f) rows, lines_le f {k = suc rows} {n = n} q)))
      (λ _ q. by_eqb rows n
      (λ _ k. omega (arith, widen_long, lines_more f n, ap (λ (m : ℕ). line_size f * m) k, rows_within h))
      (λ _ k. absurd (omega (arith, widen_long, lines_more f n, rows_within h, lines_le f {k = n} {n = rows} q))))

-- fewer bytes than a first line has
too_short : (f : ℕ) (check : Table → Check) (bytes : List ℕ) → length bytes < 33 → read_lines (suc f) check bytes ≡ read_lines f check bytes
unfolding read_lines check_lines
too_short f check bytes h = rw (lt-ltb (length bytes) 33 h)

-- bytes of the length that their first line states
module _ (f : ℕ) (bytes : List ℕ) (long : length bytes ≡ 33 + line_size f * number_at bytes 0 1) where
  abbrev count : ℕ
  count = number_at bytes 0 1

  room : 33 + line_size f * count ≤ length bytes
  room = omega arith

  abbrev new : List ℕ
  new = widen_rows f count bytes

  new_long : length new ≡ 33 + line_size (suc f) * count
  new_long = omega (arith, widened_long f bytes count room, lines_more f count)

  first_new : take 33 new ≡ take 33 bytes
  first_new = wide_first f bytes count room

  enough : 33 ≤ length bytes
  enough = omega arith

  enough_new : 33 ≤ length new
  enough_new = omega (arith, new_long)

  table_now : table_in (suc f) new ≡ table_in f bytes
  unfolding table_in
  table_now =
      let number = first_number new bytes first_new enough_new enough in
      rw (
        number 0 (omega arith),
        number 1 (omega arith),
        number 2 (omega arith),
        number 3 (omega arith),
        column_same f bytes count room 0,
        column_same f bytes count room 1,
        column_same f bytes count room 2,
        column_same f bytes count room 3,
        column_same f bytes count room 4,
        column_same f bytes count room 5,
      )

  read_now : (check : Table → Check) → read_lines (suc f) check new ≡ read_lines f check bytes
  unfolding read_lines check_lines
  read_now check =
      rw (
        le-ltb (length new) 33 enough_new,
        le-ltb (length bytes) 33 enough,
        first_line new bytes first_new enough_new enough,
        count_same new bytes first_new enough_new enough,
        eq-eqb (length new) (33 + line_size (suc f) * count) new_long,
        eq-eqb (length bytes) (33 + line_size f * count) long,
        lines_same f bytes count room,
        table_now,
      )

  rows_stated : rows_in f bytes ≡ count
  rows_stated =
      let e : length bytes - 33 ≡ line_size f * count = omega arith in
      ap (λ (n : ℕ). n / line_size f) e ∙ mul-div_cancel_left count (omega (arith, size_is f))

-- With a field of 0 more at each row, bytes are answered as they were without it: number and table, refusals included.
pub read_wider : (f : ℕ) (check : Table → Check) (bytes : List ℕ) → read_lines (suc f) check (widen f bytes) ≡ read_lines f check bytes
read_wider f check bytes =
    by-ltb (length bytes) 33
    (λ _ h. ap (read_lines (suc f) check) (short_widen f bytes h) ∙ too_short f check bytes h)
    (λ _ h.
    by_eqb (length bytes) (33 + line_size f * number_at bytes 0 1)
    (λ _ e. ap (λ (m : ℕ). read_lines (suc f) check (widen_rows f m bytes)) (rows_stated f bytes e) ∙ read_now f bytes e check)
    (λ _ e. wrong_length (widen f bytes) bytes (widen_first f bytes h) (omega (arith, widen_long f bytes)) h (suc f) f check
    (λ _ q. e (length_kept f bytes h (number_at bytes 0 1) q)) (λ _ q. e q)))

-- so are the bytes that the program keeps of them
pub kept_wider : (f : ℕ) (check : Table → Check) (bytes : List ℕ)
    → read_lines (suc f) check (take (kept_of (suc f)) (widen f bytes)) ≡ read_lines f check (take (kept_of f) bytes)
kept_wider f check bytes =
    by-ltb (length bytes) (kept_of f)
    (λ _ h. ap (read_lines (suc f) check) (take_all (kept_of (suc f)) (widen f bytes) (whole h))
    ∙ read_wider f check bytes
    ∙ ap (read_lines f check) (sym (take_all (kept_of f) bytes (omega arith))))
    (λ _ h. long h)
  where
    more : line_size (suc f) * 64 ≡ line_size f * 64 + 8 * 64
    more = lines_more f 64

    whole : length bytes < kept_of f → length (widen f bytes) ≤ kept_of (suc f)
    whole h =
        by-ltb 64 (rows_in f bytes)
        (λ _ q. by-ltb (length bytes) 33
        (λ _ k. absurd (omega (arith, no_rows_lem f bytes k)))
        (λ _ k. absurd (omega (arith, rows_within f bytes k, lines_le f {k = 65} {n = rows_in f bytes} q, mul-suc (line_size f) 64, size_is f))))
        (λ _ q. omega (arith, widen_long f bytes, more))

    long : kept_of f ≤ length bytes → read_lines (suc f) check (take (kept_of (suc f)) (widen f bytes)) ≡ read_lines f check (take (kept_of f) bytes)
    long h =
        let a = take (kept_of (suc f)) (widen f bytes) in
        let b = take (kept_of f) bytes in
        let many : 64 ≤ rows_in f bytes = at_least h in
        let la : length a ≡ kept_of (suc f) = length-take-le (kept_of (suc f)) (widen f bytes) (omega (arith, widen_long f bytes, more)) in
        let lb : length b ≡ kept_of f = length-take-le (kept_of f) bytes h in
        let first : take 33 a ≡ take 33 b =
        take-take 33 (kept_of (suc f)) (widen f bytes) (omega arith) ∙ widen_first f bytes (omega arith) ∙ sym (take-take 33 (kept_of f) bytes (omega arith)) in
        wrong_length a b first (omega arith) (omega arith) (suc f) f check
        (λ few e. omega (arith, lines_le (suc f) {k = number_at b 0 1} {n = 64} few))
        (λ few e. omega (arith, lines_le f {k = number_at b 0 1} {n = 64} few))
      where
        at_least : kept_of f ≤ length bytes → 64 ≤ rows_in f bytes
        at_least h =
            by-ltb (rows_in f bytes) 64
            (λ _ q. absurd (omega (arith, rows_most f bytes, mul-suc (line_size f) (rows_in f bytes), lines_le f {k = suc (rows_in f bytes)} {n = 64} q)))
            (λ _ q. q)

-- ---- the line of the first f + 1 of some figures: the bytes of f fields, and before the line's end those of one more
record Parts (f : ℕ) (vs : List ℕ) : Type 0 where
  front : List ℕ
  long : length front ≡ 8 * f
  was : line (take f vs) ≡ front ++ (10 ∷ [])
  now : line (take (suc f) vs) ≡ front ++ (written (get_or vs f 0) ++ (10 ∷ []))

parts : (f : ℕ) (vs : List ℕ) → f < length vs → Parts f vs
parts f [] h = absurd (omega arith)
parts zero (v ∷ vs) h = record { front = []; long = omega arith; was = refl; now = refl }
parts (suc f) (v ∷ vs) h =
    let r = parts f vs (omega arith) in
    record {
      front = written v ++ r.front;
      long = omega (arith, length-append (written v) r.front, written_long v, r.long);
      was = ap (λ (l : List ℕ). written v ++ l) r.was ∙ sym (append_assoc (written v) r.front (10 ∷ []));
      now = ap (λ (l : List ℕ). written v ++ l) r.now ∙ sym (append_assoc (written v) r.front (written (get_or vs f 0) ++ (10 ∷ [])));
    }

-- the sheet of a table that has 0 as the next figure of every row
module _ (f : ℕ) (few : f < 6) (t : Table) (none : (i : ℕ) → get_or (figures_of t i) f 0 ≡ 0) where
  abbrev old : List ℕ
  old = sheet_of f t

  abbrev head : List ℕ
  head = line (t.n ∷ t.normal ∷ t.degraded ∷ t.loading ∷ [])

  head_long : length head ≡ 33
  head_long = line_long (t.n ∷ t.normal ∷ t.degraded ∷ t.loading ∷ [])

  cut : (i : ℕ) → Parts f (figures_of t i)
  cut i = parts f (figures_of t i) few

  old_line : (i : ℕ) → row_line f t i ≡ (cut i).front ++ (10 ∷ [])
  unfolding row_line
  old_line i = (cut i).was

  new_line : (i : ℕ) → row_line (suc f) t i ≡ (cut i).front ++ (written 0 ++ (10 ∷ []))
  unfolding row_line
  new_line i = (cut i).now ∙ ap (λ (v : ℕ). (cut i).front ++ (written v ++ (10 ∷ []))) (none i)

  row_long : (i : ℕ) → length (row_line f t i) ≡ line_size f
  row_long i = rw (old_line i) (omega (arith, length-append (cut i).front (10 ∷ []), (cut i).long, size_is f))

  old_rows : (n : ℕ) → length (joined (row_line f t) (rows_to n)) ≡ line_size f * n
  old_rows = joined_long (row_line f t) (line_size f) row_long

  pub old_long : length old ≡ 33 + line_size f * t.n
  unfolding sheet_of
  old_long = omega (arith, length-append head (joined (row_line f t) (rows_to t.n)), head_long, old_rows t.n)

  module _ (r : ℕ) (h : r < t.n) where
    aside : Around (row_line f t) r t.n
    aside = around (row_line f t) r t.n h

    abbrev above : List ℕ
    above = head ++ joined (row_line f t) (rows_to r)

    abbrev fields : List ℕ
    fields = (cut (r + 1)).front

    above_long : length above ≡ 33 + line_size f * r
    above_long = omega (arith, length-append head (joined (row_line f t) (rows_to r)), head_long, old_rows r)

    old_apart : old ≡ above ++ (fields ++ (10 ∷ aside.rest))
    unfolding sheet_of
    old_apart = rw (aside.parts, old_line (r + 1)) (simp append_assoc)

    old_from : drop (33 + line_size f * r) old ≡ fields ++ (10 ∷ aside.rest)
    old_from = rw old_apart (drop_at above (fields ++ (10 ∷ aside.rest)) (33 + line_size f * r) above_long)

    row_wider : wide_row f old (r + 1) ≡ row_line (suc f) t (r + 1)
    unfolding wide_row
    row_wider =
        rw (
          up_down r,
          old_from,
          take_at fields (10 ∷ aside.rest) (8 * f) (cut (r + 1)).long,
          drop_at fields (10 ∷ aside.rest) (8 * f) (cut (r + 1)).long,
        )
        (sym (new_line (r + 1)))

  rows_old : rows_in f old ≡ t.n
  rows_old =
      let e : length old - 33 ≡ line_size f * t.n = omega (arith, old_long) in
      ap (λ (n : ℕ). n / line_size f) e ∙ mul-div_cancel_left t.n (omega (arith, size_is f))

  pub sheet_wider : sheet_of (suc f) t ≡ widen f old
  unfolding sheet_of widen_rows
  sheet_wider =
      let lines = joined (row_line f t) (rows_to t.n) in
      let all : 33 + line_size f * t.n ≡ length old = sym old_long in
      rw (
        rows_old,
        take_at head lines 33 head_long,
        rows_joined (wide_row f old) (row_line (suc f) t) t.n (λ i a b. each i a b),
        all,
        drop_all,
        append-nil (joined (row_line (suc f) t) (rows_to t.n)),
      )
    where
      each : (i : ℕ) → 1 ≤ i → i ≤ t.n → wide_row f old i ≡ row_line (suc f) t i
      each i a b = let e : i - 1 + 1 ≡ i = omega arith in rw e at (row_wider (i - 1) (omega arith))

      drop_all : drop (length old) old ≡ []
      drop_all = ap (λ (l : List ℕ). drop (length old) l) (sym (append-nil old)) ∙ drop_at old [] (length old) refl

  pub wider_by : length (sheet_of (suc f) t) ≡ length old + 8 * t.n
  wider_by = ap length sheet_wider ∙ omega (arith, widen_long f old, rows_old)
