-- Bytes with one field of 0 more at each of their rows, where a row's line has f fields: each line is well formed just if it was before, its figures are
-- those that it had, and the new one is 0. So the table that they state is the same.
use Prim.Native.Nat.{ℕ, zero, suc, ◌+◌, ◌-◌, ◌*◌, ◌≤◌, ◌<◌}
use Rattle.std.proofs.Math.Bool.{Bool, true}
use Rattle.std.specs.Prelude.{◌≡◌, refl, List, [], ◌∷◌, ◌++◌, map, length, get_or, take, replicate}
use Rattle.std.proofs.Common.{sym, ap₂, ◌∙◌, append_assoc, mul-suc, add-mul, mul-le-mul_left, add-one, length-take, take-append-drop, drop_at, drop-drop, get_or-drop}
use Rattle.std.proofs.Math.Path.{ap}
use native.Mathlib.Omega.{arith}
use Rattle.std.proofs.Math.ListN.{drop, length-append, length-drop}
use Rattle.std.proofs.Math.Seq.{take_at, length-take-le}
use borrow.Author.Tests.{le-leb, lt-leb}
use Rattle.rules.specs.Lists.{all, rows_to, joined}
use Rattle.texts.specs.Fields.{digit_at, digit_of, written, value_of, is_field, field_at}
use Rattle.texts.specs.Sheets.{is_line, number_at}
use Rattle.checks.specs.RowLists.{all_append}
use Rattle.theory.specs.Agree.{all_agree}
use Rattle.theory.specs.Tests.{by-leb, by_eqb, and_true}
use Rattle.fields.specs.Bytes.{field_within}
use Rattle.fields.specs.Lengths.{written_long, joined_more}
use Rattle.sheet.specs.Lines.{up_down, map_append, take_zeros}
use Rattle.sheet.specs.RoundTrip.{Around, around}
use Rattle.unwaited.specs.OldSheets.{line_size, line_of, column_of, wide_row, widen_rows}

-- the field of 0: it is well formed, and its number is 0
pub zero_field : is_field (written 0) ≡ true
unfolding is_field value_of written digit_at digit_of
zero_field = refl

pub zero_value : value_of (written 0) ≡ 0
unfolding value_of written digit_at digit_of
zero_value = refl

-- how long a line is, and k lines with a field more in each
pub size_is : (f : ℕ) → line_size f ≡ 8 * f + 1
unfolding line_size
size_is f = refl

pub lines_more : (f k : ℕ) → line_size (suc f) * k ≡ line_size f * k + 8 * k
lines_more f k =
    let e : line_size (suc f) ≡ line_size f + 8 = omega (arith, size_is f, size_is (suc f)) in
    ap (λ (m : ℕ). m * k) e ∙ add-mul (line_size f) 8 k

-- the lines up to row k are not longer than those up to row n
pub lines_le : (f : ℕ) {k n : ℕ} → k ≤ n → line_size f * k ≤ line_size f * n
lines_le f h = mul-le-mul_left (line_size f) h

-- a line, and the number in one of its fields, by the bytes from it on
from_zero : (p : ℕ) → 0 + p ≡ p
from_zero p = omega arith

field_from : (bytes : List ℕ) (m p : ℕ) → field_at bytes (m + p) ≡ field_at (drop m bytes) (0 + p)
field_from bytes m p = rw (from_zero p) (ap (take 8) (sym (drop-drop p m bytes)))

line_from : (bytes : List ℕ) (m k : ℕ) → is_line bytes m k ≡ is_line (drop m bytes) 0 k
unfolding is_line
line_from bytes m k =
    rw (
      from_zero (8 * k),
      get_or-drop m bytes (8 * k) 0,
      all_agree (λ j. is_field (field_at bytes (m + 8 * (j - 1)))) (λ j. is_field (field_at (drop m bytes) (0 + 8 * (j - 1)))) (λ j. ap is_field (field_from bytes m (8 * (j - 1)))) (rows_to k),
    )

number_from : (bytes : List ℕ) (m j : ℕ) → number_at bytes m j ≡ number_at (drop m bytes) 0 j
unfolding number_at
number_from bytes m j = ap value_of (field_from bytes m (8 * (j - 1)))

-- ---- functions and tests that agree on the rows make the same of them
module _ (n : ℕ) where
  abbrev pub On : (ℕ → Type 0) → Type 0
  On p = (i : ℕ) → 1 ≤ i → i ≤ n → p i

rows_all : (p q : ℕ → Bool) (n : ℕ) → On n (λ i. p i ≡ q i) → all p (rows_to n) ≡ all q (rows_to n)
rows_all p q zero h = refl
rows_all p q (suc n) h =
    rw (
      all_append p (rows_to n) (suc n ∷ []),
      all_append q (rows_to n) (suc n ∷ []),
      rows_all p q n (λ i a b. h i a (omega arith)),
      h (suc n) (omega arith) (omega arith),
    )

rows_map : (f g : ℕ → ℕ) (n : ℕ) → On n (λ i. f i ≡ g i) → map f (rows_to n) ≡ map g (rows_to n)
rows_map f g zero h = refl
rows_map f g (suc n) h =
    rw (
      map_append f (rows_to n) (suc n ∷ []),
      map_append g (rows_to n) (suc n ∷ []),
      rows_map f g n (λ i a b. h i a (omega arith)),
      h (suc n) (omega arith) (omega arith),
    )

joined_last : (f : ℕ → List ℕ) (n : ℕ) → joined f (rows_to (suc n)) ≡ joined f (rows_to n) ++ f (suc n)
joined_last f n = rw (add-one n) at (joined_more f n)

pub rows_joined : (f g : ℕ → List ℕ) (n : ℕ) → On n (λ i. f i ≡ g i) → joined f (rows_to n) ≡ joined g (rows_to n)
rows_joined f g zero h = refl
rows_joined f g (suc n) h =
    joined_last f n
    ∙ ap₂ (λ (x y : List ℕ). x ++ y) (rows_joined f g n (λ i a b. h i a (omega arith))) (h (suc n) (omega arith) (omega arith))
    ∙ sym (joined_last g n)

-- zeros for the rows and zeros after them
zeros_padded : (l : List ℕ) (m c : ℕ) → m ≤ c → take {A = ℕ} m (map (λ _. 0) l ++ replicate c 0) ≡ replicate m 0
zeros_padded [] m c h = take_zeros m c h
zeros_padded (x ∷ l) zero c h = refl
zeros_padded (x ∷ l) (suc m) c h = rw (zeros_padded l m c (omega arith))

byte_at : (xs : List ℕ) (k : ℕ) → get_or (drop k xs) 0 0 ≡ get_or xs k 0
byte_at xs k = let e : k + 0 ≡ k = omega arith in get_or-drop k xs 0 0 ∙ ap (λ (n : ℕ). get_or xs n 0) e

first_byte : (r rest : List ℕ) → 1 ≤ length r → get_or (take 1 r ++ rest) 0 0 ≡ get_or r 0 0
first_byte [] rest h = absurd (omega arith)
first_byte (x ∷ r) rest h = refl

-- ---- a line of f fields, a, whose end is the first byte of r, and the line with the field of 0 put in before its end, which is the first byte of s
module _ (f : ℕ) (a r s : List ℕ) (long : length a ≡ 8 * f) (end : get_or s 0 0 ≡ get_or r 0 0) where
  abbrev was : List ℕ
  was = a ++ r

  abbrev now : List ℕ
  now = a ++ (written 0 ++ s)

  kept : (p : ℕ) → p + 8 ≤ 8 * f → field_at now p ≡ field_at was p
  kept p h = field_within a (written 0 ++ s) p (omega (arith, long)) ∙ sym (field_within a r p (omega (arith, long)))

  put_in : field_at now (8 * f) ≡ written 0
  put_in = ap (take 8) (drop_at a (written 0 ++ s) (8 * f) long) ∙ take_at (written 0) s 8 (written_long 0)

  end_now : get_or now (8 * suc f) 0 ≡ get_or was (8 * f) 0
  end_now =
      let e : 8 * suc f ≡ 8 * f + 8 = omega arith in
      let d : drop (8 * f + 8) now ≡ s = sym (drop-drop 8 (8 * f) now) ∙ ap (drop 8) (drop_at a (written 0 ++ s) (8 * f) long) ∙ drop_at (written 0) s 8 (written_long 0) in
      ap (λ (k : ℕ). get_or now k 0) e
      ∙ sym (byte_at now (8 * f + 8))
      ∙ ap (λ (l : List ℕ). get_or l 0 0) d
      ∙ end
      ∙ sym (ap (λ (l : List ℕ). get_or l 0 0) (drop_at a r (8 * f) long))
      ∙ byte_at was (8 * f)

  line_wider : is_line now 0 (suc f) ≡ is_line was 0 f
  unfolding is_line
  line_wider =
      let p : ℕ → Bool = λ j. is_field (field_at now (0 + 8 * (j - 1))) in
      let q : ℕ → Bool = λ j. is_field (field_at was (0 + 8 * (j - 1))) in
      let e : 0 + 8 * (suc f - 1) ≡ 8 * f = omega arith in
      let new : p (suc f) ≡ true = ap (λ (k : ℕ). is_field (field_at now k)) e ∙ ap is_field put_in ∙ zero_field in
      rw (
        all_append p (rows_to f) (suc f ∷ []),
        rows_all p q f (λ j c d. rw (from_zero (8 * (j - 1))) (ap is_field (kept (8 * (j - 1)) (omega arith)))),
        new,
        and_true,
        from_zero (8 * f),
        from_zero (8 * suc f),
        end_now,
      )

  number_kept : (j : ℕ) → j < f → number_at now 0 (j + 1) ≡ number_at was 0 (j + 1)
  unfolding number_at
  number_kept j h = rw (up_down j, from_zero (8 * j)) (ap value_of (kept (8 * j) (omega arith)))

  number_put : number_at now 0 (f + 1) ≡ 0
  unfolding number_at
  number_put = rw (up_down f, from_zero (8 * f)) (ap value_of put_in ∙ zero_value)

-- ---- bytes of k rows, with the field put in at each of them
module _ (f : ℕ) (bytes : List ℕ) (k : ℕ) (long : 33 + line_size f * k ≤ length bytes) where
  abbrev wide : List ℕ
  wide = widen_rows f k bytes

  pub wide_first : take 33 wide ≡ take 33 bytes
  unfolding widen_rows
  wide_first = take_at (take 33 bytes) _ 33 (length-take-le 33 bytes (omega arith))

  -- the row at index r: its line before, from its first byte on
  module _ (r : ℕ) (h : r < k) where
    abbrev row : List ℕ
    row = drop (33 + line_size f * r) bytes

    row_length : 8 * f + 1 ≤ length row
    row_length =
        omega (arith, length-drop (33 + line_size f * r) bytes, size_is f, mul-suc (line_size f) r, lines_le f {k = suc r} {n = k} h)

    wide_is : wide_row f bytes (r + 1) ≡ take (8 * f) row ++ (written 0 ++ take 1 (drop (8 * f) row))
    unfolding wide_row
    wide_is = rw (up_down r)

    wide_long : length (wide_row f bytes (r + 1)) ≡ line_size (suc f)
    wide_long =
        rw wide_is
        (omega (
          arith,
          size_is (suc f),
          row_length,
          length-append (take (8 * f) row) (written 0 ++ take 1 (drop (8 * f) row)),
          length-append (written 0) (take 1 (drop (8 * f) row)),
          written_long 0,
          length-take (8 * f) row,
          length-take 1 (drop (8 * f) row),
          length-drop (8 * f) row,
        ))

  rows_long : (r : ℕ) → r ≤ k → length (joined (wide_row f bytes) (rows_to r)) ≡ line_size (suc f) * r
  rows_long zero h = omega arith
  rows_long (suc r) h =
      let w : length (wide_row f bytes (suc r)) ≡ line_size (suc f) = rw (add-one r) at (wide_long r (omega arith)) in
      ap length (joined_last (wide_row f bytes) r)
      ∙ omega (
        arith,
        length-append (joined (wide_row f bytes) (rows_to r)) (wide_row f bytes (suc r)),
        rows_long r (omega arith),
        mul-suc (line_size (suc f)) r,
      )

  pub widened_long : length wide ≡ length bytes + 8 * k
  unfolding widen_rows
  widened_long =
      let rows = joined (wide_row f bytes) (rows_to k) in
      omega (
        arith,
        length-append (take 33 bytes) (rows ++ drop (33 + line_size f * k) bytes),
        length-append rows (drop (33 + line_size f * k) bytes),
        length-take-le 33 bytes (omega arith),
        rows_long k (omega arith),
        lines_more f k,
        length-drop (33 + line_size f * k) bytes,
      )

  module _ (r : ℕ) (h : r < k) where
    apart : Around (wide_row f bytes) r k
    apart = around (wide_row f bytes) r k h

    abbrev front : List ℕ
    front = take 33 bytes ++ joined (wide_row f bytes) (rows_to r)

    abbrev rest : List ℕ
    rest = apart.rest ++ drop (33 + line_size f * k) bytes

    front_long : length front ≡ 33 + line_size (suc f) * r
    front_long =
        omega (
          arith,
          length-append (take 33 bytes) (joined (wide_row f bytes) (rows_to r)),
          length-take-le 33 bytes (omega arith),
          rows_long r (omega arith),
        )

    whole : wide ≡ front ++ (wide_row f bytes (r + 1) ++ rest)
    unfolding widen_rows
    whole = rw apart.parts (simp append_assoc)

    old_row : take (8 * f) (row r h) ++ drop (8 * f) (row r h) ≡ row r h
    old_row = take-append-drop (8 * f) (row r h)

    -- from its line on: f fields, the field of 0, the line's end
    row_now : drop (33 + line_size (suc f) * r) wide ≡ take (8 * f) (row r h) ++ (written 0 ++ (take 1 (drop (8 * f) (row r h)) ++ rest))
    row_now = rw whole (drop_at front (wide_row f bytes (r + 1) ++ rest) (33 + line_size (suc f) * r) front_long ∙ rw (wide_is r h) (simp append_assoc))

    fields_long : length (take (8 * f) (row r h)) ≡ 8 * f
    fields_long = length-take-le (8 * f) (row r h) (omega (arith, row_length r h))

    same_end : get_or (take 1 (drop (8 * f) (row r h)) ++ rest) 0 0 ≡ get_or (drop (8 * f) (row r h)) 0 0
    same_end = first_byte (drop (8 * f) (row r h)) rest (omega (arith, row_length r h, length-drop (8 * f) (row r h)))

    line_now : is_line wide (33 + line_size (suc f) * r) (suc f) ≡ is_line bytes (33 + line_size f * r) f
    line_now =
        line_from wide (33 + line_size (suc f) * r) (suc f)
        ∙ ap (λ (l : List ℕ). is_line l 0 (suc f)) row_now
        ∙ line_wider f (take (8 * f) (row r h)) (drop (8 * f) (row r h)) (take 1 (drop (8 * f) (row r h)) ++ rest) fields_long same_end
        ∙ ap (λ (l : List ℕ). is_line l 0 f) old_row
        ∙ sym (line_from bytes (33 + line_size f * r) f)

    number_now : (j : ℕ) → j < f → number_at wide (33 + line_size (suc f) * r) (j + 1) ≡ number_at bytes (33 + line_size f * r) (j + 1)
    number_now j g =
        number_from wide (33 + line_size (suc f) * r) (j + 1)
        ∙ ap (λ (l : List ℕ). number_at l 0 (j + 1)) row_now
        ∙ number_kept f (take (8 * f) (row r h)) (drop (8 * f) (row r h)) (take 1 (drop (8 * f) (row r h)) ++ rest) fields_long same_end j g
        ∙ ap (λ (l : List ℕ). number_at l 0 (j + 1)) old_row
        ∙ sym (number_from bytes (33 + line_size f * r) (j + 1))

    number_zero : number_at wide (33 + line_size (suc f) * r) (f + 1) ≡ 0
    number_zero =
        number_from wide (33 + line_size (suc f) * r) (f + 1)
        ∙ ap (λ (l : List ℕ). number_at l 0 (f + 1)) row_now
        ∙ number_put f (take (8 * f) (row r h)) (drop (8 * f) (row r h)) (take 1 (drop (8 * f) (row r h)) ++ rest) fields_long same_end

  pub lines_same : all (λ i. is_line wide (line_of (suc f) i) (suc f)) (rows_to k) ≡ all (λ i. is_line bytes (line_of f i) f) (rows_to k)
  lines_same = rows_all (λ i. is_line wide (line_of (suc f) i) (suc f)) (λ i. is_line bytes (line_of f i) f) k (λ i a b. line_now (i - 1) (omega arith))

  -- the columns: those of the f figures are as they were, the next is zeros, and so is what no line has
  pub column_same : (j : ℕ) → column_of (suc f) wide k (j + 1) ≡ column_of f bytes k (j + 1)
  unfolding column_of
  column_same j =
      by-leb (suc j) f
      (λ _ h. rw (
        le-leb (j + 1) (suc f) (omega arith),
        le-leb (j + 1) f (omega arith),
        rows_map (λ i. number_at wide (line_of (suc f) i) (j + 1)) (λ i. number_at bytes (line_of f i) (j + 1)) k (λ i a b. number_now (i - 1) (omega arith) j h),
      ))
      (λ _ h. by_eqb j f
      (λ _ q. rw (
        q,
        le-leb (f + 1) (suc f) (omega arith),
        lt-leb (f + 1) f (omega arith),
        rows_map (λ i. number_at wide (line_of (suc f) i) (f + 1)) (λ _. 0) k (λ i a b. number_zero (i - 1) (omega arith)),
      )
      (zeros_padded (rows_to k) 64 64 (omega arith)))
      (λ _ q. rw (lt-leb (j + 1) (suc f) (omega arith), lt-leb (j + 1) f (omega arith))))
