-- Two accepted sheets that state the same table are the same bytes: a well-formed field is its value, written.
use Prim.Native.Nat.{ℕ, zero, suc, ◌+◌, ◌-◌, ◌*◌, ◌/◌, ◌%◌, ◌≤◌, ◌<◌}
use Rattle.std.specs.Prelude.{true, List, [], ◌∷◌, ◌++◌, map, ◌≡◌, refl, eqb, leb, ltb, length, get_or, replicate}
use Rattle.std.proofs.Common.{sym, ◌∙◌, add-one, length-take, length-append, get_or-take, get_or-append-add, ext_get_or, get_or-set_same, get_or-set_other}
use Rattle.std.proofs.Math.Path.{ap}
use native.Mathlib.Omega.{arith}
use borrow.Author.Tests.{leb-true, eqb-true}
use Rattle.std.proofs.lemmas.List.{length-map, length-replicate}
use Rattle.rules.specs.declared.Table.{Table}
use Rattle.rules.specs.Checks.{Passed}
use Rattle.rules.specs.Lists.{all, same, rows_to}
use Rattle.rules.specs.Tables.{count_ok, Accepted}
use Rattle.texts.specs.Fields.{written, value_of, is_field, field_at}
use Rattle.texts.specs.Sheets.{is_line, number_at, line_of, column_of, table_in, check_sheet}
use Rattle.theory.specs.Places.{length_rows}
use Rattle.theory.specs.Facts.{clash}
use Rattle.theory.specs.Tests.{by_bool, by-ltb, by_eqb, and_left, and_right}
use Rattle.fields.specs.Bytes.{field_byte}
use Rattle.sheet.specs.Lines.{lines_ok, line_field, lines_line, column_more, up_down}

-- ---- fields and lines
pub same_eq : (xs ys : List ℕ) → same xs ys ≡ true → xs ≡ ys
same_eq [] [] e = refl
same_eq [] (y ∷ ys) e = let z : ◌≡◌ {A = ℕ} 0 1 = cc in absurd (omega arith)
same_eq (x ∷ xs) [] e = let z : ◌≡◌ {A = ℕ} 0 1 = cc in absurd (omega arith)
same_eq (x ∷ xs) (y ∷ ys) e =
    let h : x ≡ y = eqb-true x y (and_left (eqb x y) (same xs ys) e) in
    let t : xs ≡ ys = same_eq xs ys (and_right (eqb x y) (same xs ys) e) in
    cc

same_field : (f g : List ℕ) → is_field f ≡ true → is_field g ≡ true → value_of f ≡ value_of g → f ≡ g
unfolding is_field
same_field f g p q e = same_eq f (written (value_of f)) p ∙ ap written e ∙ sym (same_eq g (written (value_of g)) q)

module _ (a b : List ℕ) (start k : ℕ) (la : is_line a start k ≡ true) (lb : is_line b start k ≡ true)
    (e : (j : ℕ) → j < k → number_at a start (j + 1) ≡ number_at b start (j + 1)) where
  in_field : (p : ℕ) → p < 8 * k → get_or a (start + p) 0 ≡ get_or b (start + p) 0
  unfolding number_at
  in_field p h =
      let j = p / 8 in
      let i = p % 8 in
      let below : j < k = omega arith in
      let at : start + 8 * j + i ≡ start + p = omega arith in
      let v : value_of (field_at a (start + 8 * j)) ≡ value_of (field_at b (start + 8 * j)) = rw (up_down j) at (e j below) in
      let f = same_field (field_at a (start + 8 * j)) (field_at b (start + 8 * j)) (line_field a start j k la below) (line_field b start j k lb below) v in
      rw (← at, ← field_byte a (start + 8 * j) i (omega arith), ← field_byte b (start + 8 * j) i (omega arith), f)

  line_end : (c : List ℕ) → is_line c start k ≡ true → get_or c (start + 8 * k) 0 ≡ 10
  unfolding is_line
  line_end c l =
      eqb-true (get_or c (start + 8 * k) 0) 10 (and_right (all (λ j. is_field (field_at c (start + 8 * (j - 1)))) (rows_to k)) (eqb (get_or c (start + 8 * k) 0) 10) l)

  same_line : (p : ℕ) → p ≤ 8 * k → get_or a (start + p) 0 ≡ get_or b (start + p) 0
  same_line p h =
      by-ltb p (8 * k)
      (λ _ h'. in_field p h')
      (λ _ h'. let q : p ≡ 8 * k = omega arith in rw (q, line_end a la, line_end b lb))

-- ---- columns
pub column_long : (bytes : List ℕ) (n j : ℕ) → length (column_of bytes n j) ≡ 64
unfolding column_of
column_long bytes n j = simp (length-take, length-append, length-replicate) (omega arith)

pub column_at_lem : (bytes : List ℕ) (n j i : ℕ) → n ≤ 64 → i < n → get_or (column_of bytes n j) i 0 ≡ number_at bytes (33 + 49 * i) j
column_at_lem bytes zero j i h k = absurd (omega arith)
column_at_lem bytes (suc m) j i h k =
    let l = column_long bytes m j in
    rw (← add-one m, column_more bytes m j (omega arith))
    (by_eqb i m
    (λ _ q. rw (q, get_or-set_same (column_of bytes m j) m (number_at bytes (33 + 49 * m) j) 0 (omega arith)))
    (λ _ q. rw (get_or-set_other (column_of bytes m j) m i (number_at bytes (33 + 49 * m) j) 0 q) (column_at_lem bytes m j i (omega arith) (omega arith))))

zero_entry : (m i : ℕ) → get_or {A = ℕ} (replicate m 0) i 0 ≡ 0
zero_entry zero i = refl
zero_entry (suc m) zero = refl
zero_entry (suc m) (suc i) = zero_entry m i

pub column_zero : (bytes : List ℕ) (n j i : ℕ) → n ≤ i → i < 64 → get_or (column_of bytes n j) i 0 ≡ 0
unfolding column_of
column_zero bytes n j i h k =
    let figures = map (λ r. number_at bytes (line_of r) j) (rows_to n) in
    let e : i ≡ length figures + (i - n) = simp length-map (omega (arith, length_rows n)) in
    get_or-take 64 (figures ++ replicate 64 0) i 0 k
    ∙ ap (λ (p : ℕ). get_or (figures ++ replicate 64 0) p 0) e
    ∙ get_or-append-add figures (replicate 64 0) (i - n) 0
    ∙ zero_entry 64 (i - n)

-- ---- what an accepted sheet holds
pub record Accepts (bytes : List ℕ) : Type 0 where
  pub first : is_line bytes 0 4 ≡ true
  pub few : number_at bytes 0 1 ≤ 64
  pub long : length bytes ≡ 33 + 49 * number_at bytes 0 1
  pub lines : lines_ok bytes (number_at bytes 0 1) ≡ true
  pub accepted : Accepted (table_in bytes)

pub accepts : (bytes : List ℕ) → check_sheet bytes ≡ Passed → Accepts bytes
unfolding check_sheet
accepts bytes e =
    let n = number_at bytes 0 1 in
    by_bool (ltb (length bytes) 33)
    (λ t. clash (rw t at e))
    (λ t.
    by_bool (is_line bytes 0 4)
    (λ f.
    by_bool (count_ok n)
    (λ c.
    by_bool (eqb (length bytes) (33 + 49 * n))
    (λ l.
    by_bool (lines_ok bytes n)
    (λ m. record {
      first = f;
      few = leb-true n 64 (and_right (leb 1 n) (leb n 64) c);
      long = eqb-true (length bytes) (33 + 49 * n) l;
      lines = m;
      accepted = rw (t, f, c, l, m) at e;
    })
    (λ m. clash (rw (t, f, c, l, m) at e)))
    (λ l. clash (rw (t, f, c, l) at e)))
    (λ c. clash (rw (t, f, c) at e)))
    (λ f. clash (rw (t, f) at e)))

-- ---- the theorem
module _ (a b : List ℕ) (e : table_in a ≡ table_in b) where
  same_count : number_at a 0 1 ≡ number_at b 0 1
  unfolding table_in
  same_count = ap (λ (t : Table). t.n) e

  same_head : (j : ℕ) → j < 4 → number_at a 0 (j + 1) ≡ number_at b 0 (j + 1)
  unfolding table_in
  same_head zero h = ap (λ (t : Table). t.n) e
  same_head (suc zero) h = ap (λ (t : Table). t.normal) e
  same_head (suc (suc zero)) h = ap (λ (t : Table). t.degraded) e
  same_head (suc (suc (suc zero))) h = ap (λ (t : Table). t.loading) e
  same_head (suc (suc (suc (suc j)))) h = absurd (omega arith)

  same_column : (j : ℕ) → j < 6 → column_of a (number_at a 0 1) (j + 1) ≡ column_of b (number_at b 0 1) (j + 1)
  unfolding table_in
  same_column zero h = ap (λ (t : Table). t.release) e
  same_column (suc zero) h = ap (λ (t : Table). t.work) e
  same_column (suc (suc zero)) h = ap (λ (t : Table). t.deadline) e
  same_column (suc (suc (suc zero))) h = ap (λ (t : Table). t.level) e
  same_column (suc (suc (suc (suc zero)))) h = ap (λ (t : Table). t.promised) e
  same_column (suc (suc (suc (suc (suc zero))))) h = ap (λ (t : Table). t.follows) e
  same_column (suc (suc (suc (suc (suc (suc j)))))) h = absurd (omega arith)

  same_row : Accepts a → Accepts b → (i : ℕ) → i < number_at a 0 1 → (j : ℕ) → j < 6 → number_at a (33 + 49 * i) (j + 1) ≡ number_at b (33 + 49 * i) (j + 1)
  same_row ga gb i h j k =
      let n = same_count in
      sym (column_at_lem a (number_at a 0 1) (j + 1) i ga.few h)
      ∙ ap (λ (xs : List ℕ). get_or xs i 0) (same_column j k)
      ∙ column_at_lem b (number_at b 0 1) (j + 1) i gb.few (omega arith)

  same_bytes : Accepts a → Accepts b → (i : ℕ) → i < length a → get_or a i 0 ≡ get_or b i 0
  same_bytes ga gb i h =
      let n = same_count in
      by-ltb i 33
      (λ _ k.
      let at : 0 + i ≡ i = omega arith in
      rw at at (same_line a b 0 4 ga.first gb.first same_head i (omega arith)))
      (λ _ k.
      let r = (i - 33) / 49 in
      let p = (i - 33) % 49 in
      let row : r < number_at a 0 1 = omega (arith, ga.long) in
      let row' : r < number_at b 0 1 = omega arith in
      let at : 33 + 49 * r + p ≡ i = omega arith in
      rw at at
      (same_line a b (33 + 49 * r) 6
      (lines_line a r (number_at a 0 1) ga.lines row)
      (lines_line b r (number_at b 0 1) gb.lines row')
      (same_row ga gb r row)
      p (omega arith)))

-- different bytes that are both accepted state different tables
pub sheets_differ : (a b : List ℕ) → check_sheet a ≡ Passed → check_sheet b ≡ Passed → table_in a ≡ table_in b → a ≡ b
sheets_differ a b p q e =
    let ga = accepts a p in
    let gb = accepts b q in
    let n = same_count a b e in
    ext_get_or 0 a b (omega (arith, ga.long, gb.long)) (same_bytes a b e ga gb)
