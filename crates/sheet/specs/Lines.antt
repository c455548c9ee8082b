-- Fields, lines and columns as the reader walks them.
use Rattle.std.specs.Prelude.{ℕ, zero, suc, ◌+◌, ◌-◌, ◌*◌, ◌≤◌, ◌<◌, Bool, List, [], ◌∷◌, ◌++◌, map, ◌≡◌, refl, eqb, length, get_or, take, set, replicate}
use Rattle.std.proofs.Math.Bool.{true, false}
use Rattle.std.proofs.Common.{◌∙◌, add-one, arith}
use Rattle.std.proofs.lemmas.List.{length-map}
use Rattle.rules.specs.Lists.{all, rows_to}
use Rattle.texts.specs.Fields.{is_field, field_at}
use Rattle.texts.specs.Sheets.{is_line, number_at, line_of, column_of}
use Rattle.checks.specs.RowLists.{all_rows_more, all_rows_fail, all_rows_each}
use Rattle.theory.specs.Places.{length_rows}
use Rattle.theory.specs.Tests.{and_left}

-- ---- k fields of a line from byte start on
abbrev pub fields_ok : List ℕ → ℕ → ℕ → Bool
fields_ok bytes start k = all (λ j. is_field (field_at bytes (start + 8 * (j - 1)))) (rows_to k)

pub up_down : (k : ℕ) → k + 1 - 1 ≡ k
up_down k = omega arith

module _ (bytes : List ℕ) (start : ℕ) where
  abbrev well_formed : ℕ → Bool
  well_formed j = is_field (field_at bytes (start + 8 * (j - 1)))

  nth_field : (j : ℕ) (b : Bool) → is_field (field_at bytes (start + 8 * j)) ≡ b → well_formed (j + 1) ≡ b
  nth_field j b e = rw up_down e

  pub fields_go : (j : ℕ) → fields_ok bytes start j ≡ true → is_field (field_at bytes (start + 8 * j)) ≡ true → fields_ok bytes start (j + 1) ≡ true
  fields_go j e f = all_rows_more well_formed j ∙ rw e (nth_field j true f)

  pub fields_stop : (j k : ℕ) → j < k → is_field (field_at bytes (start + 8 * j)) ≡ false → is_line bytes start k ≡ false
  unfolding is_line
  fields_stop j k h f = rw (all_rows_fail well_formed j k h (nth_field j false f))

  pub fields_end : (j k : ℕ) → j ≡ k → fields_ok bytes start j ≡ true → is_line bytes start k ≡ eqb (get_or bytes (start + 8 * k) 0) 10
  unfolding is_line
  fields_end j k q e = let f : fields_ok bytes start k ≡ true = rw q at e in rw f

  pub line_field : (j k : ℕ) → is_line bytes start k ≡ true → j < k → is_field (field_at bytes (start + 8 * j)) ≡ true
  unfolding is_line
  line_field j k e h =
      let p = all_rows_each well_formed j k (and_left (fields_ok bytes start k) (eqb (get_or bytes (start + 8 * k) 0) 10) e) h in
      rw up_down at p

-- ---- the lines of the first n rows
abbrev pub lines_ok : List ℕ → ℕ → Bool
lines_ok bytes n = all (λ i. is_line bytes (line_of i) 6) (rows_to n)

-- bytes as long as a first line and n lines of rows, which are well formed (rule 6.7)
pub record Lined (bytes : List ℕ) (n : ℕ) : Type 0 where
  pub few : n ≤ 64
  pub long : length bytes ≡ 33 + 49 * n
  pub lines : lines_ok bytes n ≡ true

module _ (bytes : List ℕ) where
  abbrev line_ok : ℕ → Bool
  line_ok i = is_line bytes (line_of i) 6

  nth_line : (i : ℕ) (b : Bool) → is_line bytes (33 + 49 * i) 6 ≡ b → line_ok (i + 1) ≡ b
  nth_line i b e = rw up_down e

  pub lines_go : (i : ℕ) → lines_ok bytes i ≡ true → is_line bytes (33 + 49 * i) 6 ≡ true → lines_ok bytes (i + 1) ≡ true
  lines_go i e f = all_rows_more line_ok i ∙ rw e (nth_line i true f)

  pub lines_stop : (i n : ℕ) → i < n → is_line bytes (33 + 49 * i) 6 ≡ false → lines_ok bytes n ≡ false
  lines_stop i n h f = all_rows_fail line_ok i n h (nth_line i false f)

  pub lines_line : (i n : ℕ) → lines_ok bytes n ≡ true → i < n → is_line bytes (33 + 49 * i) 6 ≡ true
  lines_line i n e h = let p = all_rows_each line_ok i n e h in rw up_down at p

-- ---- a column's figures, one row more at a time
pub map_append : (f : ℕ → ℕ) (xs ys : List ℕ) → map f (xs ++ ys) ≡ map f xs ++ map f ys
map_append f [] ys = refl
map_append f (x ∷ xs) ys = rw (map_append f xs ys)

-- the first m of c zeros
pub take_zeros : (m c : ℕ) → m ≤ c → take {A = ℕ} m (replicate c 0) ≡ replicate m 0
take_zeros zero c h = refl
take_zeros (suc m) zero h = absurd (omega arith)
take_zeros (suc m) (suc c) h = rw (take_zeros m c (omega arith))

-- m figures of which the first i are known, and zeros: figure i more
padded_more : (xs : List ℕ) (m c i x : ℕ) → length xs ≡ i → i < m → m ≤ c
    → take m ((xs ++ (x ∷ [])) ++ replicate c 0) ≡ set (take m (xs ++ replicate c 0)) i x
padded_more [] zero c i x l h k = absurd (omega arith)
padded_more [] (suc m) zero i x l h k = absurd (omega arith)
padded_more [] (suc m) (suc c) zero x l h k = rw (take_zeros m c (omega arith), take_zeros m (suc c) (omega arith))
padded_more [] (suc m) (suc c) (suc i) x l h k = absurd (omega arith)
padded_more (y ∷ xs) zero c i x l h k = absurd (omega arith)
padded_more (y ∷ xs) (suc m) c zero x l h k = absurd (omega arith)
padded_more (y ∷ xs) (suc m) c (suc i) x l h k = rw (padded_more xs m c i x (omega arith) (omega arith) (omega arith))

pub column_more : (bytes : List ℕ) (i j : ℕ) → i < 64 → column_of bytes (i + 1) j ≡ set (column_of bytes i j) i (number_at bytes (33 + 49 * i) j)
unfolding column_of
column_more bytes i j h =
    let e : suc i - 1 ≡ i = omega arith in
    let l : length (map (λ r. number_at bytes (line_of r) j) (rows_to i)) ≡ i = length-map (rows_to i) (λ r. number_at bytes (line_of r) j) ∙ length_rows i in
    rw (add-one, map_append (λ r. number_at bytes (line_of r) j) (rows_to i) (suc i ∷ []), e)
    (padded_more (map (λ r. number_at bytes (line_of r) j) (rows_to i)) 64 64 i (number_at bytes (33 + 49 * i) j) l h (omega arith))

pub column_start : (bytes : List ℕ) (j : ℕ) → replicate 64 0 ≡ column_of bytes 0 j
unfolding column_of
column_start bytes j = refl
