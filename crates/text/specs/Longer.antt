-- Whatever comes after the first 3,170 bytes of an input does not change its answer (rule 12.2): the first line lies within them,
-- and the length is wrong with and without the rest, since a sheet of 64 rows has 3,169 bytes.
use Rattle.std.specs.Prelude.{ℕ, ◌+◌, ◌*◌, ◌≤◌, ◌<◌, Bool, true, false, cond, ◌≡◌, refl, List, ◌++◌, leb, length, take, drop}
use Rattle.std.proofs.Common.{sym, ap, ◌∙◌, arith, le-ltb, leb-true, ne_eqb, take-append-drop, take_all, length-take-le}
use Rattle.std.proofs.Math.ListN.{get_or-append}
use Rattle.rules.specs.declared.Table.{Table}
use Rattle.rules.specs.declared.Refusal.TheVariants.{Length, Malformed, RowCount}
use Rattle.rules.specs.Checks.{Check, Refused}
use Rattle.rules.specs.Tables.{count_ok}
use Rattle.texts.specs.Sheets.{is_line, number_at, table_in, check_sheet, read_checked, read_of}
use Rattle.texts.specs.Program.{read_text, program_text}
use Rattle.theory.specs.Tests.{by_bool, by-leb, and_right}
use Rattle.fields.specs.Bytes.{field_within}

module _ (xs ys : List ℕ) (h : 33 ≤ length xs) where
  first_line : is_line (xs ++ ys) 0 4 ≡ is_line xs 0 4
  unfolding is_line
  first_line =
      rw (
        field_within xs ys 0 (omega arith),
        field_within xs ys 8 (omega arith),
        field_within xs ys 16 (omega arith),
        field_within xs ys 24 (omega arith),
        get_or-append xs ys 0 32 (omega arith),
      )

  first_number : number_at (xs ++ ys) 0 1 ≡ number_at xs 0 1
  unfolding number_at
  first_number = rw (field_within xs ys 0 (omega arith))

-- what bytes longer than any sheet are refused for
abbrev too_long : Bool → Bool → Check
too_long first count = cond first (cond count (Refused Length) (Refused RowCount)) (Refused Malformed)

long_check : (bytes : List ℕ) → 3169 < length bytes → check_sheet bytes ≡ too_long (is_line bytes 0 4) (count_ok (number_at bytes 0 1))
unfolding check_sheet
long_check bytes h =
    let n = number_at bytes 0 1 in
    rw (le-ltb (length bytes) 33 (omega arith))
    (by_bool (count_ok n)
    (λ e. let few : n ≤ 64 = leb-true n 64 (and_right (leb 1 n) (leb n 64) e) in rw (e, ne_eqb (length bytes) (33 + 49 * n) (λ q. omega arith)))
    (λ e. rw e))

-- a refusal comes with the table of zeros
refused_same : (first count : Bool) (t u : Table) → read_checked (too_long first count) t ≡ read_checked (too_long first count) u
refused_same true true t u = refl
refused_same true false t u = refl
refused_same false count t u = refl

longer : (bytes : List ℕ) → 3170 < length bytes → read_of (take 3170 bytes) ≡ read_of bytes
unfolding read_of
longer bytes h =
    let kept = take 3170 bytes in
    let l : length kept ≡ 3170 = length-take-le 3170 bytes (omega arith) in
    let s : kept ++ drop 3170 bytes ≡ bytes = take-append-drop 3170 bytes in
    let line : is_line bytes 0 4 ≡ is_line kept 0 4 = ap (λ (b : List ℕ). is_line b 0 4) (sym s) ∙ first_line kept (drop 3170 bytes) (omega arith) in
    let number : number_at bytes 0 1 ≡ number_at kept 0 1 = ap (λ (b : List ℕ). number_at b 0 1) (sym s) ∙ first_number kept (drop 3170 bytes) (omega arith) in
    rw (long_check kept (omega arith), long_check bytes (omega arith), line, number)
    (refused_same (is_line kept 0 4) (count_ok (number_at kept 0 1)) (table_in kept) (table_in bytes))

-- the bytes kept are answered as the whole input is
pub own_answer : (input : List ℕ) → read_of (take 3170 input) ≡ read_of input
own_answer input = by-leb (length input) 3170 (λ _ q. ap read_of (take_all 3170 input q)) (λ _ q. longer input q)

pub own_text : (input : List ℕ) → program_text input ≡ read_text (read_of input).check (read_of input).table
unfolding program_text
own_text input = rw (own_answer input)
