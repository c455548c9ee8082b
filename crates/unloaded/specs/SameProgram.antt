-- The program's text for any input with the fields of K = 0, r = 0 and w = 0 put in is that of the program from before loading (rules 12.1, 12.2, 17.2).
use Rattle.std.specs.Prelude.{ℕ, ◌+◌, ◌≤◌, true, List, ◌++◌, ◌≡◌, refl, length, take, drop, Ok, Err}
use Rattle.std.proofs.Common.{sym, ap, ap₂, ◌∙◌, arith, take-append-drop, take_all, take-take, drop_at, length-take-le}
use Rattle.std.proofs.Math.Seq.{take-append-add}
use Rattle.rules.specs.declared.Table.{Table}
use Rattle.rules.specs.Checks.{Check}
use Rattle.rules.specs.Lists.{all_zero}
use Rattle.rules.specs.Tables.{zero_table}
use Rattle.texts.specs.Fields.{written}
use Rattle.texts.specs.Program.{program_text}
use Rattle.texts.specs.Sheets.{read_checked}
use Rattle.theory.specs.Tests.{by-ltb}
use Rattle.fields.specs.Lengths.{written_long}
use Rattle.unwaited.specs.OldSheets.{line_size, widen}
use Rattle.unwaited.specs.OldTexts as Texts
use Rattle.unwaited.proofs.SameTexts.{text_between}
use Rattle.unwaited.specs.Unwaited.{Before}
use Rattle.unpromised.specs.Same.{own}
use Rattle.unpromised.specs.SameTexts as Since
use Rattle.unpromised.specs.Unpromised.{with_loading}
use Rattle.unloaded.specs.OldSheets.{with_field}
use Rattle.unloaded.specs.OldSheets as Old
use Rattle.unloaded.specs.Same.{before}
use Rattle.unloaded.specs.SameSheets.{field_long, then_read}
use Rattle.unloaded.specs.Unloaded.{without}

take_after : (a b : List ℕ) (n m : ℕ) → length a ≡ n → take (n + m) (a ++ b) ≡ a ++ take m b
take_after a b n m h = ap (λ (k : ℕ). take (k + m) (a ++ b)) (sym h) ∙ take-append-add a b m

-- the bytes that the program kept of an input with the field of K = 0 are those that it kept without it, with the field
kept_field : (bytes : List ℕ) → take 2146 (with_field bytes) ≡ with_field (take 2138 bytes)
unfolding with_field
kept_field bytes =
    by-ltb (length bytes) 24
    (λ _ h. short (omega arith))
    (λ _ h. long (length-take-le 24 bytes h))
  where
    field : List ℕ
    field = written 0 ++ drop 24 bytes

    size : length (take 24 bytes ++ field) ≡ length bytes + 8
    size = field_long bytes

    short : length bytes ≤ 2138 → take 2146 (take 24 bytes ++ field) ≡ take 24 (take 2138 bytes) ++ (written 0 ++ drop 24 (take 2138 bytes))
    short h =
        take_all 2146 (take 24 bytes ++ field) (omega (arith, size))
        ∙ ap (λ (l : List ℕ). take 24 l ++ (written 0 ++ drop 24 l)) (sym (take_all 2138 bytes h))

    rest_kept : length (take 24 bytes) ≡ 24 → drop 24 (take 2138 bytes) ≡ take 2114 (drop 24 bytes)
    rest_kept h =
        ap (λ (l : List ℕ). drop 24 (take 2138 l)) (sym (take-append-drop 24 bytes))
        ∙ ap (drop 24) (take_after (take 24 bytes) (drop 24 bytes) 24 2114 h)
        ∙ drop_at (take 24 bytes) (take 2114 (drop 24 bytes)) 24 h

    long : length (take 24 bytes) ≡ 24 → take 2146 (take 24 bytes ++ field) ≡ take 24 (take 2138 bytes) ++ (written 0 ++ drop 24 (take 2138 bytes))
    long h =
        take_after (take 24 bytes) field 24 2122 h
        ∙ ap (λ (l : List ℕ). take 24 bytes ++ l) (take_after (written 0) (drop 24 bytes) 8 2114 (written_long 0))
        ∙ ap₂ (λ (l m : List ℕ). l ++ (written 0 ++ m)) (sym (take-take 24 2138 bytes (omega arith))) (sym (rest_kept h))

-- every table that the old reader answers is one of before, without loading and with it
both_before : (bytes : List ℕ) → let t = (Old.read_of bytes).table in Before with_loading t × Before without t
unfolding Old.read_of Old.table_in
both_before bytes = by (Old.check_sheet bytes)
  where
    both : (t : Table) → t.loading ≡ 0 → all_zero t.promised ≡ true → all_zero t.follows ≡ true → Before with_loading t × Before without t
    both t none nothing free = (own t nothing free, before t none nothing free)

    by : (c : Check) → let t = (read_checked c (Old.table_in bytes)).table in Before with_loading t × Before without t
    by (Ok tt) = both (Old.table_in bytes) refl refl refl
    by (Err r) = both zero_table refl refl refl

then_program : (bytes : List ℕ) → Texts.program_text with_loading (with_field bytes) ≡ Old.program_text bytes
unfolding line_size Texts.program_text Old.program_text
then_program bytes =
    let kept = take 2138 bytes in
    let t = (Old.read_of kept).table in
    let b = both_before kept in
    rw (kept_field bytes, then_read kept) (text_between with_loading without t b.0 b.1 (Old.read_of kept).check)

pub program_same : (bytes : List ℕ) → program_text (widen 5 (widen 4 (with_field bytes))) ≡ Old.program_text bytes
program_same bytes = Since.program_same (with_field bytes) ∙ then_program bytes
