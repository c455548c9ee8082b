-- The table author's conclusions about the writer, from its definition and the theorems on reading and writing.
use Rattle.std.specs.Prelude.{ℕ, List, ◌++◌, ◌≡◌, length, get_or, Ok, Err}
use Rattle.std.proofs.Math.Path.{refl, sym, ap}
use Rattle.std.proofs.Common.{◌∙◌, arith}
use Rattle.std.proofs.Math.ListN.{take, drop, length-append, length-drop}
use Rattle.std.proofs.Math.Seq.{take_at, drop_at}
use Rattle.rules.specs.declared.Table.{Table}
use Rattle.rules.specs.declared.Refusal.{Refusal}
use Rattle.rules.specs.declared.Refusal.TheVariants.{RowCount}
use Rattle.rules.specs.declared.Reading.{Reading}
use Rattle.rules.specs.Checks.{Check, Passed, Refused}
use Rattle.rules.specs.Numbers.{refusal_number, check_number}
use Rattle.rules.specs.Tables.{check_table, Accepted, FullTable, zero_table}
use Rattle.texts.specs.Fields.{fits_field, written}
use Rattle.texts.specs.Lent.{WrittenBack, write_checked}
use Rattle.texts.specs.Sheets as Sheets
use Rattle.texts.specs.Sheets.{number_at, check_sheet, read_checked, read_of, sheet_of, check_write, write_of}
use Rattle.theory.specs.Tests.{by-ltb}
use Rattle.fields.specs.Values.{value_written, field_written, last_digits}
use Rattle.fields.specs.Lengths.{written_long}
use Rattle.planner.specs.Promise.{refusal_number_lem}
use Rattle.sheet.specs.SheetsDiffer.{accepts}
use Rattle.sheet.specs.RoundTrip.{read_back_lem, sheet_back, only_sheet, table_full}
use Rattle.sheet.specs.Writer.{sheet_long, passes, fits, back_refused, back_passed}
use Rattle.jasminebrace.specs.Finishes.{yes_word}
use Rattle.words.specs.Words.{table_in, words_of}
use Rattle.words.specs.Inverse.{words_of_table_in, table_in_words_of}
use Rattle.conclusions.specs.declared.Again.{Again}
use Rattle.conclusions.specs.Author.{passed_check}
use Rattle.conclusions.specs.Entries.{full_table}
use Rattle.conclusions.specs.Refusals.{not_later}
use Rattle.conclusions.specs.Rooms.{ten_is, own_is}
use Rattle.conclusions.specs.Conclusions.{SheetBack, SheetAgain, NumberField}

-- ---- the numbers of the writer's checks
-- the table's own refusals are not 10
pub table_not_ten : (t : Table) → check_number (check_table t) ≡ 10 → ⊥
table_not_ten t = not_later t 10 (omega arith) (omega arith)

not_passed : (r : Refusal) → check_number (Refused r) ≡ 0 → ⊥
unfolding check_number
not_passed r e = (refusal_number_lem r).0 e

-- ---- bytes that read as a table in words
-- every table that is answered has full columns, that of zeros too
pub read_full : (bytes : List ℕ) → FullTable (read_of bytes).table
unfolding read_of
read_full bytes = go (check_sheet bytes)
  where
    go : (c : Check) → FullTable (read_checked c (Sheets.table_in bytes)).table
    go (Ok tt) = table_full bytes
    go (Err r) = record { release = refl; work = refl; deadline = refl; level = refl; promised = refl; follows = refl }

-- an answer by its two parts
both_parts : (r : Reading) (t : Table) → r.check ≡ Passed → r.table ≡ t → r ≡ record { check = Passed; table = t }
both_parts r t p e = let f : ◌≡◌ {A = Reading} (record { check = r.check; table = r.table }) (record { check = Passed; table = t }) = rw (p, e) in f

module _ (table : List ℕ) (words : length table ≡ 388) where
  abbrev t : Table
  t = table_in table

  -- the sheet of an accepted table reads as its words
  reads_words : Accepted t → (check_number (read_of (sheet_of t)).check ≡ 0) × (words_of (read_of (sheet_of t)).table ≡ table)
  unfolding check_number
  reads_words a =
      let r = read_back_lem t a (full_table table words) in
      (ap (λ (x : Reading). check_number x.check) r, ap (λ (x : Reading). words_of x.table) r ∙ words_of_table_in table words)

  -- and no other bytes do
  only_words : (bytes : List ℕ) → check_number (read_of bytes).check ≡ 0 → words_of (read_of bytes).table ≡ table → bytes ≡ sheet_of t
  only_words bytes e w =
      let p = passed_check (read_of bytes).check e in
      let same : (read_of bytes).table ≡ t = sym (table_in_words_of (read_of bytes).table (read_full bytes)) ∙ ap table_in w in
      only_sheet bytes t (both_parts (read_of bytes) t p same)

-- ---- a table in words, written back
module _ (table lent : List ℕ) (words : length table ≡ 388) where
  abbrev u : Table
  u = table_in table

  count : u.n ≡ get_or table 0 0
  unfolding table_in
  count = refl

  abbrev Back : WrittenBack → Type 0
  Back b = SheetBack table lent (check_number b.said.check) b.said.size b.bytes

  by_check : (c : Check) → check_write u (length lent) ≡ c → Back (write_checked c (sheet_of u) lent)
  unfolding check_number check_write
  by_check (Ok tt) e =
      let f = fits u (length lent) e in
      let sheet = sheet_of u in
      let rest = drop (length sheet) lent in
      let first : take (length sheet) (sheet ++ rest) ≡ sheet = take_at sheet rest (length sheet) refl in
      record {
        accepted = λ _. f.0;
        fits = λ _. omega (arith, f.1, count);
        passes = λ _ _. refl;
        long = λ _. omega (arith, sheet_long u, count);
        reads = λ _. rw first (reads_words table words f.0);
        only = λ _ bytes p w. only_words table words bytes p w ∙ sym first;
        rest = λ _. drop_at sheet rest (length sheet) refl;
        whole = omega (arith, f.1, sheet_long u, length-append sheet rest, length-drop (length sheet) lent);
        refused = λ n. absurd (n refl);
        ten = λ z. absurd (omega arith);
        own = λ _. sym (ap check_number f.0);
      }
  by_check (Err r) e =
      record {
        accepted = λ z. absurd (not_passed r z);
        fits = λ z. absurd (not_passed r z);
        passes = λ a h. ap check_number (sym e ∙ passes u (length lent) a (omega (arith, count)));
        long = λ z. absurd (not_passed r z);
        reads = λ z. absurd (not_passed r z);
        only = λ z. absurd (not_passed r z);
        rest = λ z. absurd (not_passed r z);
        whole = refl;
        refused = λ _. (refl, refl);
        ten = λ z.
            let p = ten_is (check_table u) (length (sheet_of u)) (length lent) (table_not_ten u) (ap check_number e ∙ z) in
            (p.0, omega (arith, p.1, sheet_long u, count));
        own = λ z. ap check_number (sym e) ∙ own_is (check_table u) (length (sheet_of u)) (length lent) (λ w. z (ap check_number (sym e) ∙ w));
      }

  pub written_back : let b = write_of u lent in SheetBack table lent (check_number b.said.check) b.said.size b.bytes
  unfolding write_of
  written_back = by_check (check_write u (length lent)) refl

-- ---- a sheet, read and written back
module _ (sheet lent : List ℕ) (long : length lent ≡ 3169) where
  abbrev read : Reading
  read = read_of sheet

  abbrev back : WrittenBack
  back = write_of (table_in (words_of read.table)) lent

  abbrev said : Again
  said = record { read = check_number read.check; written = check_number back.said.check; size = back.said.size }

  -- these bytes written back, and the rest as it was
  abbrev wrote : List ℕ → WrittenBack
  wrote bytes = record { said = record { check = Passed; size = length bytes }; bytes = bytes ++ drop (length bytes) lent }

  table_count : (Sheets.table_in sheet).n ≡ number_at sheet 0 1
  unfolding Sheets.table_in
  table_count = refl

  zeros_full : FullTable zero_table
  zeros_full = record { release = refl; work = refl; deadline = refl; level = refl; promised = refl; follows = refl }

  zeros_refused : check_write zero_table (length lent) ≡ Refused RowCount
  unfolding check_write check_table
  zeros_refused = refl

  by_sheet : (c : Check) → check_sheet sheet ≡ c
      → let r = read_checked c (Sheets.table_in sheet) in
      let b = write_of (table_in (words_of r.table)) lent in
      SheetAgain sheet lent (record { read = check_number r.check; written = check_number b.said.check; size = b.said.size }) b.bytes
  unfolding check_number refusal_number
  by_sheet (Ok tt) e =
      let t = Sheets.table_in sheet in
      let a = accepts sheet e in
      let fit = passes t (length lent) a.accepted (omega (arith, a.few, table_count)) in
      let w : write_of (table_in (words_of t)) lent ≡ wrote sheet =
      ap (λ (x : Table). write_of x lent) (table_in_words_of t (table_full sheet)) ∙ back_passed t lent fit ∙ ap wrote (sheet_back sheet e) in
      record {
        same = λ _.
            (ap (λ (b : WrittenBack). check_number b.said.check) w, ap (λ (b : WrittenBack). b.said.size) w, ap (λ (b : WrittenBack). b.bytes) w);
        none = λ n. absurd (n refl);
      }
  by_sheet (Err r) e =
      let w : write_of (table_in (words_of zero_table)) lent ≡ write_checked (Refused RowCount) (sheet_of zero_table) lent =
      ap (λ (x : Table). write_of x lent) (table_in_words_of zero_table zeros_full) ∙ back_refused zero_table lent RowCount zeros_refused in
      record {
        same = λ z. absurd (not_passed r z);
        none = λ _.
            (ap (λ (b : WrittenBack). check_number b.said.check) w, ap (λ (b : WrittenBack). b.said.size) w, ap (λ (b : WrittenBack). b.bytes) w);
      }

  pub again : SheetAgain sheet lent said back.bytes
  unfolding read_of
  again = by_sheet (check_sheet sheet) refl

-- ---- a number as a field
pub as_field : (v : ℕ) → NumberField v (yes_word (fits_field v)) (written v)
as_field v =
    by-ltb v 100000000
    (λ e h. rw e (record {
      small = λ _. refl;
      large = λ k. absurd (omega arith);
      formed = λ _. (field_written v h, value_written v h);
      last = λ z. absurd (omega arith);
      long = written_long v;
    }))
    (λ e h. rw e (record {
      small = λ k. absurd (omega arith);
      large = λ _. refl;
      formed = λ z. absurd (omega arith);
      last = λ _ k l. last_digits v k h l;
      long = written_long v;
    }))
