-- The conclusions about the writer leave nothing open: whatever meets them is what the archive answers. So a conclusion that loses a clause
-- which does not follow from its others is noticed here.
use Rattle.std.specs.Prelude.{ℕ, ◌≡◌, get_or, Ok, Err}
use mathlib.Core.List.{List, ◌++◌}
use Rattle.std.proofs.Math.Path.{refl, sym, ap}
use Rattle.std.proofs.Common.{◌∙◌, arith, take-append-drop, ext_get_or}
use Rattle.std.proofs.Math.ListN.{length, take, drop}
use Rattle.rules.specs.declared.Table.{Table}
use Rattle.rules.specs.declared.Refusal.{Refusal}
use Rattle.rules.specs.declared.Refusal.TheVariants.{NoRoom}
use Rattle.rules.specs.declared.Reading.{Reading}
use Rattle.rules.specs.Checks.{Check, Refused}
use Rattle.rules.specs.Numbers.{refusal_number, check_number}
use Rattle.rules.specs.Tables.{check_table}
use Rattle.texts.specs.Fields.{fits_field, written, value_of, is_field}
use Rattle.texts.specs.Lent.{WrittenBack}
use Rattle.texts.specs.Sheets.{read_of, sheet_of, check_write, write_of}
use Rattle.theory.specs.Tests.{by-ltb, by_eqb}
use Rattle.fields.specs.Lengths.{written_long}
use Rattle.fields.specs.Values.{last_digits}
use Rattle.sheet.specs.SheetsDiffer.{same_eq}
use Rattle.sheet.specs.RoundTrip.{read_back_lem}
use Rattle.sheet.specs.Writer.{sheet_long, passes, too_short, back_refused, back_passed}
use Rattle.jasminebrace.specs.Finishes.{yes_word}
use Rattle.words.specs.Words.{table_in, words_of}
use Rattle.words.specs.Inverse.{words_of_table_in}
use Rattle.conclusions.specs.Entries.{full_table}
use Rattle.conclusions.specs.declared.Again.{Again}
use Rattle.conclusions.specs.Back.{again}
use Rattle.conclusions.specs.Conclusions.{SheetBack, SheetAgain, NumberField}

-- ---- a table written back
module _ (table lent : List ℕ) (number size : ℕ) (after : List ℕ) (words : length table ≡ 388) (s : SheetBack table lent number size after) where
  abbrev u : Table
  u = table_in table

  count : u.n ≡ get_or table 0 0
  unfolding table_in
  count = refl

  abbrev Same : WrittenBack → Type 0
  Same b = (number ≡ check_number b.said.check) × (size ≡ b.said.size) × (after ≡ b.bytes)

  passed : number ≡ 0 → Same (write_of u lent)
  unfolding check_number
  passed z =
      let a = s.accepted z in
      let e = back_passed u lent (passes u (length lent) a (omega (arith, s.fits z, count))) in
      let r = read_back_lem u a (full_table table words) in
      let long : size ≡ length (sheet_of u) = omega (arith, s.long z, sheet_long u, count) in
      let first : sheet_of u ≡ take size after = s.only z (sheet_of u) (ap (λ (x : Reading). check_number x.check) r) (ap (λ (x : Reading). words_of x.table) r ∙ words_of_table_in table words) in
      let all : after ≡ sheet_of u ++ drop size lent = sym (take-append-drop size after) ∙ ap (λ (l : List ℕ). l ++ drop size after) (sym first) ∙ ap (λ (l : List ℕ). sheet_of u ++ l) (s.rest z) in (
        z ∙ sym (ap (λ (b : WrittenBack). check_number b.said.check) e),
        long ∙ sym (ap (λ (b : WrittenBack). b.said.size) e),
        all ∙ ap (λ (k : ℕ). sheet_of u ++ drop k lent) long ∙ sym (ap (λ (b : WrittenBack). b.bytes) e),
      )

  refused : (r : Refusal) → check_write u (length lent) ≡ Refused r → number ≡ refusal_number r → (number ≡ 0 → ⊥) → Same (write_of u lent)
  unfolding check_number
  refused r p q n =
      let e = back_refused u lent r p in (
        q ∙ sym (ap (λ (b : WrittenBack). check_number b.said.check) e),
        (s.refused n).0 ∙ sym (ap (λ (b : WrittenBack). b.said.size) e),
        (s.refused n).1 ∙ sym (ap (λ (b : WrittenBack). b.bytes) e),
      )

  full : number ≡ 10 → check_write u (length lent) ≡ Refused NoRoom
  unfolding check_write
  full z = let t = s.ten z in rw (t.0, too_short u (length lent) (omega (arith, t.1, count)))

  own_check : (c : Check) → check_table u ≡ c → number ≡ check_number c → (number ≡ 0 → ⊥) → Same (write_of u lent)
  unfolding check_number check_write
  own_check (Ok tt) e q n = absurd (n q)
  own_check (Err r) e q n = refused r (rw e) q n

  pub back_exact : let b = write_of u lent in (number ≡ check_number b.said.check) × (size ≡ b.said.size) × (after ≡ b.bytes)
  unfolding refusal_number
  back_exact =
      by_eqb number 0
      (λ _ z. passed z)
      (λ _ n. by_eqb number 10 (λ _ z. refused NoRoom (full z) z n) (λ _ m. own_check (check_table u) refl (s.own m) n))

-- ---- a sheet read and written back
pub again_exact : (sheet lent : List ℕ) (said : Again) (after : List ℕ) → length lent ≡ 3169
    → said.read ≡ check_number (read_of sheet).check
    → SheetAgain sheet lent said after
    → let b = write_of (table_in (words_of (read_of sheet).table)) lent in
    (said.written ≡ check_number b.said.check) × (said.size ≡ b.said.size) × (after ≡ b.bytes)
again_exact sheet lent said after long e s =
    let a = again sheet lent long in
    by_eqb said.read 0
    (λ _ z.
    let p = s.same z in
    let q = a.same (sym e ∙ z) in
    (p.0 ∙ sym q.0, p.1 ∙ sym q.1, p.2 ∙ sym q.2))
    (λ _ n.
    let p = s.none n in
    let q = a.none (λ z. n (e ∙ z)) in
    (p.0 ∙ sym q.0, p.1 ∙ sym q.1, p.2 ∙ sym q.2))

-- ---- a number as a field
pub field_exact : (v said : ℕ) (field : List ℕ) → NumberField v said field → (said ≡ yes_word (fits_field v)) × (field ≡ written v)
unfolding is_field
field_exact v said field s =
    by-ltb v 100000000
    (λ e h.
    let one = s.small h in
    let f = s.formed one in
    (rw e one, same_eq field (written (value_of field)) f.0 ∙ ap written f.1))
    (λ e h.
    let none = s.large h in
    let l = written_long v in
    (rw e none, ext_get_or 0 field (written v) (omega (arith, s.long)) (λ k b. s.last none k (omega (arith, s.long)) ∙ sym (last_digits v k h (omega (arith, s.long))))))
