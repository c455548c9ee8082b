-- A minus stands in the judge's sentence exactly if the slack is below 0; and byte 15 tells a yes from a no, and both from a figure.
use Rattle.std.specs.Prelude.{ℕ, zero, suc, ◌+◌, ◌/◌, ◌%◌, ◌^◌, Bool, true, false, List, [], ◌∷◌, ◌++◌, ◌≡◌, eqb, leb, ℤ, nat_abs, get_or}
use Rattle.std.proofs.Math.Bool.{or-true}
use Rattle.std.proofs.Math.Path.{refl, ap}
use Rattle.std.proofs.Common.{◌∙◌, arith, eqb-true, eq-eqb}
use Rattle.rules.specs.Lists.{count, joined}
use Rattle.texts.specs.Decimals.{has_digit, digit_if, decimal}
use Rattle.texts.specs.Quoted.{bytes, together}
use Rattle.theory.specs.Counts.{count_append, count_other}
use Rattle.theory.specs.Tests.{by_bool}
use Rattle.decimals.specs.Decimal.{digit_none}
use Rattle.fields.specs.Scan.{powers}
use Rattle.sentences.specs.declared.JudgeAnswer.{JudgeAnswer}
use Rattle.sentences.specs.Sentences.{meanings, meaning, judged_meaning, counted, yes_or_no, minus_of, slack_words, judge_opening, judge_sentence}
use Rattle.sentences.specs.Reading.{is_digit}
use Rattle.sentences.specs.Scanned.{digit_here, a_digit}
use Rattle.sentences.specs.Telling.{words_all, judged_all, yes_all}

-- ---- no minus in words and in numbers
-- how many minuses stand in a text
abbrev minuses : List ℕ → ℕ
minuses t = count 45 t

digits_minus : (v k : ℕ) → minuses (joined (digit_if v) (powers k)) ≡ 0
digits_minus v zero = refl
digits_minus v (suc j) =
    let w = 10 ^ j in
    by_bool (has_digit v w)
    (λ e. rw (digit_here v w e) (count_other 45 (48 + v / w % 10) (joined (digit_if v) (powers j)) (λ z. omega arith) ∙ digits_minus v j))
    (λ e. rw (digit_none v w e) (digits_minus v j))

decimal_minus : (v : ℕ) → minuses (decimal v) ≡ 0
unfolding decimal
decimal_minus v = digits_minus v 10

meaning_minus : (number : ℕ) → minuses (meaning number) ≡ 0
unfolding meaning
meaning_minus number = eqb-true _ _ (words_all (λ t. eqb (minuses t) 0) meanings number refl refl)

judged_minus : (number said : ℕ) → minuses (judged_meaning number said) ≡ 0
judged_minus number said = eqb-true _ _ (judged_all (λ t. eqb (minuses t) 0) number said refl refl refl (eq-eqb _ _ (meaning_minus number)))

counted_minus : (v : ℕ) → minuses (counted v (bytes " slot")) ≡ 0
unfolding counted
counted_minus v =
    count_append 45 (decimal v) _
    ∙ rw (decimal_minus v) (by_bool (eqb v 1) (λ e. rw e) (λ e. rw e))

-- a text without a minus before another one
none_before : (t u : List ℕ) → minuses t ≡ 0 → minuses (t ++ u) ≡ minuses u
none_before t u e = count_append 45 t u ∙ omega (arith, e)

yes_minus : (said : ℕ) → minuses (yes_or_no said) ≡ 0
yes_minus said = eqb-true _ _ (yes_all (λ t. eqb (minuses t) 0) said refl refl (eq-eqb _ _ (none_before (decimal said) (together (bytes ", neither yes nor no" ∷ [])) (decimal_minus said))))

opening_minus : (number said : ℕ) → minuses (judge_opening number said) ≡ 0
unfolding judge_opening
opening_minus number said =
    none_before (yes_or_no said) _ (yes_minus said)
    ∙ none_before (decimal number) _ (decimal_minus number)
    ∙ none_before (judged_meaning number said) _ (judged_minus number said)

slack_minus : (z : ℤ) → minuses (slack_words z) ≡ minuses (minus_of z)
unfolding slack_words
slack_minus z =
    count_append 45 (minus_of z) (together (counted (nat_abs z) (bytes " slot") ∷ []))
    ∙ omega (arith, none_before (counted (nat_abs z) (bytes " slot")) [] (counted_minus (nat_abs z)))

-- the only one that there may be is the slack's
pub judge_minus : (a : JudgeAnswer) → count 45 (judge_sentence a) ≡ count 45 (minus_of a.slack)
unfolding judge_sentence
judge_minus a =
    none_before (judge_opening a.number a.yes) _ (opening_minus a.number a.yes)
    ∙ none_before (decimal a.row) _ (decimal_minus a.row)
    ∙ count_append 45 (slack_words a.slack) (together (bytes "." ∷ []))
    ∙ omega (arith, slack_minus a.slack)

-- ---- byte 15
-- the first byte of a number is a digit
pub record Begins (t : List ℕ) (p : ℕ → Bool) : Type 0 where
  pub first : ℕ
  pub others : List ℕ
  pub split : t ≡ first ∷ others
  pub passes : p first ≡ true

begins_here : (v k : ℕ) → has_digit v (10 ^ k) ≡ true → Begins (joined (digit_if v) (powers (suc k))) is_digit
begins_here v k e =
    record {
      first = 48 + v / 10 ^ k % 10;
      others = joined (digit_if v) (powers k);
      split = rw (digit_here v (10 ^ k) e);
      passes = a_digit (v / 10 ^ k % 10) (omega arith);
    }

digits_begin : (v k : ℕ) → Begins (joined (digit_if v) (powers (suc k))) is_digit
digits_begin v zero = begins_here v 0 (or-true (leb 1 v))
digits_begin v (suc j) =
    by_bool (has_digit v (10 ^ suc j))
    (begins_here v (suc j))
    (λ e. let b = digits_begin v j in record { first = b.first; others = b.others; split = rw (digit_none v (10 ^ suc j) e) b.split; passes = b.passes })

decimal_begins : (v : ℕ) (rest : List ℕ) → Begins (decimal v ++ rest) is_digit
unfolding decimal
decimal_begins v rest =
    let b = digits_begin v 9 in
    record { first = b.first; others = b.others ++ rest; split = ap (λ (t : List ℕ). t ++ rest) b.split; passes = b.passes }

-- byte 15 is the first byte of the yes or no
pub letter_first : (a : JudgeAnswer) (p : ℕ → Bool) → (b : Begins (yes_or_no a.yes) p) → get_or (judge_sentence a) 15 0 ≡ b.first
unfolding judge_sentence judge_opening
letter_first a p b =
    ap
    (λ (t : List ℕ).
    get_or
    ((bytes "The judge says " ++ (t ++ together (bytes " (number " ∷ decimal a.number ∷ bytes ", " ∷ judged_meaning a.number a.yes ∷ bytes "): " ∷ [])))
    ++ together (bytes "tightest row " ∷ decimal a.row ∷ bytes ", slack " ∷ slack_words a.slack ∷ bytes "." ∷ []))
    15 0)
    b.split

-- so it tells the three kinds of yes or no apart
module _ (a : JudgeAnswer) where
  pub letter_yes : a.yes ≡ 1 → get_or (judge_sentence a) 15 0 ≡ 121
  unfolding yes_or_no
  letter_yes e = letter_first a (λ b. true) (record { first = 121; others = bytes "es"; split = rw e; passes = refl })

  pub letter_no : a.yes ≡ 0 → get_or (judge_sentence a) 15 0 ≡ 110
  unfolding yes_or_no
  letter_no e = letter_first a (λ b. true) (record { first = 110; others = bytes "o"; split = rw e; passes = refl })

  pub letter_digit : eqb a.yes 1 ≡ false → eqb a.yes 0 ≡ false → is_digit (get_or (judge_sentence a) 15 0) ≡ true
  unfolding yes_or_no
  letter_digit e f =
      let d = decimal_begins a.yes (together (bytes ", neither yes nor no" ∷ [])) in
      let b : Begins (yes_or_no a.yes) is_digit = record { first = d.first; others = d.others; split = rw (e, f) d.split; passes = d.passes } in
      ap is_digit (letter_first a is_digit b) ∙ d.passes
