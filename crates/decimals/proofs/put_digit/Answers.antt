-- The digit is one byte; before the first digit nothing is put.
use Rattle.std.proofs.Common.{ℕ, [], ◌∷◌, sym, ap, ◌∙◌, arith}
use Rattle.texts.specs.Decimals.{digit_if}
use Rattle.decimals.specs.Decimal.{digit_there, digit_none}
use Rattle.fields.specs.Wrote.{wrote_as, wrote_none, wrote_byte}
use Rattle.decimals.proofs.put_digit.Goals as goal

pub bounds-out-at : goal.bounds-out-at
bounds-out-at c =
    let a = c.args in
    omega (arith, c.requires.1, digit_there a.value a.weight (sym c.has_digit.ensures ∙ c.if-has_digit.true))

pub returns-then-has_digit : goal.returns-then-has_digit
unfolding digit_if
returns-then-has_digit c =
    let a = c.args in
    wrote_as (rw (sym c.has_digit.ensures ∙ c.if-has_digit.true) (ap (λ (b : ℕ). b ∷ []) c.numeral.ensures))
    (wrote_byte a.out.now a.at c.numeral.result (omega (arith, c.requires.1, digit_there a.value a.weight (sym c.has_digit.ensures ∙ c.if-has_digit.true))))

pub returns-else-has_digit : goal.returns-else-has_digit
returns-else-has_digit c =
    let a = c.args in
    wrote_as (sym (digit_none a.value a.weight (sym c.has_digit.ensures ∙ c.if-has_digit.false))) (wrote_none a.out.now a.at (omega arith))
