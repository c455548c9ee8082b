-- The first two places, and then the last eight, one more at each weight.
use Rattle.std.proofs.Common.{rules, arith, ℕ, ◌+◌, ◌≤◌, ◌≡◌, refl, ap, sym, ◌∙◌, ◌++◌, length, length-append, take, get_or}
use Rattle.rules.specs.Lists.{joined}
use Rattle.texts.specs.Fields.{weights}
use Rattle.texts.specs.Decimals.{digit_if, decimal}
use Rattle.decimals.specs.Decimal.{decimal_split, entry_more, entries_within}
use Rattle.fields.specs.Digits.{weight_some}
use Rattle.fields.specs.Wrote.{wrote_as, wrote_then}
use Rattle.decimals.proofs.put_decimal.Goals as goal

-- how long the parts are together
parts-long : (v : ℕ) → length (decimal v) ≡ length (digit_if v 1000000000) + (length (digit_if v 100000000) + length (joined (digit_if v) weights))
parts-long v =
    ap length (sym (decimal_split v))
    ∙ omega (arith, length-append (digit_if v 1000000000) (digit_if v 100000000 ++ joined (digit_if v) weights), length-append (digit_if v 100000000) (joined (digit_if v) weights))

pub put_digit-second-requires : goal.put_digit-second-requires
put_digit-second-requires c = (search rules, omega (arith, parts-long c.args.value))

pub put_digit-next-requires : goal.put_digit-next-requires
put_digit-next-requires c = (search rules, omega (arith, c.put_digit-second.auto.out, c.put_digit-second.ensures.after, parts-long c.args.value))

pub put_digit-next-requires-in-loop-weight : goal.put_digit-next-requires-in-loop-weight
put_digit-next-requires-in-loop-weight c =
    let i = c.loop-weight.weight-index in
    let f = digit_if c.args.value in
    let e : length (joined f (take i weights)) + length (f (get_or weights i 0)) ≤ length (joined f weights) =
    omega (arith, ap length (entry_more f weights i c.loop-weight-test.true), length-append (joined f (take i weights)) (f (get_or weights i 0)), entries_within f weights (i + 1)) in (
      weight_some i c.loop-weight-test.true,
      omega (arith, e, c.loop-weight.invariant.0, c.loop-weight.invariant.1.after, c.put_digit-next.auto.out, c.put_digit-next.ensures.after, c.put_digit-second.auto.out, c.put_digit-second.ensures.after, parts-long c.args.value),
    )

pub loop-weight-preserved : goal.loop-weight-preserved
loop-weight-preserved c = (
  c.put_digit-next-in-loop-weight.auto.out ∙ c.loop-weight.invariant.0,
  wrote_as (sym (entry_more (digit_if c.args.value) weights c.loop-weight.weight-index c.loop-weight-test.true))
      (wrote_then c.loop-weight.invariant.1 c.put_digit-next-in-loop-weight.ensures),
)

pub returns : goal.returns
returns c =
    let l = c.loop-weight in
    let e : l.weight-index ≡ 8 = omega arith in
    record {
      same = refl;
      long = l.invariant.0 ∙ c.put_digit-next.auto.out ∙ c.put_digit-second.auto.out;
      wrote =
          wrote_as
          (ap (λ (j : ℕ). digit_if c.args.value 1000000000 ++ (digit_if c.args.value 100000000 ++ joined (digit_if c.args.value) (take j weights))) e ∙ decimal_split c.args.value)
          (wrote_then c.put_digit-second.ensures (wrote_then c.put_digit-next.ensures l.invariant.1));
    }
