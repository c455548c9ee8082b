-- The figure, its noun and, unless the figure is 1, the letter s, one after the other.
use Rattle.std.proofs.Common.{ℕ, List, [], ◌∷◌, ◌≡◌, ◌+◌, length, false, nat_eq, cond, sym, ap, arith, ne_eqb}
use Rattle.texts.specs.Decimals.{decimal}
use Rattle.texts.specs.Quoted.{bytes, together}
use Rattle.sentences.specs.Sentences.{counted}
use Rattle.fields.specs.Texts.{puts_as, puts_then}
use Rattle.phrases.specs.Together.{together_long, puts_last}
use Rattle.phrases.proofs.put_counted.Goals as goal

module _ (v : ℕ) (noun : List ℕ) where
  -- without the s and with it
  counted_one : v ≡ 1 → counted v noun ≡ together (decimal v ∷ noun ∷ [])
  unfolding counted
  counted_one e = rw e

  counted_more : nat_eq v 1 ≡ false → counted v noun ≡ together (decimal v ∷ noun ∷ bytes "s" ∷ [])
  unfolding counted
  counted_more e = rw e

  -- how long the parts are together
  counted_long : length (counted v noun) ≡ length (decimal v) + (length noun + length (cond (nat_eq v 1) [] (bytes "s")))
  unfolding counted
  counted_long = omega (arith, together_long (decimal v ∷ noun ∷ cond (nat_eq v 1) [] (bytes "s") ∷ []))

  more_long : nat_eq v 1 ≡ false → length (counted v noun) ≡ length (decimal v) + length noun + 1
  more_long e = omega (arith, ap length (counted_more e), together_long (decimal v ∷ noun ∷ bytes "s" ∷ []))

pub put_decimal-requires : goal.put_decimal-requires
put_decimal-requires c = omega (arith, counted_long c.args.value c.args.noun.now)

pub put_bytes-requires : goal.put_bytes-requires
put_bytes-requires c = omega (arith, counted_long c.args.value c.args.noun.now)

pub put_byte-requires : goal.put_byte-requires
put_byte-requires c =
    omega (arith, more_long c.args.value c.args.noun.now (ne_eqb _ _ c.if-value-ne1.true))

pub returns-then-value-ne1 : goal.returns-then-value-ne1
returns-then-value-ne1 c =
    puts_as (sym (counted_more c.args.value c.args.noun.now (ne_eqb _ _ c.if-value-ne1.true)))
    (puts_then c.put_decimal.ensures (puts_then c.put_bytes.ensures c.put_byte.ensures))

pub returns-else-value-ne1 : goal.returns-else-value-ne1
returns-else-value-ne1 c =
    puts_as (sym (counted_one c.args.value c.args.noun.now c.if-value-ne1.false)) (puts_then c.put_decimal.ensures (puts_last c.put_bytes.ensures))
