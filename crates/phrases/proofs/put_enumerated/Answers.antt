-- How many entries there are, the words after that, and which they are, one after the other.
use Rattle.std.proofs.Common.{ℕ, List, [], ◌∷◌, ◌≡◌, ◌+◌, length, arith}
use Rattle.sentences.specs.Sentences.{counted, listed, enumerated}
use Rattle.fields.specs.Texts.{puts_then}
use Rattle.phrases.specs.Together.{together_long, puts_last}
use Rattle.phrases.proofs.put_enumerated.Goals as goal

parts_long : (noun tail opening xs : List ℕ)
    → length (enumerated noun tail opening xs) ≡ length (counted (length xs) noun) + length tail + length (listed opening xs)
unfolding enumerated
parts_long noun tail opening xs = omega (arith, together_long (counted (length xs) noun ∷ tail ∷ listed opening xs ∷ []))

pub put_counted-requires : goal.put_counted-requires
put_counted-requires c = omega (arith, c.requires.1, parts_long c.args.noun.now c.args.tail.now c.args.opening.now c.args.entries.now)

pub put_bytes-requires : goal.put_bytes-requires
put_bytes-requires c =
    omega (arith, c.requires.1, parts_long c.args.noun.now c.args.tail.now c.args.opening.now c.args.entries.now)

pub put_listed-requires : goal.put_listed-requires
put_listed-requires c =
    omega (
      arith,
      c.requires.1,
      parts_long c.args.noun.now c.args.tail.now c.args.opening.now c.args.entries.now,
    )

pub returns : goal.returns
unfolding enumerated
returns c = puts_then c.put_counted.ensures (puts_then c.put_bytes.ensures (puts_last c.put_listed.ensures))
