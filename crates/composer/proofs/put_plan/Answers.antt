-- The opening, the trials, the places, the rows left and the full stop, one after the other.
use Rattle.std.proofs.Common.{ℕ, List, length, ap, arith, length-take}
use Rattle.sentences.specs.Sentences.{plan_sentence}
use Rattle.fields.specs.Texts.{puts_as, puts_then}
use Rattle.composer.proofs.Parts.{placed, unplaced, plan_long}
use Rattle.composer.proofs.put_plan.Goals as goal

pub put_enumerated-requires : goal.put_enumerated-requires
put_enumerated-requires c = (
  simp length-take (omega arith),
  omega (arith, plan_long c.args.answer, ap (λ (xs : List ℕ). length (placed xs)) c.places-placed.ensures.1),
)

pub put_bytes-requires-2 : goal.put_bytes-requires-2
put_bytes-requires-2 c = omega (arith, plan_long c.args.answer, ap (λ (xs : List ℕ). length (placed xs)) c.places-placed.ensures.1)

pub put_enumerated-requires-2 : goal.put_enumerated-requires-2
put_enumerated-requires-2 c = (
  simp length-take (omega (arith, c.rows_of-left.ensures.within)),
  omega (
    arith,
    plan_long c.args.answer,
    ap (λ (xs : List ℕ). length (placed xs)) c.places-placed.ensures.1,
    ap (λ (xs : List ℕ). length (unplaced xs)) c.rows_of-left.ensures.these,
  ),
)

pub put_byte-requires : goal.put_byte-requires
put_byte-requires c =
    omega (
      arith,
      plan_long c.args.answer,
      ap (λ (xs : List ℕ). length (placed xs)) c.places-placed.ensures.1,
      ap (λ (xs : List ℕ). length (unplaced xs)) c.rows_of-left.ensures.these,
    )

pub returns : goal.returns
unfolding plan_sentence
returns c =
    puts_then c.put_plan_opening.ensures (puts_then c.put_counted.ensures (puts_then c.put_bytes.ensures
    (puts_then (puts_as (ap placed c.places-placed.ensures.1) c.put_enumerated.ensures) (puts_then c.put_bytes-2.ensures
    (puts_then (puts_as (ap unplaced c.rows_of-left.ensures.these) c.put_enumerated-2.ensures) c.put_byte.ensures)))))
