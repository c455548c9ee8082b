-- The digits at the first weights are put.
use Rattle.std.proofs.Common.{◌≡◌, length, take}
use Rattle.rules.specs.Lists.{joined}
use Rattle.texts.specs.Fields.{weights}
use Rattle.texts.specs.Decimals.{digit_if}
use Rattle.fields.specs.Wrote.{Wrote}
use Rattle.decimals.proofs.put_decimal.Given as goal

abbrev pub invariant-loop-weight : goal.invariant-loop-weight
invariant-loop-weight l =
    (length l.out ≡ length l.initial.out) × Wrote l.initial.out l.initial.next l.out l.next (joined (digit_if l.value) (take l.weight-index weights))
