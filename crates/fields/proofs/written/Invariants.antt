-- The first i bytes are those of the number.
use Rattle.std.proofs.Common.{◌≡◌, length, take}
use Rattle.texts.specs.Fields.{written}
use Rattle.fields.proofs.written.Given as goal

abbrev pub invariant-loop-i : goal.invariant-loop-i
invariant-loop-i l = (length l.field ≡ 8) × (take l.i l.field ≡ take l.i (written l.value))
