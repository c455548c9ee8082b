-- What is left of the field from byte i on, with the value so far, gives the field's answer.
use Rattle.std.proofs.Common.{◌*◌, ◌≤◌, ◌≡◌}
use Rattle.texts.specs.Fields.{field_at}
use Rattle.fields.specs.Scan.{field_in}
use Rattle.fields.specs.Bytes.{rest}
use Rattle.fields.proofs.read_field.Given as goal

abbrev pub invariant-loop-i : goal.invariant-loop-i
invariant-loop-i l = (l.value ≤ 90000000 * l.i) × (rest l.bytes l.start l.i l.value ≡ field_in (field_at l.bytes l.start))
