-- A number was read exactly where the field is well formed.
use Rattle.std.proofs.Common.{ap, ◌∙◌}
use Rattle.std.specs.Option.{is_some}
use Rattle.fields.specs.Scan.{some_is}
use Rattle.fields.proofs.field_ok.Goals as goal

pub returns : goal.returns
returns c = c.is_some.ensures ∙ ap is_some c.read_field.ensures ∙ some_is _
