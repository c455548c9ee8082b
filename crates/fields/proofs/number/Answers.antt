-- A well-formed field is read as its value.
use Rattle.std.proofs.Common.{ap, ◌∙◌}
use Rattle.std.specs.Option.{unwrap_or}
use Rattle.fields.specs.Scan.{some_value}
use Rattle.fields.proofs.number.Goals as goal

pub returns : goal.returns
returns c = c.unwrap_or.ensures ∙ ap (λ o. unwrap_or o 0) (c.read_field.ensures ∙ some_value _ c.requires.1)
