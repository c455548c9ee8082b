-- A minus is among the bytes exactly if their count of it is not 0.
use Rattle.std.proofs.Common.{◌∙◌}
use Rattle.parser.specs.Walks.{any_count}
use Rattle.parser.proofs.has_minus.Goals as goal

pub returns : goal.returns
returns c = c.contains.ensures.value ∙ any_count 45 c.args.bytes.now
