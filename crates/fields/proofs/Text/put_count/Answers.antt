-- A number below 2^31 is itself as a whole number.
use Rattle.std.proofs.Common.{ap, arith}
use Rattle.texts.specs.Reports.{figure}
use Rattle.theory.specs.Signed.{as_signed}
use Rattle.fields.specs.Texts.{puts_as}
use Rattle.fields.proofs.Text.put_count.Goals as goal

pub put_figure-requires : goal.put_figure-requires
put_figure-requires c = (rw (as_signed c.args.value (omega arith)) c.requires.0, c.requires.1)

pub returns : goal.returns
returns c =
    puts_as (ap figure (as_signed c.args.value (omega arith))) c.put_figure.ensures
