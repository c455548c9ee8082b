-- The six figures stand on one line.
use Rattle.fields.specs.Texts.{puts_as}
use Rattle.sheet.specs.Writer.{row_line_lem}
use Rattle.sheet.proofs.put_row.Goals as goal

pub returns : goal.returns
returns c = puts_as (row_line_lem c.args.t.now c.args.k) c.put_line.ensures
