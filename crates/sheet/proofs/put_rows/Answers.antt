use Rattle.std.proofs.Common.{sym, arith}
use Rattle.texts.specs.Sheets.{row_line}
use Rattle.fields.specs.Lengths.{joined_more}
use Rattle.fields.specs.Texts.{puts_as, puts_then}
use Rattle.sheet.specs.Writer.{rows_long}
use Rattle.sheet.proofs.put_rows.Goals as goal

pub put_row-requires : goal.put_row-requires
put_row-requires c = (omega arith, omega (arith, rows_long c.args.t.now c.loop-k.k))

pub loop-k-preserved : goal.loop-k-preserved
loop-k-preserved c = puts_as (sym (joined_more (row_line c.args.t.now) c.loop-k.k)) (puts_then c.loop-k.invariant c.put_row.ensures)
