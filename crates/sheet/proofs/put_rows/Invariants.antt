-- The lines of the first k rows are written.
use Rattle.rules.specs.Lists.{rows_to, joined}
use Rattle.texts.specs.Sheets.{row_line}
use Rattle.fields.specs.Texts.{Puts}
use Rattle.sheet.proofs.put_rows.Given as goal

abbrev pub invariant-loop-k : goal.invariant-loop-k
invariant-loop-k l = Puts l.initial.text l.text (joined (row_line l.t) (rows_to l.k))
