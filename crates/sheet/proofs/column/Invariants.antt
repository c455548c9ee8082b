-- The figures so far are the column of the first i rows.
use Rattle.std.proofs.Common.{◌≡◌}
use Rattle.texts.specs.Sheets.{column_of}
use Rattle.sheet.proofs.column.Given as goal

abbrev pub invariant-loop-i : goal.invariant-loop-i
invariant-loop-i l = l.figures ≡ column_of l.bytes l.i l.j
