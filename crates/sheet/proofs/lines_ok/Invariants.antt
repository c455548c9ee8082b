-- The lines of the first i rows are well formed; the first that is not ends the search.
use Rattle.std.proofs.Common.{true, ◌≡◌}
use Rattle.sheet.specs.Lines.{lines_ok}
use Rattle.sheet.proofs.lines_ok.Given as goal

abbrev pub invariant-loop-i : goal.invariant-loop-i
invariant-loop-i l = lines_ok l.bytes l.i ≡ true
