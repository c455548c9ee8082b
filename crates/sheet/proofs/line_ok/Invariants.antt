-- The first j fields are well formed; the first that is not ends the search, and the line end is tested last.
use Rattle.std.proofs.Common.{true, ◌≡◌}
use Rattle.sheet.specs.Lines.{fields_ok}
use Rattle.sheet.proofs.line_ok.Given as goal

abbrev pub invariant-loop-j : goal.invariant-loop-j
invariant-loop-j l = fields_ok l.bytes l.start l.j ≡ true
