-- The walk's state at byte i is what it has scanned; a byte after a figure, or the last byte, ends it.
use Rattle.parser.specs.Scanning.{Scanned}
use Rattle.parser.proofs.next_figure.Given as goal

abbrev pub invariant-loop-i : goal.invariant-loop-i
invariant-loop-i l = Scanned l.bytes l.from l.begun l.value l.i
