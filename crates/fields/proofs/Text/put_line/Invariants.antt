-- The first figures are written.
use Rattle.std.proofs.Common.{take}
use Rattle.rules.specs.Lists.{joined}
use Rattle.texts.specs.Fields.{written}
use Rattle.fields.specs.Texts.{Puts}
use Rattle.fields.proofs.Text.put_line.Given as goal

abbrev pub invariant-loop-figure : goal.invariant-loop-figure
invariant-loop-figure g l = Puts l.initial.self l.self (joined written (take l.figure-index l.figure-items))
