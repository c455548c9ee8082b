-- One figure after the other.
use native.Mathlib.Omega.{arith}
use lib.IntN.{pos}
use Rattle.fields.specs.Figures.{figure_long}
use Rattle.fields.specs.Texts.{puts_then}
use Rattle.report.proofs.put_counts.Goals as goal

pub put_count-requires-2 : goal.put_count-requires-2
put_count-requires-2 c = (c.requires.1, omega (arith, figure_long (pos c.args.first)))

pub returns : goal.returns
returns c = puts_then c.put_count.ensures c.put_count-2.ensures
