-- Two figures and the line end.
use native.Mathlib.Omega.{arith}
use lib.IntN.{pos}
use Rattle.report.specs.Lines.{pair_long}
use Rattle.report.proofs.put_totals.Goals as goal

pub put_byte-requires : goal.put_byte-requires
put_byte-requires c = omega (arith, pair_long (pos c.args.needs) (pos c.args.late))
