use Rattle.std.proofs.Common.{sym, arith}
use Rattle.texts.specs.Program.{place_line}
use Rattle.fields.specs.Texts.{puts_as, puts_then}
use Rattle.fields.specs.Lengths.{joined_more}
use Rattle.text.specs.Lines.{places_long}
use Rattle.text.proofs.put_places.Goals as goal

pub put_place-requires : goal.put_place-requires
put_place-requires c = (c.requires.0, omega arith, omega arith, omega (arith, places_long c.args.t c.args.order c.loop-k.k))

pub loop-k-preserved : goal.loop-k-preserved
loop-k-preserved c = puts_as (sym (joined_more (place_line c.args.t c.args.order) c.loop-k.k)) (puts_then c.loop-k.invariant c.put_place.ensures)
