use native.Mathlib.Omega.{arith}
use Rattle.texts.specs.Fields.{written}
use Rattle.fields.specs.Texts.{puts_then}
use Rattle.theory.specs.Facts.{both_pass}
use Rattle.text.specs.Slacks.{few}
use Rattle.text.proofs.put_order.Goals as goal

pub latest_clocks-clocks-requires : goal.latest_clocks-clocks-requires
latest_clocks-clocks-requires c = both_pass c.args.t c.args.order c.requires.0.accepted c.requires.0.order

pub put_places-requires : goal.put_places-requires
unfolding written
put_places-requires c =
    (record { right = c.requires.0; counted = c.latest_clocks-clocks.ensures }, omega (arith, few c.args.t c.args.order c.requires.0))

pub returns : goal.returns
returns c = puts_then c.put_line.ensures c.put_places.ensures
