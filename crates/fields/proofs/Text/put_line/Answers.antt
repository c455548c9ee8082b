-- One field more at each figure, and the line end after the last.
use Rattle.std.proofs.Common.{arith, ℕ, List, [], ◌∷◌, ◌++◌, take, length-take, take_all, ap, ◌∙◌}
use Rattle.rules.specs.Lists.{joined}
use Rattle.texts.specs.Fields.{written}
use Rattle.fields.specs.Lengths.{fields_long, line_joined}
use Rattle.fields.specs.Texts.{puts_as, puts_then, puts_piece}
use Rattle.fields.proofs.Text.put_line.Goals as goal

pub put_field-requires : goal.put_field-requires
put_field-requires g c =
    let l = c.loop-figure in
    omega (arith, fields_long (take l.figure-index c.args.figures), length-take l.figure-index c.args.figures)

pub loop-figure-preserved : goal.loop-figure-preserved
loop-figure-preserved g c =
    let l = c.loop-figure in
    puts_piece written c.args.figures l.figure-index (omega arith) l.invariant c.put_field.ensures

pub put_byte-requires : goal.put_byte-requires
put_byte-requires g c =
    let l = c.loop-figure in
    omega (arith, fields_long (take l.figure-index c.args.figures), length-take l.figure-index c.args.figures)

pub returns : goal.returns
returns g c =
    let l = c.loop-figure in
    puts_as (ap (λ (x : List ℕ). joined written x ++ 10 ∷ []) (take_all l.figure-index c.args.figures (omega arith)) ∙ line_joined c.args.figures)
    (puts_then l.invariant c.put_byte.ensures)
