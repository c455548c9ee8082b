use Rattle.std.proofs.Common.{◌≡◌, ◌<◌, length, sym, ◌∙◌, arith, rules, eq-eqb, ne_eqb}
use Rattle.composer.specs.Lists.{last_zero, last_other}
use Rattle.composer.proofs.places.Goals as goal
use Rattle.composer.proofs.places.Goals.{then-order-i-ne0, else-order-i-ne0}

pub loop-i-preserved : goal.loop-i-preserved
loop-i-preserved c =
    let i = c.loop-i.i in
    let order = c.args.order in
    let n : length order ≡ 64 = search rules in
    let h : i < length order = omega arith in
    elim c.if-order-i-ne0.branch [
      | then-order-i-ne0 w ↦ (omega arith, rw w.last-is (sym (last_other order i h (ne_eqb _ _ w.if-order-i-ne0.true))))
      | else-order-i-ne0 w ↦ (
        omega arith,
        rw w.last-is (c.loop-i.invariant.1 ∙ sym (last_zero order i h (eq-eqb _ _ w.if-order-i-ne0.false))),
      )
    ]
