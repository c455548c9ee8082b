use Rattle.std.proofs.Common.{◌≤◌, ◌≡◌, true, sym, ◌∙◌, leb-true, arith}
use Rattle.rules.specs.Orders.{check_both}
use Rattle.rules.specs.Tables.{passed}
use Rattle.record.specs.Checked.{passed_true, limits}
use Rattle.record.proofs.is_sound.Goals as goal
use Rattle.record.proofs.is_sound.Goals.{then-passes, else-passes}

pub rows_sound-requires : goal.rows_sound-requires
rows_sound-requires c =
    let r = c.args.r.now in
    let both : (passed (check_both r.table r.order) ≡ true) × (r.clock ≤ 2000000) =
    elim c.if-passes.branch [
      | then-passes w ↦ (sym c.passes.ensures ∙ w.if-passes.true, leb-true _ _ (sym w.value-is ∙ c.if-r-le-LAST_CLOCK.true))
      | else-passes w ↦ (sym c.passes.ensures ∙ sym w.value-is ∙ c.if-r-le-LAST_CLOCK.true, grind arith)
    ] in
    let l = limits r.table r.order (passed_true (check_both r.table r.order) both.0) in
    (l.few, (l.crawls, l.slower, l.fast), both.1)
