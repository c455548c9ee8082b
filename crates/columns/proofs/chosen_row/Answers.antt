use Rattle.std.proofs.Common.{ℕ, ◌≡◌, drop, sym, ap, ◌∙◌, arith}
use Rattle.rules.specs.Lists.{first}
use Rattle.columns.specs.AllRows.{first_zeros}
use Rattle.columns.specs.Figures.{pending_at}
use Rattle.columns.proofs.chosen_row.Goals as goal

pub returns : goal.returns
returns c =
    let x = c.args in
    let r = pending_at x.table.now.n x.clock x.table.now.release x.closing.now in
    let e : c.loop-k.k ≡ x.table.now.n = omega arith in (
      sym (first_zeros r (drop x.table.now.n x.order.now) c.requires.after)
          ∙ sym (ap (λ (k : ℕ). first r (drop k x.order.now)) e)
          ∙ c.loop-k.invariant,
      omega arith,
    )
