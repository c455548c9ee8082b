use Rattle.std.proofs.Common.{sym, ◌∙◌, arith}
use Rattle.columns.specs.Figures.{due_at, due_beyond}
use Rattle.columns.specs.Late.{looked_all}
use Rattle.columns.proofs.closed_late.Goals as goal

pub returns : goal.returns
returns c =
    let x = c.args in
    let t = x.table.now in
    let l = c.loop-k in
    let p = due_at t.n x.clock t.deadline t.level in
    sym (looked_all p x.clock l.k l.closing (λ j h. due_beyond t.n x.clock t.deadline t.level j (omega arith))) ∙ l.invariant.1
