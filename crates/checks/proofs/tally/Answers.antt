use Rattle.std.proofs.Common.{◌≡◌, ℕ, length, get_or, arith, rules}
use Rattle.std.proofs.lemmas.List.{length-replicate}
use Rattle.checks.specs.Counts.{tally_start, tally_le}
use Rattle.checks.proofs.tally.Goals as goal

pub loop-k-init : goal.loop-k-init
loop-k-init c = (search rules, length-replicate {A = ℕ} 65 0, tally_start c.args.order)

pub overflow_add-times : goal.overflow_add-times
overflow_add-times c =
    let l = c.loop-k in
    let n : length c.args.order ≡ 64 = search rules in
    omega (arith, tally_le l.times c.args.order l.k l.invariant.2 (get_or c.args.order l.k 0) c.if-row-le64.true)
