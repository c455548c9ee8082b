use Prim.Native.Nat.{◌+◌}
use native.Mathlib.Omega.{arith}
use Rattle.counter.specs.Summing.{without_row, sum_next, sum_part}
use Rattle.counter.proofs.total.Goals as goal

pub overflow_add-total : goal.overflow_add-total
overflow_add-total c =
    let a = c.args in
    let l = c.loop-k in
    let g = without_row a.scratch.now a.left a.rows in
    omega (arith, l.invariant, c.without_row-total.ensures, sum_next g l.k, sum_part g (l.k + 1) a.n (omega (arith, c.loop-k-test.true)), c.requires.3)

pub loop-k-preserved : goal.loop-k-preserved
loop-k-preserved c =
    let a = c.args in
    let l = c.loop-k in
    let g = without_row a.scratch.now a.left a.rows in
    omega (arith, l.invariant, c.without_row-total.ensures, sum_next g l.k)
