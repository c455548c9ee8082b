use native.Mathlib.Omega.{arith}
use Rattle.guarantee.specs.Reading.{next_after}
use Rattle.guarantee.specs.Turns.{going_first, going_last, going_noted, going_full}
use Rattle.guarantee.proofs.answered.Goals as goal
use Rattle.guarantee.proofs.answered.Goals.{then-said-k-ge2, else-said-k-ge2}

pub loop-i-init : goal.loop-i-init
loop-i-init c = going_first c.args.calls.now c.args.said.now c.args.run

pub loop-i-smaller : goal.loop-i-smaller
loop-i-smaller c =
    let more = c.loop-i-test.true in
    omega (arith, more, c.next_at-i.ensures, next_after c.args.calls.now c.loop-i.i more)

pub loop-i-preserved : goal.loop-i-preserved
loop-i-preserved c =
    let a = c.args in
    let l = c.loop-i in
    let g = l.invariant in
    let more = c.loop-i-test.true in
    elim c.if-said-k-ge2.branch [
      | then-said-k-ge2 w ↦
          rw (w.said-is, w.k-is, c.next_at-i.ensures, w.note.ensures)
          (going_noted a.calls.now a.said.now a.run l.said l.run l.i l.k g c.call_at-made.result c.call_at-made.ensures more
          (omega (arith, w.if-said-k-ge2.true, g.room)))
      | else-said-k-ge2 w ↦
          rw (w.said-is, w.k-is, c.next_at-i.ensures)
          (going_full a.calls.now a.said.now a.run l.said l.run l.i l.k g c.call_at-made.result c.call_at-made.ensures more
          (omega (arith, w.if-said-k-ge2.false, g.room)))
    ]

pub returns : goal.returns
returns c =
    let a = c.args in
    let l = c.loop-i in
    going_last a.calls.now a.said.now a.run l.said l.run l.i l.k l.invariant c.loop-i-test.false
