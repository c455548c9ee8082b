use Rattle.std.proofs.Common.{get_or, sym, ap, ◌∙◌, arith, lt-ltb}
use Rattle.rules.specs.Calls.{last_clock}
use Rattle.record.specs.declared.Run.{Run}
use Rattle.record.specs.Records.{worked_run, closed_run, due_of}
use Rattle.record.proofs.Kept.{sized_kept, sound_kept}
use Rattle.record.proofs.Sound.{speeds}
use Rattle.forward.specs.Forwarding.{next_clock, Looked, look_taken, look_left, work_end, work_over, work_next}
use Rattle.forward.proofs.worked.Goals as goal
use Rattle.forward.proofs.worked.Goals.{then-due-run, else-due-run}

pub due-due-requires : goal.due-due-requires
due-due-requires c = (speeds _ c.requires).few

pub returns-then-run-ge-LAST_CLOCK : goal.returns-then-run-ge-LAST_CLOCK
returns-then-run-ge-LAST_CLOCK c =
    let l = c.loop-supply in
    work_over c.args.supplies.now l.supply-index l.run _ l.invariant.4 _ l.invariant.0 c.loop-supply-test.true c.if-run-ge-LAST_CLOCK.true

pub close_late-run-requires : goal.close_late-run-requires
unfolding worked_run
close_late-run-requires c = rw c.work-run.ensures (speeds _ c.loop-supply.invariant.3).few

pub due-due-requires-then-due-run : goal.due-due-requires-then-due-run
unfolding closed_run worked_run
due-due-requires-then-due-run c = rw (c.close_late-run.ensures, c.work-run.ensures) (speeds _ c.loop-supply.invariant.3).few

pub loop-supply-preserved : goal.loop-supply-preserved
loop-supply-preserved c =
    let l = c.loop-supply in
    let r = l.run in
    let vs = c.args.supplies.now in
    let v = get_or vs l.supply-index 0 in
    let below = c.if-run-ge-LAST_CLOCK.false in
    let inv = l.invariant in
    let w = c.work-run.ensures in
    let next : Looked r v c.if-due-run.run c.if-due-run.due =
    elim c.if-due-run.branch [
      | then-due-run x ↦ look_taken r v _ c.if-due-run.run c.if-due-run.due w (x.run-is ∙ x.close_late-run.ensures)
          (x.due-is ∙ x.due-due-then-due-run.ensures ∙ ap due_of (sym x.run-is))
      | else-due-run x ↦ rw (x.run-is, x.due-is) (look_left r v _ _ w inv.5 x.if-due-run.false)
    ] in
    let e = next.is_next in (
      omega (arith, inv.0),
      omega (arith, inv.1, ap (λ (x : Run). x.clock) e, next_clock r v),
      rw e (sized_kept r v inv.2),
      rw e (sound_kept r v inv.2 inv.3 (lt-ltb r.clock last_clock below)),
      rw e (work_next vs l.supply-index r _ inv.4 c.loop-supply-test.true below),
      next.early,
    )

pub returns : goal.returns
returns c =
    let l = c.loop-supply in
    work_end c.args.supplies.now l.supply-index l.run _ l.invariant.4 _ l.invariant.0 c.loop-supply-test.false
