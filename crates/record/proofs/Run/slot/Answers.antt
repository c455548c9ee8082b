use Rattle.std.proofs.Common.{sym, ap, ◌∙◌}
use Rattle.record.specs.declared.Run.{Run}
use Rattle.record.specs.SlotAnswers.{Worked}
use Rattle.record.specs.Records.{worked_run, closed_run}
use Rattle.record.specs.Coming.{coming_worked, slot_worked, slot_refused}
use Rattle.record.proofs.Sound.{speeds}
use Rattle.record.specs.Stepping.{next_looks}
use Rattle.record.proofs.Run.slot.Goals as goal

pub work-requires : goal.work-requires
work-requires c =
    let w = coming_worked _ _ (sym c.coming-answer.ensures ∙ c.in-Ok.is) in
    (w.0, w.1)

pub close_late-run-requires : goal.close_late-run-requires
unfolding worked_run
close_late-run-requires c =
    let w = coming_worked _ _ (sym c.coming-answer.ensures ∙ c.in-Ok.is) in
    rw c.work.ensures (speeds _ w.0).few

pub returns-in-Ok : goal.returns-in-Ok
returns-in-Ok c =
    rw c.in-Ok.is
    (ap (λ (r : Run). record { answer = Worked c.in-Ok.field-0; run = r })
    (c.close_late-run.ensures ∙ ap closed_run c.work.ensures ∙ sym (next_looks c.args.self c.args.supply))
    ∙ sym (slot_worked c.args.self c.args.supply c.in-Ok.field-0 (sym c.coming-answer.ensures ∙ c.in-Ok.is)))

pub returns-in-Err : goal.returns-in-Err
returns-in-Err c = rw c.in-Err.is (sym (slot_refused _ _ _ (sym c.coming-answer.ensures ∙ c.in-Err.is)))
