-- Where the checks pass the finishes are the judge's, and a refusal answers for itself.
use Rattle.std.proofs.Common.{sym, ap, ◌∙◌}
use Rattle.rules.specs.declared.Table.{Table}
use Rattle.rules.specs.Numbers.{check_number}
use Rattle.rules.specs.Orders.{check_both}
use Rattle.jasminebrace.specs.Finishes.{finishes_of, finishes_passed, finishes_refused}
use Rattle.jasminebrace.proofs.jb_finishes.Goals as goal

pub returns-in-Ok : goal.returns-in-Ok
unfolding check_number
returns-in-Ok c =
    let o = c.args.order.now in
    let t = c.table_in-t in
    let p = sym c.check_both.ensures ∙ c.in-Ok.is in (
      sym (ap check_number p) ∙ ap (λ (t : Table). check_number (check_both t o)) t.ensures,
      c.worst_finishes.ensures ∙ sym (finishes_passed t.result o p) ∙ ap (λ (t : Table). finishes_of t o) t.ensures,
    )

pub returns-in-Err : goal.returns-in-Err
unfolding check_number
returns-in-Err c =
    let o = c.args.order.now in
    let t = c.table_in-t in
    let p = sym c.check_both.ensures ∙ c.in-Err.is in (
      c.refusal_number.ensures ∙ sym (ap check_number p) ∙ ap (λ (t : Table). check_number (check_both t o)) t.ensures,
      sym (finishes_refused t.result o _ p) ∙ ap (λ (t : Table). finishes_of t o) t.ensures,
    )
