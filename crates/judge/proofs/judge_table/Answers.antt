-- A refusal of table or order is the judge's; else the verdict answers.
use Rattle.std.proofs.Common.{rules, sym, ◌∙◌}
use Rattle.judge.specs.Promise.{promised, judge_refused, judge_passed}
use Rattle.judge.proofs.judge_table.Goals as goal

pub returns-in_err-check_both : goal.returns-in_err-check_both
returns-in_err-check_both c =
    let a = c.args in
    let refused = judge_refused a.t a.order c.in_err-check_both.field-0.0 (sym c.check_both.ensures ∙ c.in_err-check_both.was) in
    promised a.t a.order _ (rw refused (search rules))

pub returns : goal.returns
returns c =
    let a = c.args in
    promised a.t a.order _ (c.verdict.ensures ∙ sym (judge_passed a.t a.order (sym c.check_both.ensures ∙ c.in_ok-check_both.was)))
