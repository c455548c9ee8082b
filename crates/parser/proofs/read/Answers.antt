-- The bytes are compared with the sentence of the planner's answer in them, and then with that of the judge's.
use Rattle.std.proofs.Common.{sym, subst, ◌∙◌}
use Rattle.sentences.specs.RoundTrip.{PlanFits, JudgeFits}
use Rattle.sentences.proofs.ReadsBack.{plan_in_fits, judge_in_fits}
use Rattle.parser.specs.Told.{told_plan, told_judge, told_neither}
use Rattle.parser.proofs.read.Goals as goal

pub is_plan-requires : goal.is_plan-requires
is_plan-requires c = subst PlanFits (sym c.read_plan-plan.ensures) (plan_in_fits c.args.bytes.now)

pub returns-then-is_plan : goal.returns-then-is_plan
returns-then-is_plan c =
    told_plan c.args.bytes.now c.read_plan-plan.result c.no_plan-no_plan.result c.no_verdict-no_verdict.result
    c.read_plan-plan.ensures c.no_plan-no_plan.ensures c.no_verdict-no_verdict.ensures (sym c.is_plan.ensures ∙ c.if-is_plan.true)

pub is_judge-requires : goal.is_judge-requires
is_judge-requires c = subst JudgeFits (sym c.read_judge-verdict.ensures) (judge_in_fits c.args.bytes.now)

pub returns-then-is_judge : goal.returns-then-is_judge
returns-then-is_judge c =
    told_judge c.args.bytes.now c.read_plan-plan.result c.no_plan-no_plan.result c.no_verdict-no_verdict.result
    c.read_plan-plan.ensures c.no_plan-no_plan.ensures c.no_verdict-no_verdict.ensures
    c.read_judge-verdict.result c.read_judge-verdict.ensures (sym c.is_plan.ensures ∙ c.if-is_plan.false) (sym c.is_judge.ensures ∙ c.if-is_judge.true)

pub returns : goal.returns
returns c =
    told_neither c.args.bytes.now c.read_plan-plan.result c.no_plan-no_plan.result c.no_verdict-no_verdict.result
    c.read_plan-plan.ensures c.no_plan-no_plan.ensures c.no_verdict-no_verdict.ensures
    c.read_judge-verdict.result c.read_judge-verdict.ensures (sym c.is_plan.ensures ∙ c.if-is_plan.false) (sym c.is_judge.ensures ∙ c.if-is_judge.false)
