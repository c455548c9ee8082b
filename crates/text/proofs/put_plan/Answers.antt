use Rattle.std.proofs.Common.{ℕ, [], ◌∷◌, rules, ap, ◌∙◌}
use Rattle.rules.specs.Plans.{Ordered, NoOrder, Refused}
use Rattle.texts.specs.Fields.{line}
use Rattle.fields.specs.Texts.{puts_as}
use Rattle.text.specs.Slacks.{ordered_right}
use Rattle.text.specs.Answers.{planning_text}
use Rattle.text.proofs.put_plan.Goals as goal

pub put_order-requires : goal.put_order-requires
put_order-requires c =
    (ordered_right c.args.t c.plan-planning.result c.requires.0 c.plan-planning.ensures (search rules), c.requires.1)

pub returns-in-Ok-Ordered : goal.returns-in-Ok-Ordered
returns-in-Ok-Ordered c =
    puts_as (planning_text c.args.t c.plan-planning.result Ordered c.plan-planning.ensures.answer (search rules)) c.put_order.ensures

pub returns-in-Ok-NoOrder : goal.returns-in-Ok-NoOrder
returns-in-Ok-NoOrder c =
    puts_as
    (ap (λ (n : ℕ). line (7 ∷ n ∷ [])) c.how_many.ensures
    ∙ planning_text c.args.t c.plan-planning.result (NoOrder c.in-Ok-NoOrder.left) c.plan-planning.ensures.answer (search rules))
    c.put_line.ensures

pub returns-in-Err : goal.returns-in-Err
returns-in-Err c =
    puts_as
    (ap (λ (n : ℕ). line (n ∷ 0 ∷ [])) c.refusal_number.ensures
    ∙ planning_text c.args.t c.plan-planning.result (Refused c.in-Err.why) c.plan-planning.ensures.answer c.in-Err.is)
    c.put_line-in-Err.ensures
