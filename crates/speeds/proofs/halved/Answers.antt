-- One planning at the middle speed decides for all speeds on one side of it.
use Prim.Native.Nat.{◌<◌}
use native.Mathlib.Omega.{arith}
use lib.Dec.{eqb}
use mathlib.Core.Path.{◌≡◌, refl, sym, ap, ◌∙◌}
use Rattle.rules.specs.declared.Planning.{Planning}
use Rattle.rules.specs.Choice.{plan_of}
use Rattle.rules.specs.Numbers.{planned_number}
use Rattle.searches.specs.Speeds.{at_speed, makes_order}
use Rattle.theory.specs.Tests.{by_eqb}
use Rattle.speeds.specs.declared.Between.{Between}
use Rattle.speeds.specs.Halving.{middle, halving_found, halving_failed}
use Rattle.speeds.proofs.halved.Goals as goal
use Rattle.speeds.proofs.halved.Goals.{After-is_ordered}

-- what was planned, from the last branch
module _ (c : After-is_ordered) where
  abbrev between : Between
  between = c.args.between

  apart : between.low < between.high
  apart = by_eqb between.low between.high (λ _ e. absurd (c.if-low-high.false e)) (λ _ e. omega (arith, c.requires.1.ordered))

  planning_is : c.plan-planning.result ≡ plan_of (at_speed c.args.sought c.args.t (middle between))
  planning_is = c.plan-planning.ensures.answer ∙ ap plan_of c.at_speed.ensures

  works_is : c.is_ordered.result ≡ makes_order c.args.sought c.args.t (middle between)
  unfolding makes_order
  works_is = c.is_ordered.ensures ∙ ap (λ (p : Planning). eqb (planned_number p.answer) 0) planning_is

pub returns-then-is_ordered : goal.returns-then-is_ordered
returns-then-is_ordered c =
    let k = (goal.at.returns-then-is_ordered c).After-is_ordered in (
      halving_found c.args.sought c.args.t c.requires.0 c.args.between c.requires.1 (apart k) _
          refl refl (ap (λ (p : Planning). p.order) (planning_is k)) (sym (works_is k) ∙ c.if-is_ordered.true),
      omega arith,
    )

pub returns-else-is_ordered : goal.returns-else-is_ordered
returns-else-is_ordered c =
    let k = (goal.at.returns-else-is_ordered c).After-is_ordered in (
      halving_failed c.args.sought c.args.t c.requires.0 c.args.between c.requires.1 (apart k) _
          refl refl refl (sym (works_is k) ∙ c.if-is_ordered.false),
      omega (arith, apart k),
    )
