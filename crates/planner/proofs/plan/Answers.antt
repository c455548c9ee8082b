-- The ceiling is not below what an accepted table takes.
use Prim.Native.Nat.{min, ◌≤◌}
use mathlib.Core.Path.{◌≡◌, ap, ◌∙◌}
use native.Mathlib.Omega.{arith}
use Rattle.rules.specs.declared.Table.{Table}
use Rattle.rules.specs.Tables.{Accepted}
use Rattle.theory.specs.Facts.{facts}
use Rattle.ceiling.specs.declared.Counted.{Counted}
use Rattle.ceiling.specs.Ceiling.{trial_count, most_trials}
use Rattle.ceiling.proofs.Bounds.{count_most, planned_within}
use Rattle.planner.specs.Promise.{promised}
use Rattle.planner.proofs.plan.Goals as goal

-- of an accepted table all rows count
enough : (t : Table) → Accepted t → trial_count t ≤ most_trials (min t.n 64)
enough t a = let e : min t.n 64 ≡ t.n = omega (arith, (facts t a).few) in rw e (count_most t)

pub returns : goal.returns
returns c =
    let t = c.args.t in
    let most = c.most_trials in
    let within = c.plan_within in
    promised t within.result.planning
    (ap (λ (r : Counted). r.planning) within.ensures ∙ planned_within t most.result (λ a. omega (arith, enough t a, most.ensures)))
