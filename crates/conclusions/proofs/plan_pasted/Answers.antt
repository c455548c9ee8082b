-- The line is long enough for every sentence, and what stands at its start is the sentence, which is read back.
use Rattle.std.proofs.Common.{◌≡◌, ℕ, leb, length, get_or, ◌∙◌, arith, rules, le-leb, Fits}
use Rattle.std.specs.Int.{w8, w32, w64}
use Rattle.sentences.specs.declared.PlanAnswer.{PlanAnswer}
use Rattle.sentences.specs.Sentences.{plan_sentence}
use Rattle.sentences.proofs.Longest.{plan_longest}
use Rattle.sentences.specs.RoundTrip.{PlanFits}
use Rattle.composer.specs.Lists.{all_entries}
use Rattle.conclusions.specs.Pasting.{composed_zero, line_within, line_front, line_long, plan_pasted}
use Rattle.conclusions.proofs.plan_pasted.Goals as goal

-- the values fit their fields
told_fits : (a : PlanAnswer) → Fits w32 a.number → Fits w64 a.left → length a.order ≡ 64 → ((i : ℕ) → Fits w8 (get_or a.order i 0)) → Fits w32 a.trials → PlanFits a
told_fits a n l o e t = record {
  number = omega (arith, n.fits);
  left = l.fits;
  long = o;
  small = all_entries (λ y. leb y 255) a.order (λ i. le-leb (get_or a.order i 0) 255 (omega (arith, (e i).fits)));
  trials = omega (arith, t.fits);
}

pub slice_bounds-line-end : goal.slice_bounds-line-end
slice_bounds-line-end c =
    let x = c.args in
    let a : PlanAnswer = record { number = x.number; left = x.left; order = x.order; trials = x.trials } in
    let f : PlanFits a = told_fits a c.ranges.number c.ranges.left (search rules) (λ i. search rules) c.ranges.trials in
    let e = c.jb_plan_sentence-composed.ensures in
    line_within (plan_sentence a) _ (plan_longest a f) _ _ e.1 e.2

pub slice_bounds-line_read-end : goal.slice_bounds-line_read-end
slice_bounds-line_read-end c =
    let x = c.args in
    let a : PlanAnswer = record { number = x.number; left = x.left; order = x.order; trials = x.trials } in
    let f : PlanFits a = told_fits a c.ranges.number c.ranges.left (search rules) (λ i. search rules) c.ranges.trials in
    let e = c.jb_plan_sentence-composed.ensures in
    line_long (plan_sentence a) _ (plan_longest a f) _ _ e.1 e.2

pub returns : goal.returns
returns c =
    let x = c.args in
    let a : PlanAnswer = record { number = x.number; left = x.left; order = x.order; trials = x.trials } in
    let f : PlanFits a = told_fits a c.ranges.number c.ranges.left (search rules) (λ i. search rules) c.ranges.trials in
    let enough = plan_longest a f in
    let e = c.jb_plan_sentence-composed.ensures in
    plan_pasted a f _ _ _
    (e.0 ∙ composed_zero (plan_sentence a) _ enough)
    (line_front (plan_sentence a) _ enough _ _ e.1 e.2)
    c.line_read.ensures.told
