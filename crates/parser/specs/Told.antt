-- What is told, by the two comparisons.
use Rattle.std.specs.Prelude.{Bool, true, false, List, ◌≡◌, ℕ}
use Rattle.std.proofs.Common.{sym, ◌∙◌}
use Rattle.std.proofs.Math.Path.{ap, ap₂}
use Rattle.rules.specs.declared.Refusal.TheVariants.{Malformed}
use Rattle.rules.specs.Checks.{Passed, Refused}
use Rattle.rules.specs.Lists.{same}
use Rattle.sentences.specs.declared.PlanAnswer.{PlanAnswer}
use Rattle.sentences.specs.declared.JudgeAnswer.{JudgeAnswer}
use Rattle.sentences.specs.declared.Kind.TheVariants.{Neither, Planner, Judge}
use Rattle.sentences.specs.declared.Told.{Told}
use Rattle.sentences.specs.Sentences.{plan_sentence, judge_sentence}
use Rattle.sentences.specs.Reading.{figures_in, plan_in, judge_in, no_plan, no_verdict, told_by, read_sentence}

module _ (bytes : List ℕ) (p q : PlanAnswer) (w : JudgeAnswer) (e : p ≡ plan_in (figures_in bytes)) (n : q ≡ no_plan) (m : w ≡ no_verdict) where
  -- they are the planner's sentence
  pub told_plan : same bytes (plan_sentence p) ≡ true → ◌≡◌ {A = Told} (record { check = Passed; kind = Planner; plan = p; verdict = w }) (read_sentence bytes)
  unfolding read_sentence
  told_plan s =
      ap (λ (x : JudgeAnswer). record { check = Passed; kind = Planner; plan = p; verdict = x }) m
      ∙ ap (λ (b : Bool). told_by b (same bytes (judge_sentence (judge_in bytes))) p (judge_in bytes)) (sym s)
      ∙ ap (λ (x : PlanAnswer). told_by (same bytes (plan_sentence x)) (same bytes (judge_sentence (judge_in bytes))) x (judge_in bytes)) e

  module _ (v : JudgeAnswer) (g : v ≡ judge_in bytes) (s : same bytes (plan_sentence p) ≡ false) where
    by_both : told_by (same bytes (plan_sentence p)) (same bytes (judge_sentence v)) p v ≡ read_sentence bytes
    unfolding read_sentence
    by_both = ap₂ (λ (x : PlanAnswer) (y : JudgeAnswer). told_by (same bytes (plan_sentence x)) (same bytes (judge_sentence y)) x y) e g

    -- they are the judge's
    pub told_judge : same bytes (judge_sentence v) ≡ true → ◌≡◌ {A = Told} (record { check = Passed; kind = Judge; plan = q; verdict = v }) (read_sentence bytes)
    told_judge t =
        ap (λ (x : PlanAnswer). record { check = Passed; kind = Judge; plan = x; verdict = v }) n
        ∙ ap₂ (λ (a b : Bool). told_by a b p v) (sym s) (sym t)
        ∙ by_both

    -- they are neither's
    pub told_neither : same bytes (judge_sentence v) ≡ false → ◌≡◌ {A = Told} (record { check = Refused Malformed; kind = Neither; plan = q; verdict = w }) (read_sentence bytes)
    told_neither t =
        ap₂ (λ (x : PlanAnswer) (y : JudgeAnswer). record { check = Refused Malformed; kind = Neither; plan = x; verdict = y }) n m
        ∙ ap₂ (λ (a b : Bool). told_by a b p v) (sym s) (sym t)
        ∙ by_both
