-- Back and there: what the reader takes is the sentence of the answer that it read, and that answer fits its fields; what it refuses is no answer's
-- sentence (rules 24.11, 24.13).
use Rattle.std.specs.Prelude.{ℕ, List, ◌≡◌}
use Rattle.rules.specs.declared.Refusal.TheVariants.{Malformed}
use Rattle.rules.specs.Checks.{Passed, Refused}
use Rattle.sentences.specs.declared.PlanAnswer.{PlanAnswer}
use Rattle.sentences.specs.declared.JudgeAnswer.{JudgeAnswer}
use Rattle.sentences.specs.declared.Kind.TheVariants.{Neither, Planner, Judge}
use Rattle.sentences.specs.Sentences.{plan_sentence, judge_sentence}
use Rattle.sentences.specs.Reading.{no_plan, no_verdict, read_sentence}
use Rattle.sentences.specs.RoundTrip.{PlanFits, JudgeFits}

-- ---- any bytes
-- what the reader answers, and why
pub data Reads (bytes : List ℕ) : Type 0 where
  -- they are the sentence of this planner's answer
  planned : (a : PlanAnswer) → PlanFits a → plan_sentence a ≡ bytes → read_sentence bytes ≡ record { check = Passed; kind = Planner; plan = a; verdict = no_verdict } → Reads bytes
  -- they are the sentence of this judge's answer
  judged : (a : JudgeAnswer) → JudgeFits a → judge_sentence a ≡ bytes → read_sentence bytes ≡ record { check = Passed; kind = Judge; plan = no_plan; verdict = a } → Reads bytes
  -- they are no answer's sentence
  neither : ((a : PlanAnswer) → PlanFits a → plan_sentence a ≡ bytes → ⊥) → ((a : JudgeAnswer) → JudgeFits a → judge_sentence a ≡ bytes → ⊥)
      → read_sentence bytes ≡ record { check = Refused Malformed; kind = Neither; plan = no_plan; verdict = no_verdict } → Reads bytes
