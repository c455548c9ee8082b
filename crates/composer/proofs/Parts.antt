-- How long the parts of a sentence are together.
use Rattle.std.proofs.Common.{ℕ, ◌≡◌, ◌+◌, List, [], ◌∷◌, length, arith}
use Rattle.texts.specs.Decimals.{decimal}
use Rattle.texts.specs.Quoted.{bytes}
use Rattle.sentences.specs.declared.JudgeAnswer.{JudgeAnswer}
use Rattle.sentences.specs.declared.PlanAnswer.{PlanAnswer}
use Rattle.sentences.specs.Sentences.{meaning, counted, enumerated, up_to_last, rows_in, plan_opening, plan_sentence, yes_or_no, judged_meaning, slack_words, judge_opening, judge_sentence}
use Rattle.phrases.specs.Together.{together_long}

pub plan_opening_long : (n : ℕ) → length (plan_opening n) ≡ length (decimal n) + length (meaning n) + 32
unfolding plan_opening
plan_opening_long n = omega (arith, together_long (bytes "The planner answers number " ∷ decimal n ∷ bytes " (" ∷ meaning n ∷ bytes "): " ∷ []))

-- the trials, the places and the rows left, as the sentence has them
abbrev pub trials : PlanAnswer → List ℕ
trials a = counted a.trials (bytes " trial")

abbrev pub placed : List ℕ → List ℕ
placed = enumerated (bytes " row") (bytes " in the order") (bytes " (highest first: ")

abbrev pub unplaced : List ℕ → List ℕ
unplaced = enumerated (bytes " row") (bytes " left") (bytes " (")

pub plan_long : (a : PlanAnswer)
    → length (plan_sentence a)
    ≡ length (plan_opening a.number) + (length (trials a) + (length (placed (up_to_last a.order)) + (length (unplaced (rows_in a.left)) + 5)))
unfolding plan_sentence
plan_long a =
    omega (
      arith,
      together_long (plan_opening a.number ∷ trials a ∷ bytes ", " ∷ placed (up_to_last a.order) ∷ bytes ", " ∷ unplaced (rows_in a.left) ∷ bytes "." ∷ []),
    )

pub judge_opening_long : (n said : ℕ) → length (judge_opening n said) ≡ length (yes_or_no said) + length (decimal n) + length (judged_meaning n said) + 29
unfolding judge_opening
judge_opening_long n said =
    omega (
      arith,
      together_long (bytes "The judge says " ∷ yes_or_no said ∷ bytes " (number " ∷ decimal n ∷ bytes ", " ∷ judged_meaning n said ∷ bytes "): " ∷ []),
    )

pub judge_long : (a : JudgeAnswer)
    → length (judge_sentence a) ≡ length (judge_opening a.number a.yes) + length (decimal a.row) + length (slack_words a.slack) + 22
unfolding judge_sentence
judge_long a =
    omega (
      arith,
      together_long (judge_opening a.number a.yes ∷ bytes "tightest row " ∷ decimal a.row ∷ bytes ", slack " ∷ slack_words a.slack ∷ bytes "." ∷ []),
    )
