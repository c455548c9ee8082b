-- The answers as the planner and the judge give them: their number and values say which case it is, so that their sentences tell them apart (rule 24.14).
use Rattle.std.specs.Prelude.{ℕ, false, cond, List, [], ◌∷◌, ◌≡◌, refl, eqb, Ok, Err}
use Rattle.std.proofs.Common.{sym, ap, ◌∙◌}
use Rattle.rules.specs.declared.Refusal.{Refusal}
use Rattle.rules.specs.declared.Refusal.TheVariants.{Length, Malformed, RowCount, Speeds, RowLimits, NotAnOrder, ClockOver, Unsound, NoRoom, Loading, Promised, NotLower, ReleasedLater, FollowsLow, NotCorrect, RowOpen, ReleasedBefore, TrialsOver, TooManyRows}
use Rattle.rules.specs.Plans.{Planned}
use Rattle.rules.specs.Plans as Plans
use Rattle.rules.specs.Verdicts.{Judgement}
use Rattle.rules.specs.Verdicts as Verdicts
use Rattle.rules.specs.declared.Plan.TheVariants as Plan
use Rattle.rules.specs.declared.Verdict.TheVariants as Verdict
use Rattle.rules.specs.Numbers.{refusal_number, planned_number, rows_left, verdict_number, verdict_yes, verdict_row, verdict_slack}
use Rattle.ceiling.specs.declared.Counted.{Counted}
use Rattle.sentences.specs.declared.PlanAnswer.{PlanAnswer}
use Rattle.sentences.specs.declared.JudgeAnswer.{JudgeAnswer}
use Rattle.sentences.specs.Sentences.{plan_sentence, judge_sentence, plan_answer, judge_answer}
use Rattle.sentences.proofs.RoundTrip.{plans_differ, judges_differ}
use Rattle.sentences.specs.RoundTrip.{PlanFits, JudgeFits}

-- ---- the case, from the number and the values
-- the refusals with their numbers
abbrev first : List Refusal → ℕ → Refusal
first [] number = Length
first (r ∷ rs) number = cond (eqb (refusal_number r) number) r (first rs number)

abbrev refusal_of : ℕ → Refusal
refusal_of =
    first
    (Length ∷ Malformed ∷ RowCount ∷ Speeds ∷ RowLimits ∷ NotAnOrder ∷ ClockOver ∷ Unsound ∷ NoRoom ∷ Loading ∷ Promised ∷ NotLower ∷ ReleasedLater
    ∷ FollowsLow ∷ NotCorrect ∷ RowOpen ∷ ReleasedBefore ∷ TrialsOver ∷ TooManyRows ∷ [])

-- each refusal has its own number, which is neither 0 nor 7
refusal_back : (r : Refusal) → (refusal_of (refusal_number r) ≡ r) × (eqb (refusal_number r) 0 ≡ false) × (eqb (refusal_number r) 7 ≡ false)
unfolding refusal_number
refusal_back Length = (refl, refl, refl)
refusal_back Malformed = (refl, refl, refl)
refusal_back RowCount = (refl, refl, refl)
refusal_back Speeds = (refl, refl, refl)
refusal_back RowLimits = (refl, refl, refl)
refusal_back NotAnOrder = (refl, refl, refl)
refusal_back ClockOver = (refl, refl, refl)
refusal_back Unsound = (refl, refl, refl)
refusal_back NoRoom = (refl, refl, refl)
refusal_back Loading = (refl, refl, refl)
refusal_back Promised = (refl, refl, refl)
refusal_back NotLower = (refl, refl, refl)
refusal_back ReleasedLater = (refl, refl, refl)
refusal_back FollowsLow = (refl, refl, refl)
refusal_back NotCorrect = (refl, refl, refl)
refusal_back RowOpen = (refl, refl, refl)
refusal_back ReleasedBefore = (refl, refl, refl)
refusal_back TrialsOver = (refl, refl, refl)
refusal_back TooManyRows = (refl, refl, refl)

abbrev planned_of : ℕ → ℕ → Planned
planned_of number left = cond (eqb number 0) Plans.Ordered (cond (eqb number 7) (Plans.NoOrder left) (Plans.Refused (refusal_of number)))

planned_back : (p : Planned) → planned_of (planned_number p) (rows_left p) ≡ p
unfolding planned_number rows_left
planned_back (Ok Plan.Ordered) = refl
planned_back (Ok (Plan.NoOrder left)) = refl
planned_back (Err r) = rw ((refusal_back r).1, (refusal_back r).2) (ap Plans.Refused (refusal_back r).0)

abbrev verdict_of : JudgeAnswer → Judgement
verdict_of a =
    cond (eqb a.number 0)
    (cond (eqb a.yes 1) (Verdicts.Correct a.row a.slack) (Verdicts.Incorrect a.row a.slack))
    (Verdicts.Refused (refusal_of a.number))

verdict_back_lem : (v : Judgement) → verdict_of (judge_answer v) ≡ v
unfolding verdict_number verdict_yes verdict_row verdict_slack
verdict_back_lem (Ok (Verdict.Correct row slack)) = refl
verdict_back_lem (Ok (Verdict.Incorrect row slack)) = refl
verdict_back_lem (Err r) = rw (refusal_back r).1 (ap Verdicts.Refused (refusal_back r).0)

abbrev counted_of : PlanAnswer → Counted
counted_of a = record { planning = record { answer = planned_of a.number a.left; order = a.order }; trials = a.trials }

counted_back : (c : Counted) → counted_of (plan_answer c) ≡ c
counted_back c = ap (λ (p : Planned). record { planning = record { answer = p; order = c.planning.order }; trials = c.trials }) (planned_back c.planning.answer)

-- ---- one sentence, one answer
pub counted_differ : (c d : Counted) → PlanFits (plan_answer c) → PlanFits (plan_answer d) → plan_sentence (plan_answer c) ≡ plan_sentence (plan_answer d) → c ≡ d
counted_differ c d f g e = sym (counted_back c) ∙ ap counted_of (plans_differ (plan_answer c) (plan_answer d) f g e) ∙ counted_back d

pub verdicts_differ : (v w : Judgement) → JudgeFits (judge_answer v) → JudgeFits (judge_answer w) → judge_sentence (judge_answer v) ≡ judge_sentence (judge_answer w) → v ≡ w
verdicts_differ v w f g e = sym (verdict_back_lem v) ∙ ap verdict_of (judges_differ (judge_answer v) (judge_answer w) f g e) ∙ verdict_back_lem w
