-- The two answers, made of the figures that were read one after the other.
use Rattle.std.specs.Prelude.{ℕ, ◌+◌, Bool, List, ◌≡◌, ℤ, get_or, take, drop}
use Rattle.std.proofs.Common.{◌∙◌, arith}
use Rattle.rules.specs.Choice.{padded}
use Rattle.sentences.specs.declared.JudgeAnswer.{JudgeAnswer}
use Rattle.sentences.specs.declared.PlanAnswer.{PlanAnswer}
use Rattle.sentences.specs.Reading.{figures_in, at_most, word_of, plan_in, slack_of, judge_from}
use Rattle.parser.specs.declared.Figure.{Figure}
use Rattle.parser.specs.Figures.{FigureAt}
use Rattle.parser.specs.Following.{places}

-- the planner's: figure 3 is the first place, and its count of rows comes right after the places
pub plan_read : (figures : List ℕ) (number trials many rows left : ℕ) (order : List ℕ) → number ≡ get_or figures 0 0 → trials ≡ get_or figures 1 0
    → many ≡ at_most (get_or figures 2 0) → order ≡ padded (places (drop 3 figures) many) → rows ≡ get_or figures (3 + many) 0
    → left ≡ word_of 0 (take (at_most rows) (drop (3 + many + 1) figures))
    → ◌≡◌ {A = PlanAnswer} (record { number = number; left = left; order = order; trials = trials }) (plan_in figures)
unfolding plan_in
plan_read figures number trials many rows left order n t m o r l =
    let e : 3 + many + 1 ≡ 4 + many = omega arith in
    rw (l, e, o, n, t, r, m)

-- the judge's
pub judge_read : (minus : Bool) (said : ℕ) (figures : List ℕ) (number row : ℕ) (slack : ℤ) → number ≡ get_or figures 0 0 → row ≡ get_or figures 1 0
    → slack ≡ slack_of minus (get_or figures 2 0)
    → ◌≡◌ {A = JudgeAnswer} (record { number = number; yes = said; row = row; slack = slack }) (judge_from minus said figures)
judge_read minus said figures number row slack n r s = rw (n, r, s)

-- the judge's where its yes or no is a figure too
pub judge_other : (minus : Bool) (bytes : List ℕ) (said : Figure) (r : JudgeAnswer) → FigureAt bytes 0 said
    → r ≡ judge_from minus said.value (figures_in (drop said.next bytes))
    → r ≡ judge_from minus (get_or (figures_in bytes) 0 0) (drop 1 (figures_in bytes))
judge_other minus bytes said r f e = e ∙ rw (f.first, f.rest)
