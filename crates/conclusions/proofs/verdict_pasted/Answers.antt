-- The line is long enough for every sentence, and what stands at its start is the sentence, which is read back.
use Rattle.std.proofs.Common.{◌≡◌, ◌≤◌, ℕ, length, sym, subst, ◌∙◌, arith, Fits, SFits, to_z, of_z, to_z-of_z}
use Rattle.std.specs.Prelude.{ℤ}
use Rattle.std.specs.Int.{w32}
use Rattle.sentences.specs.declared.JudgeAnswer.{JudgeAnswer}
use Rattle.sentences.specs.Sentences.{judge_sentence}
use Rattle.sentences.proofs.Longest.{judge_longest}
use Rattle.sentences.specs.RoundTrip.{SlackFits, JudgeFits}
use Rattle.composer.specs.Fits.{slack_fits}
use Rattle.conclusions.specs.Conclusions.{VerdictPasted}
use Rattle.conclusions.specs.Pasting.{composed_zero, line_within, line_front, line_long, verdict_pasted}
use Rattle.conclusions.proofs.verdict_pasted.Goals as goal

-- the answer as it is handed on, its slack read back from its bits; its values fit their fields, and so its sentence fits the line
module _ (number yes row : ℕ) (slack : ℤ) where
  abbrev told : JudgeAnswer
  told = record { number = number; yes = yes; row = row; slack = to_z w32 (of_z w32 slack) }

  module _ (n : Fits w32 number) (y : Fits w32 yes) (r : Fits w32 row) (s : SFits w32 slack) where
    same : told.slack ≡ slack
    same = to_z-of_z {w = w32} {z = slack} s

    fits : JudgeFits told
    fits = record { number = omega (arith, n.fits); yes = omega (arith, y.fits); row = omega (arith, r.fits); slack = subst SlackFits (sym same) (slack_fits slack s) }

    enough : length (judge_sentence told) ≤ 739
    enough = omega (arith, judge_longest told fits)

pub slice_bounds-line-end : goal.slice_bounds-line-end
slice_bounds-line-end c =
    let x = c.args in
    let b = c.ranges in
    let e = c.jb_judge_sentence-composed.ensures in
    line_within (judge_sentence (told x.number x.yes x.row x.slack)) _ (enough x.number x.yes x.row x.slack b.number b.yes b.row b.slack) _ _ e.1 e.2

pub slice_bounds-line_read-end : goal.slice_bounds-line_read-end
slice_bounds-line_read-end c =
    let x = c.args in
    let b = c.ranges in
    let e = c.jb_judge_sentence-composed.ensures in
    line_long (judge_sentence (told x.number x.yes x.row x.slack)) _ (enough x.number x.yes x.row x.slack b.number b.yes b.row b.slack) _ _ e.1 e.2

pub returns : goal.returns
returns c =
    let x = c.args in
    let b = c.ranges in
    let a = told x.number x.yes x.row x.slack in
    let h = enough x.number x.yes x.row x.slack b.number b.yes b.row b.slack in
    let e = c.jb_judge_sentence-composed.ensures in
    subst (λ (z : ℤ). VerdictPasted x.number x.yes x.row z c.line_read.result) (same x.number x.yes x.row x.slack b.number b.yes b.row b.slack)
    (verdict_pasted a (fits x.number x.yes x.row x.slack b.number b.yes b.row b.slack) _ _ _
    (e.0 ∙ composed_zero (judge_sentence a) _ h)
    (line_front (judge_sentence a) _ h _ _ e.1 e.2)
    c.line_read.ensures.told)
