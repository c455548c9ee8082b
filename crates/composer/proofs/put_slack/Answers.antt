-- Below 0 the minus, and then the size with its noun.
use Rattle.std.proofs.Common.{ℕ, ◌≡◌, ◌+◌, true, false, [], ◌∷◌, ℤ, pos, negsuc, nat_abs, length, refl, ap, ◌∙◌, arith, ltb-true, SFits, w32, to_z, of_z, to_z-of_z}
use Rattle.std.specs.Int.Signed.{lt_z}
use Rattle.texts.specs.Quoted.{bytes, together}
use Rattle.sentences.specs.Sentences.{counted, minus_of, slack_words}
use Rattle.fields.specs.Texts.{Puts, puts_as, puts_none, puts_then}
use Rattle.phrases.specs.Together.{together_long, puts_last}
use Rattle.composer.proofs.put_slack.Goals as goal
use Rattle.composer.proofs.put_slack.Goals.{After-unsigned_abs, then-slack-lt0, else-slack-lt0}

-- the minus for each sign
minus_below : (z : ℤ) → lt_z z (pos 0) ≡ true → bytes "-" ≡ minus_of z
minus_below (pos n) t = absurd (omega (arith, ltb-true n 0 t))
minus_below (negsuc m) t = refl

minus_none : (z : ℤ) → lt_z z (pos 0) ≡ false → [] ≡ minus_of z
minus_none (pos n) t = refl
minus_none (negsuc m) t = let e : ◌≡◌ {A = ℕ} 0 1 = cc in absurd (omega arith)

-- the slack is read back from its bits
module _ (z : ℤ) (f : SFits w32 z) where
  same : to_z w32 (of_z w32 z) ≡ z
  same = to_z-of_z f

  minus_same : minus_of (to_z w32 (of_z w32 z)) ≡ minus_of z
  minus_same = ap minus_of same

words : (z : ℤ) (size : ℕ) → size ≡ nat_abs z → together (minus_of z ∷ counted size (bytes " slot") ∷ []) ≡ slack_words z
unfolding slack_words
words z size e = ap (λ (v : ℕ). together (minus_of z ∷ counted v (bytes " slot") ∷ [])) e

words_long : (z : ℤ) (size : ℕ) → size ≡ nat_abs z → length (slack_words z) ≡ length (minus_of z) + length (counted size (bytes " slot"))
words_long z size e = omega (arith, ap length (words z size e), together_long (minus_of z ∷ counted size (bytes " slot") ∷ []))

-- the minus is put if there is one
minus_put : (c : After-unsigned_abs) → Puts c.args.text.now c.if-slack-lt0.text (minus_of c.args.slack)
minus_put c =
    elim c.if-slack-lt0.branch [
      | then-slack-lt0 w ↦ rw w.text-is (puts_as (minus_below _ w.if-slack-lt0.true ∙ minus_same c.args.slack c.ranges.slack) w.put_byte.ensures)
      | else-slack-lt0 w ↦ rw w.text-is (puts_as (minus_none _ w.if-slack-lt0.false ∙ minus_same c.args.slack c.ranges.slack) (puts_none c.args.text.now (omega arith)))
    ]

size_is : (c : After-unsigned_abs) → c.unsigned_abs.result ≡ nat_abs c.args.slack
size_is c = c.unsigned_abs.ensures.value ∙ ap nat_abs (same c.args.slack c.ranges.slack)

pub put_byte-requires : goal.put_byte-requires
put_byte-requires c =
    let l = words_long c.args.slack _ refl in
    let m = ap length (minus_below _ c.if-slack-lt0.true ∙ minus_same c.args.slack c.ranges.slack) in
    omega (arith, l, m)

pub put_counted-requires : goal.put_counted-requires
put_counted-requires c =
    let d = (goal.at.put_counted-requires c).After-unsigned_abs in
    omega (arith, minus_put d, words_long c.args.slack c.unsigned_abs.result (size_is d))

pub returns : goal.returns
returns c =
    let d = (goal.at.returns c).After-unsigned_abs in
    puts_as (words c.args.slack c.unsigned_abs.result (size_is d)) (puts_then (minus_put d) (puts_last c.put_counted.ensures))
