-- The opening, the row, the slack and the full stop, one after the other.
use Rattle.std.proofs.Common.{ℤ, ◌≡◌, ap, rules, SFits, w32, to_z, of_z, to_z-of_z}
use Rattle.sentences.specs.Sentences.{slack_words, judge_sentence}
use Rattle.fields.specs.Texts.{puts_as, puts_then}
use Rattle.composer.proofs.put_judge.Goals as goal

-- the words of a slack that is read back from its bits
same_words : (z : ℤ) → SFits w32 z → slack_words (to_z w32 (of_z w32 z)) ≡ slack_words z
same_words z f = ap slack_words (to_z-of_z f)

pub returns : goal.returns
unfolding judge_sentence
returns c =
    puts_then c.put_judge_opening.ensures (puts_then c.put_bytes.ensures (puts_then c.put_decimal.ensures (puts_then c.put_bytes-2.ensures
    (puts_then (puts_as (same_words c.args.answer.slack (search rules)) c.put_slack.ensures) c.put_byte.ensures))))
