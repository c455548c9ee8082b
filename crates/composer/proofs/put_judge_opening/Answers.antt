-- The words with yes or no, and the number with what it means in brackets, one after the other.
use Rattle.sentences.specs.Sentences.{judge_opening}
use Rattle.fields.specs.Texts.{puts_then}
use Rattle.phrases.specs.Together.{puts_last}
use Rattle.composer.proofs.put_judge_opening.Goals as goal

pub returns : goal.returns
unfolding judge_opening
returns c =
    puts_then c.put_bytes.ensures (puts_then c.put_yes_or_no.ensures (puts_then c.put_bytes-2.ensures (puts_then c.put_decimal.ensures
    (puts_then c.put_bytes-3.ensures (puts_then c.put_judged_meaning.ensures (puts_last c.put_bytes-4.ensures))))))
