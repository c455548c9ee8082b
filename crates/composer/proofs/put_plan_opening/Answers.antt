-- The words, the number, and what it means in brackets, one after the other.
use Rattle.sentences.specs.Sentences.{plan_opening}
use Rattle.fields.specs.Texts.{puts_then}
use Rattle.phrases.specs.Together.{puts_last}
use Rattle.composer.proofs.put_plan_opening.Goals as goal

pub returns : goal.returns
unfolding plan_opening
returns c =
    puts_then c.put_bytes.ensures (puts_then c.put_decimal.ensures (puts_then c.put_bytes-2.ensures (puts_then c.put_meaning.ensures (puts_last c.put_bytes-3.ensures))))
