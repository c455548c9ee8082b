-- For a value that is neither yes nor no, its figure and what it is not.
use Rattle.std.proofs.Common.{rules, sym}
use Rattle.sentences.specs.Sentences.{yes_or_no}
use Rattle.fields.specs.Texts.{puts_as, puts_then}
use Rattle.phrases.specs.Together.{puts_last}
use Rattle.composer.specs.Choices.{for_other}
use Rattle.composer.proofs.put_yes_or_no.Goals as goal

pub returns-in_default : goal.returns-in_default
unfolding yes_or_no
returns-in_default c =
    puts_as (sym (for_other c.args.yes _ _ _ (search rules) (search rules))) (puts_then c.put_decimal.ensures (puts_last c.put_bytes-in_default.ensures))
