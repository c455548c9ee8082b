-- Of the entries after the first, those so far are put.
use Rattle.std.proofs.Common.{take}
use Rattle.rules.specs.Lists.{joined}
use Rattle.sentences.specs.Sentences.{item}
use Rattle.fields.specs.Texts.{Puts}
use Rattle.phrases.proofs.put_listed.Given as goal

abbrev pub invariant-loop-entry : goal.invariant-loop-entry
invariant-loop-entry l = Puts l.initial.text l.text (joined item (take l.entry-index l.others))
