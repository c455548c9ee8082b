-- The word is that of the first i figures, and the next one is read right after them.
use Rattle.std.proofs.Common.{◌≡◌, take, drop}
use Rattle.sentences.specs.Reading.{figures_in, word_of}
use Rattle.parser.specs.Following.{After}
use Rattle.parser.proofs.read_rows.Given as goal

abbrev pub invariant-loop : goal.invariant-loop
invariant-loop l = After l.bytes l.from l.counter l.next × (l.word ≡ word_of 0 (take l.counter (figures_in (drop l.from l.bytes))))
