use Rattle.std.proofs.Common.{◌≡◌, ◌-◌}
use Rattle.counter.specs.Words.{filled, standing_rows}
use Rattle.counter.proofs.count_words.Given as goal

-- all words before this one are done, and the rows are those that may stand lowest in the word before it
abbrev pub invariant-loop-word : goal.invariant-loop-word
invariant-loop-word l = (l.scratch ≡ filled l.fn.t l.initial.scratch l.word) × ((l.word ≡ 1 → ⊥) → l.rows ≡ standing_rows l.fn.t (l.word - 1))
