-- Of the first rows, those of the word stand at the start, the lowest first.
use Rattle.std.proofs.Common.{◌-◌, ◌≡◌, length, take}
use Rattle.composer.specs.Lists.{among}
use Rattle.composer.proofs.rows_of.Given as goal

abbrev pub invariant-loop-row : goal.invariant-loop-row
invariant-loop-row l = (length l.rows ≡ 64) × (l.many ≡ length (among l.word (l.row - 1))) × (take l.many l.rows ≡ among l.word (l.row - 1))
