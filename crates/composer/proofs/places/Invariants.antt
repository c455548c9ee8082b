-- Of the first i numbers, so many come up to the last one that is not 0.
use Rattle.std.proofs.Common.{◌≤◌, ◌≡◌, take}
use Rattle.sentences.specs.Sentences.{up_to_last}
use Rattle.composer.proofs.places.Given as goal

abbrev pub invariant-loop-i : goal.invariant-loop-i
invariant-loop-i l = (l.last ≤ l.i) × (take l.last l.order ≡ up_to_last (take l.i l.order))
