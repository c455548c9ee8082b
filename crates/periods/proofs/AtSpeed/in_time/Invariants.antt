-- The loop's invariant: the word has the entries of the rows in time at the places passed.
use Rattle.std.specs.Prelude.{◌≡◌, ◌≤◌, max}
use Rattle.rules.specs.Rows.{at}
use Rattle.sweep.specs.Masks.{is_left}
use Rattle.periods.specs.Entries.{timely}
use Rattle.periods.proofs.AtSpeed.in_time.Given as goal

abbrev pub invariant-loop-k : goal.invariant-loop-k
invariant-loop-k l =
    (l.k ≤ max l.end l.first)
    × (l.word ≡ timely (λ j. is_left l.left j) (λ j. at l.self.deadline.now j) (λ j. at l.self.entry.now j) l.clock l.self.load.queue.now l.first l.k)
