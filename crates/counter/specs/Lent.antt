-- What the counting says of the structs that are lent to it: the words of Testing over the structs' fields, and over the columns prepared.
use Rattle.std.specs.Prelude.{ℕ, Bool, List, ◌≡◌}
use Rattle.rules.specs.declared.Table.{Table}
use Rattle.periods.specs.declared.AtSpeed.{AtSpeed}
use Rattle.periods.specs.declared.Promises.{Promises}
use Rattle.trials.specs.declared.Trials.{Trials}
use Rattle.trials.specs.Lent.{Lent, LentParts}
use Rattle.counter.specs.Testing.{AllIn, stands_in, standing_to}

-- the bit of the entry of each row left tells whether the row is in time
abbrev pub AllInTime : AtSpeed → ℕ → ℕ → Type 0
AllInTime s left word = AllIn s.load.queue.now s.load.n s.load.release.now s.deadline.now s.load.cap.now s.entry.now left word

-- row i is left, its entry is in the word, and its promised part is in time
abbrev pub stands_at : Promises → ℕ → ℕ → ℕ → Bool
stands_at p left word i =
    stands_in p.slow.load.queue.now p.slow.load.n p.slow.load.release.now p.slow.deadline.now p.slow.load.cap.now p.promised.now p.part.now p.slow.entry.now
    left word i

-- what is said of the rows lent is so of those prepared

pub all_lent : (w : Trials) (t : Table) (cap : List ℕ) (s : AtSpeed) → Lent w t cap s → (left word : ℕ) → AllInTime s left word
    → AllIn w.queue t.n t.release t.deadline cap w.entry left word
all_lent w t cap s l left word x = rw (l.queue, l.n, l.release, l.caps, l.deadline, l.entry) at x

pub standing_lent : (w : Trials) (t : Table) (p : Promises) → LentParts w t p → (left word rows : ℕ) → rows ≡ standing_to (stands_at p left word) p.slow.load.n
    → rows ≡ standing_to (stands_in w.queue t.n t.release t.deadline w.degraded t.promised w.part w.entry left word) t.n
standing_lent w t p l left word rows x =
    rw (l.slow.queue, l.slow.n, l.slow.release, l.slow.caps, l.slow.deadline, l.slow.entry, l.promised, l.part) at x
