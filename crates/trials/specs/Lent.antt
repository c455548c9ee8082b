-- The rows at one speed as a planning lends them to its trials: what holds of the columns prepared holds of those lent, and back.
use Rattle.std.specs.Prelude.{ℕ, ◌≡◌, ◌<◌, List, length, get_or, take}
use Rattle.rules.specs.declared.Table.{Table}
use Rattle.rules.specs.Rows.{at}
use Rattle.periods.specs.declared.AtSpeed.{AtSpeed}
use Rattle.periods.specs.declared.BusyPeriods.{BusyPeriods}
use Rattle.periods.specs.declared.Promises.{Promises}
use Rattle.periods.specs.Busy.{row}
use Rattle.periods.specs.Entries.{Entries}
use Rattle.periods.specs.Lent.{Tried, Seated, Parted, KnownOf, OpenIn, in_time_at, low_in_time_at}
use Rattle.periods.specs.Trying.{Speed, Parts, KnownAt, Open, FirstIn, in_time, low_in_time}
use Rattle.trials.specs.declared.Trials.{Trials}

-- what is lent is of what was prepared for a table, with the caps of one speed
pub record Lent (w : Trials) (t : Table) (cap : List ℕ) (s : AtSpeed) : Type 0 where
  pub queue : s.load.queue.now ≡ w.queue
  pub n : s.load.n ≡ t.n
  pub release : s.load.release.now ≡ t.release
  pub caps : s.load.cap.now ≡ cap
  pub deadline : s.deadline.now ≡ t.deadline
  pub sequence : s.sequence.now ≡ w.sequence
  pub entry : s.entry.now ≡ w.entry

-- the same at the degraded speed, with what parts are tried with
pub record LentParts (w : Trials) (t : Table) (p : Promises) : Type 0 where
  pub slow : Lent w t w.degraded p.slow
  pub promised : p.promised.now ≡ t.promised
  pub part : p.part.now ≡ w.part

module _ (w : Trials) (t : Table) (cap : List ℕ) (s : AtSpeed) (l : Lent w t cap s) where
  pub lent_tried : Speed w.queue t.n t.release cap w.entry → Tried s
  lent_tried x = rw (l.queue, l.n, l.release, l.caps, l.entry) x

  pub lent_entries : Entries w.entry → Entries s.entry.now
  lent_entries x = rw l.entry x

  pub lent_seated : ((k : ℕ) → k < length (take t.n w.queue) → get_or w.sequence (at w.entry (row (take t.n w.queue) k)) 0 ≡ row (take t.n w.queue) k) → Seated s
  lent_seated x = rw (l.queue, l.n, l.sequence, l.entry) x

  pub lent_known : (left : ℕ) (p : BusyPeriods) → KnownAt w.queue t.n t.release t.deadline cap w.entry left p.period p.changed p.passing → KnownOf s left p
  lent_known left p x = rw (l.queue, l.n, l.release, l.caps, l.deadline, l.entry) x

  pub known_lent : (left : ℕ) (p : BusyPeriods) → KnownOf s left p → KnownAt w.queue t.n t.release t.deadline cap w.entry left p.period p.changed p.passing
  known_lent left p x = rw (l.queue, l.n, l.release, l.caps, l.deadline, l.entry) at x

  pub lent_open : (left word : ℕ) → Open w.queue w.entry t.n left word → OpenIn s left word
  lent_open left word x = rw (l.queue, l.n, l.entry) x

  pub first_lent : (left word e : ℕ) → FirstIn (in_time_at s left) s.load.queue.now s.entry.now s.load.n left word e
      → FirstIn (in_time w.queue t.n t.release t.deadline cap left) w.queue w.entry t.n left word e
  first_lent left word e x = rw (l.queue, l.n, l.release, l.caps, l.deadline, l.entry) at x

module _ (w : Trials) (t : Table) (p : Promises) (l : LentParts w t p) where
  pub lent_parts : Parts w.queue t.n t.release w.degraded w.part w.sequence w.entry → Parted p
  lent_parts x = rw (l.slow.queue, l.slow.n, l.slow.release, l.slow.caps, l.part) (x.columns, x.small)

  pub first_low_lent : (s : AtSpeed) → Lent w t w.normal s → (left word e : ℕ) → FirstIn (low_in_time_at s p left) s.load.queue.now s.entry.now s.load.n left word e
      → FirstIn (low_in_time w.queue t.n t.release t.deadline w.normal w.degraded t.promised w.part left) w.queue w.entry t.n left word e
  first_low_lent s m left word e x =
      rw (m.queue, m.n, m.release, m.caps, m.deadline, m.entry, l.slow.queue, l.slow.n, l.slow.release, l.slow.caps, l.slow.deadline, l.promised, l.part) at x
