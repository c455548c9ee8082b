-- What trials ask of the structs that are lent to them, and what they say of them: the words of Trying over the structs' fields.
use Rattle.std.specs.Prelude.{ℕ, ◌≤◌, ◌<◌, Bool, ◌&&◌, ◌≡◌, List, Option, MatchOption, length, get_or, replicate, take, ◌^◌}
use Rattle.std.specs.Int.Bits.{bit_or}
use Rattle.rules.specs.Rows.{at}
use Rattle.sweep.specs.Trials.{Columns}
use Rattle.periods.specs.declared.AtSpeed.{AtSpeed}
use Rattle.periods.specs.declared.BusyPeriods.{BusyPeriods}
use Rattle.periods.specs.declared.Promises.{Promises}
use Rattle.periods.specs.Busy.{row}
use Rattle.periods.specs.Trying.{Speed, Small, Grouped, KnownAt, Renewed, Open, FirstIn, in_time, part_in_time}

-- the columns are those of one speed
abbrev pub Tried : AtSpeed → Type 0
Tried s = Speed s.load.queue.now s.load.n s.load.release.now s.load.cap.now s.entry.now

-- the row of an entry stands at it in the trial sequence
abbrev pub Seated : AtSpeed → Type 0
Seated s = (k : ℕ) → k < length (take s.load.n s.load.queue.now)
    → get_or s.sequence.now (at s.entry.now (row (take s.load.n s.load.queue.now) k)) 0 ≡ row (take s.load.n s.load.queue.now) k

-- the caps and needs that parts are tried with
abbrev pub Parted : Promises → Type 0
Parted p = Columns p.slow.load.queue.now p.slow.load.n p.slow.load.release.now p.slow.load.cap.now × Small p.part.now

-- where the busy periods of the rows left begin
abbrev pub GroupedIn : AtSpeed → ℕ → List ℕ → Type 0
GroupedIn s left period = Grouped s.load.queue.now s.load.n s.load.release.now s.load.cap.now left period

-- after the sweep of the busy period that began at a place
abbrev pub RenewedIn : AtSpeed → ℕ → ℕ → List ℕ → List ℕ → ℕ → Type 0
RenewedIn s left begin old period word =
    Renewed s.load.queue.now s.load.n s.load.release.now s.deadline.now s.load.cap.now s.entry.now left begin old period word

-- what is known of the busy periods
abbrev pub KnownOf : AtSpeed → ℕ → BusyPeriods → Type 0
KnownOf s left p =
    KnownAt s.load.queue.now s.load.n s.load.release.now s.deadline.now s.load.cap.now s.entry.now left p.period p.changed p.passing

-- the entries in a word are those of rows left
abbrev pub OpenIn : AtSpeed → ℕ → ℕ → Type 0
OpenIn s left word = Open s.load.queue.now s.entry.now s.load.n left word

-- by the sweep over all rows left the row finishes by its deadline
abbrev pub in_time_at : AtSpeed → ℕ → ℕ → Bool
in_time_at s left i = in_time s.load.queue.now s.load.n s.load.release.now s.deadline.now s.load.cap.now left i

-- the row has its promised part by its deadline with all other rows left above it
abbrev pub part_in_time_at : Promises → ℕ → ℕ → Bool
part_in_time_at p left i =
    part_in_time p.slow.load.queue.now p.slow.load.n p.slow.load.release.now p.slow.deadline.now p.slow.load.cap.now p.promised.now p.part.now left i

-- a LO row passes: it is in time at the normal speed, and its part is at the degraded one
abbrev pub low_in_time_at : AtSpeed → Promises → ℕ → ℕ → Bool
low_in_time_at s p left i = in_time_at s left i && part_in_time_at p left i

-- the first of the entries in a word whose row passes, or none where no row of them does
abbrev pub FirstAt : (ℕ → Bool) → AtSpeed → ℕ → ℕ → Option ℕ → Type 0
FirstAt passes s left word r =
    MatchOption r
    (FirstIn passes s.load.queue.now s.entry.now s.load.n left word 0)
    (λ e. (1 ≤ e) × FirstIn passes s.load.queue.now s.entry.now s.load.n left word e)

-- before the first sweep all rows are taken for one busy period
abbrev pub unswept : BusyPeriods
unswept = record { period = replicate 64 0; changed = 1; passing = 0 }

-- without a row that got a place, whose busy period has changed
abbrev pub without_placed : BusyPeriods → ℕ → BusyPeriods
without_placed p i = record { period = p.period; changed = bit_or p.changed (2 ^ at p.period i); passing = p.passing }
