use Rattle.std.proofs.Common.{ℕ, ◌≡◌, ◌≤◌, ◌<◌, ◌-◌, ◌∙◌, sym, ap, arith, List, get_or, take, pow_pos}
use Rattle.sweep.specs.Masks.{bit_le}
use Rattle.periods.specs.declared.AtSpeed.{AtSpeed}
use Rattle.periods.specs.Busy.{row}
use Rattle.periods.specs.Lent.{Tried, Seated, in_time_at, part_in_time_at}
use Rattle.periods.specs.LowSearch.{row_range, asking_start, asked_open, none_first, part_found, part_failed, seat_row, seat_range}
use Rattle.periods.specs.Trying.{Small, FirstIn, Found, Parts}
use Rattle.periods.proofs.BusyPeriods.first_low.Goals as goal

-- the entry found at the normal speed, and its row
module _ (s : AtSpeed) (tried : Tried s) (seated : Seated s) (part : List ℕ) (small : Small part) (left asked e : ℕ) (some : 1 ≤ e)
    (f : FirstIn (in_time_at s left) s.load.queue.now s.entry.now s.load.n left asked e) where
  parts : Parts s.load.queue.now s.load.n s.load.release.now s.load.cap.now part s.sequence.now s.entry.now
  parts = record { columns = tried.columns; small = small; seats = seated }

  abbrev there : Found (in_time_at s left) s.load.queue.now s.entry.now s.load.n left asked e
  there = f.found (λ z. omega arith)

  range : e - 1 < 64
  range =
      seat_range s.load.queue.now s.load.n s.load.release.now s.load.cap.now s.load.cap.now part s.sequence.now s.entry.now left
      tried parts e there.stands some

  is : get_or s.sequence.now (e - 1) 0 ≡ row (take s.load.n s.load.queue.now) there.stands.place
  is =
      seat_row s.load.queue.now s.load.n s.load.release.now s.load.cap.now s.load.cap.now part s.sequence.now s.entry.now left
      tried parts e there.stands

  row_in : (1 ≤ get_or s.sequence.now (e - 1) 0) × (get_or s.sequence.now (e - 1) 0 ≤ 64)
  row_in =
      let r = row_range s.load.queue.now s.load.n tried.columns.rows there.stands.place there.stands.left_at.0 in
      (omega (arith, is, r.0), omega (arith, is, r.1))

pub loop-entry-init : goal.loop-entry-init
loop-entry-init c =
    let a = c.args in
    let s = a.normal.now in (
      asking_start (in_time_at s a.left) (part_in_time_at a.parts.now a.left) s.load.queue.now s.entry.now s.load.n a.left a.word,
      c.requires.3,
    )

pub first_in_time-requires : goal.first_in_time-requires
first_in_time-requires c =
    let a = c.args in
    let s = a.normal.now in
    let l = c.loop-entry in (
      c.requires.0,
      l.invariant.1,
      asked_open (in_time_at s a.left) (part_in_time_at a.parts.now a.left) s.load.queue.now s.entry.now s.load.n a.left a.word l.asked l.invariant.0 c.requires.4,
    )

pub part_in_time-requires : goal.part_in_time-requires
part_in_time-requires c =
    let a = c.args in
    let f = c.in-Some.ensures.0 in
    let r = row_in a.normal.now c.requires.0 c.requires.1 a.parts.now.part.now c.requires.2.1 a.left c.loop-entry.asked c.in-Some.entry f.0 f.1 in
    (c.requires.2, r.0, r.1)

pub returns-then-part_in_time : goal.returns-then-part_in_time
returns-then-part_in_time c =
    let a = c.args in
    let s = a.normal.now in
    let second = part_in_time_at a.parts.now a.left in
    let l = c.loop-entry in
    let f = c.in-Some.ensures.0 in
    let e = c.in-Some.entry in
    let i = is s c.requires.0 c.requires.1 a.parts.now.part.now c.requires.2.1 a.left l.asked e f.0 f.1 in (
      (
        f.0,
        part_found (in_time_at s a.left) second s.load.queue.now s.entry.now s.load.n a.left a.word l.asked l.invariant.0 e (λ z. omega (arith, z, f.0)) f.1
            (ap second (sym i) ∙ sym c.part_in_time.ensures ∙ c.if-part_in_time.true),
      ),
      c.in-Some.ensures.1,
    )

pub loop-entry-smaller : goal.loop-entry-smaller
loop-entry-smaller c =
    let a = c.args in
    let f = c.in-Some.ensures.0 in
    let e = c.in-Some.entry in
    let t = there a.normal.now c.requires.0 c.requires.1 a.parts.now.part.now c.requires.2.1 a.left c.loop-entry.asked e f.0 f.1 in
    omega (arith, c.without-asked.ensures, pow_pos (e - 1), bit_le (e - 1) c.loop-entry.asked t.inside)

pub loop-entry-preserved : goal.loop-entry-preserved
loop-entry-preserved c =
    let a = c.args in
    let s = a.normal.now in
    let second = part_in_time_at a.parts.now a.left in
    let l = c.loop-entry in
    let f = c.in-Some.ensures.0 in
    let e = c.in-Some.entry in
    let i = is s c.requires.0 c.requires.1 a.parts.now.part.now c.requires.2.1 a.left l.asked e f.0 f.1 in (
      rw c.without-asked.ensures (part_failed (in_time_at s a.left) second s.load.queue.now s.entry.now s.load.n a.left a.word l.asked l.invariant.0
          e (λ z. omega (arith, z, f.0)) f.1 c.requires.0.queued.single
          (ap second (sym i) ∙ sym c.part_in_time.ensures ∙ c.if-part_in_time.false)),
      c.in-Some.ensures.1,
    )

pub returns : goal.returns
returns c =
    let a = c.args in
    let s = a.normal.now in
    let l = c.loop-entry in (
      none_first (in_time_at s a.left) (part_in_time_at a.parts.now a.left) s.load.queue.now s.entry.now s.load.n a.left a.word l.asked l.invariant.0
          c.in_default.ensures.0,
      c.in_default.ensures.1,
    )
