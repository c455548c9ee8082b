use Rattle.std.proofs.Common.{ℕ, ◌≡◌, ◌≤◌, ◌<◌, ◌-◌, ◌^◌, ◌∙◌, sym, ap, arith}
use Rattle.std.specs.Int.Bits.{bit_and}
use Rattle.std.proofs.lemmas.Nat.{and_le_l}
use Rattle.sweep.specs.Lowest.{lowest_of, lowest_set, lowest_from, lowest_upto}
use Rattle.sweep.specs.Masks.{bit}
use Rattle.periods.specs.Lent.{KnownOf}
use Rattle.periods.specs.Sweeping.{queue_length}
use Rattle.periods.specs.Searching.{known_renewed, search_none, search_known, search_failed, search_found}
use Rattle.periods.proofs.BusyPeriods.first_in_time.Goals as goal
use Rattle.periods.proofs.BusyPeriods.first_in_time.Goals.{After-lowest-begin, After-loop-self}

-- the lowest bit of a word other than 0, from 1
range : (word at : ℕ) → 1 ≤ word → word < 2 ^ 64 → at ≡ lowest_of word → (1 ≤ at) × (at ≤ 64)
range word at h l e = (omega (arith, lowest_from word h l), omega (arith, lowest_upto word h l))

-- that of the entries in two words is an entry
lowest_some : (a b e : ℕ) → 1 ≤ bit_and a b → a < 2 ^ 64 → e ≡ lowest_of (bit_and a b) → 1 ≤ e
lowest_some a b e h l z = (range (bit_and a b) e h (omega (arith, and_le_l a b)) z).0

-- the busy period to sweep has changed, and begins at a place of the queue
module _ (c : After-lowest-begin) where
  set : bit c.loop-self.self.changed (c.lowest-begin.result - 1) ≡ 1
  set =
      let changed = c.loop-self.self.changed in
      let z : c.lowest-begin.result - 1 ≡ lowest_of changed - 1 = omega (arith, c.lowest-begin.ensures) in
      ap (bit changed) z ∙ lowest_set changed (omega arith) (omega arith)

  begins : (1 ≤ c.lowest-begin.result) × (c.lowest-begin.result ≤ 64)
  begins = range c.loop-self.self.changed c.lowest-begin.result (omega arith) (omega arith) c.lowest-begin.ensures

pub returns-then-word-eq0 : goal.returns-then-word-eq0
returns-then-word-eq0 c =
    let s = c.args.speed.now in
    let p = c.args.self.now in (
      search_none s.load.queue.now s.load.n s.load.release.now s.deadline.now s.load.cap.now s.entry.now c.args.left c.args.word (omega (arith, c.ranges.word))
          c.requires.2 p.period p.passing c.if-word-eq0.true,
      c.requires.1,
    )

pub has-requires : goal.has-requires
has-requires c = range c.args.word c.lowest-next.result (omega arith) (omega (arith, c.ranges.word)) c.lowest-next.ensures

pub returns-then-has : goal.returns-then-has
returns-then-has c =
    let s = c.args.speed.now in
    let p = c.args.self.now in (
      (
        (range c.args.word c.lowest-next.result (omega arith) (omega (arith, c.ranges.word)) c.lowest-next.ensures).0,
        search_known s.load.queue.now s.load.n s.load.release.now s.deadline.now s.load.cap.now s.entry.now c.args.left c.args.word (omega (arith, c.ranges.word))
            c.requires.2 p.period p.passing p.changed c.requires.1 c.lowest-next.result (omega arith) c.lowest-next.ensures
            (sym c.has.ensures ∙ c.if-has.true),
      ),
      c.requires.1,
    )

pub loop-self-init : goal.loop-self-init
loop-self-init c = c.requires.1

pub without-self-requires : goal.without-self-requires
without-self-requires c =
    let l = (goal.at.without-self-requires c).After-lowest-begin in
    ((begins l).0, (begins l).1, set l)

pub overflow_sub-begin : goal.overflow_sub-begin
overflow_sub-begin c = (begins (goal.at.overflow_sub-begin c).After-lowest-begin).0

pub renew-requires : goal.renew-requires
renew-requires c =
    let s = c.args.speed.now in
    let k = c.loop-self.invariant in (
      c.requires.0,
      k.groups,
      omega (
        arith,
        k.places (c.lowest-begin.result - 1) (set (goal.at.renew-requires c).After-lowest-begin),
        queue_length s.load.queue.now s.load.n s.load.release.now s.deadline.now s.load.cap.now s.entry.now c.args.left c.requires.0,
      ),
    )

pub loop-self-preserved : goal.loop-self-preserved
loop-self-preserved c =
    let s = c.args.speed.now in
    let l = c.loop-self in
    rw c.without-self.ensures (known_renewed s.load.queue.now s.load.n s.load.release.now s.deadline.now s.load.cap.now s.entry.now c.args.left
    l.self.period l.self.changed l.self.passing (c.lowest-begin.result - 1) l.invariant (set (goal.at.loop-self-preserved c).After-lowest-begin)
    _ c.renew.result c.renew.ensures)

-- after the loop no busy period has changed
module _ (c : After-loop-self) where
  settled : KnownOf c.args.speed.now c.args.left (record { period = c.loop-self.self.period; changed = 0; passing = c.loop-self.self.passing })
  settled = rw c.loop-self-test.false at c.loop-self.invariant

pub returns-then-passed-eq0 : goal.returns-then-passed-eq0
returns-then-passed-eq0 c =
    let s = c.args.speed.now in
    let l = c.loop-self in (
      search_failed s.load.queue.now s.load.n s.load.release.now s.deadline.now s.load.cap.now s.entry.now c.args.left c.args.word (omega (arith, c.ranges.word))
          c.requires.2 l.self.period l.self.passing (settled (goal.at.returns-then-passed-eq0 c).After-loop-self) c.if-passed-eq0.true,
      l.invariant,
    )

pub returns-else-passed-eq0 : goal.returns-else-passed-eq0
returns-else-passed-eq0 c =
    let s = c.args.speed.now in
    let l = c.loop-self in (
      (
        lowest_some c.args.word l.self.passing c.lowest.result (omega arith) (omega (arith, c.ranges.word)) c.lowest.ensures,
        search_found s.load.queue.now s.load.n s.load.release.now s.deadline.now s.load.cap.now s.entry.now c.args.left c.args.word (omega (arith, c.ranges.word))
            c.requires.2 l.self.period l.self.passing (settled (goal.at.returns-else-passed-eq0 c).After-loop-self) c.lowest.result (omega arith) c.lowest.ensures,
      ),
      l.invariant,
    )
