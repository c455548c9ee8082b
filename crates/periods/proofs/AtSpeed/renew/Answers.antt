use Rattle.std.proofs.Common.{◌≡◌, ◌-◌, ◌∙◌, sym, ap, inl, inr, arith, get_or}
use Rattle.std.specs.Int.Bits.{bit_or}
use Rattle.periods.specs.Sweeping.{turn_start, turn_skip, turn_row, turn_end}
use Rattle.periods.proofs.AtSpeed.renew.Goals as goal
use Rattle.periods.proofs.AtSpeed.renew.Goals.{then-has+else-period-i, else-has, then-busy-r, else-busy-r}

pub loop-k-init : goal.loop-k-init
loop-k-init c =
    let a = c.args in
    let s = a.self.now in (
      omega arith,
      turn_start s.load.queue.now s.load.n s.load.release.now s.deadline.now s.load.cap.now s.entry.now a.left c.requires.0 a.begin a.period.now c.requires.1,
    )

pub returns-then-period-i : goal.returns-then-period-i
returns-then-period-i c =
    let a = c.args in
    let s = a.self.now in
    let l = c.loop-k in
    rw c.in_time.ensures (turn_end s.load.queue.now s.load.n s.load.release.now s.deadline.now s.load.cap.now s.entry.now a.left c.requires.0 a.begin
    a.period.now c.requires.1 l.period l.passing l.k l.first l.busy l.invariant.1 (omega (arith, c.loop-k-test.true))
    (inr (c.loop-k-test.true, sym c.has.ensures ∙ c.if-has.true, c.if-period-i.true)))

pub busy_after-busy-requires : goal.busy_after-busy-requires
busy_after-busy-requires c =
    let s = c.requires.0 in
    let row = get_or c.args.self.now.load.queue.now c.loop-k.k 0 in (
      omega (arith, c.loop-k.invariant.0, s.columns.few, c.loop-k-test.true),
      omega (arith, s.columns.early (row - 1)),
      omega (arith, s.columns.light (row - 1)),
    )

pub loop-k-preserved : goal.loop-k-preserved
loop-k-preserved c =
    let a = c.args in
    let s = a.self.now in
    let l = c.loop-k in
    let h = c.loop-k-test.true in
    let row = get_or s.load.queue.now l.k 0 in
    elim c.if-has.branch [
      | then-has+else-period-i w ↦ (
        omega (arith, l.invariant.0, w.busy-is, w.busy_after-busy.ensures, c.requires.0.columns.early (row - 1), c.requires.0.columns.light (row - 1)),
        rw (w.period-is, w.passing-is, w.busy-is, w.first-is) (turn_row s.load.queue.now s.load.n s.load.release.now s.deadline.now s.load.cap.now s.entry.now a.left
            c.requires.0 a.begin a.period.now c.requires.1 l.period l.passing l.k l.first l.busy l.invariant.1 h
            (sym c.has.ensures ∙ w.if-has.true) w.if-period-i.false w.if-busy-r.first w.if-busy-r.passing w.busy_after-busy.result
            (elim w.if-busy-r.branch [
              | then-busy-r v ↦ inl (v.if-busy-r.true, v.first-is, v.passing-is ∙ ap (bit_or l.passing) v.in_time-passing.ensures)
              | else-busy-r v ↦ inr (v.if-busy-r.false, v.first-is, v.passing-is)
            ]) w.busy_after-busy.ensures),
      )
      | else-has w ↦ (
        omega (arith, l.invariant.0, w.busy-is),
        rw (w.period-is, w.passing-is, w.busy-is, w.first-is) (turn_skip s.load.queue.now s.load.n s.load.release.now s.deadline.now s.load.cap.now s.entry.now a.left
            c.requires.0 a.begin a.period.now c.requires.1 l.period l.passing l.k l.first l.busy l.invariant.1 h
            (sym c.has.ensures ∙ w.if-has.false)),
      )
    ]

pub returns : goal.returns
returns c =
    let a = c.args in
    let s = a.self.now in
    let l = c.loop-k in
    let z : l.k ≡ s.load.n = omega (arith, c.requires.2) in
    rw c.in_time-2.ensures (rw z at (turn_end s.load.queue.now s.load.n s.load.release.now s.deadline.now s.load.cap.now s.entry.now a.left c.requires.0 a.begin
    a.period.now c.requires.1 l.period l.passing l.k l.first l.busy l.invariant.1 (omega arith) (inl c.loop-k-test.false)))
