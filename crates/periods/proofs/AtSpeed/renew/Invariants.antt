-- The loop's invariant: what stands between two turns of the sweep; the busy time is at most 1,000,000 slots and 1,000,016 for each place passed.
use Rattle.std.specs.Prelude.{◌≤◌, ◌*◌, ◌+◌}
use Rattle.periods.specs.Sweeping.{Turn}
use Rattle.periods.proofs.AtSpeed.renew.Given as goal

abbrev pub invariant-loop-k : goal.invariant-loop-k
invariant-loop-k l =
    (l.busy ≤ 1000000 + 1000016 * l.k)
    × Turn l.self.load.queue.now l.self.load.n l.self.load.release.now l.self.deadline.now l.self.load.cap.now l.self.entry.now l.left l.begin
    l.initial.period l.period l.passing l.k l.first l.busy
