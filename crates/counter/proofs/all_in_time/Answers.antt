-- All rows are taken for one busy period, which the sweep renews.
use Rattle.std.proofs.Common.{arith}
use Rattle.counter.specs.Testing.{all_grouped, all_in}
use Rattle.counter.proofs.all_in_time.Goals as goal

pub renew-requires : goal.renew-requires
renew-requires c =
    let s = c.args.speed.now in (
      c.requires.0,
      all_grouped s.load.queue.now s.load.n s.load.release.now s.deadline.now s.load.cap.now s.entry.now c.args.left c.requires.0 c.requires.1,
      omega (arith, c.requires.1),
    )

pub returns : goal.returns
returns c =
    let s = c.args.speed.now in
    all_in s.load.queue.now s.load.n s.load.release.now s.deadline.now s.load.cap.now s.entry.now c.args.left c.requires.0 c.requires.1 _ c.renew.result c.renew.ensures
