use Rattle.std.proofs.Common.{◌≡◌, ◌∙◌, sym, ap, arith}
use Rattle.rules.specs.Rows.{at}
use Rattle.theory.specs.Tests.{by-leb}
use Rattle.sweep.specs.Masks.{is_left}
use Rattle.periods.specs.Entries.{timely, timely_none}
use Rattle.periods.proofs.AtSpeed.in_time.Goals as goal

pub loop-k-init : goal.loop-k-init
loop-k-init c =
    let a = c.args in (
      omega arith,
      sym (timely_none (λ j. is_left a.left j) (λ j. at a.self.now.deadline.now j) (λ j. at a.self.now.entry.now j) a.clock a.self.now.load.queue.now
          a.first a.first (omega arith)),
    )

pub returns : goal.returns
returns c =
    let a = c.args in
    let l = c.loop-k in
    let told = timely (λ j. is_left a.left j) (λ j. at a.self.now.deadline.now j) (λ j. at a.self.now.entry.now j) a.clock a.self.now.load.queue.now a.first in
    let none = timely_none (λ j. is_left a.left j) (λ j. at a.self.now.deadline.now j) (λ j. at a.self.now.entry.now j) a.clock a.self.now.load.queue.now a.first in
    by-leb a.first a.end
    (λ _ q. let z : l.k ≡ a.end = omega (arith, l.invariant.0) in l.invariant.1 ∙ ap told z)
    (λ _ q. l.invariant.1 ∙ none l.k (omega (arith, l.invariant.0)) ∙ sym (none a.end (omega arith)))
