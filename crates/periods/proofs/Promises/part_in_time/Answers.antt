-- A row that is promised nothing passes at once; of any other the sweep with its own cap set to the part's need is asked for.
use borrow.Author.Tests.{eq-eqb, ne_eqb}
use Prim.Native.Nat.{ℕ}
use mathlib.Core.Path.{sym, ap, ap₂, ◌∙◌}
use lib.Dec.{leb}
use lib.ListN.{take}
use Rattle.rules.specs.Rows.{at, put}
use Rattle.sweep.specs.Trials.{trial}
use Rattle.periods.specs.Trying.{part_in_time}
use Rattle.periods.proofs.Promises.part_in_time.Goals as goal

pub returns-then-entry-eq0 : goal.returns-then-entry-eq0
unfolding part_in_time
returns-then-entry-eq0 c = rw (eq-eqb _ 0 (sym c.entry.ensures ∙ c.if-entry-eq0.true))

pub returns : goal.returns
unfolding part_in_time
returns c =
    let a = c.args in
    rw (ne_eqb (at a.self.now.promised.now a.row) 0 (λ z. c.if-entry-eq0.false (c.entry.ensures ∙ z)))
    (ap₂ leb
    (c.part_finish-moment.ensures
    ∙ ap (λ (own : ℕ). trial a.self.now.slow.load.release.now (put a.self.now.slow.load.cap.now a.row own) a.left (at a.self.now.slow.load.release.now a.row) 0 (take a.self.now.slow.load.n a.self.now.slow.load.queue.now))
    c.entry-own.ensures)
    c.entry-2.ensures)
