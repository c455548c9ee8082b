use Prim.Native.Nat.{ℕ, ◌<◌, ◌+◌, ◌-◌}
use native.Mathlib.Omega.{arith}
use borrow.Author.Tests.{eq-eqb, ne_eqb}
use mathlib.Core.Path.{◌≡◌, sym, ap, ◌∙◌}
use lib.Dec.{eqb}
use lib.ListN.{length}
use Rattle.rules.specs.Rows.{at}
use Rattle.sweep.specs.Masks.{bit}
use Rattle.sweep.specs.Padded.{rows_within}
use Rattle.periods.specs.Marks.{marks_clear, marked, not_marked}
use Rattle.trials.proofs.entries_at.Goals as goal
use Rattle.trials.proofs.entries_at.Goals.{then-entry-wanted, else-entry-wanted}

pub with-word-requires : goal.with-word-requires
with-word-requires c =
    let l = c.loop-k in
    let z : l.k + 1 - 1 ≡ l.k = omega arith in (
      omega arith,
      omega (arith, c.requires.0, c.loop-k-test.true),
      ap (bit l.word) z ∙ ap (λ (m : ℕ). bit m l.k) l.invariant
          ∙ marks_clear (λ i. eqb (at c.args.level.now i) c.args.wanted) c.args.sequence.now l.k,
    )

pub loop-k-preserved : goal.loop-k-preserved
loop-k-preserved c =
    let a = c.args in
    let l = c.loop-k in
    let h : l.k < length a.sequence.now = omega (arith, c.loop-k-test.true, rows_within a.sequence.now a.n c.requires.1) in
    let e = c.entry.ensures in
    elim c.if-entry-wanted.branch [
      | then-entry-wanted w ↦ w.word-is ∙ marked (λ i. eqb (at a.level.now i) a.wanted) a.sequence.now l.k l.word w.with-word.result h l.invariant
          (eq-eqb _ _ (sym e ∙ w.if-entry-wanted.true)) w.with-word.ensures
      | else-entry-wanted w ↦ w.word-is ∙ not_marked (λ i. eqb (at a.level.now i) a.wanted) a.sequence.now l.k l.word h l.invariant
          (ne_eqb _ _ (λ z. w.if-entry-wanted.false (e ∙ z)))
    ]
