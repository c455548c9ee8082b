use Rattle.std.proofs.Common.{ℕ, ◌≡◌, length, sym, subst, ◌∙◌, arith}
use Rattle.parser.specs.Scanning.{scan_start, at_digit, at_gap, at_end, at_close}
use Rattle.parser.specs.Figures.{FigureAt}
use Rattle.parser.proofs.next_figure.Goals as goal
use Rattle.parser.proofs.next_figure.Goals.{then-digit_from, else-digit_from+else-begun}

pub loop-i-init : goal.loop-i-init
loop-i-init c = scan_start c.args.bytes.now c.args.from c.requires

pub returns-then-begun : goal.returns-then-begun
returns-then-begun c =
    let l = c.loop-i in
    at_end c.args.bytes.now c.args.from l.value l.i c.loop-i-test.true l.begun l.invariant c.if-begun.true
    (sym c.digit_from.ensures ∙ c.if-digit_from.false)

pub loop-i-preserved : goal.loop-i-preserved
loop-i-preserved c =
    let a = c.args in
    let l = c.loop-i in
    let h = c.loop-i-test.true in
    elim c.if-digit_from.branch [
      | then-digit_from w ↦
          rw (w.begun-is, w.value-is, w.grown-value.ensures)
          (at_digit a.bytes.now a.from l.value l.i h l.begun l.invariant (sym c.digit_from.ensures ∙ w.if-digit_from.true))
      | else-digit_from+else-begun w ↦
          rw (w.begun-is, w.value-is)
          (at_gap a.bytes.now a.from l.value l.i h l.begun l.invariant w.if-begun.false (sym c.digit_from.ensures ∙ w.if-digit_from.false))
    ]

pub returns : goal.returns
returns c =
    let b = c.args.bytes.now in
    let l = c.loop-i in
    let e : l.i ≡ length b = omega arith in
    subst (λ (n : ℕ). FigureAt b c.args.from (record { value = l.value; next = n })) e
    (at_close b c.args.from l.begun l.value l.i c.loop-i-test.false l.invariant)
