use Rattle.std.proofs.Common.{◌≡◌, sym, ◌∙◌, arith}
use Rattle.sheet.specs.Lines.{lines_go, lines_stop}
use Rattle.sheet.proofs.lines_ok.Goals as goal

pub returns-then-not-line_ok : goal.returns-then-not-line_ok
returns-then-not-line_ok c =
    let l = c.loop-i in
    let e = sym c.line_ok.ensures ∙ c.if-not-line_ok.true in
    sym (lines_stop c.args.bytes.now l.i c.args.n c.loop-i-test.true e)

pub loop-i-preserved : goal.loop-i-preserved
loop-i-preserved c =
    let l = c.loop-i in
    let e = sym c.line_ok.ensures ∙ c.if-not-line_ok.false in
    lines_go c.args.bytes.now l.i l.invariant e

pub returns : goal.returns
returns c =
    let l = c.loop-i in
    let e : l.i ≡ c.args.n = omega arith in
    sym (rw e at l.invariant)
