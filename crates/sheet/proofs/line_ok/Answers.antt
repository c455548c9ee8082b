use Rattle.std.proofs.Common.{sym, ◌∙◌, arith}
use Rattle.sheet.specs.Lines.{fields_go, fields_stop, fields_end}
use Rattle.sheet.proofs.line_ok.Goals as goal

pub returns-then-not-field_ok : goal.returns-then-not-field_ok
returns-then-not-field_ok c =
    let l = c.loop-j in
    let e = sym c.field_ok.ensures ∙ c.if-not-field_ok.true in
    sym (fields_stop c.args.bytes.now c.args.start l.j c.args.k c.loop-j-test.true e)

pub loop-j-preserved : goal.loop-j-preserved
loop-j-preserved c =
    let l = c.loop-j in
    let e = sym c.field_ok.ensures ∙ c.if-not-field_ok.false in
    fields_go c.args.bytes.now c.args.start l.j l.invariant e

pub returns : goal.returns
returns c =
    let l = c.loop-j in
    sym (fields_end c.args.bytes.now c.args.start l.j c.args.k (omega arith) l.invariant)
