use Rattle.std.proofs.Common.{refl, sym, ◌∙◌}
use Rattle.parser.specs.Walks.{same_long, same_on, same_off, same_end}
use Rattle.parser.proofs.same.Goals as goal

pub returns-then-first-second : goal.returns-then-first-second
returns-then-first-second c = sym (same_long c.args.first.now c.args.second.now c.if-first-second.true)

pub loop-i-init : goal.loop-i-init
loop-i-init c = refl

pub returns-then-byte-second : goal.returns-then-byte-second
returns-then-byte-second c =
    let a = c.args in
    let l = c.loop-i in
    sym (same_off a.first.now a.second.now l.i c.if-first-second.false c.loop-i-test.true c.if-byte-second.true) ∙ l.invariant

pub loop-i-preserved : goal.loop-i-preserved
loop-i-preserved c =
    let a = c.args in
    let l = c.loop-i in
    sym (same_on a.first.now a.second.now l.i c.if-first-second.false c.loop-i-test.true c.if-byte-second.false) ∙ l.invariant

pub returns : goal.returns
returns c =
    let a = c.args in
    let l = c.loop-i in
    sym (same_end a.first.now a.second.now l.i c.if-first-second.false c.loop-i-test.false) ∙ l.invariant
