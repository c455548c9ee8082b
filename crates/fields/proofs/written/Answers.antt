use Rattle.std.proofs.Common.{arith, length-set}
use Rattle.fields.specs.Digits.{weight_some, byte_more, bytes_all}
use Rattle.fields.proofs.written.Goals as goal

pub byte_at-requires : goal.byte_at-requires
byte_at-requires c = weight_some c.loop-i.i c.loop-i-test.true

pub loop-i-preserved : goal.loop-i-preserved
loop-i-preserved c =
    let l = c.loop-i in
    let v = c.args.value in (
      simp length-set l.invariant.0,
      rw c.byte_at.ensures (byte_more v l.i l.field c.loop-i-test.true l.invariant.0 l.invariant.1),
    )

pub returns : goal.returns
returns c =
    let l = c.loop-i in
    bytes_all c.args.value l.i l.field (omega arith) l.invariant.0 l.invariant.1
