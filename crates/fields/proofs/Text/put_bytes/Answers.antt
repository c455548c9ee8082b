use Rattle.std.proofs.Common.{◌≡◌, refl, add-one, arith, length}
use Rattle.std.proofs.Math.Seq.{paste-zero, paste-suc}
use Rattle.fields.specs.Wrote.{wrote_bytes}
use Rattle.fields.proofs.Text.put_bytes.Goals as goal

pub loop-i-init : goal.loop-i-init
loop-i-init c = paste-zero c.args.self.now.out.now c.args.self.now.at c.args.bytes.now

pub loop-i-preserved : goal.loop-i-preserved
loop-i-preserved c =
    let l = c.loop-i in
    rw (l.invariant, add-one l.i) (paste-suc c.args.self.now.out.now c.args.self.now.at c.args.bytes.now l.i 0 (omega arith) c.loop-i-test.true)

pub returns : goal.returns
returns c =
    let l = c.loop-i in
    let t = c.args.self.now in
    let e : l.i ≡ length c.args.bytes.now = omega arith in
    record {
      same = refl;
      long = l.auto.out;
      wrote = wrote_bytes t.out.now t.at c.args.bytes.now l.out (length c.args.bytes.now) c.requires refl (rw e at l.invariant);
    }
