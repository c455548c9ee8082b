use Rattle.std.proofs.Common.{◌≡◌, refl, sym, arith}
use Rattle.std.proofs.Math.Seq.{paste-zero}
use Rattle.fields.specs.Figures.{signed_columns, columns_long, column_more}
use Rattle.fields.specs.Wrote.{wrote_bytes}
use Rattle.fields.proofs.Text.put_columns.Goals as goal

pub loop-i-init : goal.loop-i-init
loop-i-init c = paste-zero c.args.self.now.out.now c.args.self.now.at (signed_columns c.args.below c.args.size)

pub loop-i-preserved : goal.loop-i-preserved
loop-i-preserved c =
    let l = c.loop-i in
    column_more c.args.below c.args.size c.args.self.now.out.now c.args.self.now.at l.i l.out c.figure_byte.result c.loop-i-test.true c.requires.1
    c.figure_byte.ensures l.invariant

pub returns : goal.returns
returns c =
    let l = c.loop-i in
    let t = c.args.self.now in
    let n = columns_long c.args.below c.args.size in
    let e : l.i ≡ 8 = omega arith in
    record {
      same = refl;
      long = l.auto.out;
      wrote = wrote_bytes t.out.now t.at (signed_columns c.args.below c.args.size) l.out 8 (omega (arith, n, c.requires.1)) (sym n) (rw e at l.invariant);
    }
