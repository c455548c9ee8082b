use Rattle.std.proofs.Common.{◌+◌, ◌-◌, ◌*◌, ◌≡◌, sym, arith}
use Rattle.texts.specs.Sheets.{number_at}
use Rattle.sheet.specs.Lines.{line_field, lines_line, column_start, column_more}
use Rattle.sheet.proofs.column.Goals as goal

pub loop-i-init : goal.loop-i-init
loop-i-init c = column_start c.args.bytes.now c.args.j

pub number-requires : goal.number-requires
number-requires c =
    let i = c.loop-i.i in
    let b = c.args.bytes.now in (
      omega (arith, c.requires.0.long),
      line_field b (33 + 49 * i) (c.args.j - 1) 6 (lines_line b i c.args.n c.requires.0.lines c.loop-i-test.true) (omega arith),
    )

pub loop-i-preserved : goal.loop-i-preserved
unfolding number_at
loop-i-preserved c =
    let l = c.loop-i in
    rw (l.invariant, c.number.ensures) (sym (column_more c.args.bytes.now l.i c.args.j (omega arith)))

pub returns : goal.returns
returns c =
    let l = c.loop-i in
    let e : l.i ≡ c.args.n = omega arith in
    rw e at l.invariant
