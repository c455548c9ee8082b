-- The first line and then the lines of the rows.
use Rattle.std.proofs.Common.{[], ◌∷◌, arith}
use Rattle.texts.specs.Fields.{line}
use Rattle.texts.specs.Sheets.{sheet_of}
use Rattle.fields.specs.Texts.{puts_then}
use Rattle.sheet.specs.Writer.{head_long}
use Rattle.sheet.proofs.put_sheet.Goals as goal

pub put_rows-requires : goal.put_rows-requires
put_rows-requires c = (c.requires.0, omega (arith, head_long c.args.t.now))

pub returns : goal.returns
unfolding sheet_of
returns c =
    let t = c.args.t.now in
    puts_then {x = line (t.n ∷ t.normal ∷ t.degraded ∷ t.loading ∷ [])} c.put_line.ensures c.put_rows.ensures
