-- Place and row, need and finish, the slack and the line end, one after the other.
use borrow.Author.Rules.{rules}
use mathlib.Core.Path.{ap}
use mathlib.Core.List.{[], ◌∷◌, ◌++◌}
use native.Mathlib.Omega.{arith}
use lib.IntN.{pos}
use mir.Syntax.{w32}
use mir.Val.{SFits, to_z, of_z}
use mir.Facts.{to_z-of_z}
use Rattle.fields.specs.Figures.{figure_long}
use Rattle.fields.specs.Texts.{puts_as, puts_then}
use Rattle.texts.specs.Reports.{figure}
use Rattle.report.specs.Lines.{pair_long, in_line}
use Rattle.report.proofs.put_job.Goals as goal

pub put_counts-requires-2 : goal.put_counts-requires-2
put_counts-requires-2 c =
    let p = c.requires in
    (p.1, p.2, omega (arith, p.4, pair_long (pos c.args.job.place) (pos c.args.job.row)))

pub put_figure-requires : goal.put_figure-requires
put_figure-requires c =
    let p = c.requires in
    let j = c.args.job in
    let fits : SFits w32 j.slack = search rules in (
      rw (to_z-of_z fits) p.3,
      omega (arith, p.4, pair_long (pos j.place) (pos j.row), pair_long (pos j.need) (pos j.finish)),
    )

pub put_byte-requires : goal.put_byte-requires
put_byte-requires c =
    let j = c.args.job in
    omega (
      arith,
      c.requires.4,
      pair_long (pos j.place) (pos j.row),
      pair_long (pos j.need) (pos j.finish),
      figure_long (to_z w32 (of_z w32 j.slack)),
    )

pub returns : goal.returns
returns c =
    let j = c.args.job in
    let fits : SFits w32 j.slack = search rules in
    puts_as
    (in_line (figure (pos j.place)) (figure (pos j.row)) (figure (pos j.need)) (figure (pos j.finish)) (figure j.slack ++ (10 ∷ [])))
    (puts_then c.put_counts.ensures (puts_then c.put_counts-2.ensures
    (puts_then (puts_as (ap figure (to_z-of_z fits)) c.put_figure.ensures) c.put_byte.ensures)))
