-- The lines of the places and then the last line.
use Prim.Native.Nat.{ℕ}
use mathlib.Core.List.{[], ◌∷◌}
use mathlib.Core.Path.{ap₂}
use native.Mathlib.Omega.{arith}
use lib.IntN.{pos}
use Rattle.texts.specs.Reports.{figures, last_line, report_text}
use Rattle.fields.specs.Texts.{puts_as, puts_then}
use Rattle.report.specs.Lines.{jobs_long}
use Rattle.report.specs.Totals.{needs_most, late_most}
use Rattle.report.proofs.put_report.Goals as goal

pub put_totals-requires : goal.put_totals-requires
put_totals-requires c =
    let t = c.args.t.now in
    let o = c.args.order in
    let e = c.put_jobs-jobs.ensures in (
      omega (arith, e.1, needs_most t o c.requires.0),
      omega (arith, e.2, late_most t o c.requires.0),
      omega (arith, c.requires.1, jobs_long t o t.n),
    )

pub returns : goal.returns
unfolding report_text last_line
returns c =
    let e = c.put_jobs-jobs.ensures in
    puts_then e.0 (puts_as (ap₂ (λ (a b : ℕ). figures (pos a ∷ pos b ∷ [])) e.1 e.2) c.put_totals.ensures)
