-- How long the report is (rule 16.9), what its checks say of table, order and room, and what stands in the lent bytes once it is written.
use Rattle.std.specs.Prelude.{ℕ, ◌+◌, ◌*◌, ◌≤◌, List, [], ◌∷◌, ◌++◌, ◌≡◌, refl, ℤ, length}
use Rattle.std.proofs.Common.{append_assoc, ◌∙◌, arith}
use Rattle.std.proofs.Math.Path.{ap}
use Rattle.std.proofs.Math.IntN.{pos}
use Rattle.std.proofs.Math.ListN.{length-append}
use Rattle.rules.specs.declared.Table.{Table}
use Rattle.rules.specs.declared.Refusal.{Refusal}
use Rattle.rules.specs.Checks.{Check, Passed, Refused}
use Rattle.rules.specs.Lists.{rows_to, joined}
use Rattle.rules.specs.Orders.{check_both}
use Rattle.rules.specs.Rows.{at, need_of}
use Rattle.rules.specs.Worst.{worst_finish, slack}
use Rattle.texts.specs.Lent.{check_room, write_checked}
use Rattle.texts.specs.Reports.{figure, figures, job_line, needs_of, late_rows, last_line, report_text, check_report, report_of}
use Rattle.fields.specs.Figures.{figure_long}
use Rattle.fields.specs.Lengths.{joined_long}
use Rattle.theory.specs.Room.{both_passed, room_passed, long_enough}
use Rattle.report.specs.Jobs.{few}

-- ---- lengths, in bytes
pub figures_long : (zs : List ℤ) → length (figures zs) ≡ 10 * length zs + 1
figures_long [] = refl
figures_long (z ∷ zs) = omega (arith, length-append (figure z) (figures zs), figure_long z, figures_long zs)

pub pair_long : (y z : ℤ) → length (figure y ++ figure z) ≡ 20
pair_long y z = omega (arith, length-append (figure y) (figure z), figure_long y, figure_long z)

-- the figures of a job's line and its end, put two by two
pub in_line : (a b c d : List ℕ) (e : List ℕ) → (a ++ b) ++ ((c ++ d) ++ e) ≡ a ++ (b ++ (c ++ (d ++ e)))
in_line a b c d e = append_assoc a b ((c ++ d) ++ e) ∙ ap (λ (l : List ℕ). a ++ (b ++ l)) (append_assoc c d e)

module _ (t : Table) (o : List ℕ) where
  job_long : (k : ℕ) → length (job_line t o k) ≡ 51
  unfolding job_line
  job_long k =
      let i = at o k in
      figures_long (pos k ∷ pos i ∷ pos (need_of t i) ∷ pos (worst_finish t o i) ∷ slack t o i ∷ [])

  pub jobs_long : (n : ℕ) → length (joined (job_line t o) (rows_to n)) ≡ 51 * n
  jobs_long n = joined_long (job_line t o) 51 job_long n

  last_long : length (last_line t o) ≡ 21
  unfolding last_line
  last_long = figures_long (pos (needs_of t) ∷ pos (late_rows t o) ∷ [])

  -- 51 bytes for each place, and 21
  pub report_long : length (report_text t o) ≡ 51 * t.n + 21
  unfolding report_text
  report_long = omega (arith, length-append (joined (job_line t o) (rows_to t.n)) (last_line t o), jobs_long t.n, last_long)

  -- 3,285 bytes are enough for every table
  pub report_most : check_both t o ≡ Passed → length (report_text t o) ≤ 3285
  report_most c = omega (arith, report_long, few t o c)

-- ---- the checks
module _ (t : Table) (o : List ℕ) (room : ℕ) where
  -- a table and an order that no check refuses, with room for the report
  pub passes : check_both t o ≡ Passed → 51 * t.n + 21 ≤ room → check_report t o room ≡ Passed
  unfolding check_report
  passes c h = rw (c, long_enough (length (report_text t o)) room (omega (arith, report_long t o)))

  -- where nothing is refused table and order pass, and the report fits
  pub fits : check_report t o room ≡ Passed → (check_both t o ≡ Passed) × (51 * t.n + 21 ≤ room)
  unfolding check_report
  fits e =
      let p = both_passed (check_both t o) (check_room (length (report_text t o)) room) e in
      (p.0, omega (arith, room_passed (length (report_text t o)) room p.1, report_long t o))

-- ---- what is said and what stands in the lent bytes
module _ (t : Table) (o lent : List ℕ) where
  pub report_refused : (r : Refusal) → check_report t o (length lent) ≡ Refused r → report_of t o lent ≡ write_checked (Refused r) (report_text t o) lent
  unfolding report_of
  report_refused r e = ap (λ (c : Check). write_checked c (report_text t o) lent) e

  pub report_passed : check_report t o (length lent) ≡ Passed → report_of t o lent ≡ write_checked Passed (report_text t o) lent
  unfolding report_of
  report_passed e = ap (λ (c : Check). write_checked c (report_text t o) lent) e
