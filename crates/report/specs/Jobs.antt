-- A job as its line shows it, off the columns that the judge fills, and how large its figures are: all below 100,000,000.
use Rattle.std.specs.Prelude.{ℕ, zero, suc, ◌+◌, ◌≤◌, ◌<◌, ◌≡◌, List, [], ◌∷◌, map, ltb, ℤ, pos, negsuc, nat_abs, ◌-ℤ◌}
use Rattle.std.proofs.Common.{sym, ◌∙◌, arith, SFits, to_z, of_z, to_z-of_z}
use Rattle.std.specs.Int.Signed.{lt_z}
use Rattle.std.specs.Int.{w32}
use Rattle.rules.specs.declared.Table.{Table}
use Rattle.rules.specs.Checks.{Passed}
use Rattle.rules.specs.Rows.{at, rows_of, deadline_of, work_of, need_of}
use Rattle.rules.specs.Orders.{check_both}
use Rattle.rules.specs.Worst.{worst_finish, slack}
use Rattle.rules.specs.Choice.{padded}
use Rattle.texts.specs.Reports.{figures, is_late, job_line}
use Rattle.theory.specs.Caps.{slots_most}
use Rattle.theory.specs.Facts.{Row, is_row_lem, facts, both_accepted, both_order}
use Rattle.theory.specs.Places.{place_row}
use Rattle.theory.proofs.Promised.{slack_is}
use Rattle.theory.specs.Promised.{latest}
use Rattle.theory.proofs.Results.{order_bound, latest_bound}
use Rattle.theory.specs.Tests.{by_bool}
use Rattle.sweep.specs.Padded.{padded_at}
use Rattle.judge.specs.declared.Times.{Times}
use Rattle.report.specs.declared.Job.{Job}

pub late_one : (z : ℤ) → is_late z ≤ 1
late_one z = by_bool (lt_z z (pos 0)) (λ e. rw e (omega arith)) (λ e. rw e (omega arith))

-- the checks of table and order pass, and the columns have each row's need at N, worst finish, and the clock that its slack counts from, in slots
pub record Timed (t : Table) (o : List ℕ) (times : Times) : Type 0 where
  pub checked : check_both t o ≡ Passed
  pub needs : times.need ≡ padded (map (need_of t) (rows_of t))
  pub finishes : times.finish ≡ padded (map (worst_finish t o) (rows_of t))
  pub clocks : times.latest ≡ padded (map (latest t o) (rows_of t))

-- the job at place k
pub record JobOf (t : Table) (o : List ℕ) (k : ℕ) (job : Job) : Type 0 where
  pub place : job.place ≡ k
  pub row : job.row ≡ at o k
  pub need : job.need ≡ need_of t (at o k)
  pub finish : job.finish ≡ worst_finish t o (at o k)
  pub slack : job.slack ≡ slack t o (at o k)

-- ---- how large the figures are
size_difference : (d f : ℕ) → nat_abs (pos d -ℤ pos f) ≤ d + f
size_difference d zero = omega arith
size_difference d (suc f) = by_bool (ltb d (suc f)) (λ e. rw e (omega arith)) (λ e. rw e (omega arith))

small_fits : (z : ℤ) → nat_abs z < 100000000 → SFits w32 z
small_fits (pos v) h = record { sfits = omega arith }
small_fits (negsuc m) h = record { sfits = omega arith }

module _ (t : Table) (o : List ℕ) (c : check_both t o ≡ Passed) where
  pub few : t.n ≤ 64
  few = (facts t (both_accepted t o c)).few

  -- a need is at most 1,000,016 slots
  pub need_small : (i : ℕ) → Row t i → need_of t i ≤ 1000016
  need_small i r = let f = facts t (both_accepted t o c) in omega (arith, slots_most (work_of t i) t.normal f.runs, f.loads, (f.row i r).light)

  pub finish_small : (i : ℕ) → Row t i → worst_finish t o i ≤ 65001024
  finish_small i r = order_bound t (both_accepted t o c) o (both_order t o c) i (is_row_lem t i r)

  pub due_small : (i : ℕ) → Row t i → deadline_of t i ≤ 1000000
  due_small i r = ((facts t (both_accepted t o c)).row i r).soon

  pub clock_small : (i : ℕ) → Row t i → latest t o i ≤ 65001024
  clock_small i r = latest_bound t (both_accepted t o c) o (both_order t o c) i (is_row_lem t i r)

  pub slack_small : (i : ℕ) → Row t i → nat_abs (slack t o i) < 100000000
  slack_small i r = rw (slack_is t o i) (omega (arith, size_difference (deadline_of t i) (latest t o i), due_small i r, clock_small i r))

  -- 32 bits hold a slack
  pub slack_fits : (i : ℕ) → Row t i → (z : ℤ) → z ≡ slack t o i → SFits w32 z
  slack_fits i r z e = small_fits z (rw e (slack_small i r))

-- a slack from deadline and clock
pub slack_from : (t : Table) (o : List ℕ) (i due clock : ℕ) → due ≡ deadline_of t i → clock ≡ latest t o i → pos due -ℤ pos clock ≡ slack t o i
slack_from t o i due clock d f = rw (d, f) (sym (slack_is t o i))

-- ---- entries of the columns
module _ (t : Table) (o : List ℕ) (times : Times) (timed : Timed t o times) where
  -- the row at a place
  pub row_at : (k : ℕ) → 1 ≤ k → k ≤ t.n → Row t (at o k)
  row_at k a b = place_row t o (both_order t o timed.checked) k a b

  pub need_is : (i : ℕ) → Row t i → at times.need i ≡ need_of t i
  need_is i r = rw timed.needs (padded_at (need_of t) t.n i r.from r.up_to (few t o timed.checked))

  pub finish_is : (i : ℕ) → Row t i → at times.finish i ≡ worst_finish t o i
  finish_is i r = rw timed.finishes (padded_at (worst_finish t o) t.n i r.from r.up_to (few t o timed.checked))

  pub clock_is : (i : ℕ) → Row t i → at times.latest i ≡ latest t o i
  clock_is i r = rw timed.clocks (padded_at (latest t o) t.n i r.from r.up_to (few t o timed.checked))

-- ---- a job at a place of the table
module _ (t : Table) (o : List ℕ) (times : Times) (timed : Timed t o times) (k : ℕ) (a : 1 ≤ k) (b : k ≤ t.n) (job : Job) (j : JobOf t o k job) where
  row : Row t (at o k)
  row = row_at t o times timed k a b

  -- its figures have at most eight digits
  pub place_fits : job.place < 100000000
  place_fits = omega (arith, j.place, few t o timed.checked)

  pub need_fits : job.need ≤ 1000016
  need_fits = omega (arith, j.need, need_small t o timed.checked (at o k) row)

  pub finish_fits : job.finish < 100000000
  finish_fits = omega (arith, j.finish, finish_small t o timed.checked (at o k) row)

  pub slack_size : nat_abs job.slack < 100000000
  slack_size = rw j.slack (slack_small t o timed.checked (at o k) row)

  -- its slack, read back from its bits
  pub slack_back : to_z w32 (of_z w32 job.slack) ≡ slack t o (at o k)
  slack_back = to_z-of_z (slack_fits t o timed.checked (at o k) row job.slack j.slack) ∙ j.slack

  -- its line is the place's
  pub job_line_lem : figures (pos job.place ∷ pos job.row ∷ pos job.need ∷ pos job.finish ∷ job.slack ∷ []) ≡ job_line t o k
  unfolding job_line
  job_line_lem = rw (j.place, j.row, j.need, j.finish, j.slack)
