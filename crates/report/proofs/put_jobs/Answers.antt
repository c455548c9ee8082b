use Prim.Native.Nat.{ℕ, ◌+◌, ◌≤◌}
use mathlib.Core.Path.{◌≡◌, sym, ap, ◌∙◌}
use native.Mathlib.Omega.{arith}
use Rattle.rules.specs.Lists.{rows_to, joined}
use Rattle.rules.specs.Rows.{at}
use Rattle.rules.specs.Worst.{slack}
use Rattle.texts.specs.Reports.{is_late, job_line}
use Rattle.theory.specs.Facts.{both_order}
use Rattle.fields.specs.Lengths.{joined_more}
use Rattle.fields.specs.Texts.{puts_as, puts_then}
use Rattle.report.specs.Jobs.{JobOf, late_one, few, place_fits, need_fits, finish_fits, slack_size, slack_back, job_line_lem}
use Rattle.report.specs.Lines.{jobs_long}
use Rattle.report.specs.Totals.{needs_to, late_to, needs_more, late_more, needs_of_lines, late_of_lines}
use Rattle.report.proofs.put_jobs.Goals as goal
use Rattle.report.proofs.put_jobs.Goals.{After-job_at-job, After-late-lates}

module _ (c : After-job_at-job) where
  abbrev place : ℕ
  place = c.loop-k.k + 1

  within : place ≤ c.args.t.now.n
  within = omega arith

  job : JobOf c.args.t.now c.args.order place c.job_at-job.result
  job = c.job_at-job.ensures

  small : c.job_at-job.result.need ≤ 1000016
  small = need_fits c.args.t.now c.args.order c.args.times.now c.requires.0 place (omega arith) within c.job_at-job.result job

  rows : c.args.t.now.n ≤ 64
  rows = few c.args.t.now c.args.order c.requires.0.checked

-- 1 or 0, as the place's row is late or not
counted : (c : After-late-lates) → c.late-lates.result ≡ is_late (slack c.args.t.now c.args.order (at c.args.order (c.loop-k.k + 1)))
counted c =
    c.late-lates.ensures
    ∙ ap is_late (slack_back c.args.t.now c.args.order c.args.times.now c.requires.0 (c.loop-k.k + 1) (omega arith) (omega arith)
    c.job_at-job.result c.job_at-job.ensures)

pub put_job-requires : goal.put_job-requires
put_job-requires c =
    let j = (goal.at.put_job-requires c).After-job_at-job in
    let l = c.loop-k in
    let t = c.args.t.now in
    let o = c.args.order in
    let r = c.job_at-job.result in
    let k = l.k + 1 in (
      place_fits t o c.args.times.now c.requires.0 k (omega arith) (within j) r (job j),
      omega (arith, small j),
      finish_fits t o c.args.times.now c.requires.0 k (omega arith) (within j) r (job j),
      slack_size t o c.args.times.now c.requires.0 k (omega arith) (within j) r (job j),
      omega (arith, within j, l.invariant.1, jobs_long t o l.k, c.requires.1),
    )

pub overflow_add-needs : goal.overflow_add-needs
overflow_add-needs c =
    let j = (goal.at.overflow_add-needs c).After-job_at-job in
    record { fits = omega (arith, small j, rows j, within j, c.loop-k.invariant.3) }

pub loop-k-preserved : goal.loop-k-preserved
loop-k-preserved c =
    let j = (goal.at.loop-k-preserved c).After-job_at-job in
    let n = counted (goal.at.loop-k-preserved c).After-late-lates in
    let l = c.loop-k in
    let t = c.args.t.now in
    let o = c.args.order in
    let r = c.job_at-job.result in
    let k = l.k + 1 in (
      puts_as (sym (joined_more (job_line t o) l.k))
          (puts_then l.invariant.0 (puts_as (job_line_lem t o c.args.times.now c.requires.0 k (omega arith) (within j) r (job j)) c.put_job.ensures)),
      omega (arith, l.invariant.1, (job j).need, needs_more t o l.k),
      omega (arith, l.invariant.2, n, late_more t o l.k),
      omega (arith, l.invariant.3, small j),
      omega (arith, l.invariant.4, n, late_one (slack t o (at o k))),
    )

pub returns : goal.returns
returns c =
    let l = c.loop-k in
    let t = c.args.t.now in
    let o = c.args.order in
    let e : l.k ≡ t.n = omega arith in
    let order = both_order t o c.requires.0.checked in (
      puts_as (ap (λ (j : ℕ). joined (job_line t o) (rows_to j)) e) l.invariant.0,
      l.invariant.1 ∙ ap (needs_to t o) e ∙ needs_of_lines t o order,
      l.invariant.2 ∙ ap (late_to t o) e ∙ late_of_lines t o order,
    )
