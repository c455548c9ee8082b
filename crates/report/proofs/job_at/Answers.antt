-- The place's row is a row of the table, and the columns have its figures.
use Prim.Native.Nat.{ℕ, ◌≤◌}
use mathlib.Core.List.{List}
use mathlib.Core.Path.{◌≡◌, refl, ◌∙◌}
use native.Mathlib.Omega.{arith}
use mir.Facts.{to_z-of_z}
use Rattle.rules.specs.declared.Table.{Table}
use Rattle.rules.specs.Rows.{at}
use Rattle.rules.specs.Worst as Worst
use Rattle.rules.specs.Worst.{worst_finish}
use Rattle.judge.specs.declared.Times.{Times}
use Rattle.report.specs.Jobs.{Timed, few, row_at, need_is, finish_is, clock_is, slack_from, slack_fits, due_small, clock_small}
use Rattle.report.proofs.job_at.Goals as goal

-- the row at the place
range : (t : Table) (o : List ℕ) (times : Times) → Timed t o times → (k : ℕ) → 1 ≤ k → k ≤ t.n → (1 ≤ at o k) × (at o k ≤ 64)
range t o times h k a b = let r = row_at t o times h k a b in (r.from, omega (arith, r.up_to, few t o h.checked))

pub bounds-order-place : goal.bounds-order-place
bounds-order-place c = omega (arith, c.requires.2, few c.args.t.now c.args.order c.requires.0.checked)

pub entry-due-requires : goal.entry-due-requires
entry-due-requires c = range c.args.t.now c.args.order c.args.times.now c.requires.0 c.args.place c.requires.1 c.requires.2

pub entry-need-requires : goal.entry-need-requires
entry-need-requires c = range c.args.t.now c.args.order c.args.times.now c.requires.0 c.args.place c.requires.1 c.requires.2

pub entry-finish-requires : goal.entry-finish-requires
entry-finish-requires c = range c.args.t.now c.args.order c.args.times.now c.requires.0 c.args.place c.requires.1 c.requires.2

pub entry-clock-requires : goal.entry-clock-requires
entry-clock-requires c = range c.args.t.now c.args.order c.args.times.now c.requires.0 c.args.place c.requires.1 c.requires.2

pub slack-slack-requires : goal.slack-slack-requires
slack-slack-requires c =
    let t = c.args.t.now in
    let o = c.args.order in
    let row = at o c.args.place in
    let u = row_at t o c.args.times.now c.requires.0 c.args.place c.requires.1 c.requires.2 in
    let ok = c.requires.0.checked in (
      omega (arith, c.entry-due.ensures, due_small t o ok row u),
      omega (arith, c.entry-clock.ensures, clock_is t o c.args.times.now c.requires.0 row u, clock_small t o ok row u),
    )

pub returns : goal.returns
returns c =
    let t = c.args.t.now in
    let o = c.args.order in
    let row = at o c.args.place in
    let u = row_at t o c.args.times.now c.requires.0 c.args.place c.requires.1 c.requires.2 in
    let finish : c.entry-finish.result ≡ worst_finish t o row = c.entry-finish.ensures ∙ finish_is t o c.args.times.now c.requires.0 row u in
    let slack : c.slack-slack.result ≡ Worst.slack t o row =
    c.slack-slack.ensures
    ∙ slack_from t o row c.entry-due.result c.entry-clock.result c.entry-due.ensures (c.entry-clock.ensures ∙ clock_is t o c.args.times.now c.requires.0 row u) in
    record {
      place = refl;
      row = refl;
      need = c.entry-need.ensures ∙ need_is t o c.args.times.now c.requires.0 row u;
      finish = finish;
      slack = to_z-of_z (slack_fits t o c.requires.0.checked row u c.slack-slack.result slack) ∙ slack;
    }
