-- The columns' least slack is the order's, and its sign decides.
use mathlib.Core.Path.{◌≡◌, ap, ◌∙◌}
use mir.Syntax.{w32}
use mir.Val.{SFits, to_z, of_z}
use mir.Facts.{to_z-of_z}
use borrow.Author.Rules.{rules}
use Rattle.rules.specs.Worst.{slack}
use Rattle.rules.specs.Judge.{tightest}
use Rattle.theory.specs.Facts.{facts}
use Rattle.judge.specs.Checked.{checked}
use Rattle.judge.specs.Least.{slack_in, slack_small, least_is, least_slack_lem}
use Rattle.judge.specs.Promise.{verdict_no, verdict_yes_lem}
use Rattle.judge.proofs.verdict.Goals as goal
use Rattle.judge.proofs.verdict.Goals.{After-tightest-row}

pub tightest-row-requires : goal.tightest-row-requires
tightest-row-requires c =
    let t = c.args.t in
    let o = c.args.order in
    let ok = checked t o c.requires in
    let f = facts t ok.accepted in
    (f.some, f.few, slack_small t o ok c.latest_clocks-clock.result c.latest_clocks-clock.ensures)

-- the row found is the tightest, and its slack, read back from its bits, is that row's
module _ (c : After-tightest-row) where
  is_tightest : c.tightest-row.result.row ≡ tightest c.args.t c.args.order
  is_tightest =
      c.tightest-row.ensures.0
      ∙ least_is c.args.t c.args.order (checked c.args.t c.args.order c.requires) c.latest_clocks-clock.result c.latest_clocks-clock.ensures

  is_least : to_z w32 (of_z w32 c.tightest-row.result.slack) ≡ slack c.args.t c.args.order (tightest c.args.t c.args.order)
  is_least =
      let fits : SFits w32 c.tightest-row.result.slack = search rules in
      to_z-of_z {w = w32} {z = c.tightest-row.result.slack} fits
      ∙ c.tightest-row.ensures.1 ∙ ap (slack_in c.args.t.deadline c.latest_clocks-clock.result) is_tightest
      ∙ least_slack_lem c.args.t c.args.order (checked c.args.t c.args.order c.requires) c.latest_clocks-clock.result c.latest_clocks-clock.ensures

pub returns-then-slack-lt0 : goal.returns-then-slack-lt0
returns-then-slack-lt0 c =
    let s = (goal.at.returns-then-slack-lt0 c).After-tightest-row in
    verdict_no c.args.t c.args.order c.tightest-row.result.row (to_z w32 (of_z w32 c.tightest-row.result.slack)) (is_tightest s) (is_least s) c.if-slack-lt0.true

pub returns-else-slack-lt0 : goal.returns-else-slack-lt0
returns-else-slack-lt0 c =
    let s = (goal.at.returns-else-slack-lt0 c).After-tightest-row in
    verdict_yes_lem c.args.t c.args.order c.tightest-row.result.row (to_z w32 (of_z w32 c.tightest-row.result.slack)) (is_tightest s) (is_least s) c.if-slack-lt0.false
