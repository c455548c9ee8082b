use Rattle.std.proofs.Common.{◌≡◌, ◌+◌, ◌∙◌, rules, refl, sym, ap₂, to_z, of_z, w32}
use Rattle.std.specs.Int.Signed.{lt_z}
use borrow.Author.Rules.{sfits_of}
use mir.Facts.{to_z-of_z}
use Rattle.judge.specs.Least.{slack_in, slack_next, least_start, least_on, least_off}
use Rattle.judge.proofs.tightest.Goals as goal
use Rattle.judge.proofs.tightest.Goals.{then-s-least, else-s-least}

pub loop-k-init : goal.loop-k-init
loop-k-init c = (
  to_z-of_z {w = w32} {z = c.slack.result} (sfits_of c.slack.type_inv) ∙ c.slack.ensures,
  least_start (slack_in c.args.deadline.now c.args.clock.now) c.args.n c.requires.0,
)

pub loop-k-preserved : goal.loop-k-preserved
loop-k-preserved c =
    let l = c.loop-k in
    let n = c.args.n in
    let d = c.args.deadline.now in
    let f = c.args.clock.now in
    let next : to_z w32 (of_z w32 c.slack-s.result) ≡ slack_in d f (l.k + 1) =
    to_z-of_z {w = w32} {z = c.slack-s.result} (sfits_of c.slack-s.type_inv) ∙ slack_next d f l.k c.slack-s.result c.slack-s.ensures in
    let own : to_z w32 (of_z w32 l.least.slack) ≡ slack_in d f l.least.row =
    to_z-of_z {w = w32} {z = l.least.slack} (search rules) ∙ l.invariant.0 in
    elim c.if-s-least.branch [
      | then-s-least w ↦ rw (w.least-is) (
        next,
        least_on (slack_in d f) n l.least.row l.k c.loop-k-test.true (l.k + 1) (sym (ap₂ lt_z next own) ∙ w.if-s-least.true) refl ∙ l.invariant.1,
      )
      | else-s-least w ↦ rw (w.least-is) (
        l.invariant.0,
        least_off (slack_in d f) n l.least.row l.k c.loop-k-test.true l.least.row (sym (ap₂ lt_z next own) ∙ w.if-s-least.false) refl ∙ l.invariant.1,
      )
    ]
