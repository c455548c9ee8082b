use mathlib.Core.Path.{sym, ◌∙◌}
use Rattle.proposal.specs.Proposals.{check_turn}
use Rattle.record.specs.Records.{state_of}
use Rattle.proposal.specs.Turning.{closed_least, released_least}
use Rattle.proposal.proofs.check_turn.Goals as goal

pub returns-then-not-is_correct : goal.returns-then-not-is_correct
unfolding check_turn
returns-then-not-is_correct c = simp (sym c.is_correct.ensures ∙ c.if-not-is_correct.true)

pub returns-then-not-at_least : goal.returns-then-not-at_least
unfolding check_turn
returns-then-not-at_least c =
    let r = c.args.run.now in
    simp (
      sym c.is_correct.ensures ∙ c.if-not-is_correct.false,
      sym (closed_least r.table (state_of r)) ∙ sym c.at_least.ensures ∙ c.if-not-at_least.true,
    )

pub returns-then-not-at_least-2 : goal.returns-then-not-at_least-2
unfolding check_turn
returns-then-not-at_least-2 c =
    let r = c.args.run.now in
    simp (
      sym c.is_correct.ensures ∙ c.if-not-is_correct.false,
      sym (closed_least r.table (state_of r)) ∙ sym c.at_least.ensures ∙ c.if-not-at_least.false,
      sym (released_least c.args.proposal.now.table r.clock) ∙ sym c.at_least-2.ensures ∙ c.if-not-at_least-2.true,
    )

pub returns : goal.returns
unfolding check_turn
returns c =
    let r = c.args.run.now in
    simp (
      sym c.is_correct.ensures ∙ c.if-not-is_correct.false,
      sym (closed_least r.table (state_of r)) ∙ sym c.at_least.ensures ∙ c.if-not-at_least.false,
      sym (released_least c.args.proposal.now.table r.clock) ∙ sym c.at_least-2.ensures ∙ c.if-not-at_least-2.false,
    )
