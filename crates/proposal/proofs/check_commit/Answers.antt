use Rattle.std.proofs.Common.{rules, sym, ◌∙◌}
use Rattle.proposal.specs.Proposals.{check_proposal}
use Rattle.record.specs.Checked.{limits}
use Rattle.record.proofs.Sound.{speeds}
use Rattle.proposal.specs.Commits.{check_commit}
use Rattle.proposal.proofs.check_commit.Goals as goal

pub returns-then-not-is_sound : goal.returns-then-not-is_sound
unfolding check_commit
returns-then-not-is_sound c = simp (sym c.is_sound.ensures ∙ c.if-not-is_sound.true)

pub check_turn-requires : goal.check_turn-requires
check_turn-requires c =
    let a = c.args in (
      (speeds a.run.now (sym c.is_sound.ensures ∙ c.if-not-is_sound.false)).few,
      (limits a.proposal.now.table a.proposal.now.order (sym c.check_both.ensures ∙ c.in_ok-check_both.was)).few,
    )

pub returns-in_err-check_both : goal.returns-in_err-check_both
unfolding check_commit check_proposal
returns-in_err-check_both c =
    simp (sym c.is_sound.ensures ∙ c.if-not-is_sound.false) (rw (sym c.check_both.ensures ∙ c.in_err-check_both.was) (search rules))

pub returns : goal.returns
unfolding check_commit check_proposal
returns c =
    simp (sym c.is_sound.ensures ∙ c.if-not-is_sound.false) (rw (sym c.check_both.ensures ∙ c.in_ok-check_both.was) c.check_turn.ensures)
