-- A refusal changes nothing; where the checks pass, the record starts anew at the clock that it had.
use Rattle.std.proofs.Common.{refl, rules, sym, ◌∙◌}
use Rattle.proposal.specs.Commits.{commit_of}
use Rattle.proposal.proofs.commit.Goals as goal

pub returns-in_err-check_commit : goal.returns-in_err-check_commit
unfolding commit_of
returns-in_err-check_commit c = rw (sym c.check_commit.ensures ∙ c.in_err-check_commit.was) (search rules)

pub returns : goal.returns
unfolding commit_of
returns c = rw (sym c.check_commit.ensures ∙ c.in_ok-check_commit.was) (refl, c.start-next.ensures)
