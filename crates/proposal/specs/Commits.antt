-- Committing a proposal to a run record (rules 11.10, 22.3 to 22.5). What its checks after 9 are is not said here once more: it is `check_proposal`, which
-- paper has too, on the table and the state that the record holds.
use Rattle.std.specs.Prelude.{ℕ, cond, List, Ok, Err}
use Rattle.rules.specs.declared.Table.{Table}
use Rattle.rules.specs.declared.Refusal.TheVariants.{Unsound}
use Rattle.rules.specs.Checks.{Check, Passed, Refused}
use Rattle.record.specs.declared.Run.{Run}
use Rattle.proposal.specs.Proposals.{check_proposal}
use Rattle.record.specs.Records.{state_of, start_run, is_sound}
use Rattle.proposal.specs.declared.Committed.{Committed}

-- the checks of a commit: 9 for the record, then those of the proposal (rule 11.10)
unfoldable pub check_commit : Run → Table → List ℕ → Check
check_commit r t o = cond (is_sound r) (check_proposal r.table (state_of r) t o) (Refused Unsound)

-- by what they answer: the record with the proposal's table and order, at the clock that it had, with every row open and empty; or the record as it was
-- (rules 22.4, 22.5)
abbrev pub commit_checked : Check → Run → Table → List ℕ → Committed
commit_checked (Ok tt) r t o = record { check = Passed; run = start_run t o r.clock }
commit_checked (Err w) r t o = record { check = Refused w; run = r }

-- the answer of a commit, and the record after it, for any record, any table and any sixty-four numbers (rules 22.3 to 22.5)
unfoldable pub commit_of : Run → Table → List ℕ → Committed
commit_of r t o = commit_checked (check_commit r t o) r t o
