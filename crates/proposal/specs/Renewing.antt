-- What a commit that is answered 0 says of the record and leaves of it (rules 22.4, 22.10), and that a sound record stays sound (rule 8.16).
use Rattle.std.specs.Prelude.{ℕ, true, List, ◌≡◌}
use Rattle.rules.specs.declared.Table.{Table}
use Rattle.record.specs.declared.Run.{Run}
use Rattle.record.specs.Records.{state_of, start_run, is_sound}
use Rattle.proposal.specs.Commits.{commit_of}
use Rattle.proposal.specs.Passing.{Turned}

pub record Renewing (r : Run) (t : Table) (o : List ℕ) : Type 0 where
  pub sound : is_sound r ≡ true
  pub turn : Turned r.table (state_of r) t o
  pub run : (commit_of r t o).run ≡ start_run t o r.clock
