-- Lists of calls on a record, run calls alone or with commits among them: each call is made on the record that the last one left (rules 9.5, 22.9).
use Rattle.std.specs.Prelude.{List, [], ◌∷◌}
use Rattle.record.specs.declared.Run.{Run}
use Rattle.record.specs.Answers.{slot_said, forward_said}
use Rattle.record.specs.Records.{one_slot, forward_over}
use Rattle.rules.specs.Calls.{Call, one, forward, Said}
use Rattle.proposal.specs.Days.{Act, run, commit}
use Rattle.rules.specs.Numbers.{check_number}
use Rattle.proposal.specs.Commits.{commit_of}

-- what one call said, and the record that it left
pub record Made : Type 0 where
  pub said : Said
  pub run : Run

-- A run call made on a record (rule 9.5): one slot (rule 8.9) or forward (rule 8.10), with the number and the value that section 10 of the rules
-- gives its answer.
abbrev pub make : Call → Run → Made
make (one v) r = record { said = slot_said (one_slot r v).answer; run = (one_slot r v).run }
make (forward vs) r = record { said = forward_said (forward_over r vs).answer; run = (forward_over r vs).run }

-- what all calls of a list said, in turn, and the record that the last one left
pub record AllMade : Type 0 where
  pub said : List Said
  pub run : Run

-- The calls of a list, first to last: the first on the record given, each later one on the record that the call before it left (rule 9.5).
-- A list of no calls leaves the record as it is.
unfoldable pub make_all : List Call → Run → AllMade
make_all [] r = record { said = []; run = r }
make_all (c ∷ cs) r =
    let m = make c r in
    let rest = make_all cs m.run in
    record { said = m.said ∷ rest.said; run = rest.run }

-- A run call or a commit made on a record (rules 9.5, 22.3); a commit says its number and 0.
abbrev pub make_act : Act → Run → Made
make_act (run c) r = make c r
make_act (commit p o) r = record { said = record { number = check_number (commit_of r p o).check; value = 0 }; run = (commit_of r p o).run }

-- The acts of a list, first to last, in the same way (rule 22.9).
unfoldable pub make_day : List Act → Run → AllMade
make_day [] r = record { said = []; run = r }
make_day (a ∷ more) r =
    let m = make_act a r in
    let rest = make_day more m.run in
    record { said = m.said ∷ rest.said; run = rest.run }
