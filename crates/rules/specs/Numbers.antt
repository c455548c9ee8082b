-- The number and the values of every case of every answer (section 10 of the rules).
use Rattle.std.specs.Prelude.{ℕ, Bool, true, false, ℤ, pos, Ok, Err, Some, None}
use Rattle.rules.specs.declared.Refusal.{Refusal}
use Rattle.rules.specs.declared.Refusal.TheVariants.{Length, Malformed, RowCount, Speeds, RowLimits, NotAnOrder, ClockOver, Unsound, NoRoom, Loading, Promised, NotLower, ReleasedLater, FollowsLow, NotCorrect, RowOpen, ReleasedBefore, TrialsOver, TooManyRows}
use Rattle.rules.specs.Plans.{Planned}
use Rattle.rules.specs.Searches.{Searched}
use Rattle.rules.specs.Verdicts.{Judgement}
use Rattle.rules.specs.declared.Plan.TheVariants as Plan
use Rattle.rules.specs.declared.Verdict.TheVariants as Verdict
use Rattle.rules.specs.Checks.{Check}

-- a refusal's number (rules 10.1 to 10.6, 10.8 to 10.20)
unfoldable pub refusal_number : Refusal → ℕ
refusal_number Length = 1
refusal_number Malformed = 2
refusal_number RowCount = 3
refusal_number Speeds = 4
refusal_number RowLimits = 5
refusal_number NotAnOrder = 6
refusal_number ClockOver = 8
refusal_number Unsound = 9
refusal_number NoRoom = 10
refusal_number Loading = 11
refusal_number Promised = 12
refusal_number NotLower = 13
refusal_number ReleasedLater = 14
refusal_number FollowsLow = 15
refusal_number NotCorrect = 16
refusal_number RowOpen = 17
refusal_number ReleasedBefore = 18
refusal_number TrialsOver = 19
refusal_number TooManyRows = 20

-- the number of the reader, of the writer, of the report, of the checks of tables and orders, of the fresh record, of a commit, of counting: 0 where no check refuses (rule 10.0)
unfoldable pub check_number : Check → ℕ
unfolding refusal_number
check_number (Ok tt) = 0
check_number (Err r) = refusal_number r

-- the planner's number: 0 with an order, 7 where none exists (rules 10.0, 10.7)
unfoldable pub planned_number : Planned → ℕ
unfolding refusal_number
planned_number (Ok Plan.Ordered) = 0
planned_number (Ok (Plan.NoOrder left)) = 7
planned_number (Err r) = refusal_number r

-- the planner's rows left as a word, which is 0 unless the number is 7 (rule 4.8)
unfoldable pub rows_left : Planned → ℕ
rows_left (Ok Plan.Ordered) = 0
rows_left (Ok (Plan.NoOrder left)) = left
rows_left (Err r) = 0

-- the number of a search for a speed: 0 with the speed, 7 where none of the range works (rules 10.0, 10.7, 18.5)
unfoldable pub searched_number : Searched → ℕ
unfolding refusal_number
searched_number (Ok (Some speed)) = 0
searched_number (Ok None) = 7
searched_number (Err r) = refusal_number r

-- the speed found, in work units per slot, which is 0 unless the number is 0 (rules 18.4 to 18.6)
unfoldable pub searched_speed : Searched → ℕ
searched_speed (Ok (Some speed)) = speed
searched_speed (Ok None) = 0
searched_speed (Err r) = 0

-- the judge's number, which is 0 with either verdict (rule 10.0)
unfoldable pub verdict_number : Judgement → ℕ
unfolding refusal_number
verdict_number (Ok (Verdict.Correct row slack)) = 0
verdict_number (Ok (Verdict.Incorrect row slack)) = 0
verdict_number (Err r) = refusal_number r

-- the judge's yes; no with a refusal (rules 7.2, 7.4)
unfoldable pub verdict_yes : Judgement → Bool
verdict_yes (Ok (Verdict.Correct row slack)) = true
verdict_yes (Ok (Verdict.Incorrect row slack)) = false
verdict_yes (Err r) = false

-- the judge's tightest row; 0 with a refusal (rules 7.3, 7.4)
unfoldable pub verdict_row : Judgement → ℕ
verdict_row (Ok (Verdict.Correct row slack)) = row
verdict_row (Ok (Verdict.Incorrect row slack)) = row
verdict_row (Err r) = 0

-- the slack of that row, in slots; 0 with a refusal (rules 7.3, 7.4)
unfoldable pub verdict_slack : Judgement → ℤ
verdict_slack (Ok (Verdict.Correct row slack)) = slack
verdict_slack (Ok (Verdict.Incorrect row slack)) = slack
verdict_slack (Err r) = pos 0
