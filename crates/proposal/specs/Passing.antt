-- What is known where the checks of a commit passed (rules 10.16 to 10.18, 11.10), and that they never answer 9 but for the record.
use Rattle.std.specs.Prelude.{ℕ, ◌≤◌, true, ◌≡◌}
use mathlib.Core.List.{List}
use Rattle.rules.specs.declared.Table.{Table}
use Rattle.rules.specs.Checks.{Passed}
use Rattle.rules.specs.Correct.{Correct, earliest}
use Rattle.rules.specs.Orders.{check_both}
use Rattle.rules.specs.Rows.{at, is_row}
use Rattle.rules.specs.Slots.{State}

-- Where the checks passed: the proposal is accepted and its order correct, every row of the sheet in hand is closed, and the clock is not after the
-- earliest release of the proposal.
pub record Turned (t : Table) (s : State) (p : Table) (o : List ℕ) : Type 0 where
  pub checked : check_both p o ≡ Passed
  pub correct : Correct p o
  pub closed : (i : ℕ) → is_row t i ≡ true → 1 ≤ at s.closing i
  pub early : s.clock ≤ earliest p
