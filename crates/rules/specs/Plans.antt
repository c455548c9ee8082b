-- The words of the planner's answer (rules 4.6, 4.10): the code's `Planned` is a `Result`, an order was made or none exists with the rows left as a
-- word, or why the table was refused.
use Rattle.std.specs.Prelude.{ℕ, Result, Ok, Err}
use Rattle.rules.specs.declared.Refusal.{Refusal}
use Rattle.rules.specs.declared.Plan.{Plan}

abbrev pub Planned : Type 0
Planned = Result Plan Refusal

abbrev pub Ordered : Planned
Ordered = Ok Plan.Ordered

abbrev pub NoOrder : ℕ → Planned
NoOrder left = Ok (Plan.NoOrder left)

abbrev pub Refused : Refusal → Planned
Refused why = Err why
