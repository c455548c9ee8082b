-- The words of a search's answer (rules 18.4 to 18.6): the code's `Searched` is a `Result` of an `Option`, the least workable speed in work units per slot,
-- no speed of the range works, or why the table was refused.
use Rattle.std.specs.Prelude.{ℕ, Option, Some, None, Result, Ok, Err}
use Rattle.rules.specs.declared.Refusal.{Refusal}

abbrev pub Searched : Type 0
Searched = Result (Option ℕ) Refusal

abbrev pub Least : ℕ → Searched
Least speed = Ok (Some speed)

abbrev pub NoSpeed : Searched
NoSpeed = Ok None

abbrev pub Refused : Refusal → Searched
Refused why = Err why
