-- The words of the judge's answer (rules 7.2 to 7.4): the code's `Judgement` is a `Result`, yes or no with the tightest row and its slack in slots, or why
-- table and order were refused.
use Rattle.std.specs.Prelude.{ℕ, ℤ, Result, Ok, Err}
use Rattle.rules.specs.declared.Refusal.{Refusal}
use Rattle.rules.specs.declared.Verdict.{Verdict}

abbrev pub Judgement : Type 0
Judgement = Result Verdict Refusal

abbrev pub Correct : ℕ → ℤ → Judgement
Correct row slack = Ok (Verdict.Correct row slack)

abbrev pub Incorrect : ℕ → ℤ → Judgement
Incorrect row slack = Ok (Verdict.Incorrect row slack)

abbrev pub Refused : Refusal → Judgement
Refused why = Err why
