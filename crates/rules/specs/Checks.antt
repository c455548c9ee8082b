-- What a check answers (rule 11.1): it passed, or what it was refused for. The code's `Check` is a `Result`; these are its words in the rules.
use Rattle.std.specs.Prelude.{Result, Ok, Err}
use Rattle.rules.specs.declared.Refusal.{Refusal}

abbrev pub Check : Type 0
Check = Result (Unit {0}) Refusal

abbrev pub Passed : Check
Passed = Ok tt

abbrev pub Refused : Refusal → Check
Refused why = Err why
