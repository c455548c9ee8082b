-- The answer for one slot (rules 8.9, 8.13 to 8.15): the row that ran, 0 for an idle slot, or a refusal. In a pattern they are `Ok` and `Err`.
use Rattle.std.specs.Prelude.{ℕ, Result, Ok, Err}
use Rattle.rules.specs.declared.Refusal.{Refusal}

abbrev pub SlotAnswer : Type 0
SlotAnswer = Result ℕ Refusal

abbrev pub Worked : ℕ → SlotAnswer
Worked row = Ok row

abbrev pub Refused : Refusal → SlotAnswer
Refused why = Err why
