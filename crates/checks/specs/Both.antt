-- Two checks one after the other: the library's `and` of two results is what the rules say of two checks (rule 11.1).
use Rattle.std.specs.Prelude.{Ok, Err, ◌≡◌, refl}
use Rattle.std.specs.Result.{result_and}
use Rattle.rules.specs.Checks.{Check}
use Rattle.rules.specs.Tables.{and_then}

pub and_is : (first second : Check) → result_and first second ≡ and_then first second
and_is (Ok tt) second = refl
and_is (Err why) second = refl
