-- A number in decimal, as a sentence has it: its digits alone (rule 24.2).
use Rattle.std.specs.Prelude.{ℕ, ◌+◌, ◌/◌, ◌%◌, Bool, cond, ◌||◌, List, [], ◌∷◌, eqb, leb}
use Rattle.rules.specs.Lists.{joined}
use Rattle.texts.specs.Reports.{columns}

-- a number has a digit at a weight: from its first digit on, and at the last place (rule 24.2)
abbrev pub has_digit : ℕ → ℕ → Bool
has_digit v w = leb w v || eqb w 1

-- its digit at a weight (byte 48 is the digit 0), or nothing before its first digit (rule 24.2)
unfoldable pub digit_if : ℕ → ℕ → List ℕ
digit_if v w = cond (has_digit v w) ((48 + v / w % 10) ∷ []) []

-- the digits of a number that has at most ten (rule 24.2)
unfoldable pub decimal : ℕ → List ℕ
decimal v = joined (digit_if v) columns
