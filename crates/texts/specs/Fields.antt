-- Fields of a sheet: 8 bytes with a decimal number at their right end, byte 32 to its left, and no zero before other digits
-- (rules 6.1, 6.2).
use Rattle.std.specs.Prelude.{ℕ, ◌+◌, ◌-◌, ◌*◌, ◌/◌, ◌%◌, Bool, cond, ◌&&◌, ◌||◌, List, [], ◌∷◌, ◌++◌, map, eqb, leb, ltb, take, drop}
use Rattle.rules.specs.Lists.{same}

-- what a digit counts for at each byte of a field, from the left (rule 6.3)
abbrev pub weights : List ℕ
weights = 10000000 ∷ 1000000 ∷ 100000 ∷ 10000 ∷ 1000 ∷ 100 ∷ 10 ∷ 1 ∷ []

-- the byte of v at a weight: its digit there (byte 48 is the digit 0), and a space before its first digit (rules 6.1, 6.2)
unfoldable pub digit_at : ℕ → ℕ → ℕ
digit_at v w = cond (leb w v || eqb w 1) (48 + v / w % 10) 32

-- the eight bytes of a number (rules 6.1, 6.2)
unfoldable pub written : ℕ → List ℕ
written v = map (digit_at v) weights

-- the eight bytes hold the whole number; of one from here on they have the last eight digits (rules 6.2, 15.9)
abbrev pub fits_field : ℕ → Bool
fits_field v = ltb v 100000000

-- numbers as fields on a line, which ends with byte 10 (rules 6.4, 12.3)
abbrev pub line : List ℕ → List ℕ
line [] = 10 ∷ []
line (v ∷ vs) = written v ++ line vs

-- what a byte adds: its digit, and nothing for a byte that is none (rule 6.3)
unfoldable pub digit_of : ℕ → ℕ
digit_of b = cond (leb 48 b && leb b 57) (b - 48) 0

-- each digit times its weight, added up (rule 6.3)
abbrev pub weigh : List ℕ → List ℕ → ℕ
weigh [] bs = 0
weigh (w ∷ ws) [] = 0
weigh (w ∷ ws) (b ∷ bs) = w * digit_of b + weigh ws bs

-- the number that eight bytes hold (rule 6.3)
unfoldable pub value_of : List ℕ → ℕ
value_of field = weigh weights field

-- well formed: the eight bytes are those of a number, which is then the field's value (rules 6.1 to 6.3)
unfoldable pub is_field : List ℕ → Bool
is_field field = same field (written (value_of field))

-- the field that starts at a byte (rule 6.1)
abbrev pub field_at : List ℕ → ℕ → List ℕ
field_at bytes start = take 8 (drop start bytes)
