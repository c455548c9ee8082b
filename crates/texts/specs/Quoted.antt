-- The bytes of a quoted text, and texts one after the other.
use Rattle.std.specs.Prelude.{ℕ, List, [], ◌∷◌, ◌++◌}
use Prim.Native.Char.{code}
use Prim.Native.String.{String}
use Prim.Native.String as Strings

-- the bytes of a text of plain characters, one for each
abbrev pub bytes : String → List ℕ
bytes Strings.[] = []
bytes (Strings.◌∷◌ c s) = code c ∷ bytes s

-- texts one after the other
abbrev pub together : List (List ℕ) → List ℕ
together [] = []
together (t ∷ ts) = t ++ together ts
