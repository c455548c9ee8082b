-- How long the lines of the program's text are.
use Rattle.std.specs.Prelude.{ℕ, ◌*◌, ◌≡◌, List, [], ◌∷◌, nat_abs, length}
use Rattle.rules.specs.declared.Table.{Table}
use Rattle.rules.specs.Lists.{rows_to, joined}
use Rattle.rules.specs.Rows.{at}
use Rattle.rules.specs.Worst.{slack}
use Rattle.texts.specs.Fields.{line}
use Rattle.texts.specs.Program.{place_line}
use Rattle.fields.specs.Lengths.{line_long, joined_long}

pub pair_long : (a b : ℕ) → length (line (a ∷ b ∷ [])) ≡ 17
pair_long a b = line_long (a ∷ b ∷ [])

place_long : (t : Table) (o : List ℕ) (k : ℕ) → length (place_line t o k) ≡ 25
unfolding place_line
place_long t o k = line_long (k ∷ at o k ∷ nat_abs (slack t o (at o k)) ∷ [])

pub places_long : (t : Table) (o : List ℕ) (n : ℕ) → length (joined (place_line t o) (rows_to n)) ≡ 25 * n
places_long t o n = joined_long (place_line t o) 25 (place_long t o) n
