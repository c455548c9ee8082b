-- What a 7 does not say (rule 19.8): a table without a correct order for which an order serves, since a late preview stops. All courses of speed
-- are gone through slot by slot: a slot that supplies more than the largest work does what one does that supplies just that.
use Rattle.std.specs.Prelude.{ℕ, List, [], ◌∷◌}
use Rattle.rules.specs.Choice.{padded}

abbrev pub order : List ℕ
order = padded (1 ∷ 2 ∷ 3 ∷ [])
