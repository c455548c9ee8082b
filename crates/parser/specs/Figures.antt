-- What reading a figure, and reading places, tells of the figures that are left to read.
use Rattle.std.specs.Prelude.{ℕ, ◌≤◌, List, map, ◌≡◌, length, get_or, take, drop}
use Rattle.rules.specs.Choice.{padded}
use Rattle.sentences.specs.Reading.{figures_in, small}
use Rattle.parser.specs.declared.Figure.{Figure}
use Rattle.parser.specs.declared.Places.{Places}

-- the first figure from a byte on, and those after it
pub record FigureAt (bytes : List ℕ) (start : ℕ) (r : Figure) : Type 0 where
  pub within : r.next ≤ length bytes
  pub first : r.value ≡ get_or (figures_in (drop start bytes)) 0 0
  pub rest : figures_in (drop r.next bytes) ≡ drop 1 (figures_in (drop start bytes))

-- the first so many figures from a byte on as small numbers, and those after them
pub record PlacesAt (bytes : List ℕ) (start many : ℕ) (r : Places) : Type 0 where
  pub within : r.next ≤ length bytes
  pub order : r.order ≡ padded (map small (take many (figures_in (drop start bytes))))
  pub rest : figures_in (drop r.next bytes) ≡ drop many (figures_in (drop start bytes))
