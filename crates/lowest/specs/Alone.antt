-- The rows of a word alone (rule 25.3): the table of them, numbered anew, is a table like any other, and its choices are counted by the lowest row of the same
-- rows in the whole table (rule 25.7).
use Rattle.std.specs.Prelude.{ℕ, List}
use Rattle.rules.specs.declared.Table.{Table}
use Rattle.rules.specs.Rows.{rows_of}
use Rattle.theory.specs.Counts.{Within}
use Rattle.theory.specs.Sorting.{Sorted}

-- rows of the table, from the lowest number up
pub record Chosen (t : Table) (s : List ℕ) : Type 0 where
  pub within : Within s (rows_of t)
  pub rising : Sorted (λ x. x) 0 s
