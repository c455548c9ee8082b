-- The planner's choice: what it places meets its deadlines, and where it stops no order is correct.
use Prim.Native.Nat.{ℕ}
use Rattle.std.specs.Prelude.{◌≡◌}
use Rattle.std.proofs.Math.Bool.{true}
use mathlib.Core.List.{List, ◌∷◌, ◌++◌}
use Rattle.rules.specs.declared.Table.{Table}
use Rattle.rules.specs.Rows.{rows_of}
use Rattle.rules.specs.Worst.{meets}
use Rattle.theory.specs.Counts.{In, Same}
use Rattle.theory.specs.Waits.{Closed, Stand}

-- Some rows are placed, each meeting its deadline with all that are left above it. Whatever a row left follows is left, and whatever a placed row follows
-- is left or placed above it.
pub record Filling (t : Table) (left placed : List ℕ) : Type 0 where
  pub every : Same (left ++ placed) (rows_of t)
  pub meet : (i : ℕ) → In i placed → meets t (left ++ placed) i ≡ true
  pub closed : Closed t left
  pub stand : (a b : List ℕ) (i : ℕ) → placed ≡ a ++ (i ∷ b) → Stand t (left ++ a) i
