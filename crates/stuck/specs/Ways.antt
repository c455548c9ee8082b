-- Ways of choosing (rule 26.3): what each of them leaves is the largest stuck set of the set that it began with, and the planner's choice is one of them.
use Prim.Native.Nat.{ℕ}
use Rattle.std.specs.Prelude.{◌≡◌}
use Rattle.std.proofs.Math.Bool.{true}
use mathlib.Core.List.{List}
use Rattle.rules.specs.declared.Table.{Table}
use Rattle.theory.specs.Counts.{Within}
use Rattle.lowest.specs.Alone.{Chosen}
use Rattle.stuck.specs.Stuck.{is_stuck}

-- the largest stuck set inside a set of rows of a table
pub record Largest (t : Table) (s l : List ℕ) : Type 0 where
  pub set : Chosen t l
  pub inside : Within l s
  pub stuck : is_stuck t l ≡ true
  pub largest : (r : List ℕ) → Chosen t r → Within r s → is_stuck t r ≡ true → Within r l
