-- What the checks of table and order say where they pass.
use Rattle.std.specs.Prelude.{ℕ, true, ◌≡◌, List}
use Rattle.rules.specs.declared.Table.{Table}
use Rattle.rules.specs.Checks.{Passed}
use Rattle.rules.specs.Tables.{Accepted}
use Rattle.rules.specs.Orders.{is_order, check_both}
use Rattle.theory.specs.Facts.{both_accepted, both_order}

-- the table is accepted and the order is one of its orders
pub record Checked (t : Table) (o : List ℕ) : Type 0 where
  pub accepted : Accepted t
  pub order : is_order t o ≡ true

pub checked : (t : Table) (o : List ℕ) → check_both t o ≡ Passed → Checked t o
checked t o e = record { accepted = both_accepted t o e; order = both_order t o e }
