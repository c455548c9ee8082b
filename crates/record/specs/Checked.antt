-- What is known of a table and an order that passed their checks (rules 5.5, 5.7).
use Rattle.std.specs.Prelude.{ℕ, ◌≤◌, true, List, ◌≡◌, refl, Ok, Err}
use Rattle.std.proofs.Common.{arith}
use Rattle.rules.specs.declared.Table.{Table}
use Rattle.rules.specs.Checks.{Check, Passed}
use Rattle.rules.specs.Rows.{work_of}
use Rattle.rules.specs.Tables.{passed}
use Rattle.rules.specs.Orders.{check_both}
use Rattle.theory.specs.Facts.{TableFacts, facts, both_accepted, both_order}
use Rattle.columns.specs.Places.{Placed, placed}

pub passed_true : (c : Check) → passed c ≡ true → c ≡ Passed
passed_true (Ok tt) e = refl
passed_true (Err r) e = let z : ◌≡◌ {A = ℕ} 0 1 = cc in absurd (omega arith)

module _ (t : Table) (o : List ℕ) (e : check_both t o ≡ Passed) where
  pub limits : TableFacts t
  limits = facts t (both_accepted t o e)

  pub works : (i : ℕ) → 1 ≤ i → i ≤ t.n → 1 ≤ work_of t i
  works i l h = (limits.row i (record { from = l; up_to = h })).works

  pub places : Placed t.n o
  places = placed t o limits.few (both_order t o e)
