-- The promised moment of a row is the worst finish of its part (Part), so that a row meets its deadline exactly if its worst finish and, where it is
-- promised a part, that part's are in time (rules 3.7, 3.9, 4.4); and an order is correct exactly if all rows do (rule 3.4).
use Prim.Native.Nat.{ℕ, ◌≤◌, max}
use Rattle.std.proofs.Math.Bool.{true}
use Rattle.std.specs.Prelude.{cond, ◌≡◌, List}
use Rattle.rules.specs.declared.Table.{Table}
use Rattle.rules.specs.Rows.{is_low, is_promised, promised_of}
use Rattle.rules.specs.Worst.{worst_finish, promised_moment}

-- the clock by which row i has finished and, where it is promised a part, has got that, in slots
unfoldable pub latest : Table → List ℕ → ℕ → ℕ
latest t o i = max (worst_finish t o i) (cond (is_promised t i) (promised_moment t o i) 0)

-- row i, LO, with a promised part
pub record Part (t : Table) (i : ℕ) : Type 0 where
  pub low : is_low t i ≡ true
  pub some : 1 ≤ promised_of t i
