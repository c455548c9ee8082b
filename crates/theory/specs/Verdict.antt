-- A row whose worst finish is in time keeps its deadline in every run that supplies as much, by either rule of a slot (rule 19.5), and under a
-- correct order every row's is (rules 3.2, 3.3 and 3.6). Promised parts are in Promised.
use Rattle.std.specs.Prelude.{ℕ, ◌≤◌, ◌≡◌, List}
use Rattle.rules.specs.declared.Table.{Table}
use Rattle.rules.specs.Rows.{at, work_of, deadline_of}
use Rattle.rules.specs.Slots.{after}
use Rattle.rules.specs.Worst.{worst_speed, worst_finish}
use Rattle.theory.specs.Cells.{Cell}

-- row i's cell shows that it has kept its deadline
pub record KeptCell (t : Table) (i : ℕ) (x : Cell) : Type 0 where
  pub done : x.got ≡ work_of t i
  pub closed : 1 ≤ x.closing
  pub in_time : x.closing ≤ deadline_of t i

-- Row i's worst run at clock k: it is closed, at its worst finish, which is at least 1 slot, and has got all its work units.
pub record Finished (t : Table) (o : List ℕ) (i k : ℕ) : Type 0 where
  pub closing : at (after t o (λ _. worst_speed t i) k).closing i ≡ worst_finish t o i
  pub from : 1 ≤ worst_finish t o i
  pub got : at (after t o (λ _. worst_speed t i) k).got i ≡ work_of t i
