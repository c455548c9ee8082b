-- The worst finish of a row is the finish of the set of rows down to it.
use Rattle.std.specs.Prelude.{ℕ, ◌≤◌, ◌<◌, Bool, ◌≡◌, leb}
use mathlib.Core.List.{List}
use Rattle.rules.specs.declared.Table.{Table}
use Rattle.rules.specs.Rows.{release_of, deadline_of}
use Rattle.rules.specs.Worst.{worst_speed, worst_finish}
use Rattle.theory.specs.Backlog.{backlog, arrivals}
use Rattle.theory.specs.Caps.{cap}

-- row i's worst finish is not after its deadline
abbrev pub on_time : Table → List ℕ → ℕ → Bool
on_time t o i = leb (worst_finish t o i) (deadline_of t i)

-- at a clock after row i's release and by its deadline, nothing is left of the rows of l at i's worst speed
pub record Clear (t : Table) (l : List ℕ) (i : ℕ) : Type 0 where
  pub at : ℕ
  pub after : release_of t i < at
  pub by : at ≤ deadline_of t i
  pub clear : backlog (arrivals (release_of t) (cap t (worst_speed t i)) l) at ≡ 0
