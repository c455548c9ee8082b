-- Runs by the running rule (section 19 of the rules): where nothing is due they go on as by the planning rule (rule 19.7); LO rows are closed by
-- their deadlines and HI rows only when they are done (rules 19.2, 19.4); why a row was dropped (rule 19.9); and under a correct order, at
-- supplies of at least N, the two rules make one run (rule 19.6).
use Prim.Native.Nat.{ℕ, ◌≤◌, ◌<◌}
use Rattle.std.specs.Prelude.{◌≡◌}
use Rattle.rules.specs.declared.Table.{Table}
use Rattle.rules.specs.Rows.{deadline_of}
use Rattle.rules.specs.Slots.{allowance}
use Rattle.theory.specs.Cells.{Cell}

-- a LO row at clock k: open only before its deadline, closed by it, and never beyond its allowance
pub record Timely (t : Table) (k i : ℕ) (x : Cell) : Type 0 where
  pub early : x.closing ≡ 0 → k < deadline_of t i
  pub by : x.closing ≤ deadline_of t i
  pub within : x.used ≤ allowance t i
