-- What check 9 says of a sound record (rules 8.3 to 8.8), as facts, and the facts of the row that its coming slot runs (rule 2.3).
use Rattle.std.specs.Prelude.{ℕ, ◌≤◌, Bool, true, ◌≡◌}
use Rattle.rules.specs.Calls.{last_clock}
use Rattle.rules.specs.Rows.{at, work_of}
use Rattle.rules.specs.Orders.{check_both}
use Rattle.record.specs.declared.Run.{Run}
use Rattle.record.specs.Records.{tail_sound}
use Rattle.rules.specs.Checks.{Passed}
use Rattle.columns.specs.Entries.{sound_row_in}

-- row i's soundness over the record's columns
abbrev pub sound_row : Run → ℕ → Bool
sound_row r i = sound_row_in r.table r.clock r.got r.used r.closing i

-- check 9 as facts: the test `is_sound` passes exactly if they hold (`sound-so`, `is-sound`)
pub record IsSound (r : Run) : Type 0 where
  pub checked : check_both r.table r.order ≡ Passed
  pub clock : r.clock ≤ last_clock
  pub rows : (i : ℕ) → 1 ≤ i → i ≤ r.table.n → sound_row r i ≡ true
  pub tail : tail_sound r ≡ true

-- the row that the coming slot runs, if any, is one of the table's, and open
pub record Runs (r : Run) (i : ℕ) : Type 0 where
  pub low : 1 ≤ i
  pub high : i ≤ r.table.n
  pub still : at r.closing i ≡ 0

-- what the code needs of that row: it stands in the columns, has got its work at most, and its slots used are at most the clock
pub record Serving (r : Run) (i : ℕ) : Type 0 where
  pub low : 1 ≤ i
  pub high : i ≤ 64
  pub most : at r.got i ≤ work_of r.table i
  pub used_by : at r.used i ≤ r.clock
