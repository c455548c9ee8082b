-- Supplies that bring nothing. An idle slot and a slot that loads its row leave the same state whatever they supply (rules 2.3, 2.14), so
-- that of a row's window only those slots count in which a row works (rule 9.17). This is about runs by the running rule (rule 9.6).
use Rattle.std.specs.Prelude.{ℕ, ◌≤◌, ◌<◌, Bool, false, ◌||◌, List, ◌≡◌, eqb}
use Rattle.std.proofs.Math.Dec.{ltb}
use Rattle.rules.specs.declared.Table.{Table}
use Rattle.rules.specs.Correct.{earliest}
use Rattle.rules.specs.Rows.{at, deadline_of}
use Rattle.rules.specs.Running.{run_after}
use Rattle.rules.specs.Slots.{State, chosen}

-- the supply of the coming slot is lost: the slot is idle, or it loads the row that it runs
unfoldable pub lost : Table → List ℕ → State → Bool
lost t o s = eqb (chosen t o s) 0 || ltb (at s.used (chosen t o s)) t.loading

-- each slot of row i's window in which a row works supplies at least s work units
abbrev pub WorkWindow : Table → List ℕ → (ℕ → ℕ) → ℕ → ℕ → Type 0
WorkWindow t o σ i s = (u : ℕ) → earliest t ≤ u → u < deadline_of t i → lost t o (run_after t o σ u) ≡ false → s ≤ σ u
