-- A row that is closed is settled (rule 9.20): whether it has kept its deadline, and whether it has got its promised part, rests on the slots of its
-- window before its closing slot, since the run could go on from there with slots that supply enough, and a closed row stays as it is. Of these slots only
-- those count in which a row works (rule 9.17).
use Rattle.std.specs.Prelude.{ℕ, ◌≤◌, ◌<◌, false, List, ◌≡◌}
use Rattle.rules.specs.declared.Table.{Table}
use Rattle.rules.specs.Correct.{earliest}
use Rattle.rules.specs.Rows.{deadline_of}
use Rattle.rules.specs.Running.{run_after}
use Rattle.theory.specs.Lost.{lost}

-- each slot of row i's window before clock k in which a row works supplies at least s work units (rules 9.17, 9.20)
abbrev pub WorkWindowTo : Table → List ℕ → (ℕ → ℕ) → ℕ → ℕ → ℕ → Type 0
WorkWindowTo t o σ k i s = (u : ℕ) → earliest t ≤ u → u < deadline_of t i → u < k → lost t o (run_after t o σ u) ≡ false → s ≤ σ u
