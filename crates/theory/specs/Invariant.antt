-- What holds of a row at every clock of a run whose slots supply at least s, by either rule of a slot (Ends).
use Rattle.std.specs.Prelude.{ℕ, ◌-◌, ◌*◌, ◌≤◌, ◌<◌, min, true, ◌≡◌, ◌⊎◌}
use Rattle.rules.specs.declared.Table.{Table}
use Rattle.rules.specs.Rows.{release_of, work_of, is_low}
use Rattle.rules.specs.Slots.{allowance}
use Rattle.theory.specs.Cells.{Cell}
use Rattle.theory.specs.Ends.{Rule}

-- done, or LO with its allowance used up
abbrev pub Over : Table → ℕ → ℕ → ℕ → Type 0
Over t i g u = (g ≡ work_of t i) ⊎ ((is_low t i ≡ true) × (allowance t i ≤ u))

-- row i with cell x at clock u; its slots supplied at least s work units each, which those beyond its loading brought; a closed row is over,
-- or its closing slot is a clock that may have closed it
pub record Held (t : Table) (r : Rule t) (s u i : ℕ) (x : Cell) : Type 0 where
  pub supplied : min (work_of t i) ((x.used - t.loading) * s) ≤ x.got
  pub most : x.got ≤ work_of t i
  pub short : x.closing ≡ 0 → x.got < work_of t i
  pub slots : x.closing ≡ 0 → is_low t i ≡ true → x.used < allowance t i
  pub past : x.closing ≤ u
  pub ended : 0 < x.closing → Over t i x.got x.used ⊎ (r.may x.closing i ≡ true)
  pub unused : u ≤ release_of t i → x.used ≡ 0
  pub unclosed : u ≤ release_of t i → x.closing ≡ 0
