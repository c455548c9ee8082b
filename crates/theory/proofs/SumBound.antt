-- What a sweep adds is at most 65,001,024 slots: the latest release (1,000,000 slots) and every row's cap (64 times 1,000,016 slots).
use Rattle.std.specs.Prelude.{ℕ, ◌+◌, ◌≤◌}
use mathlib.Core.List.{List, [], ◌∷◌}
use native.Mathlib.Omega.{arith}
use Rattle.rules.specs.declared.Table.{Table}
use Rattle.rules.specs.Lists.{sum, greatest}
use Rattle.rules.specs.Rows.{rows_of, release_of}
use Rattle.rules.specs.Tables.{Accepted}
use Rattle.theory.specs.Counts.{In, Within, in_head, in_tail, sum_within, sum_most}
use Rattle.theory.specs.Caps.{cap, cap_most}
use Rattle.theory.specs.Facts.{Row, TableFacts, rows_in_lem, facts}
use Rattle.theory.specs.Places.{length_rows}

module _ (t : Table) (accepted : Accepted t) where
  abbrev f : TableFacts t
  f = facts t accepted

  pub latest_release : (l : List ℕ) → ((x : ℕ) → In x l → Row t x) → greatest (release_of t) l ≤ 1000000
  latest_release [] r = omega arith
  latest_release (x ∷ l) r =
      let g = f.row x (r x (in_head x l)) in
      omega (arith, g.before, g.soon, latest_release l (λ y i. r y (in_tail y x l i)))

  -- 7. BOUNDS. What a sweep adds, the latest release (1,000,000 slots) and every row's cap (64 times 1,000,016 slots), is at most
  -- 65,001,024 slots.
  pub sum_bound : (s : ℕ) → 1 ≤ s → (l : List ℕ) → Within l (rows_of t) → greatest (release_of t) (rows_of t) + sum (cap t s) l ≤ 65001024
  sum_bound s s1 l w =
      omega (
        arith,
        sum_within (cap t s) l (rows_of t) w,
        sum_most (cap t s) 1000016 (rows_of t) (λ x i. omega (arith, cap_most t s x f.runs s1, f.loads, (f.row x (rows_in_lem t x i)).light)),
        latest_release (rows_of t) (λ x i. rows_in_lem t x i),
        length_rows t.n,
        f.few,
      )
