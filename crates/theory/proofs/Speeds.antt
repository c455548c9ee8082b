-- A correct order stays correct at larger speeds (rule 18.8): needs fall there, so caps fall, so the backlog of every set of rows falls, and so
-- no row finishes later and none gets its promised part later. Courses of speed that stay above larger speeds are fewer as well, but that alone would
-- not do: allowances change with the speeds.
use Rattle.std.specs.Prelude.{ℕ, ◌≤◌, true, ◌≡◌, List, [], ◌∷◌, eqb}
use Rattle.std.proofs.Math.Path.{refl}
use Rattle.std.proofs.Common.{ap, le-leb}
use native.Mathlib.Omega.{arith}
use Rattle.rules.specs.declared.Table.{Table}
use Rattle.rules.specs.Rows.{rows_of, is_low, work_of, promised_of}
use Rattle.rules.specs.Tables.{speeds_ok, row_ok, promise_ok, and_then, check_wait, check_waits, tail_ok, check_table, Accepted}
use Rattle.rules.specs.Orders.{is_arrangement, is_order}
use Rattle.rules.specs.Worst.{worst_speed}
use Rattle.searches.specs.Speeds.{with_speeds}
use Rattle.theory.specs.Tests.{by_bool}
use Rattle.theory.specs.Counts.{sum_le}
use Rattle.theory.specs.Backlog.{backlog, backlog_mono, brings, arrivals}
use Rattle.theory.specs.Caps.{cap, slots_fall}
use Rattle.theory.specs.Facts.{Row, facts}

-- smaller caps, smaller backlog
pub caps_backlog : (rel less more : ℕ → ℕ) (l : List ℕ) → ((x : ℕ) → less x ≤ more x) → (u : ℕ) → backlog (arrivals rel less l) u ≤ backlog (arrivals rel more l) u
caps_backlog rel less more l h u =
    backlog_mono (arrivals rel less l) (arrivals rel more l)
    (λ v. sum_le (brings rel less v) (brings rel more v) l (λ x _. by_bool (eqb (rel x) v) (λ e. rw e (h x)) (λ e. rw e (omega arith))))
    u

-- speeds do not change which rows a table has
pub same_row : (t : Table) (n g m h i : ℕ) → Row (with_speeds t n g) i → Row (with_speeds t m h) i
same_row t n g m h i r = record { from = r.from; up_to = r.up_to }

-- nor which waits pass
waits_same : (t : Table) (n g : ℕ) (l : List ℕ) → check_waits (with_speeds t n g) l ≡ check_waits t l
unfolding check_wait
waits_same t n g [] = refl
waits_same t n g (i ∷ l) = ap (and_then (check_wait t i)) (waits_same t n g l)

-- other speeds within their limits leave an accepted table accepted
pub accepted_speeds : (t : Table) → Accepted t → (n g : ℕ) → n ≤ 1000 → 1 ≤ g → g ≤ n → Accepted (with_speeds t n g)
unfolding check_table row_ok promise_ok tail_ok
accepted_speeds t accepted n g fast crawls slower =
    let f = facts t accepted in
    let old : speeds_ok t.normal t.degraded ≡ true = speeds_ok_lem t.normal t.degraded f.fast f.crawls f.slower in
    rw (speeds_ok_lem n g fast crawls slower, waits_same t n g (rows_of t)) (rw old at accepted)
  where
    speeds_ok_lem : (n g : ℕ) → n ≤ 1000 → 1 ≤ g → g ≤ n → speeds_ok n g ≡ true
    speeds_ok_lem n g fast crawls slower = rw (le-leb 1 n (omega arith), le-leb n 1000 fast, le-leb 1 g crawls, le-leb g n slower)

-- one table at two pairs of speeds, N of n and m and G of g and h work units per slot; neither falls
module _ (t : Table) (n g m h : ℕ) (normal : n ≤ m) (degraded : g ≤ h) where
  abbrev slow : Table
  slow = with_speeds t n g

  abbrev fast : Table
  fast = with_speeds t m h

  -- the worst run of a row supplies no less
  pub worst_faster : (i : ℕ) → worst_speed slow i ≤ worst_speed fast i
  worst_faster i = by_bool (is_low t i) (λ e. rw e normal) (λ e. rw e degraded)

  -- no row takes more slots
  pub cap_falls : 1 ≤ n → 1 ≤ g → (s r x : ℕ) → 1 ≤ s → s ≤ r → cap fast r x ≤ cap slow s x
  unfolding cap
  cap_falls n1 g1 s r x s1 q =
      by_bool (is_low t x)
      (λ e. rw e (omega (
        arith,
        slots_fall (work_of t x) n m n1 normal,
        slots_fall (promised_of t x) g h g1 degraded,
        slots_fall (work_of t x) s r s1 q,
      )))
      (λ e. rw e (omega (arith, slots_fall (work_of t x) s r s1 q)))

  -- check 6 does not look at speeds
  pub order_same : (o : List ℕ) → is_order slow o ≡ is_order fast o
  unfolding is_arrangement is_order
  order_same o = refl
