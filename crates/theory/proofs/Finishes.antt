-- The worst finish of a row is the finish of the set of rows down to it.
use Rattle.std.specs.Prelude.{ℕ, ◌+◌, ◌≤◌, min, true, ◌≡◌}
use Rattle.std.proofs.Math.Path.{subst}
use mathlib.Core.List.{List, [], ◌∷◌, ◌++◌, append_assoc}
use native.Mathlib.Omega.{arith}
use Rattle.std.proofs.Common.{leb-true, le-leb}
use Rattle.rules.specs.declared.Table.{Table}
use Rattle.rules.specs.Lists.{count, sum, greatest, least}
use Rattle.rules.specs.Rows.{at, rows_of, release_of, deadline_of, need_for, is_low}
use Rattle.rules.specs.Slots.{after}
use Rattle.rules.specs.Correct.{earliest}
use Rattle.rules.specs.Worst.{worst_speed, horizon, worst_finish}
use Rattle.theory.specs.Tests.{by_bool, by-leb, by_eqb}
use Rattle.theory.specs.Counts.{In, Once, Within, Same, in_last, sum_within, sum_le}
use Rattle.theory.specs.Backlog.{arrivals, Finish, finish_first, finish_only, finish_set, arrivals_within}
use Rattle.theory.specs.Sorting.{Sorted}
use Rattle.theory.specs.Sweep.{sweep}
use Rattle.theory.proofs.Sweep.{sweep_finish, Ends, ends}
use Rattle.theory.specs.Caps.{cap, cap_positive, cap_need}
use Rattle.theory.specs.Facts.{Row, in_rows, rows_in_lem, TableFacts}
use Rattle.theory.specs.Waits.{Stand}
use Rattle.theory.specs.Places.{rows_once}
use Rattle.theory.proofs.Exact.{closes_at}
use Rattle.theory.specs.Finishes.{on_time, Clear}

pub greatest_of : (f : ℕ → ℕ) (l : List ℕ) (x : ℕ) → In x l → f x ≤ greatest f l
greatest_of f [] x i = absurd (omega arith)
greatest_of f (y ∷ l) x i = by_eqb x y (λ e q. rw q (omega arith)) (λ e q. omega (arith, greatest_of f l x (rw e at i)))

least_start : (f : ℕ → ℕ) (b : ℕ) (l : List ℕ) → least f b l ≤ b
least_start f b [] = omega arith
least_start f b (x ∷ l) = omega (arith, least_start f (min b (f x)) l)

least_of : (f : ℕ → ℕ) (b : ℕ) (l : List ℕ) (x : ℕ) → In x l → least f b l ≤ f x
least_of f b [] x i = absurd (omega arith)
least_of f b (y ∷ l) x i =
    by_eqb x y
    (λ e q. rw q (omega (arith, least_start f (min b (f y)) l)))
    (λ e q. least_of f (min b (f y)) l x (rw e at i))

-- rows among the table's, each once
pub rows_of_lem : (t : Table) (l : List ℕ) → Within l (rows_of t) → (x : ℕ) → In x l → Row t x
rows_of_lem t l w x i = rows_in_lem t x (omega (arith, w x))

pub once_of : (t : Table) (l : List ℕ) → Within l (rows_of t) → Once l
once_of t l w x = omega (arith, w x, rows_once t.n x)

-- no release is before the earliest
pub earliest_first : (t : Table) (i : ℕ) → Row t i → earliest t ≤ release_of t i
unfolding earliest
earliest_first t i r = least_of (release_of t) (release_of t 1) (rows_of t) i (in_rows t i r)

-- fewer rows have no more left
pub clear_within : (t : Table) (a b : List ℕ) (i : ℕ) → Within a b → Clear t b i → Clear t a i
clear_within t a b i w c =
    record { at = c.at; after = c.after; by = c.by; clear = omega (arith, c.clear, arrivals_within (release_of t) (cap t (worst_speed t i)) a b w c.at) }

module _ (t : Table) (f : TableFacts t) where
  pub worst_runs : (i : ℕ) → 1 ≤ worst_speed t i
  worst_runs i = by_bool (is_low t i) (λ e. rw e f.runs) (λ e. rw e f.crawls)

  pub worst_slower : (i : ℕ) → worst_speed t i ≤ t.normal
  worst_slower i = by_bool (is_low t i) (λ e. rw e (omega arith)) (λ e. rw e f.slower)

  -- a list of rows of the table, none twice, is within the table's rows
  pub within_rows : (l : List ℕ) → ((x : ℕ) → In x l → Row t x) → Once l → Within l (rows_of t)
  within_rows l rows once x = by-leb 1 (count x l) (λ _ i. omega (arith, once x, in_rows t x (rows x i))) (λ _ i. omega arith)

  -- the slots that a set of rows can take at s end by the horizon
  horizon_enough : (s : ℕ) → 1 ≤ s → s ≤ t.normal → (l : List ℕ) → ((x : ℕ) → In x l → Row t x) → Once l
      → greatest (release_of t) (rows_of t) + sum (cap t s) l ≤ horizon t s
  unfolding horizon
  horizon_enough s s1 sn l rows once =
      omega (
        arith,
        sum_within (cap t s) l (rows_of t) (within_rows l rows once),
        sum_le (cap t s) (need_for t s) (rows_of t) (λ x i. cap_need t s x f.runs s1),
      )

  module _ (a b : List ℕ) (i : ℕ) (rows : (x : ℕ) → In x (a ++ (i ∷ [])) → Row t x) (once : Once (a ++ (i ∷ []))) (stand : Stand t a i) where
    -- the rows from the top down to i, at i's worst speed
    abbrev pub work_down_to : ℕ → ℕ
    work_down_to = arrivals (release_of t) (cap t (worst_speed t i)) (a ++ (i ∷ []))

    own_cap : 1 ≤ cap t (worst_speed t i) i
    own_cap = cap_positive t (worst_speed t i) i f.runs (worst_runs i) (f.row i (rows i (in_last a i))).works

    ends_down : Ends (release_of t) (cap t (worst_speed t i)) (a ++ (i ∷ [])) (release_of t i) (greatest (release_of t) (rows_of t))
    ends_down =
        ends (release_of t) (cap t (worst_speed t i)) (a ++ (i ∷ [])) i (greatest (release_of t) (rows_of t)) (in_last a i) own_cap
        (λ y j. greatest_of (release_of t) (rows_of t) y (in_rows t y (rows y j)))

    worst_is : worst_finish t (a ++ (i ∷ b)) i ≡ ends_down.at
    unfolding worst_finish
    worst_is =
        subst (λ (l : List ℕ). at (after t l (λ _. worst_speed t i) (horizon t (worst_speed t i))).closing i ≡ ends_down.at) (append_assoc a (i ∷ []) b)
        (closes_at t f a b i rows once stand (worst_speed t i) (worst_runs i) (worst_slower i) ends_down.at (horizon t (worst_speed t i)) ends_down.finish
        (omega (arith, ends_down.bound, horizon_enough (worst_speed t i) (worst_runs i) (worst_slower i) (a ++ (i ∷ [])) rows once)))

    pub worst_finish_lem : Finish work_down_to (release_of t i) (worst_finish t (a ++ (i ∷ b)) i)
    worst_finish_lem = rw worst_is ends_down.finish

    -- and stays so, however long the run lasts
    pub worst_lasts : (u : ℕ) → horizon t (worst_speed t i) ≤ u
        → at (after t (a ++ (i ∷ []) ++ b) (λ _. worst_speed t i) u).closing i ≡ worst_finish t (a ++ (i ∷ b)) i
    worst_lasts u h =
        rw worst_is
        (closes_at t f a b i rows once stand (worst_speed t i) (worst_runs i) (worst_slower i) ends_down.at u ends_down.finish
        (omega (arith, h, ends_down.bound, horizon_enough (worst_speed t i) (worst_runs i) (worst_slower i) (a ++ (i ∷ [])) rows once)))

    pub worst_bound : worst_finish t (a ++ (i ∷ b)) i ≤ greatest (release_of t) (rows_of t) + sum (cap t (worst_speed t i)) (a ++ (i ∷ []))
    worst_bound = rw worst_is ends_down.bound

    -- the sweep over the same rows sorted by release
    pub worst_sweep : (l : List ℕ) → Sorted (release_of t) 0 l → Same l (a ++ (i ∷ []))
        → worst_finish t (a ++ (i ∷ b)) i ≡ sweep (release_of t) (cap t (worst_speed t i)) (release_of t i) 0 l
    worst_sweep l sorted same =
        finish_only work_down_to (release_of t i) (worst_finish t (a ++ (i ∷ b)) i) (sweep (release_of t) (cap t (worst_speed t i)) (release_of t i) 0 l) worst_finish_lem
        (finish_set (release_of t) (cap t (worst_speed t i)) l (a ++ (i ∷ [])) same (release_of t i)
        (sweep (release_of t) (cap t (worst_speed t i)) (release_of t i) 0 l)
        (sweep_finish (release_of t) (cap t (worst_speed t i)) l sorted i (omega (arith, same i, (in_last a i))) own_cap))

  module _ (a b : List ℕ) (i : ℕ) (rows : (x : ℕ) → In x (a ++ (i ∷ [])) → Row t x) (once : Once (a ++ (i ∷ []))) (stand : Stand t a i) where
    pub time_clear : on_time t (a ++ (i ∷ b)) i ≡ true → Clear t (a ++ (i ∷ [])) i
    time_clear e =
        let w = worst_finish_lem a b i rows once stand in
        record { at = worst_finish t (a ++ (i ∷ b)) i; after = w.after; by = leb-true (worst_finish t (a ++ (i ∷ b)) i) (deadline_of t i) e; clear = w.clear }

    pub clear_time : Clear t (a ++ (i ∷ [])) i → on_time t (a ++ (i ∷ b)) i ≡ true
    clear_time c =
        le-leb (worst_finish t (a ++ (i ∷ b)) i) (deadline_of t i)
        (omega (
          arith,
          c.by,
          finish_first (work_down_to a b i rows once stand) (release_of t i) (worst_finish t (a ++ (i ∷ b)) i) c.at
              (worst_finish_lem a b i rows once stand) c.after c.clear,
        ))

  -- a row moved: what it met above a list, it meets above another, with no more rows above it
  pub time_moved : (a b a' b' : List ℕ) (i : ℕ) → Within (a ++ (i ∷ [])) (rows_of t) → Within (a' ++ (i ∷ [])) (a ++ (i ∷ [])) → Stand t a i → Stand t a' i
      → on_time t (a ++ (i ∷ b)) i ≡ true → on_time t (a' ++ (i ∷ b')) i ≡ true
  time_moved a b a' b' i w s c c' m =
      let w' : Within (a' ++ (i ∷ [])) (rows_of t) = λ x. omega (arith, w x, s x) in
      clear_time a' b' i (rows_of_lem t (a' ++ (i ∷ [])) w') (once_of t (a' ++ (i ∷ [])) w') c'
      (clear_within t (a' ++ (i ∷ [])) (a ++ (i ∷ [])) i s (time_clear a b i (rows_of_lem t (a ++ (i ∷ [])) w) (once_of t (a ++ (i ∷ [])) w) c m))

  -- the worst finish depends on which rows stand above, and not on their order or on the rows below
  pub finish_set_only : (a b c d : List ℕ) (i : ℕ) → Within (a ++ (i ∷ [])) (rows_of t) → Within (c ++ (i ∷ [])) (rows_of t)
      → Stand t a i → Stand t c i → Same (a ++ (i ∷ [])) (c ++ (i ∷ [])) → worst_finish t (a ++ (i ∷ b)) i ≡ worst_finish t (c ++ (i ∷ d)) i
  finish_set_only a b c d i w v x y both =
      let p = worst_finish_lem a b i (rows_of_lem t (a ++ (i ∷ [])) w) (once_of t (a ++ (i ∷ [])) w) x in
      let q = worst_finish_lem c d i (rows_of_lem t (c ++ (i ∷ [])) v) (once_of t (c ++ (i ∷ [])) v) y in
      finish_only _ (release_of t i) (worst_finish t (a ++ (i ∷ b)) i) (worst_finish t (c ++ (i ∷ d)) i)
      (finish_set (release_of t) (cap t (worst_speed t i)) (a ++ (i ∷ [])) (c ++ (i ∷ [])) both (release_of t i) (worst_finish t (a ++ (i ∷ b)) i) p) q
