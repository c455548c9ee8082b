-- What a trial finds in an accepted table, with the columns that `sorted`, `needs` and `degraded_caps` make of it.
use Rattle.std.specs.Prelude.{ℕ, zero, suc, ◌+◌, ◌-◌, ◌≤◌, Bool, true, ◌&&◌, ◌≡◌, refl, List, [], ◌∷◌, ◌++◌, map, eqb, length, get_or, take, drop}
use Rattle.std.proofs.Common.{sym, ap, ap₂, subst, ◌∙◌, arith, get_or-drop, eqb-true}
use Rattle.rules.specs.declared.Table.{Table}
use Rattle.rules.specs.Lists.{all_zero, keep}
use Rattle.rules.specs.Rows.{at, put, rows_of, release_of, promise_need, is_promised}
use Rattle.rules.specs.Worst.{promised_moment}
use Rattle.rules.specs.Tables.{tail_ok, Accepted}
use Rattle.rules.specs.Choice.{padded}
use Rattle.theory.specs.Tests.{by_bool, by-ltb, and_left, and_right}
use Rattle.theory.specs.Counts.{In, Within, Same, in_last}
use Rattle.theory.specs.Cells.{at_put_same, at_put_other}
use Rattle.theory.proofs.Results.{moment_sweep}
use Rattle.theory.specs.Waits.{Stand}
use Rattle.theory.specs.Sorting.{Sorted, sort_by, sorted_sort, same_sort}
use Rattle.theory.specs.Sweep.{sweep}
use Rattle.theory.proofs.Sweep.{sweep_same}
use Rattle.theory.specs.Caps.{cap, cap_most}
use Rattle.theory.specs.Facts.{Row, TableFacts, facts, accepted_tail, count_zero, rows_in_lem}
use Rattle.theory.specs.Places.{rows_once}
use Rattle.sweep.specs.Masks.{is_left}
use Rattle.sweep.specs.Holds.{Holds, keep_left, count_keep_le}
use Rattle.sweep.specs.Padded.{Rows, padded_at, padded_most, padded_length, rows_length}
use Rattle.sweep.specs.Sorts.{sorted_take, sorted_rows}
use Rattle.sweep.specs.Trials.{Columns, trial}

-- rows in rising order of a key stay so where some are left out
sorted_from : (key : ℕ → ℕ) (n m : ℕ) (l : List ℕ) → m ≤ n → Sorted key n l → Sorted key m l
sorted_from key n m [] h s = tt
sorted_from key n m (x ∷ l) h s = (omega arith, s.1)

pub sorted_keep : (key : ℕ → ℕ) (p : ℕ → Bool) (n : ℕ) (l : List ℕ) → Sorted key n l → Sorted key n (keep p l)
sorted_keep key p n [] s = tt
sorted_keep key p n (x ∷ l) s =
    by_bool (p x)
    (λ e. rw e (s.0, sorted_keep key p (key x) l s.1))
    (λ e. rw e (sorted_from key (key x) n (keep p l) s.0 (sorted_keep key p (key x) l s.1)))

-- the rows of a table by rising release
abbrev pub by_release : Table → List ℕ
by_release t = sort_by (release_of t) (rows_of t)

-- those of them that are left
abbrev pub queued : Table → ℕ → List ℕ
queued t m = keep (is_left m) (by_release t)

pub queued_sorted : (t : Table) (m : ℕ) → Sorted (release_of t) 0 (queued t m)
queued_sorted t m = sorted_keep (release_of t) (is_left m) 0 (by_release t) (sorted_sort (release_of t) (rows_of t))

-- they are the rows of any list of the table's rows that the word holds
pub queued_same : (t : Table) (m : ℕ) (l : List ℕ) → Holds m l → Within l (rows_of t) → Same (queued t m) l
queued_same t m l p w =
    keep_left m l (by_release t) p (λ x. omega (arith, same_sort (release_of t) (rows_of t) x, rows_once t.n x))
    (omega (arith, same_sort (release_of t) (rows_of t) 0, count_zero t.n))
    (λ x. omega (arith, w x, same_sort (release_of t) (rows_of t) x))

-- the columns of an accepted table

pub zero_entry : (l : List ℕ) (j : ℕ) → all_zero l ≡ true → get_or l j 0 ≡ 0
zero_entry [] j e = refl
zero_entry (x ∷ l) zero e = eqb-true x 0 (and_left (eqb x 0) (all_zero l) e)
zero_entry (x ∷ l) (suc j) e = zero_entry l j (and_right (eqb x 0) (all_zero l) e)

module _ (t : Table) (accepted : Accepted t) where
  abbrev f : TableFacts t
  f = facts t accepted

  releases : all_zero (drop t.n t.release) ≡ true
  unfolding tail_ok
  releases =
      let a = all_zero (drop t.n t.release) in
      let b = all_zero (drop t.n t.work) in
      let c = all_zero (drop t.n t.deadline) in
      let d = all_zero (drop t.n t.level) in
      let e = all_zero (drop t.n t.promised) in
      let g = all_zero (drop t.n t.follows) in
      and_left a b (and_left (a && b) c (and_left (a && b && c) d (and_left (a && b && c && d) e (and_left (a && b && c && d && e) g (accepted_tail t accepted)))))

  early : (j : ℕ) → get_or t.release j 0 ≤ 1000000
  early j =
      by-ltb j t.n
      (λ _ h. let r = f.row (suc j) (record { from = omega arith; up_to = h }) in
      let e : suc j - 1 ≡ j = omega arith in
      let q : release_of t (suc j) ≤ 1000000 = omega (arith, r.before, r.soon) in
      rw e at q)
      (λ _ h. let e : t.n + (j - t.n) ≡ j = omega arith in
      let z : get_or t.release (t.n + (j - t.n)) 0 ≡ 0 = sym (get_or-drop t.n t.release (j - t.n) 0) ∙ zero_entry (drop t.n t.release) (j - t.n)
      releases in
      omega (arith, rw e at z))

  -- what `finish` requires, with the queue that `sorted` makes of the releases and the caps, in slots, at s work units per slot
  pub columns : (s : ℕ) (queue caps : List ℕ) → 1 ≤ s → queue ≡ padded (by_release t) → caps ≡ padded (map (cap t s) (rows_of t))
      → Columns queue t.n t.release caps
  columns s queue caps s1 p q =
      record {
        few = f.few;
        rows = subst (λ (l : List ℕ). Rows l t.n) (sym p) (sorted_rows (release_of t) t.n f.few);
        early = early;
        light = subst (λ (l : List ℕ). (j : ℕ) → get_or l j 0 ≤ 1000016) (sym q)
            (padded_most (cap t s) t.n 1000016 f.few
            (λ i h k. omega (arith, cap_most t s i f.runs s1, f.loads, (f.row i (record { from = h; up_to = k })).light)));
      }

  -- what `finish` returns with those columns, where m is the word of the rows left
  pub finds : (m s from : ℕ) (queue caps : List ℕ) → queue ≡ padded (by_release t) → caps ≡ padded (map (cap t s) (rows_of t))
      → trial t.release caps m from 0 (take t.n queue) ≡ sweep (release_of t) (cap t s) from 0 (queued t m)
  finds m s from queue caps p q =
      ap₂ (λ (l c : List ℕ). trial t.release c m from 0 (take t.n l)) p q
      ∙ ap (trial t.release (padded (map (cap t s) (rows_of t))) m from 0) (sorted_take (release_of t) t.n f.few)
      ∙ sweep_same (release_of t) (λ j. at (padded (map (cap t s) (rows_of t))) j) (cap t s) from 0 (queued t m) (λ x i. is x (known x i))
    where
      known : (x : ℕ) → In x (queued t m) → In x (rows_of t)
      known x i = omega (arith, count_keep_le (is_left m) x (by_release t), same_sort (release_of t) (rows_of t) x)

      is : (x : ℕ) → In x (rows_of t) → at (padded (map (cap t s) (rows_of t))) x ≡ cap t s x
      is x i = let r = rows_in_lem t x i in padded_at (cap t s) t.n x r.from r.up_to f.few

  -- What `part_finish` returns with those columns at G and the need of row i's promised part there, where m is the word of the rows down to i: the
  -- promised moment of row i with the rows of a above it.
  pub finds_part : (a b : List ℕ) (m i own : ℕ) (queue caps : List ℕ) → Within (a ++ (i ∷ [])) (rows_of t) → Stand t a i → Holds m (a ++ (i ∷ []))
      → is_promised t i ≡ true → queue ≡ padded (by_release t) → caps ≡ padded (map (cap t t.degraded) (rows_of t)) → own ≡ promise_need t i
      → trial t.release (put caps i own) m (release_of t i) 0 (take t.n queue) ≡ promised_moment t (a ++ (i ∷ b)) i
  finds_part a b m i own queue caps w k h x p q z =
      ap (λ (l : List ℕ). trial t.release (put caps i own) m (release_of t i) 0 (take t.n l)) p
      ∙ ap (trial t.release (put caps i own) m (release_of t i) 0) (sorted_take (release_of t) t.n f.few)
      ∙ sym (moment_sweep t accepted a b i w k x (queued t m) (queued_sorted t m) same (λ j. at (put caps i own) j) (at_put_same caps i own wide r.from (omega (arith, r.up_to, f.few)) ∙ z)
      (λ y l n. let v = rows_in_lem t y (omega (arith, same y, w y)) in
      at_put_other caps i y own r.from v.from n ∙ ap (λ (l : List ℕ). at l y) q ∙ padded_at (cap t t.degraded) t.n y v.from v.up_to f.few))
    where
      r : Row t i
      r = rows_in_lem t i (omega (arith, w i, in_last a i))

      same : Same (queued t m) (a ++ (i ∷ []))
      same = queued_same t m (a ++ (i ∷ [])) h w

      wide : length caps ≡ 64
      wide = ap length q ∙ padded_length (map (cap t t.degraded) (rows_of t)) (omega (arith, rows_length (cap t t.degraded) t.n, f.few))
