-- The places of an order that passes check 6: the first n hold rows from 1 to n, and zeros stand after them (rules 5.6, 5.7).
use Rattle.std.specs.Prelude.{ℕ, ◌≤◌, ◌<◌, true, List, ◌≡◌, get_or, take, drop}
use Rattle.std.proofs.Common.{arith, get_or-take}
use Rattle.std.proofs.Math.Dec.{eqb}
use Rattle.rules.specs.Lists.{all, all_zero, count}
use Rattle.rules.specs.Orders.{is_arrangement, keeps_wait, is_order}
use Rattle.rules.specs.Rows.{rows_of}
use Rattle.rules.specs.declared.Table.{Table}
use Rattle.theory.specs.Tests.{and_left, and_right}
use Rattle.theory.specs.Counts.{same_size, in_entry}
use Rattle.theory.specs.Facts.{Row, rows_in_lem}
use Rattle.theory.specs.Places.{order_rows, length_rows}

pub record Placed (n : ℕ) (order : List ℕ) : Type 0 where
  pub most : n ≤ 64
  pub low : (k : ℕ) → k < n → 1 ≤ get_or order k 0
  pub high : (k : ℕ) → k < n → get_or order k 0 ≤ n
  pub after : all_zero (drop n order) ≡ true

module _ (t : Table) (o : List ℕ) (few : t.n ≤ 64) (e : is_order t o ≡ true) where
  in_place : (k : ℕ) → k < t.n → Row t (get_or o k 0)
  in_place k h =
      let same = order_rows t o e in
      let n = same_size (rows_of t) (take t.n o) same in
      let i = in_entry (take t.n o) k (omega (arith, length_rows t.n)) in
      rw (get_or-take t.n o k 0 h) at (rows_in_lem t (get_or (take t.n o) k 0) (omega (arith, same (get_or (take t.n o) k 0))))

  tail : all_zero (drop t.n o) ≡ true
  unfolding is_arrangement is_order
  tail =
      and_right (all (λ i. eqb (count i o) 1) (rows_of t)) (all_zero (drop t.n o))
      (and_left (is_arrangement t o) (all (keeps_wait t o) (rows_of t)) e)

  pub placed : Placed t.n o
  placed = record { most = few; low = λ k h. (in_place k h).from; high = λ k h. (in_place k h).up_to; after = tail }
