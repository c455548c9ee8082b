-- The tests of the code and those of the definition: a row is closed just if its closing slot is at least 1.
use Rattle.std.specs.Prelude.{ℕ, zero, suc, ◌+◌, ◌-◌, ◌≤◌, ◌<◌, Bool, true, false, not, List, [], ◌∷◌, ◌≡◌, refl, eqb, leb, length, get_or, take}
use Rattle.std.proofs.Common.{ap, arith, le-leb}
use Rattle.std.proofs.Math.Seq.{take-suc}
use Rattle.std.proofs.lemmas.Bool.{lt-leb}
use Rattle.rules.specs.declared.Table.{Table}
use Rattle.rules.specs.Lists.{all, rows_to}
use Rattle.checks.specs.RowLists.{all_append}
use Rattle.proposal.specs.Proposals.{all_closed, released_from}
use Rattle.rules.specs.Rows.{at, rows_of}
use Rattle.rules.specs.Slots.{State}
use Rattle.theory.specs.Agree.{all_agree}
use Rattle.theory.specs.Tests.{by_eqb}

-- row i's entry of a column is at least so much
abbrev pub reaches : List ℕ → ℕ → ℕ → Bool
reaches column least i = leb least (at column i)

not_zero : (x : ℕ) → leb 1 x ≡ not (eqb x 0)
not_zero x = by_eqb x 0 (λ e z. rw (e, lt-leb 1 x (omega arith))) (λ e z. rw (e, le-leb 1 x (omega arith)))

pub closed_least : (t : Table) (s : State) → all (reaches s.closing 1) (rows_of t) ≡ all_closed t s
unfolding all_closed
closed_least t s = all_agree (reaches s.closing 1) (λ i. not (eqb (at s.closing i) 0)) (λ i. not_zero (at s.closing i)) (rows_of t)

pub released_least : (t : Table) (u : ℕ) → all (reaches t.release u) (rows_of t) ≡ released_from t u
unfolding released_from
released_least t u = refl

-- a test of the first n entries of a column is one of the rows from 1 to n
pub first_rows : (p : ℕ → Bool) (column : List ℕ) (n : ℕ) → n ≤ length column → all (λ i. p (at column i)) (rows_to n) ≡ all p (take n column)
first_rows p column zero h = refl
first_rows p column (suc k) h =
    let e : suc k - 1 ≡ k = omega arith in
    let here : p (at column (suc k)) ≡ p (get_or column k 0) = rw e in
    rw (
      all_append (λ i. p (at column i)) (rows_to k) (suc k ∷ []),
      take-suc column k 0 h,
      all_append p (take k column) (get_or column k 0 ∷ []),
      first_rows p column k (omega arith),
      here,
    )

-- row k + 1 of a column is its entry at index k
module _ (column : List ℕ) (least k : ℕ) where
  at_index : at column (k + 1) ≡ get_or column k 0
  at_index = let e : k + 1 - 1 ≡ k = omega arith in ap (λ (j : ℕ). get_or column j 0) e

  pub entry_below : get_or column k 0 < least → reaches column least (k + 1) ≡ false
  entry_below h = rw at_index (lt-leb least (get_or column k 0) h)

  pub entry_reaches : least ≤ get_or column k 0 → reaches column least (k + 1) ≡ true
  entry_reaches h = rw at_index (le-leb least (get_or column k 0) h)
