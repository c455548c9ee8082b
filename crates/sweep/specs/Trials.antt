-- One pass of the sweep over the rows left, as a loop takes it.
use Rattle.std.specs.Prelude.{ℕ, ◌+◌, ◌-◌, ◌≤◌, ◌<◌, max, true, false, ◌&&◌, ◌≡◌, List, ltb, leb, length, get_or, set}
use Rattle.std.proofs.Common.{sym, ap, arith, length-set, get_or-set_same, get_or-set_other}
use Rattle.std.proofs.Math.ListN.{get_or-eq_default}
use Rattle.rules.specs.Lists.{keep}
use Rattle.rules.specs.Rows.{at, put}
use Rattle.theory.specs.Sweep.{sweep}
use Rattle.theory.specs.Tests.{by_eqb, by-ltb}
use Rattle.sweep.specs.Masks.{is_left}
use Rattle.sweep.specs.Padded.{Rows, rest, rest_step}

-- the first n entries of an order are row numbers, no release is over 1,000,000 slots and no cap over 1,000,016
pub record Columns (order : List ℕ) (n : ℕ) (release cap : List ℕ) : Type 0 where
  pub few : n ≤ 64
  pub rows : Rows order n
  pub early : (j : ℕ) → get_or release j 0 ≤ 1000000
  pub light : (j : ℕ) → get_or cap j 0 ≤ 1000016

-- with another cap for one row, within the same limit
pub columns_put : (order : List ℕ) (n : ℕ) (release cap : List ℕ) (i v : ℕ) → Columns order n release cap → v ≤ 1000016 → Columns order n release (put cap i v)
columns_put order n release cap i v c h =
    record {
      few = c.few;
      rows = c.rows;
      early = c.early;
      light = λ j. by_eqb (i - 1) j
          (λ _ e. by-ltb j (length cap)
          (λ _ q. omega (arith, ap (λ (k : ℕ). get_or (set cap k v) j 0) e, get_or-set_same cap j v 0 q))
          (λ _ q. omega (arith, get_or-eq_default (put cap i v) 0 {n = j} (omega (arith, length-set cap (i - 1) v)))))
          (λ _ e. omega (arith, get_or-set_other cap (i - 1) j v 0 (λ z. e (sym z)), c.light j));
    }

-- the sweep over the rows left of a list, from busy time b on
abbrev pub trial : List ℕ → List ℕ → ℕ → ℕ → ℕ → List ℕ → ℕ
trial release cap left from b l = sweep (λ j. at release j) (λ j. at cap j) from b (keep (is_left left) l)

-- one turn at entry k
module _ (order release cap : List ℕ) (left from b n k : ℕ) (l : n ≤ length order) (h : k < n) where
  abbrev pub row : ℕ
  row = get_or order k 0

  -- a row that is not left is passed
  pub pass : (b' : ℕ) → is_left left row ≡ false → b' ≡ b → trial release cap left from b
      (rest order n k) ≡ trial release cap left from b' (rest order n (k + 1))
  pass b' e q = rw (rest_step order n k l h, e, q)

  module _ (r : ℕ) (is : r ≡ at release row) (e : is_left left row ≡ true) where
    -- a row that finds the processor free ends the sweep
    pub stop : ltb from r && leb b r ≡ true → trial release cap left from b (rest order n k) ≡ b
    stop f = rw (rest_step order n k l h, e, ← is, f)

    -- any other row that is left is run
    pub go : (b' : ℕ) → ltb from r && leb b r ≡ false → b' ≡ max b r + at cap row
        → trial release cap left from b (rest order n k) ≡ trial release cap left from b' (rest order n (k + 1))
    go b' f q = rw (rest_step order n k l h, e, ← is, f, q)
