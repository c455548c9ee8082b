-- A row's limits over its figures, as code reads them from the columns.
use Rattle.std.specs.Prelude.{ℕ, ◌+◌, ◌-◌, ◌≤◌, ◌<◌, Bool, true, cond, not, ◌&&◌, ◌||◌, List, ◌≡◌, refl, eqb, ltb, leb, get_or, drop}
use Rattle.std.proofs.Common.{arith, lt-ltb, le-ltb, le-leb, eq-eqb, ne_eqb}
use Rattle.std.proofs.lemmas.Bool.{lt-leb}
use Rattle.rules.specs.declared.Table.{Table}
use Rattle.rules.specs.declared.Refusal.TheVariants.{NotLower, ReleasedLater, FollowsLow}
use Rattle.rules.specs.Checks.{Check, Passed, Refused}
use Rattle.rules.specs.Rows.{at}
use Rattle.rules.specs.Lists.{all, all_zero}
use Rattle.rules.specs.Tables.{row_ok, promise_ok, tail_ok, check_wait}
use Rattle.theory.specs.Agree.{all_agree}

-- a row's limits over its figures: release a and deadline d in slots, work c in work units, level
abbrev pub limits_ok : ℕ → ℕ → ℕ → ℕ → Bool
limits_ok a c d level = leb 1 c && leb c 1000000 && leb d 1000000 && ltb a d && leb level 1

-- what a row may promise, over its figures: work and promised part in work units, level
abbrev pub part_ok : ℕ → ℕ → ℕ → Bool
part_ok c level r = leb r c && (eqb level 0 || eqb r 0)

-- the wait of the row at index k, over the columns that it looks at
abbrev pub wait_at : List ℕ → List ℕ → List ℕ → ℕ → Check
wait_at follows release level k =
    let w = get_or follows k 0 in
    cond (ltb 0 w)
    (cond (ltb w (k + 1))
    (cond (leb (at release w) (get_or release k 0))
    (cond (not (eqb (get_or level k 0) 0) && eqb (at level w) 0) (Refused FollowsLow) Passed)
    (Refused ReleasedLater))
    (Refused NotLower))
    Passed

-- of row i of columns
abbrev pub limits_in : List ℕ → List ℕ → List ℕ → List ℕ → ℕ → Bool
limits_in release work deadline level i = limits_ok (at release i) (at work i) (at deadline i) (at level i)

abbrev pub part_in : List ℕ → List ℕ → List ℕ → ℕ → Bool
part_in work level promised i = part_ok (at work i) (at level i) (at promised i)

-- no figure stands after the first n entries of any column
abbrev pub tail_in : List ℕ → List ℕ → List ℕ → List ℕ → List ℕ → List ℕ → ℕ → Bool
tail_in release work deadline level promised follows n =
    all_zero (drop n release) && all_zero (drop n work) && all_zero (drop n deadline) && all_zero (drop n level) && all_zero (drop n promised) && all_zero (drop n follows)

-- of a table's columns they are what the rules ask of its rows

pub limits_rows : (t : Table) (l : List ℕ) → all (limits_in t.release t.work t.deadline t.level) l ≡ all (row_ok t) l
unfolding row_ok
limits_rows t l = all_agree (limits_in t.release t.work t.deadline t.level) (row_ok t) (λ i. refl) l

pub parts_rows : (t : Table) (l : List ℕ) → all (part_in t.work t.level t.promised) l ≡ all (promise_ok t) l
unfolding promise_ok
parts_rows t l = all_agree (part_in t.work t.level t.promised) (promise_ok t) (λ i. refl) l

pub tail_columns : (t : Table) → tail_in t.release t.work t.deadline t.level t.promised t.follows t.n ≡ tail_ok t
unfolding tail_ok
tail_columns t = refl

-- row k + 1 is at index k

pub row_limits : (release work deadline level : List ℕ) (k : ℕ)
    → limits_in release work deadline level (k + 1) ≡ limits_ok (get_or release k 0) (get_or work k 0) (get_or deadline k 0) (get_or level k 0)
row_limits release work deadline level k = let e : k + 1 - 1 ≡ k = omega arith in rw e

pub row_part : (work level promised : List ℕ) (k : ℕ) → part_in work level promised (k + 1) ≡ part_ok (get_or work k 0) (get_or level k 0) (get_or promised k 0)
row_part work level promised k = let e : k + 1 - 1 ≡ k = omega arith in rw e

pub row_wait : (t : Table) (k : ℕ) → check_wait t (k + 1) ≡ wait_at t.follows t.release t.level k
unfolding check_wait
row_wait t k = let e : k + 1 - 1 ≡ k = omega arith in rw e

-- what each test of the code says of it
module _ (follows release level : List ℕ) (k : ℕ) where
  abbrev w : ℕ
  w = get_or follows k 0

  pub wait_none : w ≡ 0 → wait_at follows release level k ≡ Passed
  wait_none e = rw e

  module _ (some : w ≡ 0 → ⊥) where
    follower : ltb 0 w ≡ true
    follower = lt-ltb 0 w (omega arith)

    pub wait_not_lower : k < w → wait_at follows release level k ≡ Refused NotLower
    wait_not_lower h = rw (follower, le-ltb w (k + 1) (omega arith))

    module _ (lower : w ≤ k) where
      is_lower : ltb w (k + 1) ≡ true
      is_lower = lt-ltb w (k + 1) (omega arith)

      pub wait_later : get_or release k 0 < at release w → wait_at follows release level k ≡ Refused ReleasedLater
      wait_later h = rw (follower, is_lower, lt-leb (at release w) (get_or release k 0) h)

      module _ (earlier : at release w ≤ get_or release k 0) where
        is_earlier : leb (at release w) (get_or release k 0) ≡ true
        is_earlier = le-leb (at release w) (get_or release k 0) earlier

        pub wait_low : get_or level k 0 ≡ 0 → wait_at follows release level k ≡ Passed
        wait_low e = rw (follower, is_lower, is_earlier, e)

        pub wait_follows_low : (get_or level k 0 ≡ 0 → ⊥) → at level w ≡ 0 → wait_at follows release level k ≡ Refused FollowsLow
        wait_follows_low n e = rw (follower, is_lower, is_earlier, ne_eqb (get_or level k 0) 0 n, eq-eqb (at level w) 0 e)

        pub wait_follows_high : (get_or level k 0 ≡ 0 → ⊥) → (at level w ≡ 0 → ⊥) → wait_at follows release level k ≡ Passed
        wait_follows_high n e = rw (follower, is_lower, is_earlier, ne_eqb (get_or level k 0) 0 n, ne_eqb (at level w) 0 e)
