-- Which tables are accepted: checks 3, 4, 11, 5, 12 and 13 to 15, in this order (rules 5.1 to 5.5, 5.8 to 5.10).
use Rattle.std.specs.Prelude.{ℕ, Bool, cond, ◌&&◌, ◌||◌, List, [], ◌∷◌, ◌≡◌, eqb, ltb, leb, length, drop, replicate, Ok, Err, is_ok}
use Rattle.rules.specs.declared.Table.{Table}
use Rattle.rules.specs.declared.Refusal.TheVariants.{RowCount, Speeds, Loading, RowLimits, Promised, NotLower, ReleasedLater, FollowsLow}
use Rattle.rules.specs.Checks.{Check, Passed, Refused}
use Rattle.rules.specs.Lists.{all, all_zero}
use Rattle.rules.specs.Rows.{at, rows_of, release_of, work_of, deadline_of, promised_of, follows_of, is_follower, is_low, is_high}

-- n is from 1 to 64 rows (rule 5.1)
abbrev pub count_ok : ℕ → Bool
count_ok n = leb 1 n && leb n 64

-- N is from 1 to 1,000 and G from 1 to N, in work units per slot (rule 5.2)
abbrev pub speeds_ok : ℕ → ℕ → Bool
speeds_ok normal degraded = leb 1 normal && leb normal 1000 && leb 1 degraded && leb degraded normal

-- K is at most 16 slots (rule 5.8)
abbrev pub loading_ok : ℕ → Bool
loading_ok loading = leb loading 16

-- row i is within its limits: work in work units, release and deadline in slots, level (rule 5.3)
unfoldable pub row_ok : Table → ℕ → Bool
row_ok t i =
    leb 1 (work_of t i)
    && leb (work_of t i) 1000000
    && leb (deadline_of t i) 1000000
    && ltb (release_of t i) (deadline_of t i)
    && leb (at t.level i) 1

-- row i promises what it may: no more than its work, in work units, and nothing if it is HI (rule 5.9)
unfoldable pub promise_ok : Table → ℕ → Bool
promise_ok t i = leb (promised_of t i) (work_of t i) && (is_low t i || eqb (promised_of t i) 0)

-- the second check where the first passed: the first refusal counts (rule 11.1)
abbrev pub and_then : Check → Check → Check
and_then (Ok tt) d = d
and_then (Err r) d = Refused r

-- Row i's wait, if it follows a row: 13 unless that is a row of a lower number, 14 if it is released later than row i, 15 if it is LO and row i is
-- HI; the first of them counts (rule 5.10).
unfoldable pub check_wait : Table → ℕ → Check
check_wait t i =
    cond (is_follower t i)
    (cond (ltb (follows_of t i) i)
    (cond (leb (release_of t (follows_of t i)) (release_of t i))
    (cond (is_high t i && is_low t (follows_of t i)) (Refused FollowsLow) Passed)
    (Refused ReleasedLater))
    (Refused NotLower))
    Passed

-- the waits of these rows, one row after the other: the first row that is refused counts (rule 5.10)
abbrev pub check_waits : Table → List ℕ → Check
check_waits t [] = Passed
check_waits t (i ∷ is) = and_then (check_wait t i) (check_waits t is)

-- no figure stands after row n (rule 5.4)
unfoldable pub tail_ok : Table → Bool
tail_ok t =
    all_zero (drop t.n t.release)
    && all_zero (drop t.n t.work)
    && all_zero (drop t.n t.deadline)
    && all_zero (drop t.n t.level)
    && all_zero (drop t.n t.promised)
    && all_zero (drop t.n t.follows)

-- each column has an entry for each of 64 rows, as every table of the code has (rule 5.4)
pub record FullTable (t : Table) : Type 0 where
  pub release : length t.release ≡ 64
  pub work : length t.work ≡ 64
  pub deadline : length t.deadline ≡ 64
  pub level : length t.level ≡ 64
  pub promised : length t.promised ≡ 64
  pub follows : length t.follows ≡ 64

-- checks 3, 4, 11, 5, then 12 once every row has passed 5, and 13 to 15 once every row has passed 12 (rule 11.3)
unfoldable pub check_table : Table → Check
check_table t =
    cond (count_ok t.n)
    (cond (speeds_ok t.normal t.degraded)
    (cond (loading_ok t.loading)
    (cond (all (row_ok t) (rows_of t) && tail_ok t)
    (cond (all (promise_ok t) (rows_of t)) (check_waits t (rows_of t)) (Refused Promised))
    (Refused RowLimits))
    (Refused Loading))
    (Refused Speeds))
    (Refused RowCount)

-- the table passes all of them (rule 5.5)
abbrev pub Accepted : Table → Type 0
Accepted t = check_table t ≡ Passed

-- the check did not refuse (rule 11.1)
abbrev pub passed : Check → Bool
passed check = is_ok check

-- the table of zeros (rule 6.8)
abbrev pub zero_table : Table
zero_table =
    record {
      n = 0;
      normal = 0;
      degraded = 0;
      loading = 0;
      release = replicate 64 0;
      work = replicate 64 0;
      deadline = replicate 64 0;
      level = replicate 64 0;
      promised = replicate 64 0;
      follows = replicate 64 0;
    }
