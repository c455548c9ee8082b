-- Stuck sets, ways of choosing, slacks and cuts (rule 13.20): one table of cases, computed from the definitions and checked by one theorem. Each of the faults 14.64
-- to 14.66 meets one here; what the largest stuck set is (14.63) is a statement, and its own proof refuses it.
use Rattle.std.specs.Prelude.{ℕ, ◌-◌, ◌^◌, Bool, true, false, ◌&&◌, not, List, [], ◌∷◌, map, T, ℤ, pos, negsuc}
use Rattle.std.specs.Int.Signed.{lt_z}
use Rattle.rules.specs.declared.Row.{Row}
use Rattle.rules.specs.declared.Table.{Table}
use Rattle.rules.specs.Cases.{six_figures, job, promising, following}
use Rattle.rules.specs.Choice.{sequence, unfollowed, passes, taker, fill, choice, word, padded}
use Rattle.rules.specs.Judge.{table_of}
use Rattle.rules.specs.Lists.{all, keep, same}
use Rattle.rules.specs.Need.{work_slots}
use Rattle.rules.specs.Rows.{rows_of}
use Rattle.rules.specs.Slots.{fresh, is_pending, is_waiting, is_ready, chosen, is_over, brought, serve, slot}
use Rattle.rules.specs.Worst.{horizon, worst_finish, promised_moment, slack, meets}
use Rattle.sweep.specs.Masks.{bit}
use Rattle.choices.specs.Choices.{rows_in, alone, words_to}
use Rattle.stuck.specs.Stuck.{may_be_lowest, none_may, is_stuck, may_take, is_way, leaves, left_rows, left_in, remaining, left_after, slack_in}

-- cuts, the rows that remain after them, and the rows left then, both by their numbers in the first table
pub record CutCase : Type 0 where
  pub cuts : List ℕ
  pub stay : List ℕ
  pub left : List ℕ

-- a table; the rows left; the words of all its stuck sets; the slack of each row left in the set of the rows left, in slots; ways of choosing, and lists of rows that
-- are none; and cuts
pub record Case : Type 0 where
  pub table : Table
  pub left : List ℕ
  pub stuck : List ℕ
  pub slacks : List ℤ
  pub ways : List (List ℕ)
  pub no_ways : List (List ℕ)
  pub cuts : List CutCase

abbrev stuck_words : Table → List ℕ
stuck_words t = keep (λ m. is_stuck t (rows_in t m)) (words_to (2 ^ t.n))

abbrev same_slacks : List ℤ → List ℤ → Bool
same_slacks [] [] = true
same_slacks (x ∷ xs) (y ∷ ys) = not (lt_z x y) && not (lt_z y x) && same_slacks xs ys
same_slacks [] (y ∷ ys) = false
same_slacks (x ∷ xs) [] = false

abbrev holds : Case → Bool
holds c =
    let t = c.table in
    same (left_rows t) c.left
    && same (stuck_words t) c.stuck
    && same_slacks (map (slack_in t c.left) c.left) c.slacks
    && all (λ w. is_way t (rows_of t) w && same (leaves (rows_of t) w) c.left) c.ways
    && all (λ w. not (is_way t (rows_of t) w)) c.no_ways
    && all (λ k. same (remaining t k.cuts) k.stay && same (left_after t k.cuts) k.left && same (left_in t k.stay) k.left) c.cuts

-- rows that load in no slot; N and G are 1
abbrev plain : List Row → Table
plain rows = table_of rows 1 1 0

-- LO rows of one work unit, released at 0, with these deadlines, in slots
abbrev due : List ℕ → Table
due deadlines = plain (map (λ d. job 0 1 d 0) deadlines)

-- row 2 has time for itself alone, and follows a row or not; the others could wait
abbrev urgent : ℕ → Table
urgent w = plain (job 0 1 9 0 ∷ following 0 1 1 0 w ∷ job 0 1 9 0 ∷ [])

-- row 2 is late by itself and follows row 1, which is in time below it
abbrev late_follower : Table
late_follower = plain (job 0 1 3 0 ∷ following 0 2 1 0 1 ∷ job 0 1 4 0 ∷ [])

-- rows 1 and 2 want one slot, and row 3 follows row 1
abbrev followed_left : Table
followed_left = plain (job 0 1 1 0 ∷ job 0 1 1 0 ∷ following 0 1 3 0 1 ∷ [])

-- HI row 1, LO row 2 that follows it and is late with its promised part, all with one slot of loading
abbrev late_part : Table
late_part = table_of (job 0 2 5 1 ∷ six_figures 0 2 4 0 1 1 ∷ job 1 2 6 0 ∷ []) 2 1 1

-- row 2 is late below row 1, which it follows, and row 3 is late with its promised part below both
abbrev five : Table
five = table_of (job 0 2 9 1 ∷ following 0 2 4 1 1 ∷ promising 1 2 8 0 2 ∷ job 2 1 10 0 ∷ following 2 1 12 0 2 ∷ []) 2 1 1

abbrev p1 : Table
p1 = table_of (job 0 20 10 1 ∷ job 5 15 10 0 ∷ job 5 11 19 1 ∷ job 0 5 5 0 ∷ []) 5 2 0

abbrev p3 : Table
p3 = table_of (job 0 2 2 0 ∷ job 0 4 4 1 ∷ []) 2 1 0

-- a slack of so many slots below zero, at least 1
abbrev short : ℕ → ℤ
short n = negsuc (n - 1)

abbrev cases : List Case
cases =
    -- a proper part of the rows is left: row 3 has its place
    record {
      table = due (1 ∷ 1 ∷ 3 ∷ []);
      left = 1 ∷ 2 ∷ [];
      stuck = 0 ∷ 3 ∷ [];
      slacks = short 1 ∷ short 1 ∷ [];
      ways = (3 ∷ []) ∷ [];
      no_ways = [] ∷ (1 ∷ 3 ∷ []) ∷ (3 ∷ 1 ∷ []) ∷ (3 ∷ 3 ∷ []) ∷ (4 ∷ 3 ∷ []) ∷ [];
      cuts = record { cuts = 3 ∷ []; stay = 1 ∷ 2 ∷ []; left = 1 ∷ 2 ∷ [] } ∷ record { cuts = 6 ∷ []; stay = 2 ∷ 3 ∷ []; left = [] } ∷ [];
    }
    -- two ways take other rows first, and leave the same
    ∷ record {
      table = due (1 ∷ 1 ∷ 4 ∷ 4 ∷ []);
      left = 1 ∷ 2 ∷ [];
      stuck = 0 ∷ 3 ∷ [];
      slacks = short 1 ∷ short 1 ∷ [];
      ways = (3 ∷ 4 ∷ []) ∷ (4 ∷ 3 ∷ []) ∷ [];
      no_ways = (3 ∷ []) ∷ (4 ∷ []) ∷ (4 ∷ 3 ∷ 2 ∷ []) ∷ (2 ∷ 3 ∷ 4 ∷ []) ∷ [];
      cuts = record { cuts = 12 ∷ []; stay = 3 ∷ 4 ∷ []; left = [] } ∷ [];
    }
    -- a smaller stuck set inside the rows left; to cut row 1 or row 2 is enough, to cut row 3 is not, and neither is what is cut elsewhere
    ∷ record {
      table = due (1 ∷ 1 ∷ 2 ∷ 4 ∷ []);
      left = 1 ∷ 2 ∷ 3 ∷ [];
      stuck = 0 ∷ 3 ∷ 7 ∷ [];
      slacks = short 2 ∷ short 2 ∷ short 1 ∷ [];
      ways = (4 ∷ []) ∷ [];
      no_ways = [] ∷ (4 ∷ 3 ∷ []) ∷ [];
      cuts = record { cuts = 7 ∷ []; stay = 1 ∷ 2 ∷ 3 ∷ []; left = 1 ∷ 2 ∷ 3 ∷ [] }
          ∷ record { cuts = 14 ∷ []; stay = 2 ∷ 3 ∷ 4 ∷ []; left = [] }
          ∷ record { cuts = 13 ∷ []; stay = 1 ∷ 3 ∷ 4 ∷ []; left = [] }
          ∷ record { cuts = 11 ∷ []; stay = 1 ∷ 2 ∷ 4 ∷ []; left = 1 ∷ 2 ∷ [] }
          -- the same in the numbers of the table in hand, and one more cut
          ∷ record { cuts = 11 ∷ 6 ∷ []; stay = 2 ∷ 4 ∷ []; left = [] }
          ∷ record { cuts = 11 ∷ 3 ∷ []; stay = 1 ∷ 2 ∷ []; left = 1 ∷ 2 ∷ [] }
          ∷ record { cuts = 14 ∷ 6 ∷ 2 ∷ []; stay = 4 ∷ []; left = [] }
          ∷ [];
    }
    -- every two of three rows are stuck
    ∷ record {
      table = due (1 ∷ 1 ∷ 1 ∷ 4 ∷ []);
      left = 1 ∷ 2 ∷ 3 ∷ [];
      stuck = 0 ∷ 3 ∷ 5 ∷ 6 ∷ 7 ∷ [];
      slacks = short 2 ∷ short 2 ∷ short 2 ∷ [];
      ways = (4 ∷ []) ∷ [];
      no_ways = (4 ∷ 1 ∷ []) ∷ [];
      cuts = record { cuts = 14 ∷ []; stay = 2 ∷ 3 ∷ 4 ∷ []; left = 2 ∷ 3 ∷ [] }
          ∷ record { cuts = 13 ∷ []; stay = 1 ∷ 3 ∷ 4 ∷ []; left = 1 ∷ 3 ∷ [] }
          ∷ record { cuts = 11 ∷ []; stay = 1 ∷ 2 ∷ 4 ∷ []; left = 1 ∷ 2 ∷ [] }
          ∷ [];
    }
    -- two stuck sets apart: to cut all of one is not enough
    ∷ record {
      table = plain (job 0 1 1 0 ∷ job 0 1 1 0 ∷ job 2 1 3 0 ∷ job 2 1 3 0 ∷ job 0 1 5 0 ∷ []);
      left = 1 ∷ 2 ∷ 3 ∷ 4 ∷ [];
      stuck = 0 ∷ 3 ∷ 12 ∷ 15 ∷ [];
      slacks = short 1 ∷ short 1 ∷ short 1 ∷ short 1 ∷ [];
      ways = (5 ∷ []) ∷ [];
      no_ways = (5 ∷ 1 ∷ []) ∷ [];
      cuts = record { cuts = 28 ∷ []; stay = 3 ∷ 4 ∷ 5 ∷ []; left = 3 ∷ 4 ∷ [] } ∷ record { cuts = 28 ∷ 5 ∷ []; stay = 3 ∷ 5 ∷ []; left = [] } ∷ [];
    }
    -- stuck because of a wait: row 1 has slack, but row 2 follows it; without the wait nothing is stuck
    ∷ record {
      table = urgent 1;
      left = 1 ∷ 2 ∷ [];
      stuck = 0 ∷ 3 ∷ [];
      slacks = pos 7 ∷ short 1 ∷ [];
      ways = (3 ∷ []) ∷ [];
      no_ways = (3 ∷ 1 ∷ 2 ∷ []) ∷ (1 ∷ 3 ∷ 2 ∷ []) ∷ [];
      cuts = record { cuts = 5 ∷ []; stay = 1 ∷ 3 ∷ []; left = [] } ∷ record { cuts = 6 ∷ []; stay = 2 ∷ 3 ∷ []; left = [] } ∷ [];
    }
    ∷ record {
      table = urgent 0;
      left = [];
      stuck = 0 ∷ [];
      slacks = [];
      ways = (1 ∷ 3 ∷ 2 ∷ []) ∷ (3 ∷ 1 ∷ 2 ∷ []) ∷ [];
      no_ways = (2 ∷ 1 ∷ 3 ∷ []) ∷ (1 ∷ 3 ∷ []) ∷ [];
      cuts = [];
    }
    -- a stuck set that holds a follower and not the row that it follows: row 2 alone
    ∷ record {
      table = late_follower;
      left = 1 ∷ 2 ∷ [];
      stuck = 0 ∷ 2 ∷ 3 ∷ [];
      slacks = pos 0 ∷ short 2 ∷ [];
      ways = (3 ∷ []) ∷ [];
      no_ways = (3 ∷ 1 ∷ []) ∷ [];
      cuts = record { cuts = 6 ∷ []; stay = 2 ∷ 3 ∷ []; left = 2 ∷ [] } ∷ record { cuts = 5 ∷ []; stay = 1 ∷ 3 ∷ []; left = [] } ∷ [];
    }
    -- row 3, which has its place, follows a row left
    ∷ record {
      table = followed_left;
      left = 1 ∷ 2 ∷ [];
      stuck = 0 ∷ 3 ∷ [];
      slacks = short 1 ∷ short 1 ∷ [];
      ways = (3 ∷ []) ∷ [];
      no_ways = [] ∷ [];
      cuts = record { cuts = 3 ∷ []; stay = 1 ∷ 2 ∷ []; left = 1 ∷ 2 ∷ [] } ∷ record { cuts = 6 ∷ []; stay = 2 ∷ 3 ∷ []; left = [] } ∷ [];
    }
    -- levels, speeds, loading, a promised part and waits
    ∷ record {
      table = late_part;
      left = 1 ∷ 2 ∷ [];
      stuck = 0 ∷ 3 ∷ [];
      slacks = pos 0 ∷ short 1 ∷ [];
      ways = (3 ∷ []) ∷ [];
      no_ways = (3 ∷ 1 ∷ []) ∷ (3 ∷ 2 ∷ []) ∷ [];
      cuts = record { cuts = 6 ∷ []; stay = 2 ∷ 3 ∷ []; left = [] } ∷ [];
    }
    ∷ record {
      table = five;
      left = 1 ∷ 2 ∷ 3 ∷ [];
      stuck = 0 ∷ 3 ∷ 7 ∷ [];
      slacks = pos 0 ∷ short 5 ∷ short 1 ∷ [];
      ways = (5 ∷ 4 ∷ []) ∷ (4 ∷ 5 ∷ []) ∷ [];
      no_ways = (5 ∷ []) ∷ (5 ∷ 4 ∷ 1 ∷ []) ∷ (2 ∷ 5 ∷ 4 ∷ []) ∷ [];
      cuts = record { cuts = 30 ∷ []; stay = 2 ∷ 3 ∷ 4 ∷ 5 ∷ []; left = [] }
          ∷ record { cuts = 27 ∷ 11 ∷ []; stay = 1 ∷ 2 ∷ 5 ∷ []; left = 1 ∷ 2 ∷ [] }
          ∷ [];
    }
    -- the rows left do not begin with row 1
    ∷ record {
      table = due (4 ∷ 1 ∷ 1 ∷ []);
      left = 2 ∷ 3 ∷ [];
      stuck = 0 ∷ 6 ∷ [];
      slacks = short 1 ∷ short 1 ∷ [];
      ways = (1 ∷ []) ∷ [];
      no_ways = (1 ∷ 3 ∷ 2 ∷ []) ∷ [];
      cuts = record { cuts = 6 ∷ 3 ∷ []; stay = 2 ∷ 3 ∷ []; left = 2 ∷ 3 ∷ [] } ∷ [];
    }
    -- a row is taken after the row that follows it; and none where no row is left
    ∷ record {
      table = plain (job 0 1 9 0 ∷ following 0 1 9 0 1 ∷ []);
      left = [];
      stuck = 0 ∷ [];
      slacks = [];
      ways = (2 ∷ 1 ∷ []) ∷ [];
      no_ways = (1 ∷ 2 ∷ []) ∷ (2 ∷ 1 ∷ 1 ∷ []) ∷ [];
      cuts = [];
    }
    -- all rows, and none
    ∷ record { table = p3; left = 1 ∷ 2 ∷ []; stuck = 0 ∷ 3 ∷ []; slacks = short 1 ∷ short 1 ∷ []; ways = [] ∷ []; no_ways = (1 ∷ []) ∷ (2 ∷ []) ∷ []; cuts = [] }
    ∷ record { table = p1; left = []; stuck = 0 ∷ []; slacks = []; ways = (4 ∷ 3 ∷ 2 ∷ 1 ∷ []) ∷ []; no_ways = (3 ∷ 4 ∷ 2 ∷ 1 ∷ []) ∷ (4 ∷ 3 ∷ 2 ∷ []) ∷ []; cuts = [] }
    ∷ []

pub stuck_hold : T (all holds cases)
unfolding left_rows left_in left_after is_stuck none_may may_be_lowest may_take slack_in alone choice sequence fill taker passes unfollowed word padded bit table_of work_slots fresh is_pending is_waiting is_ready chosen is_over brought serve slot horizon worst_finish promised_moment slack meets
stuck_hold = tt
