-- Least workable speeds: how slow a processor may be (section 18 of the rules). A search is for one of the table's two speeds and keeps the other.
use Rattle.std.specs.Prelude.{ℕ, zero, suc, ◌+◌, ◌-◌, ◌≤◌, ◌<◌, Bool, cond, List, [], ◌∷◌, eqb, replicate, Ok, Err}
use Rattle.rules.specs.declared.Table.{Table}
use Rattle.rules.specs.declared.Refusal.{Refusal}
use Rattle.rules.specs.declared.Sought.{Sought}
use Rattle.rules.specs.declared.Sought.TheVariants.{Degraded, Normal}
use Rattle.rules.specs.Searches.{Least, NoSpeed, Refused}
use Rattle.rules.specs.declared.Searching.{Searching}
use Rattle.rules.specs.Checks.{Check}
use Rattle.rules.specs.Choice.{plan_of}
use Rattle.rules.specs.Correct.{CorrectOrder}
use Rattle.rules.specs.Lists.{first}
use Rattle.rules.specs.Numbers.{planned_number}
use Rattle.rules.specs.Tables.{check_table}
use Rattle.texts.specs.Sheets.{read_of}

-- the table with these two speeds, in work units per slot, and everything else as it is (rule 18.1)
abbrev pub with_speeds : Table → ℕ → ℕ → Table
with_speeds t normal degraded =
    record {
      n = t.n;
      normal = normal;
      degraded = degraded;
      loading = t.loading;
      release = t.release;
      work = t.work;
      deadline = t.deadline;
      level = t.level;
      promised = t.promised;
      follows = t.follows;
    }

-- the table with s work units per slot as the speed sought, whatever it states there itself (rule 18.1)
abbrev pub at_speed : Sought → Table → ℕ → Table
at_speed Degraded t s = with_speeds t t.normal s
at_speed Normal t s = with_speeds t s t.degraded

-- the range of the speed sought, in work units per slot: G from 1 to N, or N from G to 1,000 (rule 18.2)
abbrev pub slowest : Sought → Table → ℕ
slowest Degraded t = 1
slowest Normal t = t.degraded

abbrev pub fastest : Sought → Table → ℕ
fastest Degraded t = t.normal
fastest Normal t = 1000

-- s is in the range (rule 18.2)
pub record InRange (f : Sought) (t : Table) (s : ℕ) : Type 0 where
  pub from : slowest f t ≤ s
  pub up_to : s ≤ fastest f t

-- s is the least workable speed: a correct order exists at it, over all courses of speed, and none at any smaller speed of the range (rule 18.3)
pub record LeastSpeed (f : Sought) (t : Table) (s : ℕ) : Type 0 where
  pub in_range : InRange f t s
  pub works : CorrectOrder (at_speed f t s)
  pub least : (r : ℕ) → slowest f t ≤ r → r < s → CorrectOrder (at_speed f t r) → ⊥

-- the planner makes an order at s work units per slot (rules 4.10, 18.3)
unfoldable pub makes_order : Sought → Table → ℕ → Bool
makes_order f t s = eqb (planned_number (plan_of (at_speed f t s)).answer) 0

-- k speeds one after the other, from s on, in work units per slot
abbrev pub speeds_from : ℕ → ℕ → List ℕ
speeds_from zero s = []
speeds_from (suc k) s = s ∷ speeds_from k (s + 1)

-- all speeds of the range, the slowest first (rule 18.2)
abbrev pub speeds_of : Sought → Table → List ℕ
speeds_of f t = speeds_from (fastest f t + 1 - slowest f t) (slowest f t)

-- the first of them at which the planner makes an order, in work units per slot; 0 where it makes none at any of them (rule 18.3)
unfoldable pub least_speed : Sought → Table → ℕ
least_speed f t = first (makes_order f t) (speeds_of f t)

-- the speed found with the planner's order at it; for 0, which is no speed of any range, none works (rules 18.4, 18.5)
abbrev pub searched_at : Sought → Table → ℕ → Searching
searched_at f t s =
    cond (eqb s 0)
    (record { answer = NoSpeed; order = replicate 64 0 })
    (record { answer = Least s; order = (plan_of (at_speed f t s)).order })

-- a refused search has an order of zeros (rule 18.6)
abbrev pub search_refused : Refusal → Searching
search_refused r = record { answer = Refused r; order = replicate 64 0 }

-- The table is checked as it stands, with its own figure for the speed sought; after that the figure is not looked at (rules 18.1, 18.6).
abbrev pub search_checked : Check → Sought → Table → Searching
search_checked (Ok tt) f t = searched_at f t (least_speed f t)
search_checked (Err r) f t = search_refused r

-- the search's answer for any table: checks 3, 4, 11, 5, 12, 13 to 15, then the range (rules 11.8, 18.4 to 18.6)
unfoldable pub search_of : Sought → Table → Searching
search_of f t = search_checked (check_table t) f t

-- what was read of a sheet, or why it was refused (rule 18.7)
abbrev pub search_read : Check → Sought → Table → Searching
search_read (Ok tt) f t = search_of f t
search_read (Err r) f t = search_refused r

-- the search's answer for any bytes: the reader's checks first (rules 11.8, 18.7)
unfoldable pub search_sheet : Sought → List ℕ → Searching
search_sheet f bytes = search_read (read_of bytes).check f (read_of bytes).table
