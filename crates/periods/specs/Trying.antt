-- Trials at one speed over columns: what they ask for and what they find.
use Rattle.std.specs.Prelude.{ℕ, ◌-◌, ◌≤◌, ◌<◌, Bool, true, false, cond, ◌&&◌, ◌≡◌, ◌⊎◌, List, eqb, leb, length, get_or, take}
use Rattle.rules.specs.Rows.{at, put}
use Rattle.sweep.specs.Masks.{bit, is_left}
use Rattle.sweep.specs.Trials.{Columns, trial}
use Rattle.periods.specs.Busy.{row, LeftAt}
use Rattle.periods.specs.Entries.{Entries}
use Rattle.periods.specs.Periods.{Queue, Groups, Known}
use Rattle.periods.specs.Renewing.{Meets}

-- the columns of one speed: the queue of n rows, their releases and their caps, in slots, and their entries in the trial sequence
pub record Speed (queue : List ℕ) (n : ℕ) (release cap entry : List ℕ) : Type 0 where
  pub columns : Columns queue n release cap
  pub queued : Queue (λ j. at release j) (λ j. at cap j) (λ j. at entry j) (take n queue)
  pub entries : Entries entry

-- where the busy periods of the rows left begin
abbrev pub Grouped : List ℕ → ℕ → List ℕ → List ℕ → ℕ → List ℕ → Type 0
Grouped queue n release cap left period = Groups (λ j. at release j) (λ j. at cap j) (is_left left) (take n queue) period

-- and which have changed, and which rows are in time
abbrev pub KnownAt : List ℕ → ℕ → List ℕ → List ℕ → List ℕ → List ℕ → ℕ → List ℕ → ℕ → ℕ → Type 0
KnownAt queue n release deadline cap entry left period changed passing =
    Known (λ j. at release j) (λ j. at cap j) (λ j. at deadline j) (λ j. at entry j) (is_left left) (take n queue) period changed passing

-- after the sweep of the busy period that began here: where the busy periods begin now, and a word in which only rows in time have their entries, and
-- every swept row in time has its own; any other row keeps its busy period
pub record Renewed (queue : List ℕ) (n : ℕ) (release deadline cap entry : List ℕ) (left begin : ℕ) (old period : List ℕ) (word : ℕ) : Type 0 where
  pub groups : Grouped queue n release cap left period
  pub sound : (i : ℕ) → LeftAt (is_left left) (take n queue) i → bit word (at entry (row (take n queue) i)) ≡ 1
      → Meets (λ j. at release j) (λ j. at cap j) (λ j. at deadline j) (λ j. at entry j) (is_left left) (take n queue) i
  pub whole : (i : ℕ) → LeftAt (is_left left) (take n queue) i
      → (Meets (λ j. at release j) (λ j. at cap j) (λ j. at deadline j) (λ j. at entry j) (is_left left) (take n queue) i
      → bit word (at entry (row (take n queue) i)) ≡ 1)
      ⊎ ((at period (row (take n queue) i) ≡ at old (row (take n queue) i)) × (at old (row (take n queue) i) ≡ begin → ⊥))

-- by the sweep over all rows left the row finishes by its deadline: for a row that none of them follows, its trial
unfoldable pub in_time : List ℕ → ℕ → List ℕ → List ℕ → List ℕ → ℕ → ℕ → Bool
in_time queue n release deadline cap left i = leb (trial release cap left (at release i) 0 (take n queue)) (at deadline i)

-- no need of a promised part is over 1,000,016 slots
abbrev pub Small : List ℕ → Type 0
Small part = (j : ℕ) → get_or part j 0 ≤ 1000016

-- the row has its promised part by its deadline with all other rows left above it: the sweep with its own cap set to the part's need
unfoldable pub part_in_time : List ℕ → ℕ → List ℕ → List ℕ → List ℕ → List ℕ → List ℕ → ℕ → ℕ → Bool
part_in_time queue n release deadline cap promised part left i =
    cond (eqb (at promised i) 0) true (leb (trial release (put cap i (at part i)) left (at release i) 0 (take n queue)) (at deadline i))

-- a LO row passes: it is in time at the normal speed, and its part is at the degraded one
abbrev pub low_in_time : List ℕ → ℕ → List ℕ → List ℕ → List ℕ → List ℕ → List ℕ → List ℕ → ℕ → ℕ → Bool
low_in_time queue n release deadline normal degraded promised part left i =
    in_time queue n release deadline normal left i && part_in_time queue n release deadline degraded promised part left i

-- the columns that parts are tried with: caps and needs at the degraded speed, and the trial sequence, in which the row of an entry stands
pub record Parts (queue : List ℕ) (n : ℕ) (release cap part sequence entry : List ℕ) : Type 0 where
  pub columns : Columns queue n release cap
  pub small : Small part
  pub seats : (k : ℕ) → k < length (take n queue) → get_or sequence (at entry (row (take n queue) k)) 0 ≡ row (take n queue) k

-- a row left has this entry, from 0
pub record Stands (queue entry : List ℕ) (n left x : ℕ) : Type 0 where
  pub place : ℕ
  pub left_at : LeftAt (is_left left) (take n queue) place
  pub is : at entry (row (take n queue) place) ≡ x

-- the entries in a word are those of rows left
abbrev pub Open : List ℕ → List ℕ → ℕ → ℕ → ℕ → Type 0
Open queue entry n left word = (x : ℕ) → bit word x ≡ 1 → Stands queue entry n left x

-- entry e, from 1, is the first of the entries in a word whose row passes
pub record Found (passes : ℕ → Bool) (queue entry : List ℕ) (n left word e : ℕ) : Type 0 where
  pub some : 1 ≤ e
  pub stands : Stands queue entry n left (e - 1)
  pub inside : bit word (e - 1) ≡ 1
  pub meets : passes (row (take n queue) stands.place) ≡ true
  pub before : (k : ℕ) → LeftAt (is_left left) (take n queue) k → bit word (at entry (row (take n queue) k)) ≡ 1 → at entry (row (take n queue) k) < e - 1
      → passes (row (take n queue) k) ≡ false

-- e is that entry, or 0 where none passes
pub record FirstIn (passes : ℕ → Bool) (queue entry : List ℕ) (n left word e : ℕ) : Type 0 where
  pub none : e ≡ 0 → (k : ℕ) → LeftAt (is_left left) (take n queue) k → bit word (at entry (row (take n queue) k)) ≡ 1 → passes (row (take n queue) k) ≡ false
  pub found : (e ≡ 0 → ⊥) → Found passes queue entry n left word e
