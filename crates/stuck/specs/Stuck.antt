-- Sets of rows in which no row may stand lowest, ways of choosing, and cuts (section 26 of the rules). A set of rows is told as a list, from the lowest number
-- up; `rows_in t m` is that of a word (rule 4.8).
use Rattle.std.specs.Prelude.{ℕ, ◌≤◌, Bool, true, ◌&&◌, not, List, [], ◌∷◌, map, ◌↔◌, ◌≡◌, leb, ℤ}
use Rattle.rules.specs.declared.Table.{Table}
use Rattle.rules.specs.Choice.{choice, word, lowest, unfollowed}
use Rattle.rules.specs.Lists.{all, count, erase}
use Rattle.rules.specs.Rows.{at, is_row, rows_of, release_of, work_of, deadline_of, promised_of, follows_of}
use Rattle.rules.specs.Worst.{slack, meets}
use Rattle.theory.specs.Waiting.{unbound}
use Rattle.choices.specs.Choices.{rows_in, renumbered, alone}

-- Row i may stand lowest in its table: no row of the table follows it and, with all the others above it, its slack is not below zero (rules 25.7, 26.1).
unfoldable pub may_be_lowest : Table → ℕ → Bool
may_be_lowest t i = unfollowed t (rows_of t) i && meets t (lowest (rows_of t) i) i

-- no row of the table may (rule 26.2)
unfoldable pub none_may : Table → Bool
none_may t = all (λ i. not (may_be_lowest t i)) (rows_of t)

-- A set of rows is stuck: no row may stand lowest in the table of the set alone (rule 26.2).
unfoldable pub is_stuck : Table → List ℕ → Bool
is_stuck t set = none_may (alone t set)

-- row i is one of the set and may stand lowest in the table of the set alone, under its number there (rule 26.1)
unfoldable pub may_take : Table → List ℕ → ℕ → Bool
may_take t set i = leb 1 (count i set) && may_be_lowest (alone t set) (renumbered set i)

-- A way of choosing from a set, as the rows that it takes, the one for the lowest place first: each may stand lowest in the set of the rows not yet taken, and
-- it ends where none may (rule 26.3).
abbrev pub is_way : Table → List ℕ → List ℕ → Bool
is_way t set [] = is_stuck t set
is_way t set (i ∷ taken) = may_take t set i && is_way t (erase i set) taken

-- the rows that it leaves (rule 26.3)
abbrev pub leaves : List ℕ → List ℕ → List ℕ
leaves set [] = set
leaves set (i ∷ taken) = leaves (erase i set) taken

-- rows put above others, one after the other; above none, a list with its last row first
abbrev pub upward : List ℕ → List ℕ → List ℕ
upward [] placed = placed
upward (i ∷ taken) placed = upward taken (i ∷ placed)

-- the rows that the planner's choice leaves, as a set (rules 4.6, 4.8)
unfoldable pub left_rows : Table → List ℕ
left_rows t = rows_in t (word (choice t).left)

-- The table in hand after cuts. Each cut is told by the word of the rows that it keeps, in the numbers of the table then in hand (rule 26.7).
abbrev pub cut : Table → List ℕ → Table
cut t [] = t
cut t (m ∷ ms) = cut (alone t (rows_in t m)) ms

-- the rows that remain after cuts, by their numbers in the first table (rule 26.7)
abbrev pub remaining : Table → List ℕ → List ℕ
remaining t [] = rows_of t
remaining t (m ∷ ms) = map (at (rows_in t m)) (remaining (alone t (rows_in t m)) ms)

-- the rows left by the planner's choice for the table of a set alone, by their numbers in the whole table (rule 26.7)
unfoldable pub left_in : Table → List ℕ → List ℕ
left_in t set = map (at set) (left_rows (alone t set))

-- the rows left by the planner's choice for the table in hand, by their numbers in the first table (rule 26.7)
unfoldable pub left_after : Table → List ℕ → List ℕ
left_after t ms = map (at (remaining t ms)) (left_rows (cut t ms))

-- The slack of row i in a set, in slots: in the table of the set alone, with all the others above it, and with no row waiting (rule 26.9).
unfoldable pub slack_in : Table → List ℕ → ℕ → ℤ
slack_in t set i = slack (unbound (alone t set)) (lowest (rows_of (alone t set)) (renumbered set i)) (renumbered set i)

-- Another table holds the rows of a set, row x of them under the number φ x: with the figures that they have, waiting for one another as they do, and with the same
-- N, G and K (rule 26.8). What else it holds is open, and so is the sequence in which the rows stand there.
pub record Held (t : Table) (set : List ℕ) (other : Table) (φ : ℕ → ℕ) : Type 0 where
  pub normal : other.normal ≡ t.normal
  pub degraded : other.degraded ≡ t.degraded
  pub loading : other.loading ≡ t.loading
  pub row : (x : ℕ) → 1 ≤ count x set → is_row other (φ x) ≡ true
  pub single : (x y : ℕ) → 1 ≤ count x set → 1 ≤ count y set → φ x ≡ φ y → x ≡ y
  pub release : (x : ℕ) → 1 ≤ count x set → release_of other (φ x) ≡ release_of t x
  pub work : (x : ℕ) → 1 ≤ count x set → work_of other (φ x) ≡ work_of t x
  pub deadline : (x : ℕ) → 1 ≤ count x set → deadline_of other (φ x) ≡ deadline_of t x
  pub level : (x : ℕ) → 1 ≤ count x set → at other.level (φ x) ≡ at t.level x
  pub promised : (x : ℕ) → 1 ≤ count x set → promised_of other (φ x) ≡ promised_of t x
  pub follows : (x y : ℕ) → 1 ≤ count x set → 1 ≤ count y set → (follows_of other (φ x) ≡ φ y) ↔ (follows_of t x ≡ y)
