-- The results of this crate, to be cited by name. Each is a statement about the definitions of `rules` and is preceded by what it says.
-- Lists of rows are compared by how often each row stands in them (Counts): `In x l`, row x stands in l; `Within a b`, what stands in a
-- stands in b; `Same a b`, the two hold the same rows. A list that is within the table's rows holds each row at most once. `Closed t l` says that l holds
-- every row which one of its rows follows, and `Stand t a i` that a does so and holds the row which row i follows (Waits): every order that passes
-- check 6 has such rows above each of its rows.
use Rattle.std.specs.Prelude.{ℕ, ◌≤◌, ◌<◌, true, ◌≡◌, ◌⊎◌}
use Rattle.rules.specs.declared.Table.{Table}
use Rattle.rules.specs.Rows.{at, is_low, deadline_of}
use Rattle.rules.specs.Slots.{State, allowance}

-- row i is LO and dropped in this state: with its allowance used up, at its deadline or before, or with slots left, at its deadline (rule 19.9)
abbrev pub DroppedIn : Table → State → ℕ → Type 0
DroppedIn t s i =
    (is_low t i ≡ true)
    × (((at s.used i ≡ allowance t i) × (at s.closing i ≤ deadline_of t i)) ⊎ ((at s.used i < allowance t i) × (at s.closing i ≡ deadline_of t i)))
