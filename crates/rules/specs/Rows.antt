-- A table's rows and their figures (rules 1.1 to 1.3, 1.12), with their needs (rules 1.8, 1.10).
use Rattle.std.specs.Prelude.{ℕ, ◌-◌, Bool, not, ◌&&◌, List, eqb, ltb, leb, get_or, set}
use Rattle.rules.specs.declared.Table.{Table}
use Rattle.rules.specs.Lists.{rows_to}
use Rattle.rules.specs.Need.{need}

-- row i's entry of a column (rule 1.3)
abbrev pub at : List ℕ → ℕ → ℕ
at xs i = get_or xs (i - 1) 0

-- the column with v as row i's entry (rule 1.3)
abbrev pub put : List ℕ → ℕ → ℕ → List ℕ
put xs i v = set xs (i - 1) v

-- i is the number of a row of the table (rule 1.3)
abbrev pub is_row : Table → ℕ → Bool
is_row t i = ltb 0 i && leb i t.n

-- the rows of the table, by number (rule 1.3)
abbrev pub rows_of : Table → List ℕ
rows_of t = rows_to t.n

-- the release a, in slots (rule 1.5)
abbrev pub release_of : Table → ℕ → ℕ
release_of t i = at t.release i

-- the work c, in work units (rule 1.1)
abbrev pub work_of : Table → ℕ → ℕ
work_of t i = at t.work i

-- the deadline d, in slots (rule 1.6)
abbrev pub deadline_of : Table → ℕ → ℕ
deadline_of t i = at t.deadline i

-- the promised part r, in work units (rule 1.11)
abbrev pub promised_of : Table → ℕ → ℕ
promised_of t i = at t.promised i

-- w, the row that row i follows, 0 if it follows none (rule 1.12)
abbrev pub follows_of : Table → ℕ → ℕ
follows_of t i = at t.follows i

-- row i follows a row (rule 1.12)
abbrev pub is_follower : Table → ℕ → Bool
is_follower t i = ltb 0 (follows_of t i)

-- the need at s work units per slot, in slots, whatever the row's level (rules 1.8, 1.10)
abbrev pub need_for : Table → ℕ → ℕ → ℕ
need_for t s i = need t.loading (work_of t i) s

-- the need at N, in slots, whatever the row's level (rule 1.8)
abbrev pub need_of : Table → ℕ → ℕ
need_of t i = need_for t t.normal i

-- the need of the promised part at G, in slots: K of a row that promises nothing (rules 1.8, 1.10, 1.11)
abbrev pub promise_need : Table → ℕ → ℕ
promise_need t i = need t.loading (promised_of t i) t.degraded

-- a LO row: level 0 (rule 1.2)
abbrev pub is_low : Table → ℕ → Bool
is_low t i = eqb (at t.level i) 0

-- a HI row: any other level, which in an accepted table is level 1 (rule 1.2)
abbrev pub is_high : Table → ℕ → Bool
is_high t i = not (is_low t i)

-- row i is promised a part of its work: it is LO, and r is above 0 work units (rule 1.11)
abbrev pub is_promised : Table → ℕ → Bool
is_promised t i = is_low t i && ltb 0 (promised_of t i)
