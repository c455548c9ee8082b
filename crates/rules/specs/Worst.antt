-- Worst run, worst finish, promised moment and slack (rules 3.5 to 3.7, 3.9).
use Rattle.std.specs.Prelude.{ℕ, ◌+◌, Bool, cond, not, List, leb, ℤ, pos, ◌-ℤ◌}
use Rattle.std.specs.Int.Signed.{lt_z}
use Rattle.rules.specs.declared.Table.{Table}
use Rattle.rules.specs.Lists.{rows_to, first, sum, greatest}
use Rattle.rules.specs.Rows.{at, rows_of, release_of, deadline_of, promised_of, need_for, is_low, is_promised}
use Rattle.rules.specs.Slots.{after}

-- what each slot of row i's worst run supplies, in work units per slot: N for a LO row, G for a HI row (rule 3.5)
abbrev pub worst_speed : Table → ℕ → ℕ
worst_speed t i = cond (is_low t i) t.normal t.degraded

-- slots after which every row is closed at this speed, so that the run is long enough: the latest release and all needs (rule 3.5)
unfoldable pub horizon : Table → ℕ → ℕ
horizon t s = greatest (release_of t) (rows_of t) + sum (need_for t s) (rows_of t)

-- row i's closing slot in its worst run (rule 3.6); it is found slot by slot, so that each row loads, and its need is rounded, by itself (rules 2.14, 14.5)
unfoldable pub worst_finish : Table → List ℕ → ℕ → ℕ
worst_finish t o i = at (after t o (λ _. worst_speed t i) (horizon t (worst_speed t i))).closing i

-- The first clock, from 1 on and in slots, at which row i has got its promised part in the run that supplies exactly G in each slot (rule 3.9). It
-- is asked for of rows that are promised something.
unfoldable pub promised_moment : Table → List ℕ → ℕ → ℕ
promised_moment t o i = first (λ k. leb (promised_of t i) (at (after t o (λ _. t.degraded) k).got i)) (rows_to (horizon t t.degraded))

-- the deadline of row i minus a clock, in slots (rule 3.7)
abbrev pub left_from : Table → ℕ → ℕ → ℤ
left_from t i clock = pos (deadline_of t i) -ℤ pos clock

-- the lesser of two numbers of slots
abbrev pub lesser : ℤ → ℤ → ℤ
lesser x y = cond (lt_z y x) y x

-- Deadline minus worst finish, in slots; for a row that is promised a part, the lesser of that and deadline minus promised moment. Below zero for
-- a row that is late, or gets its promised part late, in such a run (rule 3.7).
unfoldable pub slack : Table → List ℕ → ℕ → ℤ
slack t o i =
    cond (is_promised t i)
    (lesser (left_from t i (worst_finish t o i)) (left_from t i (promised_moment t o i)))
    (left_from t i (worst_finish t o i))

-- row i's slack is not below zero (rule 4.4)
unfoldable pub meets : Table → List ℕ → ℕ → Bool
meets t o i = not (lt_z (slack t o i) (pos 0))
