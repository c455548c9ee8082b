-- A list of run calls (rule 9.5) as numbers, so that code can be lent one. A number 0 and the next number: one slot with that supply.
-- A number h above 0: the second entry over the next h - 1 numbers, or as many as there are. Every list of numbers means some list of
-- calls, and every list of calls is meant by some list of numbers (`calls-reached` in Reached).
use Rattle.std.specs.Prelude.{ℕ, zero, suc, ◌+◌, ◌-◌, min, cond, List, [], ◌∷◌, ◌++◌, eqb, length, get_or, take, drop}
use Rattle.rules.specs.Calls.{Call, one, forward}

-- the call that the numbers from index i on begin with; i is below the length
unfoldable pub call_at : List ℕ → ℕ → Call
call_at l i = cond (eqb (get_or l i 0) 0) (one (get_or l (i + 1) 0)) (forward (take (get_or l i 0 - 1) (drop (i + 1) l)))

-- the index of the next call
unfoldable pub next_at : List ℕ → ℕ → ℕ
next_at l i = min (i + 1 + cond (eqb (get_or l i 0) 0) 1 (get_or l i 0 - 1)) (length l)

-- the calls from index i on; k bounds their number
unfoldable pub calls_from : ℕ → List ℕ → ℕ → List Call
calls_from zero l i = []
calls_from (suc k) l i = let rest = calls_from k l (next_at l i) in cond (eqb (length l - i) 0) [] (call_at l i ∷ rest)

-- the calls that a list of numbers means
unfoldable pub calls_in : List ℕ → List Call
calls_in l = calls_from (length l) l 0

-- the numbers that a call is given by, and those of a list of calls
abbrev pub numbers_of : Call → List ℕ
numbers_of (one v) = 0 ∷ v ∷ []
numbers_of (forward vs) = suc (length vs) ∷ vs

unfoldable pub all_numbers : List Call → List ℕ
all_numbers [] = []
all_numbers (c ∷ cs) = numbers_of c ++ all_numbers cs
