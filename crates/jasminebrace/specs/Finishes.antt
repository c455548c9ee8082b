-- The worst finishes (rules 3.6, 7.5) that a C caller gets, and yes or no as a word.
use Rattle.std.specs.Prelude.{ℕ, Bool, cond, List, map, ◌≡◌, replicate, Ok, Err}
use Rattle.rules.specs.declared.Table.{Table}
use Rattle.rules.specs.declared.Refusal.{Refusal}
use Rattle.rules.specs.Checks.{Check, Passed, Refused}
use Rattle.rules.specs.Rows.{rows_of}
use Rattle.rules.specs.Orders.{check_both}
use Rattle.rules.specs.Worst.{worst_finish}
use Rattle.rules.specs.Choice.{padded}

-- by what the checks of table and order answer (rules 7.5, 11.4)
abbrev pub finishes_checked : Check → Table → List ℕ → List ℕ
finishes_checked (Ok tt) t o = padded (map (worst_finish t o) (rows_of t))
finishes_checked (Err r) t o = replicate 64 0

-- the worst finish of each row in slots, zeros after row n; all zero where a check refuses the table or the order (rule 7.5)
unfoldable pub finishes_of : Table → List ℕ → List ℕ
finishes_of t o = finishes_checked (check_both t o) t o

-- 1 for yes, 0 for no (rule 7.2)
abbrev pub yes_word : Bool → ℕ
yes_word b = cond b 1 0

pub finishes_passed : (t : Table) (o : List ℕ) → check_both t o ≡ Passed → finishes_of t o ≡ padded (map (worst_finish t o) (rows_of t))
unfolding finishes_of
finishes_passed t o p = rw p

pub finishes_refused : (t : Table) (o : List ℕ) (r : Refusal) → check_both t o ≡ Refused r → finishes_of t o ≡ replicate 64 0
unfolding finishes_of
finishes_refused t o r p = rw p
