-- Correct orders by their lowest rows (rule 25.7): an arrangement of a table's rows is a correct order exactly if each of its rows may stand lowest among itself and
-- the rows above it. So arrangements are counted from the lowest place up.
use Rattle.std.specs.Prelude.{ℕ, zero, suc, Bool, true, ◌&&◌, cond}
use mathlib.Core.List.{List, [], ◌∷◌, ◌++◌}
use Rattle.rules.specs.declared.Table.{Table}
use Rattle.rules.specs.Choice.{unfollowed, passes}
use Rattle.rules.specs.Lists.{sum, erase}
use Rattle.theory.specs.Waiting.{unbound}

-- Row i may stand lowest of the rows of a list: none of them follows it, and with all the others above it, and no row waiting, its slack is not below zero.
-- That this is so in the table of these rows alone, waits kept, is proved (Alone; rule 25.7).
unfoldable pub may_stand : Table → List ℕ → ℕ → Bool
may_stand t l i = unfollowed t l i && passes (unbound t) l i

-- how many arrangements of k rows there are in which each row may stand lowest of itself and those above it, by the lowest row
abbrev pub by_lowest : (List ℕ → ℕ → Bool) → ℕ → List ℕ → ℕ
by_lowest may zero l = 1
by_lowest may (suc k) l = sum (λ i. cond (may l i) (by_lowest may k (erase i l)) 0) l

-- below the rows of a, each row of the list may stand lowest of itself and those above it
abbrev pub stands_from : Table → List ℕ → List ℕ → Bool
stands_from t a [] = true
stands_from t a (i ∷ l) = may_stand t (a ++ (i ∷ [])) i && stands_from t (a ++ (i ∷ [])) l
