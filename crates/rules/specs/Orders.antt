-- Which sixty-four numbers are an order of a table: check 6 (rules 5.6, 5.7, 5.11).
use Rattle.std.specs.Prelude.{ℕ, Bool, cond, not, ◌&&◌, ◌||◌, List, eqb, drop}
use Rattle.rules.specs.declared.Table.{Table}
use Rattle.rules.specs.declared.Refusal.TheVariants.{NotAnOrder}
use Rattle.rules.specs.Checks.{Check, Passed, Refused}
use Rattle.rules.specs.Lists.{all, all_zero, count, first}
use Rattle.rules.specs.Rows.{rows_of, follows_of, is_follower}
use Rattle.rules.specs.Tables.{and_then, check_table}

-- each row stands in the order once, and zeros stand after the first n places (rule 5.7)
unfoldable pub is_arrangement : Table → List ℕ → Bool
is_arrangement t o = all (λ i. eqb (count i o) 1) (rows_of t) && all_zero (drop t.n o)

-- from the top of the order on, row w comes before row i; they are two rows, since no accepted table has a row that follows itself (rules 5.10, 5.11)
abbrev pub is_above : ℕ → ℕ → List ℕ → Bool
is_above w i o = eqb (first (λ x. eqb x w || eqb x i) o) w

-- the order keeps row i's wait: row i follows none, or the row that it follows stands above it (rule 5.11)
abbrev pub keeps_wait : Table → List ℕ → ℕ → Bool
keeps_wait t o i = not (is_follower t i) || is_above (follows_of t i) i o

-- an arrangement of the rows that keeps all waits (rules 5.7, 5.11)
unfoldable pub is_order : Table → List ℕ → Bool
is_order t o = is_arrangement t o && all (keeps_wait t o) (rows_of t)

-- check 6 (rules 5.7, 5.11, 10.6)
unfoldable pub check_order : Table → List ℕ → Check
check_order t o = cond (is_order t o) Passed (Refused NotAnOrder)

-- a table and an order: the checks of the table first, 6 last (rule 11.4)
unfoldable pub check_both : Table → List ℕ → Check
check_both t o = and_then (check_table t) (check_order t o)
