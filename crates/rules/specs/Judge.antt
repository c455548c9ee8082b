-- The judge: a verdict on an order, the tightest row and its slack (section 7 of the rules).
use Rattle.std.specs.Prelude.{ℕ, cond, List, [], ◌∷◌, ◌++◌, map, pos, length, take, replicate, Ok, Err}
use Rattle.std.specs.Int.Signed.{lt_z}
use Rattle.rules.specs.declared.Row.{Row}
use Rattle.rules.specs.declared.Table.{Table}
use Rattle.rules.specs.Verdicts.{Judgement}
use Rattle.rules.specs.Verdicts.{Correct, Incorrect, Refused}
use Rattle.rules.specs.Checks.{Check}
use Rattle.rules.specs.Orders.{check_both}
use Rattle.rules.specs.Rows.{rows_of}
use Rattle.rules.specs.Worst.{slack}

-- the row of least slack among row b and the rows of the list, which come after it; b on a tie (rule 7.3)
abbrev pub least_slack : Table → List ℕ → ℕ → List ℕ → ℕ
least_slack t o b [] = b
least_slack t o b (i ∷ is) = least_slack t o (cond (lt_z (slack t o i) (slack t o b)) i b) is

-- the tightest row: of all rows that share the least slack, the one with the lowest number (rule 7.3)
unfoldable pub tightest : Table → List ℕ → ℕ
tightest t o = least_slack t o 1 (rows_of t)

-- yes if row i's slack, in slots, is not below zero; for the tightest row this says so of every row (rule 7.2; that it is
-- yes exactly for correct orders is proved, `exact` in the judge's promise)
abbrev pub verdict_at : Table → List ℕ → ℕ → Judgement
verdict_at t o i = cond (lt_z (slack t o i) (pos 0)) (Incorrect i (slack t o i)) (Correct i (slack t o i))

-- a refused table or order has no verdict (rule 7.4)
abbrev pub judge_checked : Check → Table → List ℕ → Judgement
judge_checked (Ok tt) t o = verdict_at t o (tightest t o)
judge_checked (Err r) t o = Refused r

-- the judge's answer for any table and any sixty-four numbers: checks 3, 4, 11, 5, 12, 13 to 15, 6, then the verdict (rules 7.1, 11.4)
unfoldable pub judge_of : Table → List ℕ → Judgement
judge_of t o = judge_checked (check_both t o) t o

-- one figure of all rows of a lent list, zeros after the last; what stands after sixty-four rows is cut off (rule 7.1)
abbrev pub column : (Row → ℕ) → List Row → List ℕ
column f rows = take 64 (map f rows ++ replicate 64 0)

-- the table of a lent list of rows, two speeds and K: n is the list's length, so that more than 64 rows are refused by 3 (rule 7.1)
unfoldable pub table_of : List Row → ℕ → ℕ → ℕ → Table
table_of rows normal degraded loading =
    record {
      n = length rows;
      normal = normal;
      degraded = degraded;
      loading = loading;
      release = column (λ r. r.release) rows;
      work = column (λ r. r.work) rows;
      deadline = column (λ r. r.deadline) rows;
      level = column (λ r. r.level) rows;
      promised = column (λ r. r.promised) rows;
      follows = column (λ r. r.follows) rows;
    }
