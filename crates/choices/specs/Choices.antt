-- How many orders of a table are correct, of all its rows and of the rows of every word alone (section 25 of the rules). Everything here goes through
-- the arrangements one by one; that they can be counted by their lowest rows is proved (crate `lowest`).
use Rattle.std.specs.Prelude.{ℕ, zero, suc, ◌^◌, Bool, cond, ◌&&◌, List, [], ◌∷◌, ◌++◌, map, eqb, leb, length, drop, replicate, Ok, Err}
use Rattle.rules.specs.declared.Table.{Table}
use Rattle.rules.specs.declared.Refusal.TheVariants.{NoRoom, TooManyRows}
use Rattle.rules.specs.Checks.{Check, Passed, Refused}
use Rattle.rules.specs.Choice.{padded}
use Rattle.rules.specs.Lists.{all, first, erase, keep, rows_to}
use Rattle.rules.specs.Orders.{is_order}
use Rattle.rules.specs.Rows.{at, rows_of, release_of, work_of, deadline_of, promised_of, follows_of}
use Rattle.rules.specs.Tables.{and_then, check_table}
use Rattle.rules.specs.Worst.{meets}
use Rattle.sweep.specs.Masks.{is_left}
use Rattle.choices.specs.declared.Choices.{Choices}

-- the lists that f makes of each row, one after the other
abbrev pub spread : (ℕ → List (List ℕ)) → List ℕ → List (List ℕ)
spread f [] = []
spread f (i ∷ is) = f i ++ spread f is

-- all arrangements of k rows, each from the highest place down: every row in turn stands lowest, below all arrangements of the others (rule 25.1)
abbrev pub arranged : ℕ → List ℕ → List (List ℕ)
arranged zero rows = [] ∷ []
arranged (suc k) rows = spread (λ i. map (λ above. above ++ (i ∷ [])) (arranged k (erase i rows))) rows

-- all arrangements of the rows of a table (rule 25.1)
unfoldable pub arrangements : Table → List (List ℕ)
arrangements t = arranged t.n (rows_of t)

-- how many lists pass the test
abbrev pub how_many : (List ℕ → Bool) → List (List ℕ) → ℕ
how_many p [] = 0
how_many p (o ∷ os) = cond (p o) (suc (how_many p os)) (how_many p os)

-- The order passes check 6, waits kept, and every row's slack under it is not below zero: such orders of an accepted table, and no others, are correct over all
-- courses of speed (rules 3.4, 25.2; `counted-correct` in crate `lowest`).
unfoldable pub is_correct : Table → List ℕ → Bool
is_correct t o = is_order t o && all (meets t o) (rows_of t)

-- row i stands lowest: at place n (rule 25.5)
abbrev pub is_lowest : Table → ℕ → List ℕ → Bool
is_lowest t i o = eqb (at o t.n) i

-- the choices of a table: how many of its arrangements, as sixty-four numbers, are correct orders (rule 25.2)
unfoldable pub choices : Table → ℕ
choices t = how_many (λ o. is_correct t (padded o)) (arrangements t)

-- in how many of them row i stands lowest (rule 25.5)
unfoldable pub choices_lowest : Table → ℕ → ℕ
choices_lowest t i = how_many (λ o. is_correct t (padded o) && is_lowest t i (padded o)) (arrangements t)

-- the rows of a word, by number (rule 4.8)
abbrev pub rows_in : Table → ℕ → List ℕ
rows_in t m = keep (is_left m) (rows_of t)

-- the new number of row w where these rows are numbered anew from 1, 0 if it is none of them (rule 25.3)
abbrev pub renumbered : List ℕ → ℕ → ℕ
renumbered rows w = first (λ k. eqb (at rows k) w) (rows_to (length rows))

-- the table of these rows alone, numbered anew; waits on other rows are left out (rule 25.3)
unfoldable pub alone : Table → List ℕ → Table
alone t rows =
    record {
      n = length rows;
      normal = t.normal;
      degraded = t.degraded;
      loading = t.loading;
      release = padded (map (release_of t) rows);
      work = padded (map (work_of t) rows);
      deadline = padded (map (deadline_of t) rows);
      level = padded (map (at t.level) rows);
      promised = padded (map (promised_of t) rows);
      follows = padded (map (λ i. renumbered rows (follows_of t i)) rows);
    }

-- the choices of the rows of a word alone (rule 25.3)
unfoldable pub choices_of : Table → ℕ → ℕ
choices_of t m = choices (alone t (rows_in t m))

-- the first k words: 0, 1, .., k - 1
abbrev pub words_to : ℕ → List ℕ
words_to zero = []
words_to (suc k) = words_to k ++ (k ∷ [])

-- the answer, and all scratch after the call (rules 25.5, 25.6)
pub record Counting : Type 0 where
  pub said : Choices
  pub scratch : List ℕ

-- 20 refuses more than 12 rows (rules 10.20, 25.4)
abbrev pub check_few : Table → Check
check_few t = cond (leb t.n 12) Passed (Refused TooManyRows)

-- 10 refuses fewer than 4,096 numbers (rules 10.10, 25.4)
abbrev pub check_scratch : List ℕ → Check
check_scratch scratch = cond (leb 4096 (length scratch)) Passed (Refused NoRoom)

-- the scratch after counting: entry m holds the choices of m for the first 2 to the n words, and every later entry is as it was (rule 25.5)
abbrev pub counted : Table → List ℕ → List ℕ
counted t scratch = map (choices_of t) (words_to (2 ^ t.n)) ++ drop (2 ^ t.n) scratch

-- the counts and the scratch where no check refuses; else counts of 0 and the scratch as it was (rules 25.5, 25.6)
abbrev pub count_checked : Check → Table → List ℕ → Counting
count_checked (Ok tt) t scratch =
    record {
      said = record { check = Passed; count = choices t; lowest = padded (map (choices_lowest t) (rows_of t)) };
      scratch = counted t scratch;
    }
count_checked (Err r) t scratch = record { said = record { check = Refused r; count = 0; lowest = replicate 64 0 }; scratch = scratch }

-- the answer for any table and any scratch: checks 3, 4, 11, 5, 12, 13 to 15, then 20, then 10 (rule 11.13)
unfoldable pub count_of : Table → List ℕ → Counting
count_of t scratch = count_checked (and_then (and_then (check_table t) (check_few t)) (check_scratch scratch)) t scratch
