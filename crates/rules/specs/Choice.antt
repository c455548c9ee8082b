-- The planner's choice: the lowest place is filled first (rule 4.1).
use Rattle.std.specs.Prelude.{ℕ, zero, suc, ◌-◌, ◌^◌, Bool, cond, not, List, [], ◌∷◌, ◌++◌, eqb, ltb, length, take, replicate, Ok, Err}
use Rattle.rules.specs.declared.Table.{Table}
use Rattle.rules.specs.Plans.{Ordered, NoOrder, Refused}
use Rattle.rules.specs.declared.Planning.{Planning}
use Rattle.rules.specs.Checks.{Check}
use Rattle.rules.specs.Lists.{all, first, keep, erase, sum}
use Rattle.rules.specs.Rows.{rows_of, deadline_of, follows_of, is_low, is_high}
use Rattle.rules.specs.Tables.{check_table}
use Rattle.rules.specs.Worst.{meets}

-- row i put before the first row whose deadline is not later than its own (rule 4.3)
abbrev pub insert : Table → ℕ → List ℕ → List ℕ
insert t i [] = i ∷ []
insert t i (j ∷ js) = cond (ltb (deadline_of t i) (deadline_of t j)) (j ∷ insert t i js) (i ∷ j ∷ js)

-- later deadlines first, and of equal ones the lower row first (rule 4.3)
abbrev pub falling : Table → List ℕ → List ℕ
falling t [] = []
falling t (i ∷ is) = insert t i (falling t is)

-- the trial sequence of all rows: first the LO rows, then the HI rows, each level from its latest deadline on (rule 4.3)
unfoldable pub sequence : Table → List ℕ
sequence t = keep (is_low t) (falling t (rows_of t)) ++ keep (is_high t) (falling t (rows_of t))

-- all other rows left above row i (rule 4.4)
abbrev pub lowest : List ℕ → ℕ → List ℕ
lowest left i = erase i left ++ (i ∷ [])

-- the trial of row i: lowest of the rows left, LO and HI alike, its slack is not below zero (rules 4.4, 14.4)
unfoldable pub passes : Table → List ℕ → ℕ → Bool
passes t left i = meets t (lowest left i) i

-- none of the rows left follows row i (rule 4.11)
unfoldable pub unfollowed : Table → List ℕ → ℕ → Bool
unfollowed t left i = all (λ j. not (eqb (follows_of t j) i)) left

-- The rows tried at a place, in their sequence: all rows left but those that a row left follows (rules 4.2, 4.11), and none else passed over. It
-- stands as a name of its own because trying fewer rows is the best known fault of such a planner (rule 14.1, and rule 4.7 on where it comes
-- from): the must-fail edit two_latest changes this one line, and the cases' theorem refuses it by P1.
abbrev pub tried : Table → List ℕ → List ℕ
tried t left = keep (unfollowed t left) left

-- the first of them that passes, which gets the place; 0 where every one of them fails (rules 4.5, 4.6)
unfoldable pub taker : Table → List ℕ → ℕ
taker t left = first (passes t left) (tried t left)

-- the rows placed, highest first, and the rows left, in their trial sequence (rules 4.1, 4.6)
pub record Choice : Type 0 where
  pub placed : List ℕ
  pub left : List ℕ

-- k places more are filled, each above those before it, until every row that is tried fails (rules 4.1, 4.5, 4.6, 4.11)
unfoldable pub fill : Table → ℕ → List ℕ → List ℕ → Choice
fill t zero left placed = record { placed = placed; left = left }
fill t (suc k) left placed =
    let i = taker t left in
    let next = fill t k (erase i left) (i ∷ placed) in
    cond (eqb i 0) (record { placed = placed; left = left }) next

-- the whole choice for a table: n places to fill, all rows left (rules 4.1 to 4.6)
unfoldable pub choice : Table → Choice
choice t = fill t t.n (sequence t) []

-- a set of rows as one number: row i adds 2 to the power i - 1 (rule 4.8)
unfoldable pub word : List ℕ → ℕ
word left = sum (λ i. 2 ^ (i - 1)) left

-- an order as sixty-four numbers, zeros after its last row (rule 5.6)
unfoldable pub padded : List ℕ → List ℕ
padded o = take 64 (o ++ replicate 64 0)

-- an order where no row is left; else 7, an order of zeros and the word of the rows left (rules 4.6, 4.10, 10.7)
abbrev pub plan_from : Choice → Planning
plan_from c =
    cond (eqb (length c.left) 0)
    (record { answer = Ordered; order = padded c.placed })
    (record { answer = NoOrder (word c.left); order = replicate 64 0 })

-- a refused table has an order of zeros (rules 10.3 to 10.5, 10.11 to 10.15)
abbrev pub plan_checked : Check → Table → Planning
plan_checked (Ok tt) t = plan_from (choice t)
plan_checked (Err r) t = record { answer = Refused r; order = replicate 64 0 }

-- the planner's answer for any table: checks 3, 4, 11, 5, 12, 13 to 15, then the choice (rule 11.3)
unfoldable pub plan_of : Table → Planning
plan_of t = plan_checked (check_table t) t
