-- Choices (rule 13.19): one table of cases, computed from the definitions and checked by one theorem. Each of the faults 14.57 to 14.61 meets one here. The tables of
-- twelve rows, one of which 14.62 meets, stand in crate `lowest`: their arrangements are too many to be listed.
use Rattle.std.specs.Prelude.{ℕ, Bool, true, ◌&&◌, List, [], ◌∷◌, ◌++◌, T, eqb, replicate, take}
use Rattle.rules.specs.declared.Row.{Row}
use Rattle.rules.specs.declared.Table.{Table}
use Rattle.rules.specs.Cases.{six_figures, job, promising, following}
use Rattle.rules.specs.Choice.{padded}
use Rattle.rules.specs.Judge.{table_of}
use Rattle.rules.specs.Lists.{same}
use Rattle.rules.specs.Need.{work_slots}
use Rattle.rules.specs.Numbers.{refusal_number, check_number}
use Rattle.rules.specs.Orders.{is_arrangement, is_order}
use Rattle.rules.specs.Slots.{fresh, is_pending, is_waiting, is_ready, chosen, is_over, brought, serve, slot}
use Rattle.rules.specs.Tables.{row_ok, tail_ok, promise_ok, check_wait, check_table}
use Rattle.rules.specs.Worst.{horizon, worst_finish, promised_moment, slack, meets}
use Rattle.sweep.specs.Masks.{bit}
use Rattle.choices.specs.Choices.{Counting, arrangements, is_correct, choices, choices_lowest, alone, choices_of, count_of}

-- a table, the scratch lent, and what is answered: the number, the count, the counts of the rows as lowest, and the scratch afterwards
pub record Case : Type 0 where
  pub table : Table
  pub lent : List ℕ
  pub number : ℕ
  pub count : ℕ
  pub lowest : List ℕ
  pub scratch : List ℕ

abbrev answers_so : Counting → Case → Bool
answers_so r c =
    eqb (check_number r.said.check) c.number
    && eqb r.said.count c.count
    && same r.said.lowest (padded c.lowest)
    && same r.scratch c.scratch

abbrev all_hold : List Case → Bool
all_hold [] = true
all_hold (c ∷ cs) = answers_so (count_of c.table c.lent) c && all_hold cs

-- the scratch is full of sevens
abbrev sevens : ℕ → List ℕ
sevens k = replicate k 7

-- counted with 4,096 numbers lent: this count, these counts of the rows as lowest, these first entries and sevens after them
abbrev counts : Table → ℕ → List ℕ → List ℕ → Case
counts t count lowest entries =
    record { table = t; lent = sevens 4096; number = 0; count = count; lowest = lowest; scratch = take 4096 (entries ++ sevens 4096) }

-- refused with so many numbers lent: counts of 0 and nothing but sevens
abbrev refused : Table → ℕ → ℕ → Case
refused t lent number = record { table = t; lent = sevens lent; number = number; count = 0; lowest = []; scratch = sevens lent }

-- rows that load in no slot
abbrev plain : List Row → ℕ → ℕ → Table
plain rows normal degraded = table_of rows normal degraded 0

abbrev p1 : Table
p1 = plain (job 0 20 10 1 ∷ job 5 15 10 0 ∷ job 5 11 19 1 ∷ job 0 5 5 0 ∷ []) 5 2

abbrev p2 : Table
p2 = plain (job 0 8 5 0 ∷ job 0 12 10 1 ∷ job 3 4 5 1 ∷ job 2 16 10 0 ∷ []) 4 3

abbrev p3 : Table
p3 = plain (job 0 2 2 0 ∷ job 0 4 4 1 ∷ []) 2 1

-- three LO rows of one work unit, in no hurry, of which row 2 and row 3 follow these
abbrev chain : ℕ → ℕ → Table
chain second third = plain (job 0 1 9 0 ∷ following 0 1 9 0 second ∷ following 0 1 9 0 third ∷ []) 1 1

-- row 2 has to run first, and follows a row or not
abbrev urgent : ℕ → Table
urgent w = plain (job 0 1 9 0 ∷ following 0 1 1 0 w ∷ []) 1 1

-- so many rows, each with 1 work unit and the deadline d, in slots
abbrev wherever : ℕ → ℕ → Table
wherever n d = plain (replicate n (job 0 1 d 0)) 1 1

-- four rows in no hurry, of which the last follows row 2
abbrev waits_back : Table
waits_back = plain (job 0 1 9 0 ∷ job 0 1 9 0 ∷ job 0 1 9 0 ∷ following 0 1 9 0 2 ∷ []) 1 1

abbrev roomy : Table
roomy = plain (job 0 1 3 0 ∷ job 0 1 4 0 ∷ job 0 1 5 0 ∷ []) 1 1

-- a LO row that is promised so many work units
abbrev promises : ℕ → Table
promises r = plain (job 0 4 9 1 ∷ promising 0 8 4 0 r ∷ []) 4 1

-- with so many slots that load a job
abbrev loads : ℕ → Table
loads k = table_of (job 0 2 4 0 ∷ job 0 4 7 1 ∷ []) 2 1 k

abbrev mixed : Table
mixed = plain (job 0 2 9 1 ∷ following 0 2 9 1 1 ∷ six_figures 1 4 8 0 1 1 ∷ job 2 2 9 0 ∷ []) 2 1

abbrev late : Table
late = plain (job 0 2 1 0 ∷ []) 1 1

abbrev cases : List Case
cases =
    -- P1, P2 and P3
    counts p1 1 (0 ∷ 0 ∷ 0 ∷ 1 ∷ []) (1 ∷ 1 ∷ 1 ∷ 1 ∷ 1 ∷ 1 ∷ 1 ∷ 1 ∷ 1 ∷ 1 ∷ 2 ∷ 2 ∷ 2 ∷ 2 ∷ 3 ∷ 1 ∷ [])
    ∷ counts p2 2 (0 ∷ 0 ∷ 0 ∷ 2 ∷ []) (1 ∷ 1 ∷ 1 ∷ 2 ∷ 1 ∷ 2 ∷ 1 ∷ 2 ∷ 1 ∷ 2 ∷ 2 ∷ 4 ∷ 1 ∷ 3 ∷ 2 ∷ 2 ∷ [])
    ∷ counts p3 0 (0 ∷ 0 ∷ []) (1 ∷ 1 ∷ 1 ∷ 0 ∷ [])
    -- a wait that halves the count; the entries of words that have row 2 and not row 1 are those without the wait
    ∷ counts (chain 0 0) 6 (2 ∷ 2 ∷ 2 ∷ []) (1 ∷ 1 ∷ 1 ∷ 2 ∷ 1 ∷ 2 ∷ 2 ∷ 6 ∷ [])
    ∷ counts (chain 1 0) 3 (0 ∷ 2 ∷ 1 ∷ []) (1 ∷ 1 ∷ 1 ∷ 1 ∷ 1 ∷ 2 ∷ 2 ∷ 3 ∷ [])
    ∷ counts (chain 1 2) 1 (0 ∷ 0 ∷ 1 ∷ []) (1 ∷ 1 ∷ 1 ∷ 1 ∷ 1 ∷ 2 ∷ 1 ∷ 1 ∷ [])
    ∷ counts (chain 1 1) 2 (0 ∷ 1 ∷ 1 ∷ []) (1 ∷ 1 ∷ 1 ∷ 1 ∷ 1 ∷ 1 ∷ 2 ∷ 2 ∷ [])
    ∷ counts (urgent 1) 0 (0 ∷ 0 ∷ []) (1 ∷ 1 ∷ 1 ∷ 0 ∷ [])
    ∷ counts (urgent 0) 1 (1 ∷ 0 ∷ []) (1 ∷ 1 ∷ 1 ∷ 1 ∷ [])
    -- row 4 follows row 2: in word 14 that is row 3 following row 1, and in word 13 it follows none
    ∷ counts waits_back 12 (3 ∷ 0 ∷ 3 ∷ 6 ∷ []) (1 ∷ 1 ∷ 1 ∷ 2 ∷ 1 ∷ 2 ∷ 2 ∷ 6 ∷ 1 ∷ 2 ∷ 1 ∷ 3 ∷ 2 ∷ 6 ∷ 3 ∷ 12 ∷ [])
    -- every order is correct, though the latest deadline is that of row 3 alone
    ∷ counts roomy 6 (2 ∷ 2 ∷ 2 ∷ []) (1 ∷ 1 ∷ 1 ∷ 2 ∷ 1 ∷ 2 ∷ 2 ∷ 6 ∷ [])
    -- a promised part, and loading, leave fewer
    ∷ counts (promises 0) 2 (1 ∷ 1 ∷ []) (1 ∷ 1 ∷ 1 ∷ 2 ∷ [])
    ∷ counts (promises 1) 1 (1 ∷ 0 ∷ []) (1 ∷ 1 ∷ 1 ∷ 1 ∷ [])
    ∷ counts (loads 0) 2 (1 ∷ 1 ∷ []) (1 ∷ 1 ∷ 1 ∷ 2 ∷ [])
    ∷ counts (loads 1) 1 (0 ∷ 1 ∷ []) (1 ∷ 1 ∷ 1 ∷ 1 ∷ [])
    ∷ counts (loads 2) 0 (0 ∷ 0 ∷ []) (1 ∷ 1 ∷ 1 ∷ 0 ∷ [])
    -- levels, releases, a promised part and waits together
    ∷ counts mixed 8 (0 ∷ 3 ∷ 3 ∷ 2 ∷ []) (1 ∷ 1 ∷ 1 ∷ 1 ∷ 1 ∷ 1 ∷ 2 ∷ 2 ∷ 1 ∷ 2 ∷ 2 ∷ 3 ∷ 2 ∷ 3 ∷ 6 ∷ 8 ∷ [])
    -- one row
    ∷ counts (wherever 1 1) 1 (1 ∷ []) (1 ∷ 1 ∷ [])
    ∷ counts late 0 (0 ∷ []) (1 ∷ 0 ∷ [])
    -- more numbers lent than are asked for
    ∷ record { table = p3; lent = sevens 4100; number = 0; count = 0; lowest = []; scratch = 1 ∷ 1 ∷ 1 ∷ 0 ∷ sevens 4096 }
    -- 20 before 10, both after the table's own
    ∷ refused (wherever 13 13) 0 20
    ∷ refused (wherever 13 13) 4096 20
    ∷ refused (wherever 64 64) 4096 20
    ∷ refused (wherever 12 12) 4095 10
    ∷ refused p3 4095 10
    ∷ refused p3 0 10
    ∷ refused (wherever 13 0) 0 5
    ∷ refused (wherever 65 65) 4096 3
    ∷ refused (wherever 0 1) 4096 3
    ∷ refused (plain (job 0 1 1 0 ∷ []) 1 2) 4096 4
    ∷ []

pub choices_hold : T (all_hold cases)
unfolding padded work_slots refusal_number check_number is_arrangement is_order fresh is_pending is_waiting is_ready chosen is_over brought serve slot row_ok tail_ok promise_ok check_wait check_table horizon worst_finish promised_moment slack meets table_of bit arrangements is_correct choices choices_lowest alone choices_of count_of
choices_hold = tt
