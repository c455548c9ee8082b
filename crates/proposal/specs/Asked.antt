-- What asking proposes is refused for the record alone (rule 22.6): its table is accepted, and its order passes check 6 and is correct.
use Rattle.std.specs.Prelude.{ℕ, true, ◌⊎◌, List, ◌≡◌, replicate}
use Rattle.rules.specs.declared.Table.{Table}
use Rattle.rules.specs.Choice.{plan_of}
use Rattle.rules.specs.Correct.{Correct}
use Rattle.rules.specs.Numbers.{check_number, planned_number, rows_left}
use Rattle.rules.specs.Orders.{is_order}
use Rattle.rules.specs.Tables.{Accepted, zero_table}
use Rattle.texts.specs.Sheets.{read_of}
use Rattle.proposal.specs.declared.Asking.{Asking}

-- a proposal with which nothing is wrong
pub record Good (t : Table) (o : List ℕ) : Type 0 where
  pub accepted : Accepted t
  pub passes : is_order t o ≡ true
  pub correct : Correct t o

-- the reader's number, or the planner's answer; with 0 the table is the one that was read and the order the one planned; with any other number table and order are zeros,
-- and with another than 7 no row is left (rule 22.2)
pub record Answered (bytes : List ℕ) (a : Asking) : Type 0 where
  pub reader : (check_number (read_of bytes).check ≡ 0 → ⊥) → planned_number a.answer ≡ check_number (read_of bytes).check
  pub planner : check_number (read_of bytes).check ≡ 0 → a.answer ≡ (plan_of (read_of bytes).table).answer
  pub made : planned_number a.answer ≡ 0 → a.order ≡ (plan_of (read_of bytes).table).order
  pub read : planned_number a.answer ≡ 0 → a.table ≡ (read_of bytes).table
  pub none : (planned_number a.answer ≡ 0 → ⊥) → (a.table ≡ zero_table) × (a.order ≡ replicate 64 0)
  pub left : (planned_number a.answer ≡ 7 → ⊥) → rows_left a.answer ≡ 0

-- the numbers of a commit of such a proposal
abbrev pub ForTheRecord : ℕ → Type 0
ForTheRecord n = (n ≡ 0) ⊎ ((n ≡ 9) ⊎ ((n ≡ 17) ⊎ (n ≡ 18)))
