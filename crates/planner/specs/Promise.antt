-- What the planner promises of its answer, for every table, and that the planner's definition keeps it.
use Rattle.std.specs.Prelude.{ℕ, true, ◌≡◌, refl, List, [], ◌∷◌, ◌↔◌, length, Ok, Err}
use Rattle.std.proofs.Common.{arith}
use Rattle.rules.specs.declared.Table.{Table}
use Rattle.rules.specs.declared.Refusal.{Refusal}
use Rattle.rules.specs.declared.Refusal.TheVariants.{Length, Malformed, RowCount, Speeds, RowLimits, NotAnOrder, ClockOver, Unsound, NoRoom, Loading, Promised, NotLower, ReleasedLater, FollowsLow, NotCorrect, RowOpen, ReleasedBefore, TrialsOver, TooManyRows}
use Rattle.rules.specs.declared.Planning.{Planning}
use Rattle.rules.specs.Checks.{Check, Refused}
use Rattle.rules.specs.Tables.{check_table, Accepted}
use Rattle.rules.specs.Orders.{is_order}
use Rattle.rules.specs.Correct.{Correct, CorrectOrder}
use Rattle.rules.specs.Choice.{choice, word, padded, plan_from, plan_checked, plan_of}
use Rattle.rules.specs.Numbers.{refusal_number, planned_number, rows_left}
use Rattle.theory.specs.Tests.{by_eqb}
use Rattle.theory.specs.Counts.{In, in_head}
use Rattle.theory.proofs.Results.{choice_order, choice_correct, choice_none}

empty : (l : List ℕ) → length l ≡ 0 → l ≡ []
empty [] e = refl
empty (x ∷ l) e = absurd (omega arith)

pub record Promise (t : Table) (r : Planning) : Type 0 where
  -- the answer is the planner's, of the checks of the table and the choice
  pub answer : r ≡ plan_of t
  -- of an accepted table the number is 0 exactly if some order is correct
  pub exists : Accepted t → (planned_number r.answer ≡ 0) ↔ CorrectOrder t
  -- with 0 the order passes check 6 and is correct
  pub right : planned_number r.answer ≡ 0 → (is_order t r.order ≡ true) × Correct t r.order
  -- with 7 no order that passes check 6 is correct, and the word is that of the rows left by the choice
  pub none : planned_number r.answer ≡ 7 → (o : List ℕ) → is_order t o ≡ true → Correct t o → ⊥
  pub left : planned_number r.answer ≡ 7 → rows_left r.answer ≡ word (choice t).left

-- no refusal has the number 0 or 7
pub refusal_number_lem : (r : Refusal) → (refusal_number r ≡ 0 → ⊥) × (refusal_number r ≡ 7 → ⊥)
unfolding refusal_number
refusal_number_lem Length = (λ e. omega arith, λ e. omega arith)
refusal_number_lem Malformed = (λ e. omega arith, λ e. omega arith)
refusal_number_lem RowCount = (λ e. omega arith, λ e. omega arith)
refusal_number_lem Speeds = (λ e. omega arith, λ e. omega arith)
refusal_number_lem RowLimits = (λ e. omega arith, λ e. omega arith)
refusal_number_lem NotAnOrder = (λ e. omega arith, λ e. omega arith)
refusal_number_lem ClockOver = (λ e. omega arith, λ e. omega arith)
refusal_number_lem Unsound = (λ e. omega arith, λ e. omega arith)
refusal_number_lem NoRoom = (λ e. omega arith, λ e. omega arith)
refusal_number_lem Loading = (λ e. omega arith, λ e. omega arith)
refusal_number_lem Promised = (λ e. omega arith, λ e. omega arith)
refusal_number_lem NotLower = (λ e. omega arith, λ e. omega arith)
refusal_number_lem ReleasedLater = (λ e. omega arith, λ e. omega arith)
refusal_number_lem FollowsLow = (λ e. omega arith, λ e. omega arith)
refusal_number_lem NotCorrect = (λ e. omega arith, λ e. omega arith)
refusal_number_lem RowOpen = (λ e. omega arith, λ e. omega arith)
refusal_number_lem ReleasedBefore = (λ e. omega arith, λ e. omega arith)
refusal_number_lem TrialsOver = (λ e. omega arith, λ e. omega arith)
refusal_number_lem TooManyRows = (λ e. omega arith, λ e. omega arith)

-- some row of a list
some_row : {P : Type 0} (l : List ℕ) → (length l ≡ 0 → ⊥) → ((x : ℕ) → In x l → P) → P
some_row [] n h = absurd (n refl)
some_row (x ∷ l) n h = h x (in_head x l)

-- an accepted table: what the choice makes of it
chosen : (t : Table) → Accepted t → Promise t (plan_from (choice t))
unfolding plan_of planned_number rows_left
chosen t accepted =
    by_eqb (length (choice t).left) 0
    (λ e q. let none = empty (choice t).left q in
    rw e (record {
      answer = rw (accepted, e);
      exists = λ _. (
        λ _. record {
          order = padded (choice t).placed;
          passes = choice_order t accepted none;
          correct = choice_correct t accepted none;
        },
        λ _. refl,
      );
      right = λ _. (choice_order t accepted none, choice_correct t accepted none);
      none = λ z. absurd (omega arith);
      left = λ z. absurd (omega arith);
    }))
    (λ e q. rw e (record {
      answer = rw (accepted, e);
      exists = λ _. (
        λ z. absurd (omega arith),
        λ o. absurd (some_row (choice t).left q
            (λ x i. choice_none t accepted x i o.order o.passes o.correct)),
      );
      right = λ z. absurd (omega arith);
      none = λ _ o p c. some_row (choice t).left q (λ x i. choice_none t accepted x i o p c);
      left = λ _. refl;
    }))

-- a refused table
refused : (t : Table) (why : Refusal) → check_table t ≡ Refused why → Promise t (plan_checked (Refused why) t)
unfolding plan_of planned_number rows_left
refused t why e =
    record {
      answer = rw e;
      exists = λ a. let z : ◌≡◌ {A = ℕ} 0 1 = cc in absurd (omega arith);
      right = λ z. absurd ((refusal_number_lem why).0 z);
      none = λ z. absurd ((refusal_number_lem why).1 z);
      left = λ z. absurd ((refusal_number_lem why).1 z);
    }

checked : (t : Table) (c : Check) → check_table t ≡ c → Promise t (plan_checked c t)
checked t (Ok tt) e = chosen t e
checked t (Err why) e = refused t why e

-- the planner's answer keeps the promise
promise : (t : Table) → Promise t (plan_of t)
unfolding plan_of
promise t = checked t (check_table t) refl

-- and so does whatever equals it
pub promised : (t : Table) (r : Planning) → r ≡ plan_of t → Promise t r
promised t r e = rw e (promise t)
