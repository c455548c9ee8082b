-- A table whose r and w are all 0: allowance, step, run, calls, correct orders, worst finish, slack, the planner's answer, the verdict and both searches
-- are those of the rules from before r (rule 20.2). It is a table of that time, so that all theorems of the crate unwaited hold of it.
use Rattle.std.specs.Prelude.{ℕ, true, List, ◌↔◌, ◌≡◌, eqb}
use Rattle.rules.specs.declared.Row.{Row}
use Rattle.rules.specs.declared.Table.{Table}
use Rattle.rules.specs.declared.Sought.{Sought}
use Rattle.rules.specs.Calls.{Call, tell_all}
use Rattle.rules.specs.Choice.{plan_of}
use Rattle.rules.specs.Correct.{Correct}
use Rattle.rules.specs.Judge.{judge_of, table_of}
use Rattle.rules.specs.Lists.{all, all_zero}
use Rattle.rules.specs.Orders.{check_both}
use Rattle.rules.specs.Rows.{need_for}
use Rattle.rules.specs.Running.{run_slot, run_after, RunServes}
use Rattle.rules.specs.Slots.{State, allowance, is_over, slot, after}
use Rattle.rules.specs.Tables.{check_table}
use Rattle.rules.specs.Worst.{worst_finish, slack}
use Rattle.searches.specs.Speeds.{search_of}
use Rattle.unwaited.proofs.Same as Since
use Rattle.unwaited.proofs.Same.{loaded, column_none}
use Rattle.unwaited.proofs.SameAnswers as Answers
use Rattle.unwaited.specs.Unwaited as Then
use Rattle.unwaited.specs.Unwaited.{Before, CorrectThen, RunServesThen}
use Rattle.unpromised.specs.Unpromised.{with_loading}

-- a table whose r and w are all 0 is one of that time, and so is that of a lent list of rows whose r and w are 0 (rule 7.1)
pub own : (t : Table) → all_zero t.promised ≡ true → all_zero t.follows ≡ true → Before with_loading t
own t none free = loaded _ t (λ _. none) free

pub lent : (rows : List Row) (n g k : ℕ) → all (λ r. eqb r.promised 0) rows ≡ true → all (λ r. eqb r.follows 0) rows ≡ true
    → Before with_loading (table_of rows n g k)
unfolding table_of
lent rows n g k none free = own (table_of rows n g k) (column_none (λ r. r.promised) rows none) (column_none (λ r. r.follows) rows free)

module _ (t : Table) (none : all_zero t.promised ≡ true) (free : all_zero t.follows ≡ true) where
  abbrev then : Before with_loading t
  then = own t none free

  -- need and allowance (rules 1.8, 1.9), and when a row is over
  pub need_same : (s i : ℕ) → need_for t s i ≡ Then.need_for with_loading t s i
  need_same = Since.need_same with_loading t then

  pub allowance_same : (i : ℕ) → allowance t i ≡ Then.allowance with_loading t i
  allowance_same = Since.allowance_same with_loading t then

  pub over_same : (i g u : ℕ) → is_over t i g u ≡ Then.is_over with_loading t i g u
  over_same = Since.over_same with_loading t then

  module _ (o : List ℕ) where
    -- the step and the runs (rules 3.4, 9.6, 19.1)
    pub slot_same : (v : ℕ) (s : State) → slot t o v s ≡ Then.slot with_loading t o v s
    slot_same = Since.slot_same with_loading t then o

    pub step_same : (v : ℕ) (s : State) → run_slot t o v s ≡ Then.run_slot with_loading t o v s
    step_same = Since.step_same with_loading t then o

    pub after_same : (σ : ℕ → ℕ) (k : ℕ) → after t o σ k ≡ Then.after with_loading t o σ k
    after_same = Since.after_same with_loading t then o

    pub run_same : (σ : ℕ → ℕ) (k : ℕ) → run_after t o σ k ≡ Then.run_after with_loading t o σ k
    run_same = Since.run_same with_loading t then o

    -- correct orders, and orders that serve in runs (rules 3.4, 19.5)
    pub correct_same : Correct t o ↔ CorrectThen with_loading t o
    correct_same = Since.correct_same with_loading t then o

    pub serves_same : RunServes t o ↔ RunServesThen with_loading t o
    serves_same = Since.serves_same with_loading t then o

    -- the calls on paper (rules 9.7, 9.8)
    pub calls_same : (cs : List Call) (s : State) → tell_all t o cs s ≡ Then.tell_all with_loading t o cs s
    calls_same = Since.calls_same with_loading t then o

    -- worst finish and slack (rules 3.6, 3.7)
    pub finish_same : (i : ℕ) → worst_finish t o i ≡ Then.worst_finish with_loading t o i
    finish_same = Since.finish_same with_loading t then o

    pub slack_same : (i : ℕ) → slack t o i ≡ Then.slack with_loading t o i
    slack_same = Since.slack_same with_loading t then o

  -- the checks of a table, and of an order of it (rules 11.3, 11.4)
  pub check_same : check_table t ≡ Then.check_table with_loading t
  check_same = Since.check_same with_loading t then

  pub both_same : (o : List ℕ) → check_both t o ≡ Then.check_both with_loading t o
  both_same = Since.both_same with_loading t then

  -- the planner (rule 4.10), the judge (rules 7.2, 7.3) and both searches (rule 18.3)
  pub plan_same : plan_of t ≡ Then.plan_of with_loading t
  plan_same = Answers.plan_same with_loading t then

  pub verdict_same : (o : List ℕ) → judge_of t o ≡ Then.judge_of with_loading t o
  verdict_same = Answers.verdict_same with_loading t then

  pub search_same : (f : Sought) → search_of f t ≡ Then.search_of with_loading f t
  search_same f = Answers.search_same with_loading f t then
