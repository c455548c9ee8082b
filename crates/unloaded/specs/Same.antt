-- A table with K = 0 whose r and w are all 0: what the rules say of it is what they said before jobs could load. That table is one of before for `without`,
-- so that all theorems of the crate unwaited hold of it: here they are for what the calls answer, for what a correct order is and for runs.
use Rattle.std.specs.Prelude.{ℕ, List, ◌↔◌, true, ◌≡◌, refl}
use Rattle.std.proofs.Common.{arith}
use Rattle.rules.specs.declared.Table.{Table}
use Rattle.rules.specs.declared.Sought.{Sought}
use Rattle.rules.specs.Calls.{Call, tell_all}
use Rattle.rules.specs.Choice.{plan_of}
use Rattle.rules.specs.Correct.{Correct}
use Rattle.rules.specs.Judge.{judge_of}
use Rattle.rules.specs.Lists.{all_zero}
use Rattle.rules.specs.Need.{work_slots}
use Rattle.rules.specs.Rows.{need_of, work_of}
use Rattle.rules.specs.Slots.{State, after}
use Rattle.rules.specs.Worst.{slack}
use Rattle.texts.specs.Reports.{report_of}
use Rattle.searches.specs.Speeds.{search_of}
use Rattle.record.specs.declared.Run.{Run}
use Rattle.record.specs.Records.{is_sound, fresh_of, coming_slot, one_slot, forward_over}
use Rattle.theory.specs.Cells.{brought_all}
use Rattle.unwaited.specs.OldRecords as Records
use Rattle.unwaited.specs.OldTexts as Texts
use Rattle.unwaited.proofs.Same as Since
use Rattle.unwaited.proofs.SameAnswers as SinceAnswers
use Rattle.unwaited.proofs.SameRecords as SinceRecords
use Rattle.unwaited.proofs.SameTexts as SinceTexts
use Rattle.unwaited.specs.Unwaited as Then
use Rattle.unwaited.specs.Unwaited.{Agrees, Before, CorrectThen}
use Rattle.unloaded.specs.Unloaded.{need, without}

-- with K = 0, needs and what slots bring are those without loading, and check 11 passes (rules 1.8, 1.10, 2.14, 5.8)
agrees : Agrees without 0
unfolding work_slots need
agrees = record { need = λ c s. omega arith; brought = λ u v. brought_all 0 u v (omega arith); fits = refl }

module _ (t : Table) (none : t.loading ≡ 0) (nothing : all_zero t.promised ≡ true) (free : all_zero t.follows ≡ true) where
  pub before : Before without t
  before = record { loads = rw none agrees; none = λ _. nothing; free = free }

  pub need_same : (i : ℕ) → need_of t i ≡ need (work_of t i) t.normal
  need_same = Since.need_same without t before t.normal

  module _ (o : List ℕ) where
    pub after_same : (σ : ℕ → ℕ) (k : ℕ) → after t o σ k ≡ Then.after without t o σ k
    after_same = Since.after_same without t before o

    pub calls_same : (cs : List Call) (s : State) → tell_all t o cs s ≡ Then.tell_all without t o cs s
    calls_same = Since.calls_same without t before o

    pub correct_same : Correct t o ↔ CorrectThen without t o
    correct_same = Since.correct_same without t before o

    pub slack_same : (i : ℕ) → slack t o i ≡ Then.slack without t o i
    slack_same = Since.slack_same without t before o

    pub verdict_same : judge_of t o ≡ Then.judge_of without t o
    verdict_same = SinceAnswers.verdict_same without t before o

    pub report_same : (lent : List ℕ) → report_of t o lent ≡ Texts.report_of without t o lent
    report_same = SinceTexts.report_same without t before o

    pub fresh_same : fresh_of t o ≡ Records.fresh_of without t o
    fresh_same = SinceRecords.fresh_same without t before o

  pub plan_same : plan_of t ≡ Then.plan_of without t
  plan_same = SinceAnswers.plan_same without t before

  pub search_same : (f : Sought) → search_of f t ≡ Then.search_of without f t
  search_same f = SinceAnswers.search_same without f t before

-- a record of such a table, sound or not
module _ (r : Run) (none : r.table.loading ≡ 0) (nothing : all_zero r.table.promised ≡ true) (free : all_zero r.table.follows ≡ true) where
  abbrev held : Before without r.table
  held = before r.table none nothing free

  pub sound_same : is_sound r ≡ Records.is_sound without r
  sound_same = SinceRecords.sound_same without r held

  pub coming_same : coming_slot r ≡ Records.coming_slot without r
  coming_same = SinceRecords.coming_same without r held

  pub one_same : (v : ℕ) → one_slot r v ≡ Records.one_slot without r v
  one_same = SinceRecords.one_same without r held

  pub forward_same : (vs : List ℕ) → forward_over r vs ≡ Records.forward_over without r vs
  forward_same = SinceRecords.forward_same without r held
