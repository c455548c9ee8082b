-- What the judge promises of its answer for a table and sixty-four numbers.
use Rattle.std.specs.Prelude.{ℕ, true, false, ◌≡◌, List, ◌↔◌, ℤ, pos}
use Rattle.std.proofs.Common.{sym, subst}
use Rattle.std.specs.Int.Signed.{lt_z}
use Rattle.rules.specs.declared.Table.{Table}
use Rattle.rules.specs.declared.Refusal.{Refusal}
use Rattle.rules.specs.Verdicts.{Judgement}
use Rattle.rules.specs.Verdicts as Verdicts
use Rattle.rules.specs.Checks.{Passed, Refused}
use Rattle.rules.specs.Orders.{check_both}
use Rattle.rules.specs.Correct.{Correct}
use Rattle.rules.specs.Worst.{slack}
use Rattle.rules.specs.Judge.{tightest, verdict_at, judge_of}
use Rattle.rules.specs.Numbers.{verdict_yes}
use Rattle.theory.specs.Tests.{by_bool, not_both}
use Rattle.theory.specs.Facts.{facts, row_is, is_row_lem, in_rows}
use Rattle.theory.proofs.Results.{verdict}
use Rattle.judge.specs.Checked.{checked}
use Rattle.judge.specs.Late.{late_tightest, tightest_row}

-- the answer is the definition's, and where no check refuses, yes is said of an order just if it is correct over all courses of speed
-- (rules 3.4 and 7.2)
pub record Judged (t : Table) (o : List ℕ) (v : Judgement) : Type 0 where
  pub answer : v ≡ judge_of t o
  pub exact : check_both t o ≡ Passed → ((verdict_yes v ≡ true) ↔ Correct t o)

pub judge_passed : (t : Table) (o : List ℕ) → check_both t o ≡ Passed → judge_of t o ≡ verdict_at t o (tightest t o)
unfolding judge_of
judge_passed t o p = rw p

pub judge_refused : (t : Table) (o : List ℕ) (r : Refusal) → check_both t o ≡ Refused r → judge_of t o ≡ Verdicts.Refused r
unfolding judge_of
judge_refused t o r p = rw p

-- the sign of the least slack decides
module _ (t : Table) (o : List ℕ) (row : ℕ) (z : ℤ) (i : row ≡ tightest t o) (e : z ≡ slack t o (tightest t o)) where
  pub verdict_no : lt_z z (pos 0) ≡ true → Verdicts.Incorrect row z ≡ verdict_at t o (tightest t o)
  verdict_no h = rw (i, e, rw e at h)

  pub verdict_yes_lem : lt_z z (pos 0) ≡ false → Verdicts.Correct row z ≡ verdict_at t o (tightest t o)
  verdict_yes_lem h = rw (i, e, rw e at h)

yes_late : (t : Table) (o : List ℕ) (i : ℕ) → lt_z (slack t o i) (pos 0) ≡ true → verdict_yes (verdict_at t o i) ≡ false
unfolding verdict_yes
yes_late t o i e = rw e

yes_met : (t : Table) (o : List ℕ) (i : ℕ) → lt_z (slack t o i) (pos 0) ≡ false → verdict_yes (verdict_at t o i) ≡ true
unfolding verdict_yes
yes_met t o i e = rw e

-- where no check refuses, yes is said of an order just if it is correct
pub exactly : (t : Table) (o : List ℕ) → check_both t o ≡ Passed → (verdict_yes (judge_of t o) ≡ true) ↔ Correct t o
exactly t o p =
    let c = checked t o p in
    let v = verdict t c.accepted o c.order in
    let r = tightest_row t o (facts t c.accepted).some in (
      λ y. v.1 (λ i j. by_bool (lt_z (slack t o i) (pos 0))
          (λ e. absurd (not_both (verdict_yes (verdict_at t o (tightest t o))) (rw (judge_passed t o p) at y)
          (yes_late t o (tightest t o) (late_tightest t o i (in_rows t i (row_is t i j)) e))))
          (λ e. e)),
      λ k. rw (judge_passed t o p) (yes_met t o (tightest t o) (v.0 k (tightest t o) (is_row_lem t (tightest t o) r))),
    )

pub promised : (t : Table) (o : List ℕ) (v : Judgement) → v ≡ judge_of t o → Judged t o v
promised t o v e = record { answer = e; exact = λ p. subst (λ (w : Judgement). (verdict_yes w ≡ true) ↔ Correct t o) (sym e) (exactly t o p) }
