-- A table whose w is all 0: the planner's answer, the verdict and both searches are those of the rules from before w (rule 21.5); and if its r is all 0 as
-- well, or its K too, those from before these came.
use Prim.Native.Nat.{ℕ, zero, suc}
use Rattle.std.specs.Prelude.{Bool, true, cond, ◌≡◌, Ok, Err}
use Rattle.std.proofs.Math.Bool.{not}
use mathlib.Core.List.{List, [], ◌∷◌}
use Rattle.std.proofs.Math.Path.{refl, ap}
use Rattle.std.proofs.Common.{◌∙◌, arith}
use borrow.Author.Tests.{ne_eqb}
use Rattle.std.proofs.Math.Dec.{eqb}
use Rattle.std.specs.Int.Signed.{lt_z}
use Rattle.rules.specs.declared.Table.{Table}
use Rattle.rules.specs.declared.Planning.{Planning}
use Rattle.rules.specs.declared.Sought.{Sought}
use Rattle.rules.specs.declared.Sought.TheVariants.{Degraded, Normal}
use Rattle.rules.specs.Checks.{Check}
use Rattle.rules.specs.Choice.{lowest, unfollowed, tried, passes, taker, fill, choice, plan_checked, plan_of, sequence}
use Rattle.rules.specs.Judge.{least_slack, tightest, judge_checked, judge_of}
use Rattle.rules.specs.Lists.{all, count, keep, erase}
use Rattle.rules.specs.Numbers.{planned_number}
use Rattle.rules.specs.Rows.{rows_of, follows_of}
use Rattle.searches.specs.Speeds.{at_speed, speeds_of, makes_order, least_speed, search_checked, search_of}
use Rattle.theory.specs.Agree.{first_agree}
use Rattle.theory.proofs.Choosing.{same_sequence}
use Rattle.theory.specs.Counts.{In, count_erase_same, count_erase_other}
use Rattle.theory.specs.Facts.{in_all, count_zero}
use Rattle.theory.specs.Tests.{by_eqb, and_left, and_right}
use Rattle.unwaited.specs.Unwaited as Then
use Rattle.unwaited.specs.Unwaited.{Past, Before}
use Rattle.unwaited.proofs.Same.{none_follows, slack_same, meets_same, check_same, both_same}

-- what passes the test altogether is kept altogether
keep_all : (p : ℕ → Bool) (l : List ℕ) → all p l ≡ true → keep p l ≡ l
keep_all p [] e = refl
keep_all p (x ∷ l) e = rw (and_left (p x) (all p l) e, keep_all p l (and_right (p x) (all p l) e))

-- what does not stand in a list does not stand in it with a number taken out
none_erased : (i : ℕ) (l : List ℕ) → count 0 l ≡ 0 → count 0 (erase i l) ≡ 0
none_erased i l z = by_eqb 0 i (λ _ e. rw (← e) (omega (arith, count_erase_same 0 l))) (λ _ e. omega (arith, count_erase_other 0 i l e))

module _ (p : Past) (t : Table) (b : Before p t) where
  -- the planner (rule 4.10): while rows alone are left, none is skipped (rule 4.11)
  tried_same : (left : List ℕ) → count 0 left ≡ 0 → tried t left ≡ left
  unfolding unfollowed
  tried_same left z =
      keep_all (unfollowed t left) left
      (in_all (unfollowed t left) left
      (λ i j. in_all (λ x. not (eqb (follows_of t x) i)) left
      (λ x _. rw (none_follows p t b x, ne_eqb 0 i (λ e. let m : In 0 left = rw e j in omega arith)))))

  passes_same : (left : List ℕ) (i : ℕ) → passes t left i ≡ Then.passes p t left i
  unfolding passes Then.passes
  passes_same left i = meets_same p t b (lowest left i) i

  taker_same : (left : List ℕ) → count 0 left ≡ 0 → taker t left ≡ Then.taker p t left
  unfolding taker Then.taker
  taker_same left z = rw (tried_same left z) (first_agree (passes t left) (Then.passes p t left) (passes_same left) left)

  fill_same : (k : ℕ) (left placed : List ℕ) → count 0 left ≡ 0 → fill t k left placed ≡ Then.fill p t k left placed
  unfolding fill Then.fill
  fill_same zero left placed z = refl
  fill_same (suc k) left placed z =
      let i = Then.taker p t left in
      rw (taker_same left z, fill_same k (erase i left) (i ∷ placed) (none_erased i left z))

  choice_same : choice t ≡ Then.choice p t
  unfolding choice Then.choice
  choice_same = fill_same t.n (sequence t) [] (same_sequence t 0 ∙ count_zero t.n)

  pub plan_same : plan_of t ≡ Then.plan_of p t
  unfolding plan_of Then.plan_of
  plan_same = rw (check_same p t b) (by_check (Then.check_table p t))
    where
      by_check : (c : Check) → plan_checked c t ≡ Then.plan_checked p c t
      by_check (Ok tt) = rw choice_same
      by_check (Err r) = refl

  -- the judge (rules 7.2, 7.3)
  least_same : (o : List ℕ) (j : ℕ) (is : List ℕ) → least_slack t o j is ≡ Then.least_slack p t o j is
  least_same o j [] = refl
  least_same o j (i ∷ is) =
      rw (slack_same p t b o i, slack_same p t b o j) (least_same o (cond (lt_z (Then.slack p t o i) (Then.slack p t o j)) i j) is)

  tightest_same : (o : List ℕ) → tightest t o ≡ Then.tightest p t o
  unfolding tightest Then.tightest
  tightest_same o = least_same o 1 (rows_of t)

  pub verdict_same : (o : List ℕ) → judge_of t o ≡ Then.judge_of p t o
  unfolding judge_of Then.judge_of
  verdict_same o = rw (both_same p t b o) (by_check (Then.check_both p t o))
    where
      by_check : (c : Check) → judge_checked c t o ≡ Then.judge_checked p c t o
      by_check (Ok tt) = rw (tightest_same o, slack_same p t b o (Then.tightest p t o))
      by_check (Err r) = refl

-- both searches (rule 18.3): a table at another speed is one of before too
module _ (p : Past) (f : Sought) (t : Table) (b : Before p t) where
  at_speed_lem : (f : Sought) (s : ℕ) → Before p (at_speed f t s)
  at_speed_lem Degraded s = record { loads = b.loads; none = b.none; free = b.free }
  at_speed_lem Normal s = record { loads = b.loads; none = b.none; free = b.free }

  planned_same : (s : ℕ) → plan_of (at_speed f t s) ≡ Then.plan_of p (at_speed f t s)
  planned_same s = plan_same p (at_speed f t s) (at_speed_lem f s)

  makes_same : (s : ℕ) → makes_order f t s ≡ Then.makes_order p f t s
  unfolding makes_order Then.makes_order
  makes_same s = ap (λ (x : Planning). eqb (planned_number x.answer) 0) (planned_same s)

  speed_same : least_speed f t ≡ Then.least_speed p f t
  unfolding least_speed Then.least_speed
  speed_same = first_agree (makes_order f t) (Then.makes_order p f t) makes_same (speeds_of f t)

  pub search_same : search_of f t ≡ Then.search_of p f t
  unfolding search_of Then.search_of
  search_same = rw (check_same p t b) (by_check (Then.check_table p t))
    where
      by_check : (c : Check) → search_checked c f t ≡ Then.search_checked p c f t
      by_check (Ok tt) = rw (speed_same, planned_same (Then.least_speed p f t))
      by_check (Err r) = refl
