-- What a planner at a ceiling may conclude, from what it answers without one.
use Rattle.std.specs.Prelude.{ℕ, ◌≤◌, ◌<◌, ◌≡◌, List, Ok, Err}
use Rattle.std.proofs.Math.Logic.{⊎_elim}
use Rattle.std.proofs.Math.Path.{refl, ap}
use Rattle.std.proofs.Common.{sym, ◌∙◌, arith}
use Rattle.rules.specs.declared.Table.{Table}
use Rattle.rules.specs.Checks.{Check, Passed}
use Rattle.rules.specs.Choice.{plan_checked, plan_of}
use Rattle.rules.specs.Numbers.{refusal_number, check_number, planned_number, rows_left}
use Rattle.rules.specs.Tables.{check_table, Accepted}
use Rattle.ceiling.specs.declared.Counted.{Counted}
use Rattle.ceiling.specs.Ceiling.{trial_count, over_ceiling, plan_within}
use Rattle.ceiling.proofs.Bounds.{by_accepted, count_most, within_count, over_count, refused_count_lem}
use Rattle.theory.specs.Tests.{by_eqb, by-ltb}
use Rattle.conclusions.specs.Conclusions.{PlannerWithin}
use Rattle.conclusions.specs.Planned.{planned}
use Rattle.conclusions.specs.Refusals.{table_says}

module _ (t : Table) where
  -- no number of a table's checks is 19, and so none of the planner's without a ceiling
  not_nineteen : planned_number (plan_of t).answer ≡ 19 → ⊥
  unfolding plan_of planned_number check_number
  not_nineteen z = by_accepted t
      (λ a. ⊎_elim (λ w. omega arith) (λ w. omega arith) ((planned t).either a))
      (λ n. go (check_table t) refl n z)
    where
      go : (k : Check) → check_table t ≡ k → (k ≡ Passed → ⊥) → planned_number (plan_checked k t).answer ≡ 19 → ⊥
      go (Ok tt) e n y = n refl
      go (Err r) e n y =
          let k : check_number (check_table t) ≡ 19 = ap check_number e ∙ y in
          ⊎_elim (λ w. omega arith) (⊎_elim (λ w. omega (arith, w.1)) (λ w. omega (arith, w.1))) (table_says t).known

  -- what is answered
  abbrev Told : ℕ → Counted → Type 0
  Told c r = PlannerWithin t c (planned_number r.planning.answer) r.planning.order (rows_left r.planning.answer) r.trials

  module _ (c : ℕ) where
    over_told : Accepted t → c < trial_count t → Told c (over_ceiling c)
    unfolding planned_number rows_left refusal_number
    over_told a h =
        record {
          nineteen = (λ _. (a, h), λ _. refl);
          over = λ _. (refl, refl, refl);
          planner = λ n. absurd (n refl);
          counted = ⊎_elim (λ z. absurd (omega arith)) (λ z. absurd (omega arith));
          refused = λ n. absurd (n a);
          within = omega arith;
          bounded = omega (arith, count_most t);
          most = count_most t;
          again = λ n. absurd (n refl);
        }

    within_told : Accepted t → trial_count t ≤ c → Told c (record { planning = plan_of t; trials = trial_count t })
    within_told a h =
        record {
          nineteen = (λ z. absurd (not_nineteen z), λ p. absurd (omega (arith, p.1)));
          over = λ z. absurd (not_nineteen z);
          planner = λ _. planned t;
          counted = λ _. refl;
          refused = λ n. absurd (n a);
          within = h;
          bounded = count_most t;
          most = count_most t;
          again = λ _ d l. rw (within_count t a d (omega arith)) (refl, refl, refl, refl);
        }

    refused_told : (Accepted t → ⊥) → Told c (record { planning = plan_of t; trials = 0 })
    refused_told n =
        record {
          nineteen = (λ z. absurd (not_nineteen z), λ p. absurd (n p.0));
          over = λ z. absurd (not_nineteen z);
          planner = λ _. planned t;
          counted = λ z. absurd (n ((planned t).accepted z));
          refused = λ _. refl;
          within = omega arith;
          bounded = omega arith;
          most = count_most t;
          again = λ _ d l. rw (refused_count_lem t n d) (refl, refl, refl, refl);
        }

    pub planned_within : Told c (plan_within c t)
    planned_within =
        by_accepted t
        (λ a. by-ltb c (trial_count t)
        (λ _ h. rw (over_count t a c h) (over_told a h))
        (λ _ h. rw (within_count t a c h) (within_told a h)))
        (λ n. rw (refused_count_lem t n c) (refused_told n))

-- whatever meets the conclusion is what the archive answers
pub within_exact : (t : Table) (c number : ℕ) (order : List ℕ) (left trials : ℕ) → PlannerWithin t c number order left trials
    → (number ≡ planned_number (plan_within c t).planning.answer) × (order ≡ (plan_within c t).planning.order)
    × (left ≡ rows_left (plan_within c t).planning.answer) × (trials ≡ (plan_within c t).trials)
unfolding planned_number rows_left refusal_number
within_exact t c number order left trials s =
    by_eqb number 19
    (λ _ e. let g = s.nineteen.0 e in rw (over_count t g.0 c g.1) (e, (s.over e).0, (s.over e).1, (s.over e).2))
    (λ _ n. let a = s.again n c (omega arith) in (sym a.0, sym a.1, sym a.2, sym a.3))
