-- The planner's conclusion, from what the planner promises.
use Rattle.std.specs.Prelude.{ℕ, List, [], ◌∷◌, true, pos, nat_abs, Ok, Err}
use Rattle.std.proofs.Math.Logic.{inl, inr, ⊎_elim}
use Rattle.std.proofs.Math.Path.{◌≡◌, refl}
use Rattle.std.proofs.Common.{ap, arith}
use Rattle.std.proofs.Math.ListN.{length}
use Rattle.rules.specs.declared.Table.{Table}
use Rattle.rules.specs.Checks.{Check, Passed}
use Rattle.rules.specs.Choice.{choice, plan_from, plan_checked, plan_of}
use Rattle.rules.proofs.Meaning.{correct_serves, serves_correct}
use Rattle.rules.specs.Numbers.{planned_number, rows_left}
use Rattle.rules.specs.Rows.{at, is_row}
use Rattle.rules.specs.Tables.{check_table, Accepted}
use Rattle.rules.specs.Worst.{slack}
use Rattle.planner.specs.Promise.{refusal_number_lem, promised}
use Rattle.theory.proofs.Results.{verdict, natural_slack}
use Rattle.theory.specs.Tests.{by_eqb}
use Rattle.conclusions.specs.Conclusions.{Planner}
use Rattle.conclusions.specs.Ordered.{order_plain}

none : (l : List ℕ) → length l ≡ 0 → l ≡ []
none [] e = refl
none (x ∷ l) e = absurd (omega arith)

-- what the planner answers, as numbers
abbrev Answered : Table → Check → Type 0
Answered t c = Planner t (planned_number (plan_checked c t).answer) (plan_checked c t).order (rows_left (plan_checked c t).answer)

module _ (t : Table) where
  chosen : check_table t ≡ Passed → Answered t Passed
  unfolding plan_of planned_number rows_left
  chosen e =
      let p = promised t (plan_from (choice t)) (rw e) in
      by_eqb (length (choice t).left) 0
      (λ q z. rw q (record {
        either = λ _. inl refl;
        exists = λ _ o k s. refl;
        accepted = λ _. e;
        made = λ n. (refl, (rw q at (p.right (rw q))).0, correct_serves t _ (rw q at (p.right (rw q))).1, refl);
        order_plain = λ n. order_plain t e _ (at t.follows) (λ i r. refl) (rw q at (p.right (rw q))).0;
        none = λ n. absurd (omega arith);
        refused = λ n m. absurd (n refl);
      }))
      (λ q z. rw q (record {
        either = λ _. inr refl;
        exists = λ a o k s. absurd (p.none (rw q) o k (serves_correct t o s));
        accepted = λ _. e;
        made = λ n. absurd (omega arith);
        order_plain = λ n. absurd (omega arith);
        none = λ n. (λ o k s. p.none (rw q) o k (serves_correct t o s), refl, rw q at (p.left (rw q)), λ l. z (ap length l));
        refused = λ n m. absurd (m refl);
      }))

  checked : (c : Check) → check_table t ≡ c → Answered t c
  unfolding planned_number rows_left
  checked (Ok tt) e = chosen e
  checked (Err why) e =
      let r = refusal_number_lem why in
      record {
        either = λ a. let z : ◌≡◌ {A = ℕ} 0 1 = cc in absurd (omega arith);
        exists = λ a o k s. let z : ◌≡◌ {A = ℕ} 0 1 = cc in absurd (omega arith);
        accepted = ⊎_elim (λ n. absurd (r.0 n)) (λ n. absurd (r.1 n));
        made = λ n. absurd (r.0 n);
        order_plain = λ n. absurd (r.0 n);
        none = λ n. absurd (r.1 n);
        refused = λ n m. (refl, refl);
      }

  pub planned : Planner t (planned_number (plan_of t).answer) (plan_of t).order (rows_left (plan_of t).answer)
  unfolding plan_of
  planned = checked (check_table t) refl

  -- What the program writes as a row's slack, a natural number, is its slack.
  pub program_slack : Accepted t → planned_number (plan_of t).answer ≡ 0 → (i : ℕ) → is_row t i ≡ true
      → pos (nat_abs (slack t (plan_of t).order i)) ≡ slack t (plan_of t).order i
  program_slack accepted n i r =
      let o = (plan_of t).order in
      let m = planned.made n in
      natural_slack t accepted o m.1 i ((verdict t accepted o m.1).0 (serves_correct t o m.2) i r)
