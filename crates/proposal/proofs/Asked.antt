-- What asking proposes is refused for the record alone (rule 22.6): its table is accepted, and its order passes check 6 and is correct.
use Rattle.std.specs.Prelude.{ℕ, true, List, ◌≡◌, Ok, Err}
use Rattle.std.proofs.Common.{inl, inr, arith}
use Rattle.std.proofs.Math.Path.{refl}
use Rattle.rules.specs.declared.Table.{Table}
use Rattle.rules.specs.Plans.{Planned}
use Rattle.rules.specs.declared.Planning.{Planning}
use Rattle.rules.specs.declared.Plan.TheVariants as Plan
use Rattle.rules.specs.Checks.{Check, Passed}
use Rattle.record.specs.declared.Run.{Run}
use Rattle.rules.specs.Choice.{plan_of}
use Rattle.rules.specs.Judge.{judge_of}
use Rattle.rules.specs.Numbers.{refusal_number, check_number, planned_number, rows_left, verdict_yes}
use Rattle.rules.specs.Orders.{check_both}
use Rattle.rules.specs.Tables.{check_table, Accepted}
use Rattle.texts.specs.Sheets.{read_of}
use Rattle.theory.specs.Facts.{both_pass}
use Rattle.theory.specs.Tests.{by_bool}
use Rattle.planner.specs.Promise.{refusal_number_lem, promised}
use Rattle.judge.specs.Promise.{exactly}
use Rattle.record.specs.Records.{state_of, is_sound}
use Rattle.proposal.specs.Proposals.{ask_planned, ask_read, ask_of, all_closed, released_from, check_turn, check_proposal}
use Rattle.proposal.specs.Commits.{check_commit, commit_of}
use Rattle.proposal.proofs.Passing.{by_check}
use Rattle.proposal.specs.Asked.{Good, Answered, ForTheRecord}

-- a table for which the planner makes an order is accepted
planned_accepted : (t : Table) → planned_number (plan_of t).answer ≡ 0 → Accepted t
unfolding plan_of planned_number
planned_accepted t z = by_check (check_table t) (λ e. e) (λ w e. absurd ((refusal_number_lem w).0 (rw e at z)))

planned_good : (t : Table) (a : Planned) → (plan_of t).answer ≡ a → planned_number (ask_planned a t (plan_of t).order).answer ≡ 0
    → Good (ask_planned a t (plan_of t).order).table (ask_planned a t (plan_of t).order).order
unfolding planned_number
planned_good t (Ok Plan.Ordered) e z =
    let zero : planned_number (plan_of t).answer ≡ 0 = rw e in
    let p = (promised t (plan_of t) refl).right zero in
    record { accepted = planned_accepted t zero; passes = p.0; correct = p.1 }
planned_good t (Ok (Plan.NoOrder left)) e z = absurd (omega arith)
planned_good t (Err w) e z = absurd ((refusal_number_lem w).0 z)

read_good : (c : Check) (t : Table) → planned_number (ask_read c t).answer ≡ 0 → Good (ask_read c t).table (ask_read c t).order
unfolding planned_number
read_good (Ok tt) t z = planned_good t (plan_of t).answer refl z
read_good (Err w) t z = absurd ((refusal_number_lem w).0 z)

pub asked_good : (bytes : List ℕ) → planned_number (ask_of bytes).answer ≡ 0 → Good (ask_of bytes).table (ask_of bytes).order
unfolding ask_of
asked_good bytes z = read_good (read_of bytes).check (read_of bytes).table z

module _ (bytes : List ℕ) where
  abbrev p : Planning
  p = plan_of (read_of bytes).table

  planned_answered : (read_of bytes).check ≡ Passed → (a : Planned) → a ≡ p.answer → Answered bytes (ask_planned a (read_of bytes).table p.order)
  unfolding planned_number rows_left check_number
  planned_answered c (Ok Plan.Ordered) e = record { reader = λ n. absurd (n (rw c)); planner = λ _. e; made = λ z. refl; read = λ z. refl; none = λ n. absurd (n refl); left = λ n. refl }
  planned_answered c (Ok (Plan.NoOrder left)) e =
      record {
        reader = λ n. absurd (n (rw c));
        planner = λ _. e;
        made = λ z. absurd (omega arith);
        read = λ z. absurd (omega arith);
        none = λ n. (refl, refl);
        left = λ n. absurd (n refl);
      }
  planned_answered c (Err w) e =
      record {
        reader = λ n. absurd (n (rw c));
        planner = λ _. e;
        made = λ z. absurd ((refusal_number_lem w).0 z);
        read = λ z. absurd ((refusal_number_lem w).0 z);
        none = λ n. (refl, refl);
        left = λ n. refl;
      }

  read_answered : (c : Check) → (read_of bytes).check ≡ c → Answered bytes (ask_read c (read_of bytes).table)
  unfolding planned_number rows_left check_number
  read_answered (Ok tt) e = planned_answered e p.answer refl
  read_answered (Err w) e =
      record {
        reader = λ n. rw e;
        planner = λ z. absurd ((refusal_number_lem w).0 (rw e at z));
        made = λ z. absurd ((refusal_number_lem w).0 z);
        read = λ z. absurd ((refusal_number_lem w).0 z);
        none = λ n. (refl, refl);
        left = λ n. refl;
      }

  pub answered : Answered bytes (ask_of bytes)
  unfolding ask_of
  answered = read_answered (read_of bytes).check refl

pub good_commits : (t : Table) (o : List ℕ) → Good t o → (r : Run) → ForTheRecord (check_number (commit_of r t o).check)
unfolding commit_of check_commit check_proposal check_turn check_number refusal_number
good_commits t o g r =
    let both : check_both t o ≡ Passed = both_pass t o g.accepted g.passes in
    let yes : verdict_yes (judge_of t o) ≡ true = (exactly t o both).1 g.correct in
    by_bool (is_sound r)
    (λ a. by_bool (all_closed r.table (state_of r))
    (λ b. by_bool (released_from t r.clock)
    (λ c. rw (a, both, yes, b, c) (inl refl))
    (λ c. rw (a, both, yes, b, c) (inr (inr (inr refl)))))
    (λ b. rw (a, both, yes, b) (inr (inr (inl refl)))))
    (λ a. rw a (inr (inl refl)))

pub asked_commits : (bytes : List ℕ) → planned_number (ask_of bytes).answer ≡ 0 → (r : Run)
    → ForTheRecord (check_number (commit_of r (ask_of bytes).table (ask_of bytes).order).check)
asked_commits bytes z r = good_commits (ask_of bytes).table (ask_of bytes).order (asked_good bytes z) r
