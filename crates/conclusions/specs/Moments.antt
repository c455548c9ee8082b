-- Promised moments in plain terms: the first clock at which a row has its part in the run at exactly G, and the slack that counts from it.
use Rattle.std.specs.Prelude.{ℕ, ◌≤◌, true, cond, ◌≡◌, List}
use Rattle.std.proofs.Math.Path.{sym, ap}
use Rattle.std.proofs.Common.{subst, ◌∙◌}
use native.Mathlib.Omega.{arith}
use Rattle.std.proofs.Math.Dec.{leb}
use borrow.Author.Tests.{leb-true}
use Rattle.rules.specs.declared.Table.{Table}
use Rattle.rules.specs.Lists.{rows_to}
use Rattle.rules.specs.Orders.{is_arrangement, is_order}
use Rattle.rules.specs.Rows.{at, is_promised, promised_of}
use Rattle.rules.specs.Slots.{after}
use Rattle.rules.specs.Tables.{Accepted}
use Rattle.rules.specs.Worst.{worst_speed, horizon, worst_finish, promised_moment, slack}
use Rattle.theory.specs.Counts.{first_passes}
use Rattle.theory.specs.Facts.{Row, TableFacts, facts}
use Rattle.theory.proofs.Part.{part_row}
use Rattle.theory.specs.Part.{part_table}
use Rattle.theory.specs.Places.{placed}
use Rattle.theory.proofs.Promised.{part_of, is_part, part_known, moment_order, moment_first}
use Rattle.theory.specs.Promised.{latest}
use Rattle.theory.proofs.Promised as Promised
use Rattle.theory.specs.Tests.{by_bool, by-leb, by-ltb, not_both}
use Rattle.theory.proofs.Verdict.{finished}
use Rattle.conclusions.specs.Conclusions.{PartRun, slack_of}

-- the promised moment, in slots, and 0 of a row that is promised nothing
abbrev pub moment_of : Table → List ℕ → ℕ → ℕ
moment_of t o i = cond (is_promised t i) (promised_moment t o i) 0

-- a row has one first clock
pub one_moment : (t : Table) (o : List ℕ) (i m k : ℕ) → PartRun t o i m → PartRun t o i k → m ≡ k
one_moment t o i m k a b =
    by-ltb m k
    (λ _ h. absurd (omega (arith, a.has, b.before m h)))
    (λ _ h. by-ltb k m (λ _ l. absurd (omega (arith, b.has, a.before k l))) (λ _ l. omega arith))

module _ (t : Table) (accepted : Accepted t) (o : List ℕ) (order : is_order t o ≡ true) (i : ℕ) (r : Row t i) where
  f : TableFacts t
  f = facts t accepted

  -- a row that is promised a part: before the moment it has less, and at the moment it has the part
  module _ (x : is_promised t i ≡ true) where
    first_clock : (k : ℕ) → promised_of t i ≤ at (after t o (λ _. t.degraded) k).got i → promised_moment t o i ≤ k
    first_clock k =
        let q = placed t f o order i r in
        subst (λ (l : List ℕ). promised_of t i ≤ at (after t l (λ _. t.degraded) k).got i → promised_moment t l i ≤ k) (sym q.whole)
        (λ h. moment_first t f i r (part_of t i x) q.above q.below q.rows q.once q.stand k h)

    some : promised_moment t o i ≡ 0 → ⊥
    unfolding is_arrangement is_order
    some z =
        let p = part_table t i in
        let y = part_of t i x in
        omega (
          arith,
          moment_order t f i r y o order,
          (finished p (part_known t f i r y) o order i (part_row t i i r) (horizon p (worst_speed p i)) (omega arith)).from,
        )

    has_part : promised_of t i ≤ at (after t o (λ _. t.degraded) (promised_moment t o i)).got i
    unfolding promised_moment
    has_part =
        leb-true (promised_of t i) (at (after t o (λ _. t.degraded) (promised_moment t o i)).got i)
        (first_passes (λ k. leb (promised_of t i) (at (after t o (λ _. t.degraded) k).got i)) (rows_to (horizon t t.degraded)) some)

  -- every row has its moment
  pub part_run : PartRun t o i (moment_of t o i)
  part_run =
      by_bool (is_promised t i)
      (λ e. rw e (record {
        before = λ k h. by-leb (promised_of t i) (at (after t o (λ _. t.degraded) k).got i) (λ _ q. absurd (omega (arith, first_clock e k q))) (λ _ q. q);
        has = has_part e;
      }))
      (λ e. rw e (record {
        before = λ k h. absurd (omega arith);
        has = by-leb 1 (promised_of t i)
            (λ _ h. absurd (not_both (is_promised t i) (is_part t i ((f.part i r).low h) h) e))
            (λ _ h. omega arith);
      }))

  -- and its slack counts from it, or from its worst finish if that is later
  pub moment_slack : (m : ℕ) → PartRun t o i m → slack_of t i (worst_finish t o i) m ≡ slack t o i
  unfolding latest
  moment_slack m a =
      ap (λ (k : ℕ). slack_of t i (worst_finish t o i) k) (one_moment t o i m (moment_of t o i) a part_run) ∙ sym (Promised.slack_is t o i)
