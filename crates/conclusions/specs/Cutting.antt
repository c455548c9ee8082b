-- What a table author may conclude from the rows left, from the theorems on stuck sets.
use Rattle.std.specs.Prelude.{ℕ, ◌≤◌, List, [], ◌∷◌, map, ◌↔◌, ◌≡◌}
use Rattle.std.proofs.Math.Path.{sym, ap}
use Rattle.std.proofs.Common.{subst, ◌∙◌, arith}
use Rattle.std.proofs.Math.ListN.{length}
use Rattle.std.proofs.lemmas.List.{length-map}
use Rattle.rules.specs.declared.Table.{Table}
use Rattle.rules.specs.Choice.{choice, plan_of}
use Rattle.rules.specs.Lists.{count}
use Rattle.rules.specs.Numbers.{rows_left}
use Rattle.rules.specs.Rows.{at, rows_of}
use Rattle.rules.specs.Tables.{Accepted}
use Rattle.theory.specs.Counts.{In, Within, empty}
use Rattle.theory.specs.Facts.{facts}
use Rattle.theory.proofs.Finishes.{once_of}
use Rattle.theory.specs.Tests.{by_eqb, by-leb}
use Rattle.choices.specs.Choices.{rows_in}
use Rattle.lowest.proofs.Counted.{rows_chosen}
use Rattle.stuck.specs.Stuck.{is_stuck, left_rows, left_after, cut, remaining, upward}
use Rattle.stuck.specs.Sets.{chosen_same}
use Rattle.stuck.proofs.Trouble.{left_stuck, stuck_inside, way_leaves, choice_way, left_told, left_chosen, order_left, zero_none, seven_some, order_exactly}
use Rattle.stuck.proofs.Cuts.{cut_accepted, cut_gone, cut_fewer, cut_again, cut_same}
use Rattle.stuck.proofs.Held.{held_none}
use Rattle.stuck.proofs.Slacks.{short_or_followed}
use Rattle.conclusions.specs.Conclusions.{answer_for, left_for, AfterCuts, Cutting}

within_of : (t : Table) (a b : List ℕ) → Within a (rows_of t) → ((x : ℕ) → In x a → In x b) → Within a b
within_of t a b w h x = by-leb 1 (count x a) (λ _ i. omega (arith, once_of t a w x, h x i)) (λ _ i. omega arith)

module _ (t : Table) (a : Accepted t) where
  -- what remains after cuts
  module _ (m : ℕ) (ms : List ℕ) (some : 1 ≤ length (remaining t (m ∷ ms))) where
    abbrev hand : Table
    hand = cut t (m ∷ ms)

    taken : Accepted hand
    taken = cut_accepted t a m ms some

    after : map (at (remaining t (m ∷ ms))) (left_for hand) ≡ left_after t (m ∷ ms)
    unfolding left_after
    after = ap (map (at (remaining t (m ∷ ms)))) (left_told hand taken)

    -- with the same rows left the number is the same
    number_same : left_after t (m ∷ ms) ≡ left_rows t → answer_for hand ≡ answer_for t
    unfolding left_after
    number_same e =
        let long : length (left_rows hand) ≡ length (left_rows t) = sym (length-map (left_rows hand) (at (remaining t (m ∷ ms)))) ∙ ap length e in
        by_eqb (length (left_rows t)) 0
        (λ _ z. (zero_none hand taken).1 (empty (left_rows hand) (long ∙ z)) ∙ sym ((zero_none t a).1 (empty (left_rows t) z)))
        (λ _ n. seven_some hand taken (λ z. n (sym long ∙ ap length z)) ∙ sym (seven_some t a (λ z. n (ap length z))))

    cuts : AfterCuts t (answer_for t) (left_rows t) (m ∷ ms)
    cuts =
        record {
          accepted = taken;
          gone = λ h. (zero_none hand taken).1 ((order_left hand taken).0 (cut_gone t a m ms some h));
          fewer = λ i j. omega (arith, cut_fewer t a m ms some i, subst (λ (l : List ℕ). In i l) after j);
          same = λ h. let e = cut_again t a m ms some (within_of t (left_rows t) (remaining t (m ∷ ms)) (left_chosen t a).within h) in (after ∙ e, number_same e);
        }

  -- what the planner answers
  pub cutting : Cutting t (answer_for t) (rows_left (plan_of t).answer)
  cutting =
      let e = left_told t a in
      let f = facts t a in
      record {
        stuck = ap (is_stuck t) e ∙ left_stuck t a;
        largest = λ m k i j. subst (λ (l : List ℕ). In i l) (sym e) (omega (arith, j, stuck_inside t a (rows_in t m) (rows_chosen t f m) k i));
        none = (λ z. e ∙ (zero_none t a).0 z, λ z. (zero_none t a).1 (sym e ∙ z));
        way = upward (choice t).placed [];
        is_way_lem = choice_way t a;
        ways = λ taken k. way_leaves t a taken k ∙ sym e;
        exactly = (
          λ z m k. (order_exactly t a).0 ((order_left t a).1 ((zero_none t a).0 z)) (rows_in t m) (rows_chosen t f m) k,
          λ h. (zero_none t a).1 (sym e ∙ h (rows_left (plan_of t).answer) (ap (is_stuck t) e ∙ left_stuck t a)),
        );
        cuts = λ m ms some. subst (λ (l : List ℕ). AfterCuts t (answer_for t) l (m ∷ ms)) (sym e) (cuts m ms some);
        alike = λ m k ms ks p q h. after m ms p
            ∙ cut_same t a m k ms ks p q (subst (λ (l : List ℕ). (i : ℕ) → In i l → In i (remaining t (m ∷ ms)) ↔ In i (remaining t (k ∷ ks))) e h)
            ∙ sym (after k ks q);
        changed = λ n other taken φ h. let left = rows_in t (rows_left (plan_of t).answer) in
            let some : 1 ≤ length left = by_eqb (length left) 0 (λ _ z. absurd (n ((zero_none t a).1 (sym e ∙ empty left z)))) (λ _ z. omega (arith, z)) in
            seven_some other taken (λ z. held_none t a other taken left (rows_chosen t f (rows_left (plan_of t).answer)) some φ h
            (ap (is_stuck t) e ∙ left_stuck t a) ((order_left other taken).1 z));
        short = λ i j. short_or_followed t a (rows_in t (rows_left (plan_of t).answer)) (rows_chosen t f (rows_left (plan_of t).answer)) i j (ap (is_stuck t) e ∙ left_stuck t a);
      }

-- Two answers that meet the conclusion tell the same rows. So it can lose neither that the rows left are stuck nor that they hold every stuck set, unseen.
pub cutting_once : (t : Table) → Accepted t → (m n k l : ℕ) → Cutting t m k → Cutting t n l → (rows_in t k ≡ rows_in t l) × ((m ≡ 0) ↔ (n ≡ 0))
cutting_once t a m n k l p q =
    let f = facts t a in
    let c = rows_chosen t f k in
    let d = rows_chosen t f l in
    let e : rows_in t k ≡ rows_in t l = chosen_same t (rows_in t k) (rows_in t l) c d (λ x. omega (
      arith,
      within_of t (rows_in t k) (rows_in t l) c.within (q.largest k p.stuck) x,
      within_of t (rows_in t l) (rows_in t k) d.within (p.largest l q.stuck) x,
    )) in
    (e, (λ z. q.none.1 (sym e ∙ p.none.0 z), λ z. p.none.1 (e ∙ q.none.0 z)))
