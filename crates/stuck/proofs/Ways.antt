-- Ways of choosing (rule 26.3): what each of them leaves is the largest stuck set of the set that it began with, and the planner's choice is one of them.
use Prim.Native.Nat.{ℕ, zero, suc, ◌≤◌}
use Rattle.std.specs.Prelude.{Bool, false, ◌&&◌, ◌≡◌, refl, leb, length}
use Rattle.std.proofs.Math.Bool.{true, not}
use mathlib.Core.List.{List, [], ◌∷◌}
use Rattle.std.proofs.Math.Path.{sym, ap}
use Rattle.std.proofs.Common.{subst, ◌∙◌, arith}
use borrow.Author.Tests.{le-leb, leb-true}
use Rattle.rules.specs.declared.Table.{Table}
use Rattle.rules.specs.Choice.{sequence, unfollowed, tried, passes, taker, Choice, fill, choice}
use Rattle.rules.specs.Lists.{count, first, erase}
use Rattle.rules.specs.Rows.{at, rows_of}
use Rattle.theory.proofs.Choosing.{same_sequence, keep_in, in_keep, lowest_stands}
use Rattle.theory.specs.Counts.{In, Within, Same, count_erase_same, count_erase_other, length_erase, first_in, first_passes, first_none, same_size, in_some}
use Rattle.theory.specs.Facts.{TableFacts, all_in, in_all, count_zero}
use Rattle.theory.proofs.Finishes.{rows_of_lem}
use Rattle.theory.specs.Places.{length_rows}
use Rattle.theory.specs.Tests.{by_bool, by_eqb, by-leb, not_is, not_both, and_left, and_right, and_both}
use Rattle.theory.specs.Waits.{Closed, rows_closed}
use Rattle.choices.specs.Choices.{renumbered, alone}
use Rattle.lowest.proofs.Alone.{numbers, number_back, entry_in, new_number, unfollowed_alone, may_alone, waits_kept}
use Rattle.lowest.specs.Alone.{Chosen}
use Rattle.lowest.specs.Listed.{erase_within}
use Rattle.lowest.specs.Standing.{may_stand}
use Rattle.lowest.proofs.Standing.{may_fewer, may_same}
use Rattle.stuck.specs.Stuck.{may_be_lowest, none_may, is_stuck, may_take, is_way, leaves, upward}
use Rattle.stuck.specs.Sets.{chosen_rows, chosen_erase, chosen_same}
use Rattle.stuck.specs.Ways.{Largest}

-- there is but one
pub one_largest : (t : Table) (s a b : List ℕ) → Largest t s a → Largest t s b → a ≡ b
one_largest t s a b p q =
    chosen_same t a b p.set q.set (λ x. omega (arith, q.largest a p.set p.inside p.stuck x, p.largest b q.set q.inside q.stuck x))

-- a set without one row: what lies inside it and lacks the row lies inside that too
without : (i : ℕ) (s r : List ℕ) → Within r s → (In i r → ⊥) → Within r (erase i s)
without i s r w n x =
    by_eqb x i
    (λ _ q. by-leb 1 (count x r) (λ _ j. absurd (n (subst (λ (y : ℕ). In y r) q j))) (λ _ j. omega arith))
    (λ _ q. omega (arith, w x, count_erase_other x i s q))

module _ (t : Table) (f : TableFacts t) where
  module _ (s : List ℕ) (c : Chosen t s) where
    -- a row of a set may stand lowest in the table of the set alone exactly if it may in the set
    pub may_lowest : (i : ℕ) → In i s → may_be_lowest (alone t s) (renumbered s i) ≡ may_stand t s i
    unfolding may_be_lowest passes
    may_lowest i j =
        let some = in_some i s j in
        ap (λ (b : Bool). b && passes (alone t s) (rows_of (alone t s)) (renumbered s i)) (unfollowed_alone t f s c some i j) ∙ sym (may_alone t f s c some i j)

    pub stuck_may : is_stuck t s ≡ true → (i : ℕ) → In i s → may_stand t s i ≡ false
    unfolding is_stuck none_may
    stuck_may e i j =
        sym (may_lowest i j)
        ∙ not_is (may_be_lowest (alone t s) (renumbered s i))
        (all_in (λ k. not (may_be_lowest (alone t s) k)) (rows_of (alone t s)) e (renumbered s i) (new_number t f s c (in_some i s j) i j))

    pub none_stuck : ((i : ℕ) → In i s → may_stand t s i ≡ false) → is_stuck t s ≡ true
    unfolding is_stuck none_may
    none_stuck h =
        in_all (λ k. not (may_be_lowest (alone t s) k)) (rows_of (alone t s))
        (λ k j. let r = numbers t f s c (rows_of (alone t s)) (λ x. omega arith) k j in
        let own = entry_in s k r.0 r.1 in
        ap not (ap (may_be_lowest (alone t s)) (sym (number_back t f s c k r.0 r.1)) ∙ may_lowest (at s k) own ∙ h (at s k) own))

    pub take_in : (i : ℕ) → may_take t s i ≡ true → In i s × (may_stand t s i ≡ true)
    unfolding may_take
    take_in i e =
        let j = leb-true 1 (count i s) (and_left (leb 1 (count i s)) (may_be_lowest (alone t s) (renumbered s i)) e) in
        (j, sym (may_lowest i j) ∙ and_right (leb 1 (count i s)) (may_be_lowest (alone t s) (renumbered s i)) e)

    pub in_take : (i : ℕ) → In i s → may_stand t s i ≡ true → may_take t s i ≡ true
    unfolding may_take
    in_take i j e = and_both (leb 1 (count i s)) (may_be_lowest (alone t s) (renumbered s i)) (le-leb 1 (count i s) j) (may_lowest i j ∙ e)

  -- what is left by a way of choosing
  pub way_largest : (s taken : List ℕ) → Chosen t s → is_way t s taken ≡ true → Largest t s (leaves s taken)
  way_largest s [] c e = record { set = c; inside = λ x. omega arith; stuck = e; largest = λ r d w k. w }
  way_largest s (i ∷ taken) c e =
      let g = take_in s c i (and_left (may_take t s i) (is_way t (erase i s) taken) e) in
      let d = chosen_erase t s i c in
      let next = way_largest (erase i s) taken d (and_right (may_take t s i) (is_way t (erase i s) taken) e) in
      record {
        set = next.set;
        inside = λ x. omega (arith, next.inside x, erase_within i s x);
        stuck = next.stuck;
        largest = λ r h w k. next.largest r h
            (without i s r w (λ j. not_both (may_stand t r i) (may_fewer t f s r i c.within w j g.1) (stuck_may r h k i j)))
            k;
      }

  -- the planner's choice as a way of choosing: the rows that it takes, which stand in its order from the lowest place up, and what it leaves
  pub record Chose (s placed : List ℕ) (c : Choice) : Type 0 where
    pub taken : List ℕ
    pub way : is_way t s taken ≡ true
    pub places : c.placed ≡ upward taken placed
    pub left : Same (leaves s taken) c.left

  module _ (left s : List ℕ) (c : Chosen t s) (h : Same s left) (closed : Closed t left) where
    rows : Within left (rows_of t)
    rows x = omega (arith, h x, c.within x)

    -- in rows that hold whatever they follow: a row may stand lowest exactly if it is tried and passes
    pub may_tried : (x : ℕ) → In x left → may_stand t s x ≡ unfollowed t left x && passes t left x
    unfolding may_stand
    may_tried x j =
        may_same t f left s x rows h j
        ∙ by_bool (unfollowed t left x) (λ u. ap (λ (b : Bool). unfollowed t left x && b) (sym (waits_kept t f left rows closed x j u))) (λ u. rw u)

    ends : ((x : ℕ) → In x left → unfollowed t left x ≡ true → passes t left x ≡ false) → is_stuck t s ≡ true
    ends g = none_stuck s c (λ x i. let j : In x left = omega (arith, h x) in
        may_tried x j ∙ by_bool (unfollowed t left x) (λ u. rw (u, g x j u)) (λ u. rw u))

  chose : (k : ℕ) (left placed s : List ℕ) → length left ≤ k → Chosen t s → Same s left → Closed t left → Chose s placed (fill t k left placed)
  unfolding fill taker
  chose zero left placed s p c h closed =
      record { taken = []; way = ends left s c h closed (λ x i. absurd (omega (arith, in_some x left i))); places = refl; left = h }
  chose (suc k') left placed s p c h closed =
      let rows = tried t left in
      let i = first (passes t left) rows in
      by_eqb i 0
      (λ e q. rw e (record {
        taken = [];
        way = ends left s c h closed (λ x j u. first_none (passes t left) rows
            (λ z. omega (arith, (keep_in (unfollowed t left) left 0 z).0, h 0, c.within 0, count_zero t.n)) q x (in_keep (unfollowed t left) left x j u));
        places = refl;
        left = h;
      }))
      (λ e q. let g = keep_in (unfollowed t left) left i (first_in (passes t left) rows q) in
      let j : In i s = omega (arith, h i, g.0) in
      let may : may_stand t s i ≡ true = may_tried left s c h closed i g.0 ∙ and_both (unfollowed t left i) (passes t left i) g.1 (first_passes (passes t left) rows q) in
      let next = chose k' (erase i left) (i ∷ placed) (erase i s) (omega (arith, length_erase i left g.0)) (chosen_erase t s i c)
      (λ x. by_eqb x i
      (λ _ w. rw w (omega (arith, count_erase_same i s, count_erase_same i left, h i)))
      (λ _ w. omega (arith, count_erase_other x i s w, count_erase_other x i left w, h x)))
      (lowest_stands t f left (rows_of_lem t left (λ x. omega (arith, h x, c.within x))) closed i g.0 g.1).0 in
      rw e (record {
        taken = i ∷ next.taken;
        way = and_both (may_take t s i) (is_way t (erase i s) next.taken) (in_take s c i j may) next.way;
        places = next.places;
        left = next.left;
      }))

  pub choice_chose : Chose (rows_of t) [] (choice t)
  unfolding choice
  choice_chose =
      chose t.n (sequence t) [] (rows_of t) (omega (arith, same_size (sequence t) (rows_of t) (same_sequence t), length_rows t.n)) (chosen_rows t)
      (λ x. sym (same_sequence t x)) (rows_closed t f (sequence t) (same_sequence t))
