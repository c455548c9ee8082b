-- The results of this crate, to be cited by name: the rows left are the whole trouble (section 26 of the rules). A set of rows of a table is a list of them from
-- the lowest number up (`Chosen`), and each is that of a word (`set_word`). `In x l` says that row x stands in l, and `Within a b` that what stands in a stands in b.
use Rattle.std.specs.Prelude.{ℕ, ◌≤◌, Bool, true, cond, ◌&&◌, ◌↔◌, ◌≡◌, refl, eqb, leb, length}
use mathlib.Core.List.{List, [], ◌∷◌, ◌++◌, map, append-nil, append_assoc}
use Rattle.std.proofs.Common.{sym, ◌∙◌, ne_eqb, le-leb, leb-true}
use Rattle.std.proofs.Math.Path.{ap, subst}
use native.Mathlib.Omega.{arith}
use Rattle.lowest.specs.Standing.{may_stand, stands_from}
use Rattle.lowest.proofs.Standing.{stands_last, may_same, correct_is}
use Rattle.rules.specs.declared.Table.{Table}
use Rattle.rules.specs.Choice.{word, choice, plan_of, unfollowed, passes, padded}
use Rattle.rules.specs.Correct.{CorrectOrder, Correct}
use Rattle.rules.specs.Lists.{count, keep, erase}
use Rattle.rules.specs.Numbers.{planned_number}
use Rattle.rules.specs.Numbers.{rows_left as told}
use Rattle.rules.specs.Orders.{is_order}
use Rattle.rules.specs.Rows.{at, rows_of}
use Rattle.rules.specs.Tables.{Accepted}
use Rattle.theory.proofs.Choosing.{keep_in, in_keep}
use Rattle.theory.specs.Counts.{In, Within, Same, count_append, same_size, nothing_in, empty, erase_last}
use Rattle.theory.specs.Facts.{TableFacts, facts}
use Rattle.theory.proofs.Finishes.{once_of}
use Rattle.theory.proofs.Results.{choice_order, choice_correct, choice_none, choice_every}
use Rattle.theory.specs.Tests.{by_eqb, by-leb, and_left, and_right, and_both}
use Rattle.theory.specs.Waits.{Closed}
use Rattle.choices.specs.Choices.{rows_in, renumbered, alone}
use Rattle.lowest.proofs.Accepting.{alone_accepted}
use Rattle.lowest.proofs.Alone.{renumbered_row, new_number}
use Rattle.lowest.specs.Alone.{Chosen}
use Rattle.lowest.proofs.Counted.{rows_chosen, chosen_keep, counted_correct}
use Rattle.lowest.specs.Images.{in_map}
use Rattle.stuck.specs.Stuck.{none_may, is_stuck, is_way, leaves, upward, left_rows, left_in, may_be_lowest, may_take}
use Rattle.stuck.specs.Sets.{chosen_rows, chosen_same, word_rows, map_in, back_within, back_chosen, alone_twice, chosen_erase}
use Rattle.stuck.proofs.Ways.{one_largest, way_largest, choice_chose, may_lowest, may_tried, take_in}
use Rattle.stuck.specs.Ways.{Largest}

-- the last row first, and again
upward_back : (a b c : List ℕ) → upward (upward a b) c ≡ upward b (a ++ c)
upward_back [] b c = refl
upward_back (i ∷ a) b c = upward_back a (i ∷ b) c

upward_above : (a b : List ℕ) → upward a b ≡ upward a [] ++ b
upward_above [] b = refl
upward_above (i ∷ a) b =
    upward_above a (i ∷ b) ∙ sym (append_assoc (upward a []) (i ∷ []) b) ∙ ap (λ (l : List ℕ). l ++ b) (sym (upward_above a (i ∷ [])))

-- a way that leaves no row of a set: its rows are those of the set, and each may stand lowest of itself and those above it
module _ (t : Table) (f : TableFacts t) where
  way_stands : (s taken : List ℕ) → Chosen t s → is_way t s taken ≡ true → leaves s taken ≡ [] → Same (upward taken []) s × (stands_from t [] (upward taken []) ≡ true)
  way_stands s [] c e z = (λ x. sym (ap (count x) z), refl)
  way_stands s (i ∷ taken) c e z =
      let g = take_in t f s c i (and_left (may_take t s i) (is_way t (erase i s) taken) e) in
      let next = way_stands (erase i s) taken (chosen_erase t s i c) (and_right (may_take t s i) (is_way t (erase i s) taken) e) z in
      let rest = upward taken [] in
      let same : Same (rest ++ (i ∷ [])) s = λ x. omega (arith, next.0 x, count_append x rest (i ∷ []), count_append x (erase i s) (i ∷ []), erase_last i s g.0 x) in
      subst (λ (l : List ℕ). Same l s × (stands_from t [] l ≡ true)) (sym (upward_above taken (i ∷ [])))
      (same, stands_last t [] rest i ∙ and_both (stands_from t [] rest) (may_stand t (rest ++ (i ∷ [])) i) next.1 (may_same t f s (rest ++ (i ∷ [])) i c.within same g.0 ∙ g.1))

module _ (t : Table) (accepted : Accepted t) where
  f : TableFacts t
  f = facts t accepted

  -- SETS. Every set of rows is that of its word (rules 4.8, 26.1).
  pub set_word : (set : List ℕ) → Chosen t set → rows_in t (word set) ≡ set
  set_word set c = chosen_same t (rows_in t (word set)) set (rows_chosen t f (word set)) c (word_rows t f set c.within)

  left_within : Within (choice t).left (rows_of t)
  left_within x = omega (arith, choice_every t accepted x, count_append x (choice t).left (choice t).placed)

  left_same : Same (left_rows t) (choice t).left
  unfolding left_rows
  left_same = word_rows t f (choice t).left left_within

  pub left_chosen : Chosen t (left_rows t)
  unfolding left_rows
  left_chosen = rows_chosen t f (word (choice t).left)

  left_whole : Largest t (rows_of t) (left_rows t)
  left_whole =
      let g = choice_chose t f in
      let w = way_largest t f (rows_of t) g.taken (chosen_rows t) g.way in
      subst (Largest t (rows_of t))
      (chosen_same t (leaves (rows_of t) g.taken) (left_rows t) w.set left_chosen (λ x. omega (arith, g.left x, left_same x))) w

  -- THE LARGEST STUCK SET. The rows left by the planner's choice are a stuck set, and every stuck set of rows of the table lies inside it (rule 26.4).
  pub left_stuck : is_stuck t (left_rows t) ≡ true
  left_stuck = left_whole.stuck

  pub stuck_inside : (set : List ℕ) → Chosen t set → is_stuck t set ≡ true → Within set (left_rows t)
  stuck_inside set c e = left_whole.largest set c c.within e

  -- EVERY WAY. Every way of choosing leaves the rows that the planner's choice leaves (rule 26.5); and the planner's choice, the rows of its order from the lowest
  -- place up, is a way of choosing (rule 26.3).
  pub way_leaves : (taken : List ℕ) → is_way t (rows_of t) taken ≡ true → leaves (rows_of t) taken ≡ left_rows t
  way_leaves taken e = one_largest t (rows_of t) (leaves (rows_of t) taken) (left_rows t) (way_largest t f (rows_of t) taken (chosen_rows t) e) left_whole

  pub choice_way : is_way t (rows_of t) (upward (choice t).placed []) ≡ true
  choice_way =
      let g = choice_chose t f in
      let e : upward (choice t).placed [] ≡ g.taken = ap (λ (o : List ℕ). upward o []) g.places ∙ upward_back g.taken [] [] ∙ append-nil g.taken in
      ap (is_way t (rows_of t)) e ∙ g.way

  pub choice_leaves : leaves (rows_of t) (upward (choice t).placed []) ≡ left_rows t
  choice_leaves = way_leaves (upward (choice t).placed []) choice_way

  -- THE PLANNER'S OWN TRIAL. In a set that holds whatever its rows follow, as the rows not yet placed do at every place, a row may stand lowest exactly if the
  -- planner tries it, none of them following it, and it passes (rules 4.4, 4.11, 26.3).
  pub may_passes : (set : List ℕ) → Chosen t set → Closed t set → (i : ℕ) → In i set → may_take t set i ≡ unfollowed t set i && passes t set i
  unfolding may_take
  may_passes set c closed i j =
      ap (λ (b : Bool). b && may_be_lowest (alone t set) (renumbered set i)) (le-leb 1 (count i set) j)
      ∙ may_lowest t f set c i j ∙ may_tried t f set set c (λ x. refl) closed i j

  -- A correct order exists exactly if no row is left (rules 4.6, 4.10).
  pub order_left : CorrectOrder t ↔ (left_rows t ≡ [])
  order_left = (
    λ c. nothing_in (left_rows t) (λ x i. choice_none t accepted x (omega (arith, i, left_same x)) c.order c.passes c.correct),
    λ e. let z : (choice t).left ≡ [] = nothing_in (choice t).left (λ x i. omega (arith, i, left_same x, ap (count x) e)) in
        record { order = _; passes = choice_order t accepted z; correct = choice_correct t accepted z },
  )

  -- A way of choosing that leaves no row is a correct order, from its lowest place up (rule 26.5).
  pub way_order : (taken : List ℕ) → is_way t (rows_of t) taken ≡ true → leaves (rows_of t) taken ≡ []
      → (is_order t (padded (upward taken [])) ≡ true) × Correct t (padded (upward taken []))
  way_order taken e z =
      let g = way_stands t f (rows_of t) taken (chosen_rows t) e z in
      (counted_correct t f (padded (upward taken []))).0 (correct_is t f (upward taken []) g.0 ∙ g.1)

  -- AS THE PLANNER TELLS THEM. The word of the planner's answer is that of the rows left, and its number is 0 if there are none and else 7 (rules 4.6, 4.8).
  pub left_told : rows_in t (told (plan_of t).answer) ≡ left_rows t
  unfolding left_rows plan_of told word
  left_told =
      rw accepted
      (by_eqb (length (choice t).left) 0
      (λ e q. rw e (ap (λ (l : List ℕ). rows_in t (word l)) (sym (empty (choice t).left q))))
      (λ e q. rw e))

  left_number : planned_number (plan_of t).answer ≡ cond (eqb (length (left_rows t)) 0) 0 7
  unfolding plan_of planned_number
  left_number =
      rw (accepted, same_size (left_rows t) (choice t).left left_same)
      (by_eqb (length (choice t).left) 0 (λ e q. rw e) (λ e q. rw e))

  pub zero_none : (planned_number (plan_of t).answer ≡ 0) ↔ (left_rows t ≡ [])
  zero_none = (
    λ z. by_eqb (length (left_rows t)) 0 (λ _ q. empty (left_rows t) q) (λ e _. absurd (omega (arith, z, left_number ∙ ap {B = ℕ} (λ (b : Bool). cond b 0 7) e))),
    λ z. left_number ∙ ap (λ (l : List ℕ). cond (eqb (length l) 0) 0 7) z,
  )

  pub seven_some : (left_rows t ≡ [] → ⊥) → planned_number (plan_of t).answer ≡ 7
  seven_some n = left_number ∙ ap {B = ℕ} (λ (b : Bool). cond b 0 7) (ne_eqb (length (left_rows t)) 0 (λ z. n (empty (left_rows t) z)))

  -- NO STUCK SET, AN ORDER. The table has a correct order exactly if no set of its rows but the empty one is stuck (rule 26.6).
  pub order_exactly : CorrectOrder t ↔ ((set : List ℕ) → Chosen t set → is_stuck t set ≡ true → set ≡ [])
  order_exactly = (
    λ c set h e. nothing_in set (λ x i. omega (arith, i, stuck_inside set h e x, ap (count x) (order_left.0 c))),
    λ n. order_left.1 (n (left_rows t) left_chosen left_stuck),
  )

module _ (t : Table) (accepted : Accepted t) where
  -- rows of a set that is not empty, alone
  module _ (set : List ℕ) (c : Chosen t set) (some : 1 ≤ length set) where
    alone_taken : Accepted (alone t set)
    alone_taken = alone_accepted t accepted set c some

    -- the rows of another set, by their numbers in the table of this one
    abbrev is_of : List ℕ → ℕ → Bool
    is_of r k = leb 1 (count (at set k) r)

    there : List ℕ → List ℕ
    there r = keep (is_of r) (rows_of (alone t set))

    there_chosen : (r : List ℕ) → Chosen (alone t set) (there r)
    unfolding there
    there_chosen r = chosen_keep (alone t set) (is_of r)

    module _ (r : List ℕ) (d : Chosen t r) (w : Within r set) where
      there_in : (x : ℕ) → In x r → In (renumbered set x) (there r)
      unfolding there
      there_in x i =
          let j : In x set = omega (arith, i, w x) in
          in_keep (is_of r) (rows_of (alone t set)) (renumbered set x) (new_number t (f t accepted) set c some x j)
          (le-leb 1 (count (at set (renumbered set x)) r) (subst (λ (y : ℕ). In y r) (sym (renumbered_row set x j).2) i))

      there_back : map (at set) (there r) ≡ r
      unfolding there
      there_back =
          let h = there_chosen r in
          chosen_same t (map (at set) (there r)) r (back_chosen t (f t accepted) set c (there r) h) d
          (λ x. by-leb 1 (count x r)
          (λ _ i. let own = renumbered_row set x (omega (arith, i, w x)) in
          omega (
            arith,
            once_of t r d.within x,
            once_of t (map (at set) (there r)) (back_chosen t (f t accepted) set c (there r) h).within x,
            subst (λ (y : ℕ). In y (map (at set) (there r))) own.2 (map_in (at set) (there r) (renumbered set x) (there_in x i)),
          ))
          (λ _ n. by-leb 1 (count x (map (at set) (there r)))
          (λ _ i. let p = in_map (at set) (there r) x i in
          absurd (omega (
            arith,
            n,
            subst (λ (y : ℕ). In y r) p.is (leb-true 1 (count (at set p.row) r) (keep_in (is_of r) (rows_of (alone t set)) p.row p.inside).1),
          )))
          (λ _ i. omega arith)))

    -- rows of the set are stuck exactly if they are in the table of the set alone
    stuck_back : (r : List ℕ) → Chosen (alone t set) r → is_stuck t (map (at set) r) ≡ is_stuck (alone t set) r
    unfolding is_stuck
    stuck_back r d = ap none_may (sym (alone_twice t (f t accepted) set c r d))

    -- the rows left for the table of the set alone are the largest stuck set inside the set
    pub left_in_lem : Largest t set (left_in t set)
    unfolding left_in
    left_in_lem =
        let g = left_whole (alone t set) alone_taken in
        let l = left_rows (alone t set) in
        record {
          set = back_chosen t (f t accepted) set c l g.set;
          inside = back_within t (f t accepted) set c l g.set;
          stuck = stuck_back l g.set ∙ g.stuck;
          largest = λ r d w e x. by-leb 1 (count x r)
              (λ _ i. let j : In x set = omega (arith, i, w x) in
              let h = there_chosen r in
              let k = g.largest (there r) h h.within (sym (stuck_back (there r) h) ∙ ap (is_stuck t) (there_back r d w) ∙ e) (renumbered set x) in
              omega (
                arith,
                once_of t r d.within x,
                subst (λ (y : ℕ). In y (map (at set) l)) (renumbered_row set x j).2 (map_in (at set) l (renumbered set x) (omega (arith, k, there_in r d w x i))),
              ))
              (λ _ i. omega arith);
        }

    -- FEWER ROWS, FEWER LEFT. The rows left for the table of a set alone are among the rows left (rule 26.7).
    pub fewer_left : Within (left_in t set) (left_rows t)
    fewer_left = stuck_inside t accepted (left_in t set) left_in_lem.set left_in_lem.stuck

    -- ALL ROWS LEFT TAKEN AWAY. If the set holds none of the rows left, the table of it alone has a correct order (rule 26.7).
    pub gone_order : ((x : ℕ) → In x (left_rows t) → In x set → ⊥) → CorrectOrder (alone t set)
    unfolding left_in
    gone_order h =
        (order_left (alone t set) alone_taken).1
        (nothing_in (left_rows (alone t set)) (λ k i.
        let j = map_in (at set) (left_rows (alone t set)) k i in
        let x = at set k in
        h x (omega (arith, j, fewer_left x)) (omega (arith, j, left_in_lem.inside x))))

    -- CUTTING ELSEWHERE NEVER HELPS. If the set holds all of the rows left, they are the rows left for the table of it alone (rule 26.7).
    pub again_left : Within (left_rows t) set → left_in t set ≡ left_rows t
    again_left w =
        chosen_same t (left_in t set) (left_rows t) left_in_lem.set (left_chosen t accepted)
        (λ x. omega (arith, fewer_left x, left_in_lem.largest (left_rows t) (left_chosen t accepted) w (left_stuck t accepted) x))

  -- Sets that differ only outside the rows left have the same rows left (rule 26.7).
  module _ (a b : List ℕ) (c : Chosen t a) (d : Chosen t b) (p : 1 ≤ length a) (q : 1 ≤ length b) (alike : (x : ℕ) → In x (left_rows t) → In x a ↔ In x b) where
    pub same_left : left_in t a ≡ left_in t b
    same_left =
        chosen_same t (left_in t a) (left_in t b) (left_in_lem a c p).set (left_in_lem b d q).set (λ x. omega (arith, one a b c d p q (λ y i. (alike y i).0) x, one b a d c q p (λ y i. (alike y i).1) x))
      where
        one : (a b : List ℕ) (c : Chosen t a) (d : Chosen t b) (p : 1 ≤ length a) (q : 1 ≤ length b) → ((x : ℕ) → In x (left_rows t) → In x a → In x b) → Within (left_in t a) (left_in t b)
        one a b c d p q h =
            (left_in_lem b d q).largest (left_in t a) (left_in_lem a c p).set
            (λ x. by-leb 1 (count x (left_in t a))
            (λ _ i. omega (
              arith,
              once_of t (left_in t a) (left_in_lem a c p).set.within x,
              h x (omega (arith, i, fewer_left a c p x)) (omega (arith, i, (left_in_lem a c p).inside x)),
            ))
            (λ _ i. omega arith))
            (left_in_lem a c p).stuck
