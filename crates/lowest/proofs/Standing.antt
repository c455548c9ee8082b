-- Arrangements by their lowest rows: each row may stand lowest among itself and those above it exactly if they are a correct order (rule 25.7).
use Rattle.std.specs.Prelude.{ℕ, zero, suc, ◌+◌, ◌-◌, ◌≤◌, Bool, true, false, ◌&&◌, cond, ◌≡◌, refl, length, take}
use mathlib.Core.List.{List, [], ◌∷◌, ◌++◌, append_assoc}
use Rattle.std.proofs.Common.{sym, ap, ◌∙◌, arith}
use Rattle.std.proofs.Math.Path.{subst}
use Rattle.rules.specs.declared.Table.{Table}
use Rattle.rules.specs.Choice.{padded, unfollowed, passes}
use Rattle.rules.specs.Lists.{all, count, erase}
use Rattle.rules.specs.Orders.{is_order}
use Rattle.rules.specs.Rows.{rows_of, follows_of}
use Rattle.rules.specs.Worst.{meets}
use Rattle.theory.proofs.Choosing.{none_follow, follow_none, unfollowed_within, padded_order}
use Rattle.theory.specs.Counts.{In, Within, Same, part, in_last, count_append, count_same, count_other, erase_last, same_size, sum_eq}
use Rattle.theory.specs.Facts.{Row, TableFacts, in_rows, rows_in_lem, followed_row_lem, all_in, in_all}
use Rattle.theory.specs.Places.{length_rows, rows_once, stand_at}
use Rattle.theory.proofs.Promised.{moved}
use Rattle.theory.specs.Tests.{by_bool, by-leb, by_eqb, and_left, and_right, and_both, and_true, and_false, and_assoc}
use Rattle.theory.proofs.Waiting.{unbound_table, same_slack_lem}
use Rattle.theory.specs.Waiting.{unbound}
use Rattle.theory.specs.Waits.{Stand}
use Rattle.sweep.specs.Padded.{zeros, zeros_entry, padded_zeros, padded_take}
use Rattle.choices.specs.Choices.{arranged, arrangements, how_many, is_correct, choices}
use Rattle.lowest.specs.Many.{Every, many_spread, many_map, many_agree, many_none, every_weaker}
use Rattle.lowest.specs.Listed.{below, below_same, erased_length, erase_within, listed_same}
use Rattle.lowest.specs.Standing.{may_stand, by_lowest, stands_from}

-- two tests that pass for one another are the same
pub both_ways : (a b : Bool) → (a ≡ true → b ≡ true) → (b ≡ true → a ≡ true) → a ≡ b
both_ways true b f g = sym (f refl)
both_ways false true f g = g refl
both_ways false false f g = refl

module _ (t : Table) where
  pub stands_last : (a l : List ℕ) (i : ℕ) → stands_from t a (l ++ (i ∷ [])) ≡ stands_from t a l && may_stand t (a ++ (l ++ (i ∷ []))) i
  stands_last a [] i = and_true (may_stand t (a ++ (i ∷ [])) i)
  stands_last a (x ∷ l) i =
      ap (λ (b : Bool). may_stand t (a ++ (x ∷ [])) x && b) (stands_last (a ++ (x ∷ [])) l i
      ∙ ap (λ (o : List ℕ). stands_from t (a ++ (x ∷ [])) l && may_stand t o i) (append_assoc a (x ∷ []) (l ++ (i ∷ []))))
      ∙ sym (and_assoc (may_stand t (a ++ (x ∷ [])) x) (stands_from t (a ++ (x ∷ [])) l) (may_stand t (a ++ (x ∷ (l ++ (i ∷ [])))) i))

  stands_at : (a x y : List ℕ) (i : ℕ) → stands_from t a (x ++ (i ∷ y)) ≡ true → may_stand t (a ++ (x ++ (i ∷ []))) i ≡ true
  stands_at a [] y i e = and_left (may_stand t (a ++ (i ∷ [])) i) (stands_from t (a ++ (i ∷ [])) y) e
  stands_at a (z ∷ x) y i e =
      subst (λ (o : List ℕ). may_stand t o i ≡ true) (append_assoc a (z ∷ []) (x ++ (i ∷ [])))
      (stands_at (a ++ (z ∷ [])) x y i (and_right (may_stand t (a ++ (z ∷ [])) z) (stands_from t (a ++ (z ∷ [])) (x ++ (i ∷ y))) e))

  stands_all : (a l : List ℕ) → ((x y : List ℕ) (i : ℕ) → l ≡ x ++ (i ∷ y) → may_stand t (a ++ (x ++ (i ∷ []))) i ≡ true) → stands_from t a l ≡ true
  stands_all a [] h = refl
  stands_all a (z ∷ l) h =
      and_both (may_stand t (a ++ (z ∷ [])) z) (stands_from t (a ++ (z ∷ [])) l) (h [] l z refl)
      (stands_all (a ++ (z ∷ [])) l (λ x y i e. subst (λ (o : List ℕ). may_stand t o i ≡ true) (sym (append_assoc a (z ∷ []) (x ++ (i ∷ []))))
      (h (z ∷ x) y i (ap (λ (o : List ℕ). z ∷ o) e))))

  -- without waits every row may stand below any others
  pub free_stand : (a : List ℕ) (i : ℕ) → Stand (unbound t) a i
  free_stand a i = (λ x j h. absurd (omega (arith, zeros_entry 64 (x - 1))), λ h. absurd (omega (arith, zeros_entry 64 (i - 1))))

  may_unfollowed : (l : List ℕ) (i : ℕ) → may_stand t l i ≡ true → unfollowed t l i ≡ true
  unfolding may_stand
  may_unfollowed l i e = and_left (unfollowed t l i) (passes (unbound t) l i) e

  may_passes : (l : List ℕ) (i : ℕ) → may_stand t l i ≡ true → passes (unbound t) l i ≡ true
  unfolding may_stand
  may_passes l i e = and_right (unfollowed t l i) (passes (unbound t) l i) e

  module _ (f : TableFacts t) where
    -- with fewer rows above it a row may stand lowest still
    pub may_fewer : (l r : List ℕ) (i : ℕ) → Within l (rows_of t) → Within r l → In i r → may_stand t l i ≡ true → may_stand t r i ≡ true
    unfolding may_stand passes
    may_fewer l r i w s j e =
        and_both (unfollowed t r i) (passes (unbound t) r i)
        (unfollowed_within t l r i s (may_unfollowed l i e))
        (moved (unbound t) (unbound_table t f) (erase i l) [] (erase i r) [] i
        (λ x. omega (arith, erase_last i l (omega (arith, s i)) x, w x))
        (λ x. omega (arith, erase_last i l (omega (arith, s i)) x, erase_last i r j x, s x))
        (free_stand (erase i l) i) (free_stand (erase i r) i) (may_passes l i e))

    -- whether it may depends on which rows there are, and not on their sequence
    pub may_same : (l r : List ℕ) (i : ℕ) → Within l (rows_of t) → Same r l → In i l → may_stand t r i ≡ may_stand t l i
    may_same l r i w s j =
        both_ways (may_stand t r i) (may_stand t l i)
        (may_fewer r l i (λ x. omega (arith, s x, w x)) (λ x. omega (arith, s x)) j)
        (may_fewer l r i w (λ x. omega (arith, s x)) (omega (arith, s i)))

    -- the arrangements with row i lowest
    pub many_below : (k : ℕ) (s : List ℕ) (i : ℕ) → length s ≡ suc k → Within s (rows_of t) → In i s
        → how_many (stands_from t []) (arranged k (erase i s)) ≡ by_lowest (may_stand t) k (erase i s)
        → how_many (stands_from t []) (below k s i) ≡ cond (may_stand t s i) (by_lowest (may_stand t) k (erase i s)) 0
    many_below k s i e w j r =
        many_map (stands_from t []) (λ above. above ++ (i ∷ [])) (arranged k (erase i s))
        ∙ many_agree (λ a. stands_from t [] (a ++ (i ∷ []))) (λ a. stands_from t [] a && may_stand t s i) (arranged k (erase i s))
        (every_weaker (λ a. Same a (erase i s)) (λ a. stands_from t [] (a ++ (i ∷ [])) ≡ stands_from t [] a && may_stand t s i)
        (λ a h. stands_last [] a i ∙ ap (λ (b : Bool). stands_from t [] a && b) (may_same s (a ++ (i ∷ [])) i w (below_same a s i j h) j))
        (arranged k (erase i s)) (listed_same k (erase i s) (erased_length k s i j e)))
        ∙ by_bool (may_stand t s i)
        (λ m. rw m (many_agree (λ a. stands_from t [] a && true) (stands_from t []) (arranged k (erase i s)) (all_true (arranged k (erase i s))) ∙ r))
        (λ m. rw m (many_none (λ a. stands_from t [] a && false) (arranged k (erase i s)) (all_false (arranged k (erase i s)))))
      where
        all_true : (os : List (List ℕ)) → Every (λ a. stands_from t [] a && true ≡ stands_from t [] a) os
        all_true [] = tt
        all_true (a ∷ os) = (and_true (stands_from t [] a), all_true os)

        all_false : (os : List (List ℕ)) → Every (λ a. stands_from t [] a && false ≡ false) os
        all_false [] = tt
        all_false (a ∷ os) = (and_false (stands_from t [] a), all_false os)

    -- all arrangements of a set of rows
    pub many_standing : (k : ℕ) (s : List ℕ) → length s ≡ k → Within s (rows_of t) → how_many (stands_from t []) (arranged k s) ≡ by_lowest (may_stand t) k s
    many_standing zero s e w = refl
    many_standing (suc k) s e w =
        many_spread (stands_from t []) (below k s) s
        ∙ sum_eq (λ i. how_many (stands_from t []) (below k s i)) (λ i. cond (may_stand t s i) (by_lowest (may_stand t) k (erase i s)) 0) s
        (λ i j. many_below k s i e w j (many_standing k (erase i s) (erased_length k s i j e) (λ x. omega (arith, erase_within i s x, w x))))

    -- an arrangement of all rows
    module _ (l : List ℕ) (every : Same l (rows_of t)) where
      long : length l ≡ t.n
      long = same_size l (rows_of t) every ∙ length_rows t.n

      abbrev tail : List ℕ
      tail = zeros (64 - length l)

      split : (x y : List ℕ) (i : ℕ) → l ≡ x ++ (i ∷ y) → padded l ≡ x ++ (i ∷ (y ++ tail))
      split x y i e = padded_zeros l (omega (arith, long, f.few)) ∙ ap (λ (o : List ℕ). o ++ tail) e ∙ append_assoc x (i ∷ y) tail

      counted : (x y : List ℕ) (i : ℕ) → l ≡ x ++ (i ∷ y) → (z : ℕ) → count z (rows_of t) ≡ count z x + count z (i ∷ y)
      counted x y i e z = sym (every z) ∙ ap (count z) e ∙ count_append z x (i ∷ y)

      down_to : (x y : List ℕ) (i : ℕ) → l ≡ x ++ (i ∷ y) → Within (x ++ (i ∷ [])) (rows_of t)
      down_to x y i e z = omega (arith, counted x y i e z, count_append z x (i ∷ []), count_append z (i ∷ []) y)

      row_at : (x y : List ℕ) (i : ℕ) → l ≡ x ++ (i ∷ y) → Row t i
      row_at x y i e = rows_in_lem t i (omega (arith, counted x y i e i, count_same i y))

      -- correct, and so each row may stand lowest of itself and those above it
      module _ (order : is_order t (padded l) ≡ true) where
        meets_free : (i : ℕ) → meets t (padded l) i ≡ meets (unbound t) (padded l) i
        unfolding meets
        meets_free i = rw (same_slack_lem t f (padded l) order i)

        stands_in_lem : (x y : List ℕ) (i : ℕ) → l ≡ x ++ (i ∷ y) → Stand t x i
        stands_in_lem x y i e =
            stand_at t f (padded l) order i x y
            (ap (λ (k : ℕ). take k (padded l)) (sym long) ∙ padded_take l (omega (arith, long, f.few)) ∙ e)

        none_above : (x y : List ℕ) (i : ℕ) → l ≡ x ++ (i ∷ y) → unfollowed t (x ++ (i ∷ [])) i ≡ true
        none_above x y i e = follow_none t (x ++ (i ∷ [])) i (λ z j q.
            let own = row_at x y i e in
            let r = rows_in_lem t z (omega (arith, j, down_to x y i e z)) in
            let some : 1 ≤ follows_of t z = omega (arith, q, own.from) in
            by_eqb z i
            (λ _ p. omega (arith, f.lower z r some, q, p))
            (λ _ p. let up : In z x = omega (arith, j, count_append z x (i ∷ []), count_other z i [] p) in
            let twice : In i x = subst (λ (w : ℕ). In w x) q ((stands_in_lem x y i e).0 z up some) in
            omega (arith, twice, counted x y i e i, count_same i y, rows_once t.n i)))

        correct_stands : ((i : ℕ) → Row t i → meets t (padded l) i ≡ true) → stands_from t [] l ≡ true
        unfolding may_stand passes
        correct_stands m =
            stands_all [] l (λ x y i e.
            and_both (unfollowed t (x ++ (i ∷ [])) i) (passes (unbound t) (x ++ (i ∷ [])) i) (none_above x y i e)
            (moved (unbound t) (unbound_table t f) x (y ++ tail) (erase i (x ++ (i ∷ []))) [] i (down_to x y i e)
            (λ z. omega (arith, erase_last i (x ++ (i ∷ [])) (in_last x i) z)) (free_stand x i) (free_stand (erase i (x ++ (i ∷ []))) i)
            (subst (λ (o : List ℕ). meets (unbound t) o i ≡ true) (split x y i e) (sym (meets_free i) ∙ m i (row_at x y i e)))))

      -- and the other way round
      module _ (stands : stands_from t [] l ≡ true) where
        may_at : (x y : List ℕ) (i : ℕ) → l ≡ x ++ (i ∷ y) → may_stand t (x ++ (i ∷ [])) i ≡ true
        may_at x y i e = stands_at [] x y i (subst (λ (o : List ℕ). stands_from t [] o ≡ true) e stands)

        -- no row stands below one that follows it
        none_below : (a b : List ℕ) (z w : ℕ) → l ≡ a ++ b → In z a → follows_of t z ≡ w → In w b → ⊥
        none_below a b z w e j q k =
            let p = part w b k in
            let whole : l ≡ (a ++ p.above) ++ (w ∷ p.below) = e ∙ ap (λ (o : List ℕ). a ++ o) p.whole ∙ sym (append_assoc a p.above (w ∷ p.below)) in
            none_follow t (a ++ p.above ++ (w ∷ [])) w (may_unfollowed (a ++ p.above ++ (w ∷ [])) w (may_at (a ++ p.above) p.below w whole)) z
            (omega (arith, j, count_append z (a ++ p.above) (w ∷ []), count_append z a p.above)) q

        stands_rows : (x y : List ℕ) (i : ℕ) → l ≡ x ++ (i ∷ y) → Stand t x i
        stands_rows x y i e = (
          λ z j some. let w = follows_of t z in
              let r = rows_in_lem t z (omega (arith, j, counted x y i e z)) in
              by-leb 1 (count w x)
              (λ _ h. h)
              (λ _ h. absurd (none_below x (i ∷ y) z w e j refl (omega (arith, h, counted x y i e w, in_rows t w (followed_row_lem t f z r some))))),
          λ some. let w = follows_of t i in
              let r = row_at x y i e in
              by-leb 1 (count w x)
              (λ _ h. h)
              (λ _ h. absurd (none_below (x ++ (i ∷ [])) y i w (e ∙ sym (append_assoc x (i ∷ []) y)) (in_last x i) refl
              (omega (arith, h, counted x y i e w, in_rows t w (followed_row_lem t f i r some), count_other w i y (λ q. omega (arith, q, f.lower i r some)))))),
        )

        stands_order : is_order t (padded l) ≡ true
        stands_order = padded_order t f l every (λ a b i e. stands_rows a b i e)

        stands_meets : (i : ℕ) → Row t i → meets t (padded l) i ≡ true
        unfolding passes
        stands_meets i r =
            let p = part i l (omega (arith, every i, in_rows t i r)) in
            let x = p.above in
            let y = p.below in
            meets_free stands_order i
            ∙ subst (λ (o : List ℕ). meets (unbound t) o i ≡ true) (sym (split x y i p.whole))
            (moved (unbound t) (unbound_table t f) (erase i (x ++ (i ∷ []))) [] x (y ++ tail) i
            (λ z. omega (arith, erase_last i (x ++ (i ∷ [])) (in_last x i) z, down_to x y i p.whole z))
            (λ z. omega (arith, erase_last i (x ++ (i ∷ [])) (in_last x i) z)) (free_stand (erase i (x ++ (i ∷ []))) i) (free_stand x i)
            (may_passes (x ++ (i ∷ [])) i (may_at x y i p.whole)))

      -- so the two are one test
      pub correct_is : is_correct t (padded l) ≡ stands_from t [] l
      unfolding is_correct
      correct_is =
          both_ways (is_order t (padded l) && all (meets t (padded l)) (rows_of t)) (stands_from t [] l)
          (λ e. correct_stands (and_left (is_order t (padded l)) (all (meets t (padded l)) (rows_of t)) e)
          (λ i r. all_in (meets t (padded l)) (rows_of t) (and_right (is_order t (padded l)) (all (meets t (padded l)) (rows_of t)) e) i (in_rows t i r)))
          (λ e. and_both (is_order t (padded l)) (all (meets t (padded l)) (rows_of t)) (stands_order e)
          (in_all (meets t (padded l)) (rows_of t) (λ i j. stands_meets e i (rows_in_lem t i j))))

    -- the choices of a table, by the lowest row (rule 25.7)
    pub choices_lowest_lem : choices t ≡ by_lowest (may_stand t) t.n (rows_of t)
    unfolding choices arrangements
    choices_lowest_lem =
        many_agree (λ o. is_correct t (padded o)) (stands_from t []) (arranged t.n (rows_of t))
        (every_weaker (λ o. Same o (rows_of t)) (λ o. is_correct t (padded o) ≡ stands_from t [] o) (λ o h. correct_is o h) (arranged t.n (rows_of t))
        (listed_same t.n (rows_of t) (length_rows t.n)))
        ∙ many_standing t.n (rows_of t) (length_rows t.n) (λ x. omega arith)
