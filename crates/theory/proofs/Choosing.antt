-- The planner's choice: what it places meets its deadlines, and where it stops no order is correct.
use Prim.Native.Nat.{ℕ, zero, suc, ◌+◌, ◌-◌, ◌≤◌}
use Rattle.std.specs.Prelude.{Bool, false, not, ◌≡◌, ltb, leb, get_or}
use Rattle.std.proofs.Math.Bool.{true}
use Rattle.std.proofs.Math.Path.{refl, ap}
use Rattle.std.proofs.Common.{sym, subst, ◌∙◌, take-append-drop, drop_at}
use mathlib.Core.List.{List, [], ◌∷◌, ◌++◌, append_assoc, append-nil}
use native.Mathlib.Omega.{arith}
use Rattle.std.proofs.Math.Dec.{eqb}
use Rattle.std.proofs.Math.ListN.{length, take, drop, replicate}
use Rattle.std.proofs.Math.Seq.{take-append-add}
use borrow.Author.Tests.{eq-eqb, ne_eqb, leb-true, le-leb, ltb-true}
use Rattle.rules.specs.declared.Table.{Table}
use Rattle.rules.specs.Lists.{all, all_zero, first, count, keep, erase}
use Rattle.rules.specs.Rows.{rows_of, deadline_of, follows_of, is_follower, is_low}
use Rattle.rules.specs.Orders.{is_arrangement, is_above, keeps_wait, is_order}
use Rattle.rules.specs.Correct.{Correct}
use Rattle.rules.specs.Worst.{meets}
use Rattle.rules.specs.Choice.{insert, falling, sequence, unfollowed, tried, passes, taker, Choice, fill, choice, padded}
use Rattle.theory.specs.Tests.{by_bool, by_eqb, by-leb, not_both, not_is, and_both}
use Rattle.theory.specs.Counts.{In, Within, Same, part, last_of, count_append, count_same, count_other, count_erase_same, count_erase_other}
use Rattle.theory.specs.Counts.{in_tail, erase_last, length_erase, first_in, first_passes, first_none, same_size}
use Rattle.theory.specs.Facts.{Row, in_rows, rows_in_lem, all_in, in_all, count_rows, count_zero, TableFacts}
use Rattle.theory.specs.Waits.{Closed, Stand, stand_same, rows_closed}
use Rattle.theory.specs.Places.{lower_above, above_lower, in_above, stand_at, order_rows, rows_once, length_rows, count_zeros}
use Rattle.theory.proofs.Finishes.{rows_of_lem}
use Rattle.theory.proofs.Promised.{moved, all_meet, correct}
use Rattle.theory.specs.Choosing.{Filling}

-- the trial sequence holds the rows
same_insert : (t : Table) (i : ℕ) (l : List ℕ) → Same (insert t i l) (i ∷ l)
same_insert t i [] x = refl
same_insert t i (j ∷ l) x =
    by_bool (ltb (deadline_of t i) (deadline_of t j))
    (λ e. rw e (by_bool (eqb x i)
    (λ g. rw g (by_bool (eqb x j) (λ h. rw h (omega (arith, rw g at (same_insert t i l x)))) (λ h. rw h (rw g at (same_insert t i l x)))))
    (λ g. rw g (by_bool (eqb x j) (λ h. rw h (omega (arith, rw g at (same_insert t i l x)))) (λ h. rw h (rw g at (same_insert t i l x)))))))
    (λ e. rw e)

same_falling : (t : Table) (l : List ℕ) → Same (falling t l) l
same_falling t [] x = refl
same_falling t (i ∷ l) x =
    by_bool (eqb x i)
    (λ e. rw e (omega (arith, rw e at (same_insert t i (falling t l) x), same_falling t l x)))
    (λ e. rw e (omega (arith, rw e at (same_insert t i (falling t l) x), same_falling t l x)))

keep_both : (p : ℕ → Bool) (l : List ℕ) → Same (keep p l ++ keep (λ x. not (p x)) l) l
keep_both p l x = count_append x (keep p l) (keep (λ y. not (p y)) l) ∙ go l
  where
    go : (l : List ℕ) → count x (keep p l) + count x (keep (λ y. not (p y)) l) ≡ count x l
    go [] = refl
    go (y ∷ l) =
        by_bool (p y)
        (λ e. rw e (by_bool (eqb x y) (λ d. rw d (omega (arith, go l))) (λ d. rw d (go l))))
        (λ e. rw e (by_bool (eqb x y) (λ d. rw d (omega (arith, go l))) (λ d. rw d (go l))))

pub same_sequence : (t : Table) → Same (sequence t) (rows_of t)
unfolding sequence
same_sequence t x = keep_both (is_low t) (falling t (rows_of t)) x ∙ same_falling t (rows_of t) x

-- a row of the list that none of its rows follows
pub none_follow : (t : Table) (l : List ℕ) (i : ℕ) → unfollowed t l i ≡ true → (x : ℕ) → In x l → follows_of t x ≡ i → ⊥
unfolding unfollowed
none_follow t l i e x j q =
    not_both (eqb (follows_of t x) i) (eq-eqb (follows_of t x) i q) (not_is (eqb (follows_of t x) i) (all_in (λ y. not (eqb (follows_of t y) i)) l e x j))

pub follow_none : (t : Table) (l : List ℕ) (i : ℕ) → ((x : ℕ) → In x l → follows_of t x ≡ i → ⊥) → unfollowed t l i ≡ true
unfolding unfollowed
follow_none t l i h = in_all (λ y. not (eqb (follows_of t y) i)) l (λ x j. rw (ne_eqb (follows_of t x) i (h x j)))

-- such a row may stand lowest of a list that holds whatever its rows follow
pub lowest_stands : (t : Table) → TableFacts t → (l : List ℕ) → ((x : ℕ) → In x l → Row t x) → Closed t l → (i : ℕ) → In i l → unfollowed t l i ≡ true → Stand t (erase i l) i
lowest_stands t f l rows closed i j e = (
  λ x k some. let m : In x l = within x k in
      kept (follows_of t x) (none_follow t l i e x m) (closed x m some),
  λ some. kept (follows_of t i) (λ q. omega (arith, f.lower i (rows i j) some)) (closed i j some),
)
  where
    within : (x : ℕ) → In x (erase i l) → In x l
    within x k = by_eqb x i (λ _ q. rw q j) (λ _ q. omega (arith, count_erase_other x i l q))

    kept : (w : ℕ) → (w ≡ i → ⊥) → In w l → In w (erase i l)
    kept w n k = omega (arith, count_erase_other w i l n)

-- fewer rows, fewer followers
pub unfollowed_within : (t : Table) (s r : List ℕ) (i : ℕ) → Within r s → unfollowed t s i ≡ true → unfollowed t r i ≡ true
unfollowed_within t s r i w e = follow_none t r i (λ x j. none_follow t s i e x (omega (arith, w x)))

-- two lists that are the same have the same head and the same tail
head_same : (x y : ℕ) (a b : List ℕ) → x ∷ a ≡ y ∷ b → x ≡ y
head_same x y a b e = ap (λ (l : List ℕ). get_or l 0 0) e

tail_same : (x y : ℕ) (a b : List ℕ) → x ∷ a ≡ y ∷ b → a ≡ b
tail_same x y a b e = ap (drop 1) e

-- a row that is tried is one of those left, and none of them follows it
pub keep_in : (p : ℕ → Bool) (l : List ℕ) (x : ℕ) → In x (keep p l) → In x l × (p x ≡ true)
keep_in p [] x i = absurd (omega arith)
keep_in p (y ∷ l) x i =
    by_bool (p y)
    (λ e. by_eqb x y
    (λ d q. (rw d (omega arith), rw q e))
    (λ d q. let r = keep_in p l x (rw (e, d) at i) in (in_tail x y l r.0, r.1)))
    (λ e. let r = keep_in p l x (rw e at i) in (in_tail x y l r.0, r.1))

pub in_keep : (p : ℕ → Bool) (l : List ℕ) (x : ℕ) → In x l → p x ≡ true → In x (keep p l)
in_keep p [] x i e = absurd (omega arith)
in_keep p (y ∷ l) x i e =
    by_eqb x y
    (λ d q. let z : p y ≡ true = rw q at e in rw (z, d) (omega arith))
    (λ d q. by_bool (p y)
    (λ z. rw z (in_tail x y (keep p l) (in_keep p l x (rw d at i) e)))
    (λ z. rw z (in_keep p l x (rw d at i) e)))

-- the rows left are rows of the table
pub filling_rows : (t : Table) (left placed : List ℕ) → Filling t left placed → (x : ℕ) → In x left → Row t x
filling_rows t left placed h x i = rows_in_lem t x (omega (arith, h.every x, count_append x left placed))

module _ (t : Table) (f : TableFacts t) where
  -- row i takes the place
  module _ (left placed : List ℕ) (h : Filling t left placed) (i : ℕ) (j : In i left) (u : unfollowed t left i ≡ true) (p : passes t left i ≡ true) where
    taken_every : Same (erase i left ++ (i ∷ placed)) (rows_of t)
    taken_every x =
        by_eqb x i
        (λ _ q. rw q (omega (
          arith,
          h.every i,
          count_append i (erase i left) (i ∷ placed),
          count_append i left placed,
          count_erase_same i left,
          count_same i placed,
        )))
        (λ _ q. omega (
          arith,
          h.every x,
          count_append x (erase i left) (i ∷ placed),
          count_append x left placed,
          count_erase_other x i left q,
          count_other x i placed q,
        ))

    own_stand : Stand t (erase i left) i
    own_stand = lowest_stands t f left (filling_rows t left placed h) h.closed i j u

    taken_self : meets t (erase i left ++ (i ∷ placed)) i ≡ true
    unfolding passes
    taken_self =
        moved t f (erase i left) [] (erase i left) placed i
        (λ x. omega (arith, taken_every x, count_append x (erase i left) (i ∷ []), count_append x (erase i left) (i ∷ placed), count_append x (i ∷ []) placed))
        (λ x. omega arith) own_stand own_stand p

    -- a row placed before has the same rows above it
    moved_up : (a : List ℕ) → Same (left ++ a) (erase i left ++ (i ∷ a))
    moved_up a x =
        by_eqb x i
        (λ _ q. rw q (omega (
          arith,
          count_append i left a,
          count_append i (erase i left) (i ∷ a),
          count_erase_same i left,
          count_same i a,
        )))
        (λ _ q. omega (
          arith,
          count_append x left a,
          count_append x (erase i left) (i ∷ a),
          count_erase_other x i left q,
          count_other x i a q,
        ))

    taken_other : (k : ℕ) → In k placed → meets t (erase i left ++ (i ∷ placed)) k ≡ true
    taken_other k y =
        let d = part k placed y in
        let a = d.above in
        let b = d.below in
        let was : left ++ placed ≡ left ++ a ++ (k ∷ b) = ap (λ (l : List ℕ). left ++ l) d.whole ∙ sym (append_assoc left a (k ∷ b)) in
        let is : erase i left ++ (i ∷ placed) ≡ erase i left ++ (i ∷ a) ++ (k ∷ b) =
        ap (λ (l : List ℕ). erase i left ++ (i ∷ l)) d.whole ∙ sym (append_assoc (erase i left) (i ∷ a) (k ∷ b)) in
        subst (λ (l : List ℕ). meets t l k ≡ true) (sym is)
        (moved t f (left ++ a) b (erase i left ++ (i ∷ a)) b k
        (λ x. omega (arith, h.every x, ap (count x) was, count_append x (left ++ a) (k ∷ []), count_append x (left ++ a) (k ∷ b), count_append x (k ∷ []) b))
        (λ x. omega (arith, moved_up a x, count_append x (left ++ a) (k ∷ []), count_append x (erase i left ++ (i ∷ a)) (k ∷ [])))
        (h.stand a b k d.whole) (stand_same t (left ++ a) (erase i left ++ (i ∷ a)) k (moved_up a) (h.stand a b k d.whole))
        (subst (λ (l : List ℕ). meets t l k ≡ true) was (h.meet k y)))

    -- rows placed, with the new one on top
    taken_stand : (a b : List ℕ) (k : ℕ) → i ∷ placed ≡ a ++ (k ∷ b) → Stand t (erase i left ++ a) k
    taken_stand [] b k e =
        let z : i ≡ k = head_same i k placed b e in
        rw (append-nil (erase i left)) (subst (Stand t (erase i left)) z own_stand)
    taken_stand (x ∷ a) b k e =
        let z : i ≡ x = head_same i x placed (a ++ (k ∷ b)) e in
        rw (← z) (stand_same t (left ++ a) (erase i left ++ (i ∷ a)) k (moved_up a) (h.stand a b k (tail_same i x placed (a ++ (k ∷ b)) e)))

    taken : Filling t (erase i left) (i ∷ placed)
    taken =
        record {
          every = taken_every;
          meet = λ k y. by_eqb k i (λ _ q. rw q taken_self) (λ _ q. taken_other k (rw (count_other k i placed q) at y));
          closed = own_stand.0;
          stand = taken_stand;
        }

  -- the choice ends with its places filled, and no row that is left and that none of them follows passes
  pub record Filled (c : Choice) : Type 0 where
    pub filling : Filling t c.left c.placed
    pub stuck : (x : ℕ) → In x c.left → unfollowed t c.left x ≡ true → passes t c.left x ≡ false

  no_zero : (left placed : List ℕ) → Filling t left placed → In 0 left → ⊥
  no_zero left placed h i = omega (arith, h.every 0, count_append 0 left placed, count_zero t.n)

  length_none : (x : ℕ) (l : List ℕ) → length l ≤ 0 → In x l → ⊥
  length_none x [] h i = omega arith
  length_none x (y ∷ l) h i = omega arith

  filled : (k : ℕ) (left placed : List ℕ) → length left ≤ k → Filling t left placed → Filled (fill t k left placed)
  unfolding fill taker
  filled zero left placed p h = record { filling = h; stuck = λ x i. absurd (length_none x left p i) }
  filled (suc k') left placed p h =
      let rows = tried t left in
      let i = first (passes t left) rows in
      by_eqb i 0
      (λ e q. rw e (record {
        filling = h;
        stuck = λ x j u. first_none (passes t left) rows (λ z. no_zero left placed h (keep_in (unfollowed t left) left 0 z).0) q x
            (in_keep (unfollowed t left) left x j u);
      }))
      (λ e q. let k = keep_in (unfollowed t left) left i (first_in (passes t left) rows q) in
      rw e (filled k' (erase i left) (i ∷ placed) (omega (arith, length_erase i left k.0))
      (taken left placed h i k.0 k.1 (first_passes (passes t left) rows q))))

  pub choice_filled : Filled (choice t)
  unfolding choice
  choice_filled =
      filled t.n (sequence t) [] (omega (arith, same_size (sequence t) (rows_of t) (same_sequence t), length_rows t.n))
      (record {
        every = λ x. omega (arith, count_append x (sequence t) [], same_sequence t x);
        meet = λ i j. absurd (omega arith);
        closed = rows_closed t f (sequence t) (same_sequence t);
        stand = λ a b i e. absurd (none_whole a b i e);
      })
    where
      none_whole : (a b : List ℕ) (i : ℕ) → [] ≡ a ++ (i ∷ b) → ⊥
      none_whole a b i e = omega (arith, ap (count i) e, count_append i a (i ∷ b), count_same i b)

  -- an order of all rows, as sixty-four numbers
  module _ (l : List ℕ) (every : Same l (rows_of t)) (stand : (a b : List ℕ) (i : ℕ) → l ≡ a ++ (i ∷ b) → Stand t a i) where
    rest : List ℕ
    rest = take (64 - length l) (replicate 64 0)

    padded_is : padded l ≡ l ++ rest
    unfolding padded rest
    padded_is =
        let n = same_size l (rows_of t) every in
        ap (λ (k : ℕ). take k (l ++ replicate 64 0)) (let e : 64 ≡ length l + (64 - length l) = omega (arith, n, length_rows t.n, f.few) in e)
        ∙ take-append-add l (replicate 64 0) (64 - length l)

    rest_zero : all_zero rest ≡ true
    unfolding rest
    rest_zero = zeros (64 - length l) 64
      where
        zeros : (m n : ℕ) → all_zero (take m (replicate n 0)) ≡ true
        zeros zero n = refl
        zeros (suc m) zero = refl
        zeros (suc m) (suc n) = zeros m n

    arrangement : is_arrangement t (l ++ rest) ≡ true
    unfolding is_arrangement
    arrangement =
        and_both (all (λ i. eqb (count i (l ++ rest)) 1) (rows_of t)) (all_zero (drop t.n (l ++ rest)))
        (in_all (λ i. eqb (count i (l ++ rest)) 1) (rows_of t) (λ x i. let r = rows_in_lem t x i in
        eq-eqb (count x (l ++ rest)) 1 (omega (
          arith,
          count_append x l rest,
          every x,
          count_rows t.n x r.from r.up_to,
          count_zeros x rest r.from rest_zero,
        ))))
        (rw (drop_at l rest t.n (same_size l (rows_of t) every ∙ length_rows t.n)) rest_zero)

    -- the row that row i follows comes before it
    kept_wait : (i : ℕ) → In i (rows_of t) → keeps_wait t (l ++ rest) i ≡ true
    kept_wait i j =
        by_bool (is_follower t i)
        (λ e. let d = part i l (omega (arith, every i)) in
        let whole : l ++ rest ≡ d.above ++ (i ∷ (d.below ++ rest)) = ap (λ (x : List ℕ). x ++ rest) d.whole ∙ append_assoc d.above (i ∷ d.below) rest in
        rw e (subst (λ (o : List ℕ). is_above (follows_of t i) i o ≡ true) (sym whole) (in_above (follows_of t i) i d.above (d.below ++ rest)
        (λ z. omega (arith, every 0, count_zero t.n, ap (count 0) d.whole ∙ count_append 0 d.above (i ∷ d.below)))
        (λ z. omega (arith, every i, rows_once t.n i, ap (count i) d.whole ∙ count_append i d.above (i ∷ d.below), count_same i d.below))
        ((stand d.above d.below i d.whole).1 (ltb-true 0 (follows_of t i) e)))))
        (λ e. rw e)

    pub padded_order : is_order t (padded l) ≡ true
    unfolding is_order
    padded_order = rw padded_is (and_both (is_arrangement t (l ++ rest)) (all (keeps_wait t (l ++ rest)) (rows_of t)) arrangement (in_all (keeps_wait t (l ++ rest)) (rows_of t) kept_wait))

    -- zeros below matter to no row
    pub padded_meets : (i : ℕ) → Row t i → meets t l i ≡ true → meets t (padded l) i ≡ true
    padded_meets i r m =
        let d = part i l (omega (arith, every i, in_rows t i r)) in
        let is : padded l ≡ d.above ++ (i ∷ (d.below ++ rest)) =
        padded_is ∙ ap (λ (k : List ℕ). k ++ rest) d.whole ∙ append_assoc d.above (i ∷ d.below) rest in
        subst (λ (k : List ℕ). meets t k i ≡ true) (sym is)
        (moved t f d.above d.below d.above (d.below ++ rest) i
        (λ x. omega (
          arith,
          every x,
          ap (count x) d.whole,
          count_append x d.above (i ∷ []),
          count_append x d.above (i ∷ d.below),
          count_append x (i ∷ []) d.below,
        ))
        (λ x. omega arith)
        (stand d.above d.below i d.whole) (stand d.above d.below i d.whole)
        (subst (λ (k : List ℕ). meets t k i ≡ true) d.whole m))

  -- the rows by their numbers keep all waits, since a row follows none but one of a lower number
  pub numbered_order : is_order t (padded (rows_of t)) ≡ true
  numbered_order = padded_order (rows_of t) (λ x. refl) below
    where
      below : (a b : List ℕ) (i : ℕ) → rows_of t ≡ a ++ (i ∷ b) → Stand t a i
      below a b i whole = (
        λ x j some. lower_above t.n a b i whole (follows_of t x) some (omega (arith, f.lower x (row x (omega (arith, j, counted x))) some, above_lower t.n a b i whole x j)),
        λ some. lower_above t.n a b i whole (follows_of t i) some (f.lower i (row i (omega (arith, counted i, count_same i b))) some),
      )
        where
          counted : (x : ℕ) → count x (rows_of t) ≡ count x a + count x (i ∷ b)
          counted x = ap (count x) whole ∙ count_append x a (i ∷ b)

          row : (x : ℕ) → In x (rows_of t) → Row t x
          row x j = rows_in_lem t x j

  -- the choice leaves no row: its order passes check 6 and is correct
  module _ (none : (choice t).left ≡ []) where
    choice_every : Same (choice t).placed (rows_of t)
    choice_every = subst (λ (l : List ℕ). Same (l ++ (choice t).placed) (rows_of t)) none choice_filled.filling.every

    choice_stand : (a b : List ℕ) (i : ℕ) → (choice t).placed ≡ a ++ (i ∷ b) → Stand t a i
    choice_stand a b i e = subst (λ (l : List ℕ). Stand t (l ++ a) i) none (choice_filled.filling.stand a b i e)

    pub choice_order : is_order t (padded (choice t).placed) ≡ true
    choice_order = padded_order (choice t).placed choice_every choice_stand

    pub choice_correct : Correct t (padded (choice t).placed)
    choice_correct =
        correct t f (padded (choice t).placed) choice_order
        (λ i r. padded_meets (choice t).placed choice_every choice_stand i r
        (subst (λ (l : List ℕ). meets t (l ++ (choice t).placed) i ≡ true) none
        (choice_filled.filling.meet i (omega (arith, choice_every i, in_rows t i r)))))

  -- row k stands lowest in an order among the rows of s: it passes lowest in s as well
  module _ (s : List ℕ) (w : Within s (rows_of t)) (closed : Closed t s) (o : List ℕ) (e : is_order t o ≡ true) (a b : List ℕ) (k : ℕ) (j : In k s)
      (whole : take t.n o ≡ a ++ (k ∷ b)) (after : (y : ℕ) → In y b → leb 1 (count y s) ≡ false) where
    down_to : Within (a ++ (k ∷ [])) (rows_of t)
    down_to y = omega (arith, order_rows t o e y, ap (count y) whole, count_append y a (k ∷ []), count_append y a (k ∷ b), count_append y (k ∷ []) b)

    all_above : Within (erase k s ++ (k ∷ [])) (a ++ (k ∷ []))
    all_above y =
        by-leb 1 (count y s)
        (λ l i. by-leb 1 (count y b)
        (λ _ z. absurd (not_both (leb 1 (count y s)) l (after y z)))
        (λ _ z. omega (
          arith,
          erase_last k s j y,
          w y,
          rows_once t.n y,
          order_rows t o e y,
          ap (count y) whole,
          count_append y a (k ∷ []),
          count_append y a (k ∷ b),
          count_append y (k ∷ []) b,
        )))
        (λ _ i. omega (arith, erase_last k s j y))

    -- no row of s follows it: such a row would stand below it
    lowest_unfollowed : unfollowed t s k ≡ true
    lowest_unfollowed = follow_none t s k follower
      where
        follower : (x : ℕ) → In x s → follows_of t x ≡ k → ⊥
        follower x i q =
            let r = rows_of_lem t s w x i in
            let some : 1 ≤ follows_of t x = omega (arith, (rows_of_lem t s w k j).from) in
            let split : count x (take t.n o) ≡ count x a + count x (k ∷ b) = ap (count x) whole ∙ count_append x a (k ∷ b) in
            let other = count_other x k b (λ y. omega (arith, f.lower x r some)) in
            by-leb 1 (count x b)
            (λ _ z. not_both (leb 1 (count x s)) (le-leb 1 (count x s) i) (after x z))
            (λ _ z. let up : In x a = omega (arith, order_rows t o e x, in_rows t x r, split, other) in
            let twice : In k a = rw q at ((stand_at t f o e k a b whole).0 x up some) in
            omega (arith, twice, order_rows t o e k, rows_once t.n k, ap (count k) whole, count_append k a (k ∷ b), count_same k b))

    lowest_passes : meets t o k ≡ true → passes t s k ≡ true
    unfolding passes
    lowest_passes m =
        moved t f a (b ++ drop t.n o) (erase k s) [] k down_to all_above (stand_at t f o e k a b whole) (lowest_stands t f s (rows_of_lem t s w) closed k j lowest_unfollowed)
        (subst (λ (l : List ℕ). meets t l k ≡ true)
        (sym (take-append-drop t.n o) ∙ ap (λ (l : List ℕ). l ++ drop t.n o) whole ∙ append_assoc a (k ∷ b) (drop t.n o)) m)

  -- a set of rows that holds whatever its rows follow, and of which none that none follows passes lowest: no order is correct
  pub no_order : (s : List ℕ) → Within s (rows_of t) → Closed t s → ((x : ℕ) → In x s → unfollowed t s x ≡ true → passes t s x ≡ false) → (x : ℕ) → In x s
      → (o : List ℕ) → is_order t o ≡ true → Correct t o → ⊥
  no_order s w closed stuck x i o e c =
      let r = last_of (λ y. leb 1 (count y s)) (take t.n o) x (omega (arith, w x, order_rows t o e x)) (le-leb 1 (count x s) i) in
      let j : In r.row s = leb-true 1 (count r.row s) r.passing in
      not_both (passes t s r.row)
      (lowest_passes s w closed o e r.above r.below r.row j r.whole r.after (all_meet t f o e c r.row (rows_of_lem t s w r.row j)))
      (stuck r.row j (lowest_unfollowed s w closed o e r.above r.below r.row j r.whole r.after))

  -- the choice leaves a row: no order is correct
  pub choice_none : (x : ℕ) → In x (choice t).left → (o : List ℕ) → is_order t o ≡ true → Correct t o → ⊥
  choice_none x i =
      no_order (choice t).left (λ y. omega (arith, choice_filled.filling.every y, count_append y (choice t).left (choice t).placed))
      choice_filled.filling.closed choice_filled.stuck x i
