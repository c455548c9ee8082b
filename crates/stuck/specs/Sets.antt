-- Sets of rows as lists, from the lowest number up: two that hold the same rows are one list; rows of a set of rows; and the rows of a word (rules 4.8, 25.3).
use Prim.Native.Nat.{ℕ, suc, ◌+◌, ◌-◌, ◌^◌, ◌≤◌}
use Rattle.std.specs.Prelude.{Bool, List, [], ◌∷◌, map, ◌≡◌, refl, eqb, length}
use Rattle.std.proofs.Common.{sym, ap₂, subst, ◌∙◌, arith, eq-eqb, eqb-true}
use Rattle.std.proofs.Math.Path.{ap}
use Rattle.std.proofs.lemmas.List.{length-map}
use Rattle.sweep.specs.Padded.{map_same}
use Rattle.rules.specs.declared.Table.{Table}
use Rattle.rules.specs.Choice.{padded, word}
use Rattle.rules.specs.Lists.{count, first, erase, rows_to}
use Rattle.rules.specs.Rows.{at, rows_of, release_of, work_of, deadline_of, promised_of, follows_of}
use Rattle.theory.specs.Counts.{In, Once, Within, Same, in_head, in_tail, count_same, count_other, map_entry}
use Rattle.theory.specs.Facts.{TableFacts, count_zero}
use Rattle.theory.proofs.Finishes.{rows_of_lem, once_of}
use Rattle.theory.specs.Places.{rows_once}
use Rattle.theory.specs.Sorting.{Sorted}
use Rattle.theory.specs.Tests.{by_bool, by_eqb, by-leb, both_ways}
use Rattle.sweep.specs.Holds.{Holds, holds_empty, holds_with, keep_left, count_tail}
use Rattle.trials.specs.Lines.{sorted_rising}
use Rattle.choices.specs.Choices.{rows_in, renumbered, alone}
use Rattle.lowest.proofs.Alone.{in_number, renumbered_row, renumbered_none, entry_in, single, figure, numbers, followed, by-followed}
use Rattle.lowest.specs.Alone.{Chosen}
use Rattle.lowest.specs.Images.{Single, in_map, once_map}
use Rattle.lowest.proofs.Counted.{rows_rising}
use Rattle.lowest.specs.Listed.{erase_within}

-- rising lists

-- no row of a rising list is below its bound
rising_from : (n : ℕ) (l : List ℕ) → Sorted (λ x. x) n l → (x : ℕ) → In x l → n ≤ x
rising_from n [] s x i = absurd (omega arith)
rising_from n (y ∷ l) s x i =
    by_eqb x y
    (λ _ q. omega (arith, s.0, q))
    (λ e q. omega (arith, s.0, rising_from y l s.1 x (rw e at i)))

-- a row counts at the head of a list
head : (z x : ℕ) (l : List ℕ) → z ≡ x → count z (x ∷ l) ≡ suc (count z l)
head z x l q = subst (λ (y : ℕ). count z (y ∷ l) ≡ suc (count z l)) q (count_same z l)

-- two that hold the same rows are one list
pub rising_same : (m n : ℕ) (a b : List ℕ) → Sorted (λ x. x) m a → Sorted (λ x. x) n b → Same a b → a ≡ b
rising_same m n [] [] s r h = refl
rising_same m n [] (y ∷ b) s r h = absurd (omega (arith, h y, count_same y b))
rising_same m n (x ∷ a) [] s r h = absurd (omega (arith, h x, count_same x a))
rising_same m n (x ∷ a) (y ∷ b) s r h =
    let up : y ≤ x = rising_from y (y ∷ b) (omega arith, r.1) x (omega (arith, h x, count_same x a)) in
    let down : x ≤ y = rising_from x (x ∷ a) (omega arith, s.1) y (omega (arith, h y, count_same y b)) in
    let e : x ≡ y = omega arith in
    ap₂ (λ (z : ℕ) (l : List ℕ). z ∷ l) e
    (rising_same x y a b s.1 r.1 (λ z. by_eqb z x
    (λ _ q. omega (arith, h z, head z x a q, head z y b (q ∙ e)))
    (λ _ q. omega (arith, h z, count_other z x a q, count_other z y b (λ p. q (p ∙ sym e))))))

rising_erase : (i n : ℕ) (l : List ℕ) → Sorted (λ x. x) n l → Sorted (λ x. x) n (erase i l)
rising_erase i n [] s = tt
rising_erase i n (x ∷ []) s = by_bool (eqb i x) (λ e. rw e tt) (λ e. rw e s)
rising_erase i n (x ∷ y ∷ l) s =
    by_bool (eqb i x)
    (λ e. rw e (omega (arith, s.0, s.1.0), s.1.1))
    (λ e. rw e (s.0, rising_erase i x (y ∷ l) s.1))

rising_map : (φ : ℕ → ℕ) (n m : ℕ) (l : List ℕ) → ((x : ℕ) → In x l → m ≤ φ x) → ((x y : ℕ) → In x l → In y l → x ≤ y → φ x ≤ φ y) → Sorted (λ x. x) n l
    → Sorted (λ x. x) m (map φ l)
rising_map φ n m [] h k s = tt
rising_map φ n m (x ∷ l) h k s = (
  h x (in_head x l),
  rising_map φ x (φ x) l (λ y i. k x y (in_head x l) (in_tail y x l i) (rising_from x l s.1 y i))
      (λ y z i j. k y z (in_tail y x l i) (in_tail z x l j)) s.1,
)

-- sets of rows of a table

pub chosen_rows : (t : Table) → Chosen t (rows_of t)
chosen_rows t = record { within = λ x. omega arith; rising = rows_rising t.n }

pub chosen_erase : (t : Table) (s : List ℕ) (i : ℕ) → Chosen t s → Chosen t (erase i s)
chosen_erase t s i c = record { within = λ x. omega (arith, c.within x, erase_within i s x); rising = rising_erase i 0 s c.rising }

pub chosen_same : (t : Table) (a b : List ℕ) → Chosen t a → Chosen t b → Same a b → a ≡ b
chosen_same t a b c d h = rising_same 0 0 a b c.rising d.rising h

-- a row of a list under other numbers
pub map_in : (φ : ℕ → ℕ) (l : List ℕ) (x : ℕ) → In x l → In (φ x) (map φ l)
map_in φ [] x i = absurd (omega arith)
map_in φ (y ∷ l) x i =
    by_eqb x y
    (λ _ q. omega (arith, head (φ x) (φ y) (map φ l) (ap φ q)))
    (λ e q. in_tail (φ x) (φ y) (map φ l) (map_in φ l x (rw e at i)))

-- the word of some rows has just these
word_holds : (l : List ℕ) → Once l → ((x : ℕ) → In x l → (1 ≤ x) × (x ≤ 64)) → Holds (word l) l
unfolding word
word_holds [] o h = holds_empty
word_holds (i ∷ l) o h =
    let r = h i (in_head i l) in
    let p = word_holds l (λ x. omega (arith, o x, count_tail x i l)) (λ x j. h x (in_tail x i l j)) in
    let e : word (i ∷ l) ≡ word l + 2 ^ (i - 1) = omega arith in
    subst (λ (m : ℕ). Holds m (i ∷ l)) (sym e) (holds_with (word l) l i r.0 r.1 p (omega (arith, o i, count_same i l)))

module _ (t : Table) (f : TableFacts t) where
  pub word_rows : (l : List ℕ) → Within l (rows_of t) → Same (rows_in t (word l)) l
  word_rows l w =
      keep_left (word l) l (rows_of t)
      (word_holds l (once_of t l w) (λ x i. let r = rows_of_lem t l w x i in (r.from, omega (arith, r.up_to, f.few))))
      (rows_once t.n) (count_zero t.n) w

-- rows of a set of rows, numbered anew in the table of the set alone

pub map_map : (g h : ℕ → ℕ) (l : List ℕ) → map g (map h l) ≡ map (λ x. g (h x)) l
map_map g h [] = refl
map_map g h (x ∷ l) = ap (λ (ys : List ℕ). g (h x) ∷ ys) (map_map g h l)

first_alike : (p q : ℕ → Bool) (l : List ℕ) → ((x : ℕ) → In x l → p x ≡ q x) → first p l ≡ first q l
first_alike p q [] h = refl
first_alike p q (x ∷ l) h = rw (h x (in_head x l), first_alike p q l (λ y i. h y (in_tail y x l i)))

module _ (t : Table) (f : TableFacts t) (s : List ℕ) (c : Chosen t s) where
  -- each with its old number they are rows of the set, and rise as they did
  module _ (r : List ℕ) (d : Chosen (alone t s) r) where
    own : (x : ℕ) → In x r → (1 ≤ x) × (x ≤ length s)
    own = numbers t f s c r d.within

    single_own : Single (at s) r
    single_own x y i j = let a = own x i in let b = own y j in single t f s c x y a.0 a.1 b.0 b.1

    pub back_within : Within (map (at s) r) s
    back_within x =
        by-leb 1 (count x (map (at s) r))
        (λ _ i. let p = in_map (at s) r x i in
        let q = own p.row p.inside in
        omega (
          arith,
          once_map (at s) r single_own (once_of (alone t s) r d.within) x,
          subst (λ (y : ℕ). In y s) p.is (entry_in s p.row q.0 q.1),
        ))
        (λ _ i. omega arith)

    pub back_chosen : Chosen t (map (at s) r)
    back_chosen =
        record {
          within = λ x. omega (arith, back_within x, c.within x);
          rising = rising_map (at s) 0 0 r (λ x i. omega arith)
              (λ x y i j h. let a = own x i in let b = own y j in sorted_rising (λ z. z) 0 s c.rising (x - 1) (y - 1) (omega arith) (omega (arith, b.0, b.1)))
              d.rising;
        }

    -- the number of row k of them is that of its old number
    renumbered_back : (k : ℕ) → 1 ≤ k → k ≤ length s → renumbered r k ≡ renumbered (map (at s) r) (at s k)
    renumbered_back k h l =
        ap (λ (m : ℕ). first (λ j. eqb (at r j) k) (rows_to m)) (sym (length-map r (at s)))
        ∙ first_alike (λ j. eqb (at r j) k) (λ j. eqb (at (map (at s) r) j) (at s k)) (rows_to (length (map (at s) r)))
        (λ j i. let b = in_number (length (map (at s) r)) j i in
        let e = length-map r (at s) in
        let m : at (map (at s) r) j ≡ at s (at r j) = map_entry (at s) r (j - 1) (omega (arith, b.0, b.1)) in
        let o = own (at r j) (entry_in r j b.0 (omega (arith, b.1))) in
        rw m (both_ways (eqb (at r j) k) (eqb (at s (at r j)) (at s k))
        (λ z. eq-eqb (at s (at r j)) (at s k) (ap (at s) (eqb-true (at r j) k z)))
        (λ z. eq-eqb (at r j) k (single t f s c (at r j) k o.0 o.1 h l (eqb-true (at s (at r j)) (at s k) z)))))

    -- and so with a row that one of them follows
    wait_back : (w : ℕ) → renumbered r (renumbered s w) ≡ renumbered (map (at s) r) w
    wait_back w =
        by-followed t f s c w
        (λ i q. renumbered_back (renumbered s w) q.0 q.1 ∙ ap (renumbered (map (at s) r)) q.2)
        (λ z. ap (renumbered r) z
        ∙ renumbered_none r 0 (λ i. omega (arith, (own 0 i).0))
        ∙ sym (renumbered_none (map (at s) r) w (λ i. absurd (not_here w z (omega (arith, i, back_within w))))))
      where
        not_here : (w : ℕ) → renumbered s w ≡ 0 → In w s → ⊥
        not_here w z i = omega (arith, z, (renumbered_row s w i).0)

    column : (g h : ℕ → ℕ) → ((x : ℕ) → In x r → g x ≡ h (at s x)) → padded (map g r) ≡ padded (map h (map (at s) r))
    column g h e = ap padded (map_same g (λ x. h (at s x)) r e ∙ sym (map_map h (at s) r))

    -- a table of these columns, with the speeds and the loading of the whole one
    made : ℕ → List ℕ → List ℕ → List ℕ → List ℕ → List ℕ → List ℕ → Table
    made n release work deadline level promised follows =
        record {
          n = n;
          normal = t.normal;
          degraded = t.degraded;
          loading = t.loading;
          release = release;
          work = work;
          deadline = deadline;
          level = level;
          promised = promised;
          follows = follows;
        }

    made_same : (m n : ℕ) (a a' b b' c c' d d' e e' g g' : List ℕ) → m ≡ n → a ≡ a' → b ≡ b' → c ≡ c' → d ≡ d' → e ≡ e' → g ≡ g'
        → made m a b c d e g ≡ made n a' b' c' d' e' g'
    made_same m n a a' b b' c c' d d' e e' g g' p1 p2 p3 p4 p5 p6 p7 = rw (p1, p2, p3, p4, p5, p6, p7)

    -- ALONE AND ALONE AGAIN. The table of rows of a set alone, cut out of the table of the set alone, is that of these rows alone, cut out of the whole table.
    pub alone_twice : alone (alone t s) r ≡ alone t (map (at s) r)
    unfolding alone made
    alone_twice =
        let fig : (g : ℕ → ℕ) (x : ℕ) → In x r → at (padded (map g s)) x ≡ g (at s x) = λ g x i. let o = own x i in figure t f s c g x o.0 o.1 in
        made_same (length r) (length (map (at s) r)) _ _ _ _ _ _ _ _ _ _ _ _
        (sym (length-map r (at s)))
        (column (release_of (alone t s)) (release_of t) (fig (release_of t)))
        (column (work_of (alone t s)) (work_of t) (fig (work_of t)))
        (column (deadline_of (alone t s)) (deadline_of t) (fig (deadline_of t)))
        (column (at (alone t s).level) (at t.level) (fig (at t.level)))
        (column (promised_of (alone t s)) (promised_of t) (fig (promised_of t)))
        (column (λ k. renumbered r (follows_of (alone t s) k)) (λ i. renumbered (map (at s) r) (follows_of t i))
        (λ x i. let o = own x i in ap (renumbered r) (followed t f s c x o.0 o.1) ∙ wait_back (follows_of t (at s x))))
