-- Where the rows of an order stand: an order that passes check 6 holds each row once in its first n places, and nothing else.
use Rattle.std.specs.Prelude.{ℕ, zero, suc, ◌+◌, ◌-◌, ◌≤◌, ◌<◌, Bool, true, ◌||◌, ◌≡◌, refl, List, [], ◌∷◌, ◌++◌, eqb, length, get_or, take, drop}
use Rattle.std.proofs.Math.Bool.{or-true}
use Rattle.std.proofs.Common.{subst, sym, ap, ◌∙◌, append_assoc, arith, length-append, length-take, take-append-drop, get_or-take, take-suc, eqb-true, eq-eqb, lt-ltb}
use Rattle.std.proofs.Math.ListN.{get_or-append}
use Rattle.std.proofs.Math.Seq.{get_or-append_seam}
use Rattle.rules.specs.declared.Table.{Table}
use Rattle.rules.specs.Lists.{all, all_zero, first, rows_to, count, erase, sum}
use Rattle.rules.specs.Rows.{at, rows_of, follows_of, is_follower}
use Rattle.rules.specs.Orders.{is_arrangement, is_above, keeps_wait, is_order}
use Rattle.theory.specs.Tests.{by_eqb, by-leb, and_left, and_right}
use Rattle.theory.specs.Counts.{In, Once, Within, Same, part, in_last, in_entry, first_passes, first_above, sum_append, sum_same, same_size, count_append, count_same, count_other, count_erase_same, count_erase_other, length_erase}
use Rattle.theory.specs.Facts.{Row, in_rows, rows_in_lem, all_in, count_rows, count_zero, count_no_row, TableFacts}
use Rattle.theory.specs.Waits.{Closed, Stand, rows_closed}

-- a list of zeros holds no row
pub count_zeros : (x : ℕ) (l : List ℕ) → 1 ≤ x → all_zero l ≡ true → count x l ≡ 0
count_zeros x [] h e = refl
count_zeros x (y ∷ l) h e =
    let z : y ≡ 0 = eqb-true y 0 (and_left (eqb y 0) (all_zero l) e) in
    count_other x y l (λ q. omega arith) ∙ count_zeros x l h (and_right (eqb y 0) (all_zero l) e)

-- no longer than what it holds: nothing else
pub same_length : (a b : List ℕ) → Within a b → length b ≤ length a → Same a b
same_length [] [] h k x = refl
same_length [] (y ∷ b) h k x = absurd (omega arith)
same_length (y ∷ a) b h k x =
    let i : In y b = omega (arith, h y, count_same y a) in
    let r = same_length a (erase y b) less (omega (arith, length_erase y b i)) in
    by_eqb x y
    (λ e q. subst (λ (w : ℕ). count w (y ∷ a) ≡ count w b) (sym q) (omega (arith, count_same y a, r y, count_erase_same y b)))
    (λ e q. rw e (omega (arith, r x, count_erase_other x y b q)))
  where
    less : (z : ℕ) → count z a ≤ count z (erase y b)
    less z = by_eqb z y
        (λ e q. rw (q, count_erase_same y b) (omega (arith, h y, count_same y a)))
        (λ e q. rw (count_erase_other z y b q) (omega (arith, h z, count_other z y a q)))

pub length_rows : (n : ℕ) → length (rows_to n) ≡ n
length_rows zero = refl
length_rows (suc n) = omega (arith, length-append (rows_to n) (suc n ∷ []), length_rows n)

-- the rows by their numbers: above row i stand those of lower numbers, and no others
rows_entry : (n k : ℕ) → k < n → get_or (rows_to n) k 0 ≡ suc k
rows_entry zero k h = absurd (omega arith)
rows_entry (suc n) k h =
    let l = length_rows n in
    by_eqb k n
    (λ _ q. ap (λ (j : ℕ). get_or (rows_to n ++ (suc n ∷ [])) j 0) (q ∙ sym l) ∙ get_or-append_seam (rows_to n) (suc n) [] 0 ∙ ap suc (sym q))
    (λ _ q. get_or-append (rows_to n) (suc n ∷ []) 0 k (omega arith) ∙ rows_entry n k (omega arith))

module _ (n : ℕ) (a b : List ℕ) (i : ℕ) (whole : rows_to n ≡ a ++ (i ∷ b)) where
  size : length a < n
  size = omega (arith, length_rows n, ap length whole ∙ length-append a (i ∷ b))

  number : i ≡ suc (length a)
  number = sym (ap (λ (l : List ℕ). get_or l (length a) 0) whole ∙ get_or-append_seam a i b 0) ∙ rows_entry n (length a) size

  entry : (k : ℕ) → k < length a → get_or a k 0 ≡ suc k
  entry k h = sym (ap (λ (l : List ℕ). get_or l k 0) whole ∙ get_or-append a (i ∷ b) 0 k h) ∙ rows_entry n k (omega (arith, size))

  pub lower_above : (x : ℕ) → 1 ≤ x → x < i → In x a
  lower_above x p h =
      let e : suc (x - 1) ≡ x = omega arith in
      let l : x - 1 < length a = omega (arith, number) in
      rw (entry (x - 1) l ∙ e) at (in_entry a (x - 1) l)

  pub above_lower : (x : ℕ) → In x a → x < i
  above_lower x j = go a (λ k h. omega (arith, entry k h, number)) j
    where
      go : (l : List ℕ) → ((k : ℕ) → k < length l → get_or l k 0 < i) → In x l → x < i
      go [] h j = absurd (omega arith)
      go (y ∷ l) h j = by_eqb x y (λ _ q. omega (arith, q, h 0 (omega arith))) (λ e q. go l (λ k m. h (suc k) (omega arith)) (rw e at j))

pub rows_once : (n : ℕ) → Once (rows_to n)
rows_once n x = by_eqb x 0
    (λ _ q. rw q (omega (arith, count_zero n)))
    (λ _ q. by-leb x n (λ _ k. omega (arith, count_rows n x (omega arith) k)) (λ _ k. omega (arith, count_no_row n x k)))

-- check 6 asks for an arrangement of the rows, and that it keeps each row's wait
arranged : (t : Table) (o : List ℕ) → is_order t o ≡ true → is_arrangement t o ≡ true
unfolding is_order
arranged t o e = and_left (is_arrangement t o) (all (keeps_wait t o) (rows_of t)) e

keeps : (t : Table) (o : List ℕ) → is_order t o ≡ true → (i : ℕ) → Row t i → keeps_wait t o i ≡ true
unfolding is_order
keeps t o e i r = all_in (keeps_wait t o) (rows_of t) (and_right (is_arrangement t o) (all (keeps_wait t o) (rows_of t)) e) i (in_rows t i r)

-- the first n places of an arrangement hold the rows
pub arranged_rows : (t : Table) (o : List ℕ) → is_arrangement t o ≡ true → Same (rows_of t) (take t.n o)
unfolding is_arrangement
arranged_rows t o e = same_length (rows_of t) (take t.n o) within (omega (arith, length-take t.n o, length_rows t.n))
  where
    each : (x : ℕ) → In x (rows_of t) → count x o ≡ 1
    each x i =
        eqb-true (count x o) 1 (all_in (λ i. eqb (count i o) 1) (rows_of t) (and_left (all (λ i. eqb (count i o) 1) (rows_of t)) (all_zero (drop t.n o)) e) x i)

    parts : (x : ℕ) → count x o ≡ count x (take t.n o) + count x (drop t.n o)
    parts x = rw (← count_append x (take t.n o) (drop t.n o), take-append-drop t.n o)

    within : (x : ℕ) → count x (rows_of t) ≤ count x (take t.n o)
    within x = by-leb 1 (count x (rows_of t))
        (λ _ i. let r = rows_in_lem t x i in
        omega (
          arith,
          each x i,
          parts x,
          rows_once t.n x,
          count_zeros x (drop t.n o) r.from
              (and_right (all (λ i. eqb (count i o) 1) (rows_of t)) (all_zero (drop t.n o)) e),
        ))
        (λ _ i. omega arith)

pub order_rows : (t : Table) (o : List ℕ) → is_order t o ≡ true → Same (rows_of t) (take t.n o)
order_rows t o e = arranged_rows t o (arranged t o e)

-- there are n of them
pub arranged_long : (t : Table) (o : List ℕ) → is_arrangement t o ≡ true → length (take t.n o) ≡ t.n
arranged_long t o e = sym (same_size (rows_of t) (take t.n o) (arranged_rows t o e)) ∙ length_rows t.n

pub order_long : (t : Table) (o : List ℕ) → is_order t o ≡ true → length (take t.n o) ≡ t.n
order_long t o e = arranged_long t o (arranged t o e)

-- the row at a place
pub arranged_row : (t : Table) (o : List ℕ) → is_arrangement t o ≡ true → (k : ℕ) → 1 ≤ k → k ≤ t.n → Row t (at o k)
arranged_row t o e k a b =
    let l = arranged_long t o e in
    let i : In (get_or (take t.n o) (k - 1) 0) (take t.n o) = in_entry (take t.n o) (k - 1) (omega arith) in
    let j : In (at o k) (take t.n o) = rw (get_or-take t.n o (k - 1) 0 (omega arith)) at i in
    rows_in_lem t (at o k) (omega (arith, arranged_rows t o e (at o k)))

pub place_row : (t : Table) (o : List ℕ) → is_order t o ≡ true → (k : ℕ) → 1 ≤ k → k ≤ t.n → Row t (at o k)
place_row t o e = arranged_row t o (arranged t o e)

-- a sum over places, one after the other
sum_places : (f : ℕ → ℕ) (o : List ℕ) (n : ℕ) → n ≤ length o → sum (λ k. f (at o k)) (rows_to n) ≡ sum f (take n o)
sum_places f o zero h = refl
sum_places f o (suc n) h =
    let q : suc n - 1 ≡ n = omega arith in
    sum_append (λ k. f (at o k)) (rows_to n) (suc n ∷ [])
    ∙ rw (take-suc o n 0 (omega arith), sum_append f (take n o) (get_or o n 0 ∷ []), sum_places f o n (omega arith), q)

-- over all places it is the sum over the rows of the table
pub sum_lines : (t : Table) (o : List ℕ) → is_order t o ≡ true → (f : ℕ → ℕ) → sum (λ k. f (at o k)) (rows_of t) ≡ sum f (rows_of t)
sum_lines t o e f =
    sum_places f o t.n (omega (arith, order_long t o e, length-take t.n o)) ∙ sym (sum_same f (rows_of t) (take t.n o) (order_rows t o e))

-- of two rows, the one that comes first from the top stands above the other
pub above_in : (w i : ℕ) (a b : List ℕ) → (w ≡ i → ⊥) → is_above w i (a ++ (i ∷ b)) ≡ true → In w a
above_in w i a b n e =
    let p : ℕ → Bool = λ x. eqb x w || eqb x i in
    let own : p i ≡ true = rw (eq-eqb i i refl) (or-true (eqb i w)) in
    let z : first p (a ++ (i ∷ b)) ≡ w = eqb-true (first p (a ++ (i ∷ b))) w e in
    let j : In w (a ++ (i ∷ [])) = rw (append_assoc a (i ∷ []) b, z) at (first_above p (a ++ (i ∷ [])) b i (in_last a i) own) in
    omega (arith, count_append w a (i ∷ []), count_other w i [] n)

pub in_above : (w i : ℕ) (a b : List ℕ) → (In 0 a → ⊥) → (In i a → ⊥) → In w a → is_above w i (a ++ (i ∷ b)) ≡ true
in_above w i a b none alone j =
    let p : ℕ → Bool = λ x. eqb x w || eqb x i in
    let found = first p (a ++ (i ∷ b)) in
    let k : In found a = first_above p a (i ∷ b) w j (rw (eq-eqb w w refl)) in
    let v = first_passes p (a ++ (i ∷ b)) (λ q. none (rw q at k)) in
    by_eqb found w
    (λ e _. e)
    (λ e _. absurd (alone (rw (eqb-true found i (rw e at v)) at k)))

-- the row that row i follows stands above it
followed_above : (t : Table) → TableFacts t → (o : List ℕ) → is_order t o ≡ true → (i : ℕ) → Row t i → (a b : List ℕ) → o ≡ a ++ (i ∷ b) → 1 ≤ follows_of t i
    → In (follows_of t i) a
followed_above t f o e i r a b whole some =
    let k : is_follower t i ≡ true = lt-ltb 0 (follows_of t i) some in
    let h : is_above (follows_of t i) i o ≡ true = rw k at (keeps t o e i r) in
    above_in (follows_of t i) i a b (λ q. omega (arith, f.lower i r some)) (rw whole at h)

-- row i in an order: the rows above it are rows of the table, none of them, nor i, stands there twice, and what they and i follow is among them
pub record Placed (t : Table) (o : List ℕ) (i : ℕ) : Type 0 where
  pub above : List ℕ
  pub below : List ℕ
  pub whole : o ≡ above ++ (i ∷ below)
  pub rows : (x : ℕ) → In x (above ++ (i ∷ [])) → Row t x
  pub once : Once (above ++ (i ∷ []))
  pub stand : Stand t above i

-- a part of the first n places
module _ (t : Table) (f : TableFacts t) (o : List ℕ) (e : is_order t o ≡ true) (i : ℕ) (a b : List ℕ) (w : take t.n o ≡ a ++ (i ∷ b)) where
  counted : (x : ℕ) → count x (a ++ (i ∷ [])) ≤ count x (take t.n o)
  counted x = rw w (omega (arith, count_append x a (i ∷ []), count_append x a (i ∷ b), count_append x (i ∷ []) b))

  abbrev after : List ℕ
  after = b ++ drop t.n o

  split : o ≡ a ++ (i ∷ after)
  split = sym (take-append-drop t.n o) ∙ ap (λ (l : List ℕ). l ++ drop t.n o) w ∙ append_assoc a (i ∷ b) (drop t.n o)

  rows_at : (x : ℕ) → In x (a ++ (i ∷ [])) → Row t x
  rows_at x j = rows_in_lem t x (omega (arith, order_rows t o e x, counted x))

  pub stand_at : Stand t a i
  stand_at = (
    λ x j some. let p = part x a j in
        let deeper : o ≡ p.above ++ (x ∷ (p.below ++ (i ∷ after))) =
        split ∙ ap (λ (l : List ℕ). l ++ (i ∷ after)) p.whole ∙ append_assoc p.above (x ∷ p.below) (i ∷ after) in
        omega (
          arith,
          followed_above t f o e x (rows_at x (omega (arith, count_append x a (i ∷ [])))) p.above (p.below ++ (i ∷ after)) deeper some,
          ap (count (follows_of t x)) p.whole,
          count_append (follows_of t x) p.above (x ∷ p.below),
        ),
    λ some. followed_above t f o e i (rows_at i (in_last a i)) a after split some,
  )

  pub placed_at : Placed t o i
  placed_at =
      record {
        above = a;
        below = after;
        whole = split;
        rows = rows_at;
        once = λ x. omega (arith, order_rows t o e x, counted x, rows_once t.n x);
        stand = stand_at;
      }

pub placed : (t : Table) → TableFacts t → (o : List ℕ) → is_order t o ≡ true → (i : ℕ) → Row t i → Placed t o i
placed t f o e i r =
    let p = part i (take t.n o) (omega (arith, order_rows t o e i, in_rows t i r)) in
    placed_at t f o e i p.above p.below p.whole

-- the first n places hold whatever one of them follows
pub order_closed : (t : Table) → TableFacts t → (o : List ℕ) → is_order t o ≡ true → Closed t (take t.n o)
order_closed t f o e = rows_closed t f (take t.n o) (λ x. sym (order_rows t o e x))
