-- Waits kept by an order (rule 5.11): going down its places, every row that one of them follows has been seen.
use Rattle.std.specs.Prelude.{ℕ, zero, suc, ◌+◌, ◌-◌, ◌≤◌, ◌<◌, Bool, true, false, cond, not, ◌&&◌, ◌||◌, List, [], ◌∷◌, ◌++◌, ◌≡◌, refl, eqb, ltb, leb, length, get_or, take, drop, set, replicate, Ok, Err}
use Rattle.std.proofs.Common.{append_assoc, sym, ap, subst, ◌∙◌, add-one, arith, le-leb, leb-true, lt-ltb, ltb-true, take-append-drop, length-append, length-take, take_at, take-suc, drop-cons, get_or-set_same, get_or-set_other}
use Rattle.std.proofs.lemmas.List.{get_or-replicate}
use Rattle.std.proofs.Math.Seq.{get_or-append_seam}
use Rattle.rules.specs.declared.Table.{Table}
use Rattle.rules.specs.declared.Refusal.{Refusal}
use Rattle.rules.specs.declared.Refusal.TheVariants.{NotAnOrder}
use Rattle.rules.specs.Checks.{Check, Passed, Refused}
use Rattle.rules.specs.Lists.{all, all_zero, rows_to, count}
use Rattle.rules.specs.Orders.{is_arrangement, is_above, keeps_wait, is_order, check_order}
use Rattle.rules.specs.Rows.{at, rows_of, follows_of, is_follower}
use Rattle.rules.specs.Tables.{and_then, check_wait, check_waits, Accepted}
use Rattle.checks.specs.Limits.{wait_at, row_wait}
use Rattle.theory.specs.Tests.{by_bool, by_eqb, by-leb, both_ways}
use Rattle.theory.specs.Counts.{In, part, count_append, count_same, count_other}
use Rattle.theory.specs.Facts.{Row, TableFacts, facts, in_rows, all_in, in_all, count_zero}
use Rattle.theory.specs.Places.{arranged_rows, arranged_long, arranged_row, rows_once, above_in, in_above}

-- the waits of the rows up to k, one after the other
module _ (t : Table) where
  waits_append : (a b : List ℕ) → check_waits t (a ++ b) ≡ and_then (check_waits t a) (check_waits t b)
  waits_append [] b = refl
  waits_append (i ∷ a) b = ap (and_then (check_wait t i)) (waits_append a b) ∙ then_assoc (check_wait t i) (check_waits t a) (check_waits t b)
    where
      then_assoc : (x y z : Check) → and_then x (and_then y z) ≡ and_then (and_then x y) z
      then_assoc (Ok tt) y z = refl
      then_assoc (Err r) y z = refl

  then_passed : (c : Check) → and_then c Passed ≡ c
  then_passed (Ok tt) = refl
  then_passed (Err r) = refl

  -- one row more
  waits_next : (k : ℕ) → check_waits t (rows_to (suc k)) ≡ and_then (check_waits t (rows_to k)) (check_wait t (suc k))
  waits_next k = waits_append (rows_to k) (suc k ∷ []) ∙ ap (and_then (check_waits t (rows_to k))) (then_passed (check_wait t (suc k)))

-- the waits of the first k rows over the columns that they look at, one after the other
abbrev pub waits_to : List ℕ → List ℕ → List ℕ → ℕ → Check
waits_to follows release level zero = Passed
waits_to follows release level (suc k) = and_then (waits_to follows release level k) (wait_at follows release level k)

-- of a table's columns they are those of its rows
pub waits_columns : (t : Table) (k : ℕ) → waits_to t.follows t.release t.level k ≡ check_waits t (rows_to k)
waits_columns t zero = refl
waits_columns t (suc k) =
    ap (λ (c : Check). and_then c (wait_at t.follows t.release t.level k)) (waits_columns t k)
    ∙ ap (and_then (check_waits t (rows_to k))) (sym (row_wait t k) ∙ ap (check_wait t) (add-one k))
    ∙ sym (waits_next t k)

module _ (follows release level : List ℕ) where
  pub waits_more : (k : ℕ) → waits_to follows release level k ≡ Passed → waits_to follows release level (k + 1) ≡ wait_at follows release level k
  waits_more k e = ap (waits_to follows release level) (add-one k) ∙ ap (λ (c : Check). and_then c (wait_at follows release level k)) e

  -- the first row that is refused answers for all
  pub waits_stop : (k n : ℕ) (r : Refusal) → k < n → waits_to follows release level (k + 1) ≡ Refused r → waits_to follows release level n ≡ Refused r
  waits_stop k zero r h e = absurd (omega arith)
  waits_stop k (suc n) r h e =
      by_eqb k n
      (λ _ q. let z : k + 1 ≡ suc n = omega arith in ap (waits_to follows release level) (sym z) ∙ e)
      (λ _ q. rw (waits_stop k n r (omega arith) e))

-- what the first n places are looked up with: rows from 1 to 64, and of each the row that it follows, at most 64
pub record Numbered (follows order : List ℕ) (n : ℕ) : Type 0 where
  pub rows : (k : ℕ) → k < n → (1 ≤ get_or order k 0) × (get_or order k 0 ≤ 64)
  pub most : (k : ℕ) → k < n → at follows (get_or order k 0) ≤ 64

-- the row at place k, from 0, follows none, or one at a place above it
abbrev pub kept_at : List ℕ → List ℕ → ℕ → Bool
kept_at follows order k =
    let w = at follows (get_or order k 0) in
    not (ltb 0 w) || leb 1 (count w (take k order))

-- so do all at the first n places
abbrev pub kept_to : List ℕ → List ℕ → ℕ → Bool
kept_to follows order zero = true
kept_to follows order (suc k) = kept_to follows order k && kept_at follows order k

module _ (follows order : List ℕ) where
  -- one place more
  pub kept_more : (k : ℕ) → kept_to follows order k ≡ true → kept_at follows order k ≡ true → kept_to follows order (k + 1) ≡ true
  kept_more k a b = rw (add-one k, a, b)

  pub kept_stop : (k n : ℕ) → k < n → kept_at follows order k ≡ false → kept_to follows order n ≡ false
  kept_stop k zero h e = absurd (omega arith)
  kept_stop k (suc n) h e =
      by_eqb k n
      (λ _ q. let f : kept_at follows order n ≡ false = rw q at e in rw f (and_off (kept_to follows order n)))
      (λ _ q. rw (kept_stop k n (omega arith) e))
    where
      and_off : (b : Bool) → (b && false) ≡ false
      and_off true = refl
      and_off false = refl

  kept_each : (n k : ℕ) → k < n → kept_to follows order n ≡ true → kept_at follows order k ≡ true
  kept_each n k h e = by_bool (kept_at follows order k) (λ f. f) (λ f. absurd (clash (sym e ∙ kept_stop k n h f)))
    where
      clash : true ≡ false → ⊥
      clash q = let z : ◌≡◌ {A = ℕ} 0 1 = cc in omega arith

  each_kept : (n : ℕ) → ((k : ℕ) → k < n → kept_at follows order k ≡ true) → kept_to follows order n ≡ true
  each_kept zero h = refl
  each_kept (suc n) h = rw (each_kept n (λ k l. h k (omega arith)), h n (omega arith))

  -- which rows were seen at the first k places: an entry is 0 for those that were not
  abbrev pub Seen : List ℕ → ℕ → Type 0
  Seen seen k = (i : ℕ) → i ≤ 64 → leb 1 (get_or seen i 0) ≡ leb 1 (count i (take k order))

  pub seen_start : Seen (replicate 65 0) 0
  seen_start i h = rw (get_or-replicate {A = ℕ} 65 i 0 0 (omega arith))

  pub seen_more : (seen : List ℕ) (k : ℕ) → length seen ≡ 65 → k < length order → get_or order k 0 ≤ 64 → Seen seen k → Seen (set seen (get_or order k 0) 1) (k + 1)
  seen_more seen k wide h r s i b =
      let row = get_or order k 0 in
      let more : count i (take (k + 1) order) ≡ count i (take k order) + count i (row ∷ []) =
      rw (add-one k, take-suc order k 0 h) (count_append i (take k order) (row ∷ [])) in
      by_eqb i row
      (λ _ q. rw (q, get_or-set_same seen row 1 0 (omega arith)) (sym (le-leb 1 (count row (take (k + 1) order)) (omega (arith, rw q at more, count_same row [])))))
      (λ _ q. let same : count i (take (k + 1) order) ≡ count i (take k order) = omega (arith, more, count_other i row [] q) in
      rw (get_or-set_other seen row i 1 0 q, same) (s i b))

  -- what the code finds of the row at place k
  module _ (seen : List ℕ) (k : ℕ) (s : Seen seen k) (most : at follows (get_or order k 0) ≤ 64) where
    pub kept_none : at follows (get_or order k 0) ≡ 0 → kept_at follows order k ≡ true
    kept_none e = rw e

    pub kept_seen : 1 ≤ get_or seen (at follows (get_or order k 0)) 0 → kept_at follows order k ≡ true
    kept_seen h =
        let w = at follows (get_or order k 0) in
        rw (← s w most, le-leb 1 (get_or seen w 0) h) (or_on (not (ltb 0 w)))
      where
        or_on : (b : Bool) → (b || true) ≡ true
        or_on true = refl
        or_on false = refl

    pub kept_unseen : 1 ≤ at follows (get_or order k 0) → get_or seen (at follows (get_or order k 0)) 0 ≡ 0 → kept_at follows order k ≡ false
    kept_unseen h e =
        let w = at follows (get_or order k 0) in
        rw (lt-ltb 0 w h, ← s w most, e)

-- each of n rows stands in the order once, and zeros after
abbrev pub arranged : List ℕ → ℕ → Bool
arranged order n = all (λ i. eqb (count i order) 1) (rows_to n) && all_zero (drop n order)

-- check 6 over the column that it looks at
abbrev pub order_at : List ℕ → List ℕ → ℕ → Check
order_at follows order n = cond (arranged order n && kept_to follows order n) Passed (Refused NotAnOrder)

-- an arrangement of an accepted table keeps every wait just if each place does
module _ (t : Table) (accepted : Accepted t) (o : List ℕ) (e : is_arrangement t o ≡ true) where
  f : TableFacts t
  f = facts t accepted

  row_at : (k : ℕ) → k < t.n → Row t (get_or o k 0)
  row_at k h = let z : k + 1 - 1 ≡ k = omega arith in rw z at (arranged_row t o e (k + 1) (omega arith) (omega arith))

  -- the rows are numbered as the code reads them
  pub numbered : Numbered t.follows o t.n
  numbered =
      record {
        rows = λ k h. let r = row_at k h in (r.from, omega (arith, r.up_to, f.few));
        most = λ k h. let r = row_at k h in
            by-leb 1 (follows_of t (get_or o k 0))
            (λ _ some. omega (arith, f.lower (get_or o k 0) r some, r.up_to, f.few))
            (λ _ none. omega arith);
      }

  long : t.n ≤ length o
  long = omega (arith, arranged_long t o e, length-take t.n o)

  split : (k : ℕ) → k < t.n → o ≡ take k o ++ (get_or o k 0 ∷ drop (suc k) o)
  split k h = sym (take-append-drop k o) ∙ ap (λ (l : List ℕ). take k o ++ l) (drop-cons o k 0 (omega (arith, long)))

  -- an order that keeps a row's wait has seen the row that it follows
  kept_place : (k : ℕ) → k < t.n → keeps_wait t o (get_or o k 0) ≡ true → kept_at t.follows o k ≡ true
  kept_place k h w =
      let i = get_or o k 0 in
      by_bool (is_follower t i)
      (λ g. let above : is_above (follows_of t i) i o ≡ true = rw g at w in
      let j = above_in (follows_of t i) i (take k o) (drop (suc k) o) (λ q. omega (arith, f.lower i (row_at k h) (ltb-true 0 (follows_of t i) g))) (subst (λ (l : List ℕ). is_above (follows_of t i) i l ≡ true) (split k h) above) in
      rw (g, le-leb 1 (count (follows_of t i) (take k o)) j))
      (λ g. rw g)

  -- and the other way round
  place_kept : (i : ℕ) → In i (rows_of t) → kept_to t.follows o t.n ≡ true → keeps_wait t o i ≡ true
  place_kept i j all-kept =
      let p = part i (take t.n o) (omega (arith, arranged_rows t o e i)) in
      let a = p.above in
      let rest = p.below ++ drop t.n o in
      let whole : o ≡ a ++ (i ∷ rest) = sym (take-append-drop t.n o) ∙ ap (λ (l : List ℕ). l ++ drop t.n o) p.whole ∙ append_assoc a (i ∷ p.below) (drop t.n o) in
      let size : length a < t.n = omega (arith, arranged_long t o e, ap length p.whole ∙ length-append a (i ∷ p.below)) in
      let here : get_or o (length a) 0 ≡ i = ap (λ (l : List ℕ). get_or l (length a) 0) whole ∙ get_or-append_seam a i rest 0 in
      let up : take (length a) o ≡ a = ap (take (length a)) whole ∙ take_at a (i ∷ rest) (length a) refl in
      let k = kept_each t.follows o t.n (length a) size all-kept in
      by_bool (is_follower t i)
      (λ g. rw (g, whole) (in_above (follows_of t i) i a rest
      (λ z. omega (arith, arranged_rows t o e 0, count_zero t.n, ap (count 0) p.whole ∙ count_append 0 a (i ∷ p.below)))
      (λ z. omega (arith, arranged_rows t o e i, rows_once t.n i, ap (count i) p.whole ∙ count_append i a (i ∷ p.below), count_same i p.below))
      (leb-true 1 (count (follows_of t i) a) (rw (here, up, g) at k))))
      (λ g. rw g)

  pub kept_all : kept_to t.follows o t.n ≡ all (keeps_wait t o) (rows_of t)
  kept_all =
      both_ways (kept_to t.follows o t.n) (all (keeps_wait t o) (rows_of t))
      (λ h. in_all (keeps_wait t o) (rows_of t) (λ i j. place_kept i j h))
      (λ h. each_kept t.follows o t.n (λ k l. kept_place k l (all_in (keeps_wait t o) (rows_of t) h (get_or o k 0) (in_rows t (get_or o k 0) (row_at k l)))))

-- so check 6 of an accepted table is the one over its column
module _ (t : Table) (accepted : Accepted t) (o : List ℕ) where
  pub order_numbered : arranged o t.n ≡ true → Numbered t.follows o t.n
  unfolding is_arrangement
  order_numbered e = numbered t accepted o e

  pub order_columns : order_at t.follows o t.n ≡ check_order t o
  unfolding is_arrangement is_order check_order
  order_columns =
      by_bool (arranged o t.n)
      (λ e. rw (e, kept_all t accepted o e))
      (λ e. rw e)
