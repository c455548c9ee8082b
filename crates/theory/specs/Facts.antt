-- What an accepted table and a checked order say, as facts.
use Rattle.std.specs.Prelude.{ℕ, zero, suc, ◌≤◌, ◌<◌, Bool, true, ◌&&◌, ◌||◌, ◌≡◌, refl, List, [], ◌∷◌, eqb, ltb, leb, Ok, Err}
use Rattle.std.proofs.Common.{arith, leb-true, ltb-true, eqb-true, lt-ltb, le-leb}
use Rattle.rules.specs.declared.Table.{Table}
use Rattle.rules.specs.declared.Refusal.{Refusal}
use Rattle.rules.specs.Checks.{Check, Passed, Refused}
use Rattle.rules.specs.Lists.{all, rows_to, count}
use Rattle.rules.specs.Rows.{at, is_row, rows_of, release_of, work_of, deadline_of, promised_of, follows_of, is_follower, is_low, is_high}
use Rattle.rules.specs.Orders.{is_order, check_order, check_both}
use Rattle.rules.specs.Tables.{count_ok, speeds_ok, loading_ok, row_ok, promise_ok, and_then, check_wait, check_waits, tail_ok, check_table, Accepted}
use Rattle.theory.specs.Tests.{by_bool, by_eqb, by-leb, by-ltb, and_left, and_right, and_both}
use Rattle.theory.specs.Counts.{In, count_append, count_other, in_head, in_tail}

-- every element passes
pub all_in : (p : ℕ → Bool) (l : List ℕ) → all p l ≡ true → (x : ℕ) → In x l → p x ≡ true
all_in p [] e x i = absurd (omega arith)
all_in p (y ∷ l) e x i = by_eqb x y (λ f q. rw q (and_left (p y) (all p l) e)) (λ f q. all_in p l (and_right (p y) (all p l) e) x (rw f at i))

pub in_all : (p : ℕ → Bool) (l : List ℕ) → ((x : ℕ) → In x l → p x ≡ true) → all p l ≡ true
in_all p [] h = refl
in_all p (y ∷ l) h = and_both (p y) (all p l) (h y (in_head y l)) (in_all p l (λ x i. h x (in_tail x y l i)))

-- the rows 1 to n
pub count_no_row : (n x : ℕ) → n < x → count x (rows_to n) ≡ 0
count_no_row zero x h = refl
count_no_row (suc n) x h = omega (arith, count_append x (rows_to n) (suc n ∷ []), count_no_row n x (omega arith), count_other x (suc n) [] (λ e. omega arith))

pub count_zero : (n : ℕ) → count 0 (rows_to n) ≡ 0
count_zero zero = refl
count_zero (suc n) = omega (arith, count_append 0 (rows_to n) (suc n ∷ []), count_zero n, count_other 0 (suc n) [] (λ e. omega arith))

pub count_rows : (n x : ℕ) → 1 ≤ x → x ≤ n → count x (rows_to n) ≡ 1
count_rows zero x h k = absurd (omega arith)
count_rows (suc n) x h k =
    by_eqb x (suc n)
    (λ e q. let k : count x (suc n ∷ []) ≡ 1 = rw e in omega (arith, count_append x (rows_to n) (suc n ∷ []), count_no_row n x (omega arith)))
    (λ e q. omega (arith, count_append x (rows_to n) (suc n ∷ []), count_rows n x h (omega arith), count_other x (suc n) [] q))

-- a row of the table, as numbers
pub record Row (t : Table) (i : ℕ) : Type 0 where
  pub from : 1 ≤ i
  pub up_to : i ≤ t.n

pub row_is : (t : Table) (i : ℕ) → is_row t i ≡ true → Row t i
row_is t i e = record { from = ltb-true 0 i (and_left (ltb 0 i) (leb i t.n) e); up_to = leb-true i t.n (and_right (ltb 0 i) (leb i t.n) e) }

pub is_row_lem : (t : Table) (i : ℕ) → Row t i → is_row t i ≡ true
is_row_lem t i r = rw (lt-ltb 0 i r.from, le-leb i t.n r.up_to)

pub in_rows : (t : Table) (i : ℕ) → Row t i → In i (rows_of t)
in_rows t i r = omega (arith, count_rows t.n i r.from r.up_to)

pub rows_in_lem : (t : Table) (i : ℕ) → In i (rows_of t) → Row t i
rows_in_lem t i h =
    record {
      from = by_eqb i 0 (λ e q. absurd (omega (arith, count_zero t.n, rw q at h))) (λ e q. omega arith);
      up_to = by-leb i t.n (λ e q. q) (λ e q. absurd (omega (arith, count_no_row t.n i q)));
    }

-- releases and deadlines in slots, work in work units
pub record RowFacts (t : Table) (i : ℕ) : Type 0 where
  pub works : 1 ≤ work_of t i
  pub light : work_of t i ≤ 1000000
  pub soon : deadline_of t i ≤ 1000000
  pub before : release_of t i < deadline_of t i
  pub level : at t.level i ≤ 1

row_facts : (t : Table) (i : ℕ) → row_ok t i ≡ true → RowFacts t i
unfolding row_ok
row_facts t i e =
    record {
      works = leb-true 1 (work_of t i) (and_left a b (and_left (a && b) c d3));
      light = leb-true (work_of t i) 1000000 (and_right a b (and_left (a && b) c d3));
      soon = leb-true (deadline_of t i) 1000000 (and_right (a && b) c d3);
      before = ltb-true (release_of t i) (deadline_of t i) (and_right (a && b && c) d d4);
      level = leb-true (at t.level i) 1 (and_right (a && b && c && d) (leb (at t.level i) 1) e);
    }
  where
    a : Bool
    a = leb 1 (work_of t i)

    b : Bool
    b = leb (work_of t i) 1000000

    c : Bool
    c = leb (deadline_of t i) 1000000

    d : Bool
    d = ltb (release_of t i) (deadline_of t i)

    d4 : a && b && c && d ≡ true
    d4 = and_left (a && b && c && d) (leb (at t.level i) 1) e

    d3 : a && b && c ≡ true
    d3 = and_left (a && b && c) d d4

-- the promised part, in work units
pub record PartFacts (t : Table) (i : ℕ) : Type 0 where
  pub within : promised_of t i ≤ work_of t i
  pub low : 1 ≤ promised_of t i → is_low t i ≡ true

part_facts : (t : Table) (i : ℕ) → promise_ok t i ≡ true → PartFacts t i
unfolding promise_ok
part_facts t i e =
    record {
      within = leb-true (promised_of t i) (work_of t i) (and_left (leb (promised_of t i) (work_of t i)) (is_low t i || eqb (promised_of t i) 0) e);
      low = λ h. by_bool (is_low t i) (λ l. l) (λ l. absurd (omega (
        arith,
        eqb-true (promised_of t i) 0 (rw l at (and_right (leb (promised_of t i) (work_of t i)) (is_low t i || eqb (promised_of t i) 0) e)),
      )));
    }

-- a refusal is not a check that passed
pub clash : {A : Type 0} {r : Refusal} → Refused r ≡ Passed → A
clash e = let z : ◌≡◌ {A = ℕ} 0 1 = cc in absurd (omega arith)

-- two checks, one after the other, pass if both do
then_first : (c d : Check) → and_then c d ≡ Passed → c ≡ Passed
then_first (Ok tt) d e = refl
then_first (Err r) d e = e

then_second : (c d : Check) → and_then c d ≡ Passed → d ≡ Passed
then_second (Ok tt) d e = e
then_second (Err r) d e = clash e

-- the row that a row follows: a row of a lower number, released no later, and HI if the follower is
pub record Follows (t : Table) (i : ℕ) : Type 0 where
  pub some : 1 ≤ follows_of t i
  pub lower : follows_of t i < i
  pub earlier : release_of t (follows_of t i) ≤ release_of t i
  pub level : is_high t i ≡ true → is_high t (follows_of t i) ≡ true

-- a row that follows one, and whose wait passes
follows_of_lem : (t : Table) (i : ℕ) → check_wait t i ≡ Passed → 1 ≤ follows_of t i → Follows t i
unfolding check_wait
follows_of_lem t i e some =
    let g : is_follower t i ≡ true = lt-ltb 0 (follows_of t i) some in
    by-ltb (follows_of t i) i
    (λ a p. by-leb (release_of t (follows_of t i)) (release_of t i)
    (λ b q. record {
      some = some;
      lower = p;
      earlier = q;
      level = λ h. by_bool (is_low t (follows_of t i)) (λ l. clash (rw (g, a, b, h, l) at e)) (λ l. rw l);
    })
    (λ b q. clash (rw (g, a, b) at e)))
    (λ a p. clash (rw (g, a) at e))

waits_in : (t : Table) (l : List ℕ) → check_waits t l ≡ Passed → (x : ℕ) → In x l → check_wait t x ≡ Passed
waits_in t [] e x i = absurd (omega arith)
waits_in t (y ∷ l) e x i =
    by_eqb x y
    (λ f q. rw q (then_first (check_wait t y) (check_waits t l) e))
    (λ f q. waits_in t l (then_second (check_wait t y) (check_waits t l) e) x (rw f at i))

-- speeds in work units per slot, loading in slots; of waits, what runs ask for
pub record TableFacts (t : Table) : Type 0 where
  pub some : 1 ≤ t.n
  pub few : t.n ≤ 64
  pub runs : 1 ≤ t.normal
  pub fast : t.normal ≤ 1000
  pub crawls : 1 ≤ t.degraded
  pub slower : t.degraded ≤ t.normal
  pub loads : t.loading ≤ 16
  pub row : (i : ℕ) → Row t i → RowFacts t i
  pub part : (i : ℕ) → Row t i → PartFacts t i
  pub lower : (i : ℕ) → Row t i → 1 ≤ follows_of t i → follows_of t i < i
  pub earlier : (i : ℕ) → Row t i → 1 ≤ follows_of t i → release_of t (follows_of t i) ≤ release_of t i

-- the row that a row follows is a row of the table
pub followed_row_lem : (t : Table) → TableFacts t → (i : ℕ) → Row t i → 1 ≤ follows_of t i → Row t (follows_of t i)
followed_row_lem t f i r some = record { from = some; up_to = omega (arith, f.lower i r some, r.up_to) }

-- checks 13 to 15 come last
accepted_waits : (t : Table) → Accepted t → check_waits t (rows_of t) ≡ Passed
unfolding check_table
accepted_waits t h =
    by_bool (count_ok t.n)
    (λ e1. by_bool (speeds_ok t.normal t.degraded)
    (λ e2. by_bool (loading_ok t.loading)
    (λ e4. by_bool (all (row_ok t) (rows_of t) && tail_ok t)
    (λ e3. by_bool (all (promise_ok t) (rows_of t))
    (λ e5. rw (e1, e2, e4, e3, e5) at h)
    (λ e5. clash (rw (e1, e2, e4, e3, e5) at h)))
    (λ e3. clash (rw (e1, e2, e4, e3) at h)))
    (λ e4. clash (rw (e1, e2, e4) at h)))
    (λ e2. clash (rw (e1, e2) at h)))
    (λ e1. clash (rw e1 at h))

-- what an accepted table says of the row that a row follows
pub follows : (t : Table) → Accepted t → (i : ℕ) → Row t i → 1 ≤ follows_of t i → Follows t i
follows t h i r = follows_of_lem t i (waits_in t (rows_of t) (accepted_waits t h) i (in_rows t i r))

pub facts : (t : Table) → Accepted t → TableFacts t
unfolding check_table
facts t h =
    by_bool (count_ok t.n)
    (λ e1. by_bool (speeds_ok t.normal t.degraded)
    (λ e2. by_bool (loading_ok t.loading)
    (λ e4. by_bool (all (row_ok t) (rows_of t) && tail_ok t)
    (λ e3. by_bool (all (promise_ok t) (rows_of t))
    (λ e5. record {
      some = leb-true 1 t.n (and_left (leb 1 t.n) (leb t.n 64) e1);
      few = leb-true t.n 64 (and_right (leb 1 t.n) (leb t.n 64) e1);
      runs = leb-true 1 t.normal (and_left p q (and_left (p && q) r (and_left (p && q && r) s e2)));
      fast = leb-true t.normal 1000 (and_right p q (and_left (p && q) r (and_left (p && q && r) s e2)));
      crawls = leb-true 1 t.degraded (and_right (p && q) r (and_left (p && q && r) s e2));
      slower = leb-true t.degraded t.normal (and_right (p && q && r) s e2);
      loads = leb-true t.loading 16 e4;
      row = λ i k. row_facts t i (all_in (row_ok t) (rows_of t) (and_left (all (row_ok t) (rows_of t)) (tail_ok t) e3) i (in_rows t i k));
      part = λ i k. part_facts t i (all_in (promise_ok t) (rows_of t) e5 i (in_rows t i k));
      lower = λ i k s. (follows t h i k s).lower;
      earlier = λ i k s. (follows t h i k s).earlier;
    })
    (λ e5. clash (rw (e1, e2, e4, e3, e5) at h)))
    (λ e3. clash (rw (e1, e2, e4, e3) at h)))
    (λ e4. clash (rw (e1, e2, e4) at h)))
    (λ e2. clash (rw (e1, e2) at h)))
    (λ e1. clash (rw e1 at h))
  where
    p : Bool
    p = leb 1 t.normal

    q : Bool
    q = leb t.normal 1000

    r : Bool
    r = leb 1 t.degraded

    s : Bool
    s = leb t.degraded t.normal

-- and no figure stands after its last row
pub accepted_tail : (t : Table) → Accepted t → tail_ok t ≡ true
unfolding check_table
accepted_tail t h =
    by_bool (all (row_ok t) (rows_of t) && tail_ok t)
    (λ e. and_right (all (row_ok t) (rows_of t)) (tail_ok t) e)
    (λ e. by_bool (count_ok t.n)
    (λ e1. by_bool (speeds_ok t.normal t.degraded)
    (λ e2. by_bool (loading_ok t.loading)
    (λ e4. clash (rw (e1, e2, e4, e) at h))
    (λ e4. clash (rw (e1, e2, e4) at h)))
    (λ e2. clash (rw (e1, e2) at h)))
    (λ e1. clash (rw e1 at h)))

-- a table and an order that pass the checks of the table and 6
pub both_pass : (t : Table) (o : List ℕ) → Accepted t → is_order t o ≡ true → check_both t o ≡ Passed
unfolding check_both check_order
both_pass t o a e = rw (a, e)

pub both_accepted : (t : Table) (o : List ℕ) → check_both t o ≡ Passed → Accepted t
unfolding check_both
both_accepted t o e = then_first (check_table t) (check_order t o) e

pub both_order : (t : Table) (o : List ℕ) → check_both t o ≡ Passed → is_order t o ≡ true
unfolding check_both check_order
both_order t o e =
    let f : check_order t o ≡ Passed = then_second (check_table t) (check_order t o) e in
    by_bool (is_order t o) (λ h. h) (λ h. clash (rw h at f))
