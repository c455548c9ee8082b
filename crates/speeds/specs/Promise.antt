-- What a search promises of its answer, for every table and every sheet, and that its definition keeps it.
use Rattle.std.specs.Prelude.{ℕ, ◌+◌, ◌-◌, ◌≤◌, Bool, true, ◌≡◌, refl, List, ◌↔◌, Ok, Err}
use Rattle.std.proofs.Common.{sym, ◌∙◌, arith, eqb-true}
use Rattle.std.proofs.Math.Path.{ap}
use Rattle.rules.specs.declared.Sought.{Sought}
use Rattle.rules.specs.declared.Table.{Table}
use Rattle.rules.specs.declared.Reading.{Reading}
use Rattle.rules.specs.declared.Refusal.{Refusal}
use Rattle.rules.specs.declared.Searching.{Searching}
use Rattle.rules.specs.Checks.{Check, Passed, Refused}
use Rattle.rules.specs.Choice.{plan_of}
use Rattle.rules.specs.Correct.{Correct, CorrectOrder}
use Rattle.rules.specs.Lists.{first}
use Rattle.rules.specs.Numbers.{planned_number, searched_number, searched_speed}
use Rattle.rules.specs.Orders.{is_order}
use Rattle.rules.specs.Tables.{check_table, Accepted}
use Rattle.texts.specs.Sheets.{read_of}
use Rattle.searches.specs.Speeds.{at_speed, slowest, fastest, InRange, LeastSpeed, makes_order, speeds_of, least_speed, searched_at, search_refused, search_checked, search_of, search_read, search_sheet}
use Rattle.theory.specs.Facts.{clash}
use Rattle.theory.specs.Tests.{by_eqb, not_both}
use Rattle.theory.proofs.Results.{least_exact, larger_at}
use Rattle.theory.proofs.Faster.{order_at_lem}
use Rattle.planner.specs.Promise.{promised, refusal_number_lem}
use Rattle.speeds.specs.Stretch.{First, none_first, some_first}
use Rattle.speeds.specs.Halving.{works_exists, range}

pub record Promise (f : Sought) (t : Table) (r : Searching) : Type 0 where
  -- the answer is the search's, of the checks of the table and the range
  pub answer : r ≡ search_of f t
  -- with 0 the speed is the least of the range at which a correct order exists, over all courses of speed
  pub least : searched_number r.answer ≡ 0 → LeastSpeed f t (searched_speed r.answer)
  -- it cuts the range in two: a correct order exists at it and at every larger speed of the range, and at no smaller one
  pub parts : searched_number r.answer ≡ 0 → (s : ℕ) → InRange f t s → CorrectOrder (at_speed f t s) ↔ (searched_speed r.answer ≤ s)
  -- the order is the planner's at that speed and passes check 6; it is correct there and at every larger speed of the range
  pub order : searched_number r.answer ≡ 0 → r.order ≡ (plan_of (at_speed f t (searched_speed r.answer))).order
  pub passes : searched_number r.answer ≡ 0 → is_order t r.order ≡ true
  pub right : searched_number r.answer ≡ 0 → (s : ℕ) → searched_speed r.answer ≤ s → s ≤ fastest f t → Correct (at_speed f t s) r.order
  -- with 7 no speed of the range has a correct order
  pub none : searched_number r.answer ≡ 7 → (s : ℕ) → InRange f t s → CorrectOrder (at_speed f t s) → ⊥
  -- of an accepted table the number is 0 where some speed of the range has one
  pub exists : Accepted t → (s : ℕ) → InRange f t s → CorrectOrder (at_speed f t s) → searched_number r.answer ≡ 0

-- the same for a sheet: the reader's refusal, or the promise about its table
pub record SheetPromise (f : Sought) (bytes : List ℕ) (r : Searching) : Type 0 where
  pub answer : r ≡ search_sheet f bytes
  pub table : (read_of bytes).check ≡ Passed → Promise f (read_of bytes).table r

module _ (f : Sought) (t : Table) (accepted : Accepted t) where
  abbrev count : ℕ
  count = fastest f t + 1 - slowest f t

  abbrev test : ℕ → Bool
  test = makes_order f t

  -- the first speed at which the planner makes an order is the least workable one
  least_is : (s : ℕ) → First test count (slowest f t) s → LeastSpeed f t s
  least_is s w =
      let q : InRange f t s = record { from = w.from; up_to = omega (arith, w.from, w.up_to) } in
      record {
        in_range = q;
        works = (works_exists f t accepted s q).0 w.passes;
        least = λ r from below c.
            not_both (test r) ((works_exists f t accepted r (record { from = from; up_to = omega (arith, q.up_to) })).1 c) (w.before r from below);
      }

  -- the planner's order at a speed where it makes one
  order_right : (s : ℕ) → InRange f t s → test s ≡ true → (is_order t (plan_of (at_speed f t s)).order ≡ true) × Correct (at_speed f t s) (plan_of (at_speed f t s)).order
  unfolding makes_order
  order_right s q w =
      let u = at_speed f t s in
      let r = (promised u (plan_of u) refl).right (eqb-true (planned_number (plan_of u).answer) 0 w) in
      (sym (order_at_lem f t s (plan_of u).order) ∙ r.0, r.1)

  -- an accepted table: what the range makes of it
  chosen : Promise f t (searched_at f t (least_speed f t))
  unfolding search_of searched_number searched_speed least_speed
  chosen =
      by_eqb (first test (speeds_of f t)) 0
      (λ e q. let none : (s : ℕ) → InRange f t s → CorrectOrder (at_speed f t s) → ⊥ =
      λ s r c. not_both (test s) ((works_exists f t accepted s r).1 c)
      (none_first test count (slowest f t) (range f t accepted).first q s r.from (omega (arith, r.from, r.up_to))) in
      rw e (record {
        answer = rw (accepted, e);
        least = λ z. absurd (omega arith);
        parts = λ z. absurd (omega arith);
        order = λ z. absurd (omega arith);
        passes = λ z. absurd (omega arith);
        right = λ z. absurd (omega arith);
        none = λ _. none;
        exists = λ _ s r c. absurd (none s r c);
      }))
      (λ e q. let s = first test (speeds_of f t) in
      let w = some_first test count (slowest f t) q in
      let l = least_is s w in
      let o = order_right s l.in_range w.passes in
      rw e (record {
        answer = rw (accepted, e);
        least = λ _. l;
        parts = λ _. least_exact t accepted f s l;
        order = λ _. refl;
        passes = λ _. o.0;
        right = λ _ r more up_to. larger_at t accepted f s r w.from more up_to (plan_of (at_speed f t s)).order o.0 o.1;
        none = λ z. absurd (omega arith);
        exists = λ _ r q c. refl;
      }))

-- a refused table
refused : (f : Sought) (t : Table) (why : Refusal) → check_table t ≡ Refused why → Promise f t (search_refused why)
unfolding search_of searched_number searched_speed
refused f t why e =
    record {
      answer = rw e;
      least = λ z. absurd ((refusal_number_lem why).0 z);
      parts = λ z. absurd ((refusal_number_lem why).0 z);
      order = λ z. absurd ((refusal_number_lem why).0 z);
      passes = λ z. absurd ((refusal_number_lem why).0 z);
      right = λ z. absurd ((refusal_number_lem why).0 z);
      none = λ z. absurd ((refusal_number_lem why).1 z);
      exists = λ a. clash (sym e ∙ a);
    }

checked : (f : Sought) (t : Table) (c : Check) → check_table t ≡ c → Promise f t (search_checked c f t)
checked f t (Ok tt) e = chosen f t e
checked f t (Err why) e = refused f t why e

-- the search's answer keeps the promise, and so does whatever equals it
pub promised_search : (f : Sought) (t : Table) (r : Searching) → r ≡ search_of f t → Promise f t r
unfolding search_of
promised_search f t r e = rw e (checked f t (check_table t) refl)

-- what was read of a sheet decides: its refusal, or the search over its table
module _ (f : Sought) (bytes : List ℕ) (reading : Reading) (e : reading ≡ read_of bytes) where
  promised_read : (r : Searching) → r ≡ search_read reading.check f reading.table → SheetPromise f bytes r
  unfolding search_sheet
  promised_read r q =
      let same : r ≡ search_read (read_of bytes).check f (read_of bytes).table = q ∙ ap (λ (x : Reading). search_read x.check f x.table) e in
      record { answer = same; table = λ p. promised_search f (read_of bytes).table r (same ∙ ap (λ (c : Check). search_read c f (read_of bytes).table) p) }

  pub sheet_refused : (r : Searching) (why : Refusal) → reading.check ≡ Refused why → r ≡ search_refused why → SheetPromise f bytes r
  sheet_refused r why p q = promised_read r (q ∙ sym (ap (λ (c : Check). search_read c f reading.table) p))

  pub sheet_taken : (r : Searching) → reading.check ≡ Passed → r ≡ search_of f reading.table → SheetPromise f bytes r
  sheet_taken r p q = promised_read r (q ∙ sym (ap (λ (c : Check). search_read c f reading.table) p))

pub promised_sheet : (f : Sought) (bytes : List ℕ) (r : Searching) → r ≡ search_sheet f bytes → SheetPromise f bytes r
unfolding search_sheet
promised_sheet f bytes r e = promised_read f bytes (read_of bytes) refl r e
