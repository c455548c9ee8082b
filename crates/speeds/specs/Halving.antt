-- The search by halves: what stands between two plannings, and what each of them does. Where the planner makes an order at a speed it makes one
-- at every larger speed of the range, so one planning decides for all speeds on one side of it.
use Rattle.std.specs.Prelude.{ℕ, zero, suc, ◌+◌, ◌-◌, ◌/◌, ◌^◌, ◌≤◌, ◌<◌, true, false, ◌≡◌, refl, ◌↔◌, eqb, replicate}
use Rattle.std.proofs.Common.{ap, ◌∙◌, arith}
use mathlib.Core.List.{List}
use borrow.Author.Tests.{eqb-true, eq-eqb, ne_eqb}
use Rattle.rules.specs.declared.Sought.{Sought}
use Rattle.rules.specs.declared.Sought.TheVariants.{Degraded, Normal}
use Rattle.rules.specs.declared.Table.{Table}
use Rattle.rules.specs.declared.Refusal.{Refusal}
use Rattle.rules.specs.Searches.{Least, NoSpeed}
use Rattle.rules.specs.Choice.{plan_of}
use Rattle.rules.specs.Correct.{CorrectOrder}
use Rattle.rules.specs.Lists.{first}
use Rattle.rules.specs.Numbers.{refusal_number, planned_number}
use Rattle.rules.specs.Tables.{Accepted}
use Rattle.searches.specs.Speeds.{at_speed, slowest, fastest, InRange, makes_order, speeds_of, least_speed, searched_at}
use Rattle.theory.specs.Facts.{facts}
use Rattle.theory.proofs.Faster.{accepted_at, exists_at}
use Rattle.theory.specs.Tests.{by_bool, not_both}
use Rattle.planner.specs.Promise.{promised, refusal_number_lem}
use Rattle.speeds.specs.declared.Between.{Between}
use Rattle.speeds.specs.Stretch.{first_none, first_at}

-- Before a turn: the speeds below `low` do not work; `high` works, with the planner's order at it, or comes after the range, with an order of zeros.
pub record Halving (f : Sought) (t : Table) (b : Between) : Type 0 where
  pub from : slowest f t ≤ b.low
  pub ordered : b.low ≤ b.high
  pub up_to : b.high ≤ fastest f t + 1
  pub below : (s : ℕ) → slowest f t ≤ s → s < b.low → makes_order f t s ≡ false
  pub found : b.high ≤ fastest f t → (makes_order f t b.high ≡ true) × (b.order ≡ (plan_of (at_speed f t b.high)).order)
  pub none : b.high ≡ fastest f t + 1 → b.order ≡ replicate 64 0

-- the speed that is planned next, in work units per slot
abbrev pub middle : Between → ℕ
middle b = b.low + (b.high - b.low) / 2

-- the range is not empty, and its speeds are from 1 to 1,000 work units per slot
pub record Range (f : Sought) (t : Table) : Type 0 where
  pub first : 1 ≤ slowest f t
  pub some : slowest f t ≤ fastest f t
  pub last : fastest f t ≤ 1000

pub range : (f : Sought) (t : Table) → Accepted t → Range f t
range Degraded t accepted = let k = facts t accepted in record { first = omega arith; some = k.runs; last = k.fast }
range Normal t accepted = let k = facts t accepted in record { first = k.crawls; some = omega (arith, k.slower, k.fast); last = omega arith }

-- no refusal's number is that of an order
pub refused_number : (r : Refusal) → eqb (refusal_number r) 0 ≡ false
refused_number r = ne_eqb (refusal_number r) 0 (refusal_number_lem r).0

module _ (f : Sought) (t : Table) (accepted : Accepted t) where
  -- the planner makes an order exactly where a correct one exists
  pub works_exists : (s : ℕ) → InRange f t s → (makes_order f t s ≡ true) ↔ CorrectOrder (at_speed f t s)
  unfolding makes_order
  works_exists s q =
      let u = at_speed f t s in
      let e = (promised u (plan_of u) refl).exists (accepted_at f t accepted s q) in
      (λ w. e.0 (eqb-true (planned_number (plan_of u).answer) 0 w), λ c. eq-eqb (planned_number (plan_of u).answer) 0 (e.1 c))

  -- and so at every speed above one where it does, and at none below one where it does not
  works_up : (s r : ℕ) → slowest f t ≤ s → s ≤ r → r ≤ fastest f t → makes_order f t s ≡ true → makes_order f t r ≡ true
  works_up s r from more up_to w =
      (works_exists r (record { from = omega arith; up_to = up_to })).1
      (exists_at f t accepted s r from more up_to ((works_exists s (record { from = from; up_to = omega arith })).0 w))

  works_down : (s r : ℕ) → slowest f t ≤ s → s ≤ r → r ≤ fastest f t → makes_order f t r ≡ false → makes_order f t s ≡ false
  works_down s r from more up_to w = by_bool (makes_order f t s) (λ e. absurd (not_both (makes_order f t r) (works_up s r from more up_to e) w)) (λ e. e)

  -- before the first turn every speed of the range may be the least
  pub halving_start : (b : Between) → b.low ≡ slowest f t → b.high ≡ fastest f t + 1 → b.order ≡ replicate 64 0 → Halving f t b
  halving_start b low high order =
      record {
        from = omega (arith, low);
        ordered = omega (arith, low, high, (range f t accepted).some);
        up_to = omega (arith, high);
        below = λ s q r. absurd (omega (arith, low));
        found = λ q. absurd (omega (arith, high));
        none = λ _. order;
      }

  module _ (b : Between) (h : Halving f t b) (more : b.low < b.high) where
    in_range_lem : InRange f t (middle b)
    in_range_lem = record { from = omega (arith, h.from); up_to = omega (arith, h.up_to) }

    -- the middle speed works: nothing above it is the least
    pub halving_found : (c : Between) → c.low ≡ b.low → c.high ≡ middle b → c.order ≡ (plan_of (at_speed f t (middle b))).order → makes_order f t (middle b) ≡ true
        → Halving f t c
    halving_found c low high order w =
        record {
          from = omega (arith, low, h.from);
          ordered = omega (arith, low, high);
          up_to = omega (arith, high, in_range_lem.up_to);
          below = λ s q r. h.below s q (omega (arith, low));
          found = λ _. rw high (w, order);
          none = λ q. absurd (omega (arith, high, in_range_lem.up_to));
        }

    -- it does not: nothing up to it is
    pub halving_failed : (c : Between) → c.low ≡ middle b + 1 → c.high ≡ b.high → c.order ≡ b.order → makes_order f t (middle b) ≡ false → Halving f t c
    halving_failed c low high order w =
        record {
          from = omega (arith, low, h.from);
          ordered = omega (arith, low, high);
          up_to = omega (arith, high, h.up_to);
          below = λ s q r. works_down s (middle b) q (omega (arith, low)) in_range_lem.up_to w;
          found = λ q. rw (high, order) (h.found (omega (arith, high)));
          none = λ q. order ∙ h.none (omega (arith, high));
        }

  -- one speed is left: it is the least, or the range has none
  module _ (b : Between) (h : Halving f t b) (one : b.low ≡ b.high) where
    pub halving_least : b.low ≤ fastest f t → record { answer = Least b.low; order = b.order } ≡ searched_at f t (least_speed f t)
    unfolding least_speed
    halving_least q =
        let w = h.found (omega (arith, one)) in
        let e : first (makes_order f t) (speeds_of f t) ≡ b.low = first_at (makes_order f t) (fastest f t + 1 - slowest f t) (slowest f t) b.low h.from
        (omega (arith, (range f t accepted).some)) (rw one w.0) h.below in
        rw (e, ne_eqb b.low 0 (λ z. omega (arith, h.from, (range f t accepted).first))) (ap (λ (o : List ℕ). record { answer = Least b.low; order = o }) (rw one w.1))

    pub halving_none : fastest f t < b.low → record { answer = NoSpeed; order = b.order } ≡ searched_at f t (least_speed f t)
    unfolding least_speed
    halving_none q =
        let e : first (makes_order f t) (speeds_of f t) ≡ 0 = first_none (makes_order f t) (fastest f t + 1 - slowest f t) (slowest f t)
        (λ s a c. h.below s a (omega (arith, (range f t accepted).some))) in
        rw e (ap (λ (o : List ℕ). record { answer = NoSpeed; order = o }) (h.none (omega (arith, one, h.up_to))))

-- a width below a power of two is halved with it, so that as many halvings as the power says leave a width of 0
pub half_below : (w v k : ℕ) → 1 ≤ k → w < 2 ^ k → v ≤ w / 2 → v < 2 ^ (k - 1)
half_below w v zero some h q = absurd (omega arith)
half_below w v (suc k) some h q = let e : suc k - 1 ≡ k = omega arith in rw e (omega arith)
