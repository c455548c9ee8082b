-- Sustainability over an abstract step. The demand of a row is the number of slots that it can still take; nothing is said of
-- orders, supplies or closings, so that any rule for a slot may be put in.
--
-- A rule of slots is an instance if it gives, for a list of rows and each slot u before a clock,
--   calm:  no row's demand grows by more than the row brings with the slot, and
--   works: after the slot either no demand is left at all, or some row's demand fell by a slot.
-- `works` is what priority gives: while a row of the list is released and open, the slot goes to a row of the list, where they wait for none but one
-- another (Waits). A later rule (a start at another clock) supplies these two facts for its own demand and its own `bring`, and the demand at the start;
-- what follows below stays. A rule that closes rows after the slot only takes demand away, and stays an instance
-- (`served-less`).
-- The instances in this crate are the two rules of a slot at supplies of at least s work units: `planning-serves` and `running-serves` in
-- Sustain.
use Rattle.std.specs.Prelude.{ℕ, suc, ◌+◌, ◌-◌, ◌≤◌, ◌≡◌, refl, List, [], ◌∷◌, ◌⊎◌}
use Rattle.std.proofs.Common.{inl, inr, arith}
use Rattle.rules.specs.Lists.{sum}
use Rattle.theory.specs.Counts.{In, sum_zero, sum_falls}

-- some row of the list has its demand lowered by a slot
pub record Lowered (rows : List ℕ) (bring before after : ℕ → ℕ) : Type 0 where
  pub row : ℕ
  pub among : In row rows
  pub falls : suc (after row) ≤ before row + bring row

-- one slot, from the demands before it to those after it
pub record Served (rows : List ℕ) (bring before after : ℕ → ℕ) : Type 0 where
  pub calm : (x : ℕ) → In x rows → after x ≤ before x + bring x
  pub works : ((x : ℕ) → In x rows → after x ≡ 0) ⊎ Lowered rows bring before after

pub sum_both : (f g : ℕ → ℕ) (l : List ℕ) → sum (λ x. f x + g x) l ≡ sum f l + sum g l
sum_both f g [] = refl
sum_both f g (x ∷ l) = omega (arith, sum_both f g l)

-- demand that is taken away after a slot, from any row, leaves the two facts standing
pub served_less : (rows : List ℕ) (bring before after less : ℕ → ℕ) → Served rows bring before after → ((x : ℕ) → In x rows → less x ≤ after x)
    → Served rows bring before less
served_less rows bring before after less s h = record { calm = λ x i. omega (arith, s.calm x i, h x i); works = go s.works }
  where
    go : ((x : ℕ) → In x rows → after x ≡ 0) ⊎ Lowered rows bring before after → ((x : ℕ) → In x rows → less x ≡ 0) ⊎ Lowered rows bring before less
    go (inl z) = inl (λ x i. omega (arith, z x i, h x i))
    go (inr l) = inr (record { row = l.row; among = l.among; falls = omega (arith, l.falls, h l.row l.among) })

pub served_sum : (rows : List ℕ) (bring before after : ℕ → ℕ) → Served rows bring before after → sum after rows ≤ sum before rows + sum bring rows - 1
served_sum rows bring before after s = go s.works
  where
    go : ((x : ℕ) → In x rows → after x ≡ 0) ⊎ Lowered rows bring before after → sum after rows ≤ sum before rows + sum bring rows - 1
    go (inl h) = omega (arith, sum_zero after rows h)
    go (inr l) = omega (arith, sum_falls after (λ x. before x + bring x) l.row rows l.among s.calm l.falls, sum_both before bring rows)
