-- The demand of a row under the rules: what is left of its cap while it is released and open.
use Prim.Native.Nat.{ℕ, suc, ◌+◌, ◌-◌, ◌≤◌, ◌<◌}
use Rattle.std.specs.Prelude.{◌&&◌, ◌≡◌, ltb}
use native.Mathlib.Omega.{arith}
use Rattle.std.proofs.Math.Dec.{eqb}
use borrow.Author.Tests.{lt-ltb, le-ltb, eq-eqb, ne_eqb}
use Rattle.rules.specs.declared.Table.{Table}
use Rattle.rules.specs.Rows.{release_of}
use Rattle.theory.specs.Tests.{by_bool, by_eqb, by-ltb}
use Rattle.theory.specs.Caps.{cap}
use Rattle.theory.specs.Cells.{Cell, grown, served}
use Rattle.theory.specs.Ends.{Rule}
use Rattle.theory.proofs.Invariant.{by_over}
use Rattle.theory.specs.Invariant.{Held, Over}
use Rattle.theory.specs.Left.{left, bring}

module _ (t : Table) (s u i : ℕ) (x : Cell) where
  pub left_open : x.closing ≡ 0 → release_of t i < u → left t s u i x ≡ cap t s i - x.used
  unfolding left
  left_open p q = rw (lt-ltb (release_of t i) u q, eq-eqb x.closing 0 p)

  pub left_late : u ≤ release_of t i → left t s u i x ≡ 0
  unfolding left
  left_late q = rw (le-ltb (release_of t i) u q)

  pub left_closed : (x.closing ≡ 0 → ⊥) → left t s u i x ≡ 0
  unfolding left
  left_closed p = rw (ne_eqb x.closing 0 p) (by_bool (ltb (release_of t i) u) (λ e. rw e) (λ e. rw e))

  pub left_most : left t s u i x ≤ cap t s i - x.used
  unfolding left
  left_most = by_bool (ltb (release_of t i) u && eqb x.closing 0) (λ e. rw e (omega arith)) (λ e. rw e (omega arith))

  bring_now : release_of t i ≡ u → bring t s u i ≡ cap t s i
  bring_now q = rw (eq-eqb (release_of t i) u q)

  bring_none : (release_of t i ≡ u → ⊥) → bring t s u i ≡ 0
  bring_none q = rw (ne_eqb (release_of t i) u q)

module _ (t : Table) (r : Rule t) (s u i : ℕ) (x : Cell) (h : Held t r s u i x) where
  -- a slot that goes elsewhere
  pub left_waits : left t s (suc u) i x ≡ left t s u i x + bring t s u i
  left_waits =
      by-ltb (release_of t i) u
      (λ e q. by_eqb x.closing 0
      (λ d p. omega (arith, left_open t s u i x p q, left_open t s (suc u) i x p (omega arith), bring_none t s u i x (λ k. omega arith)))
      (λ d p. omega (arith, left_closed t s u i x p, left_closed t s (suc u) i x p, bring_none t s u i x (λ k. omega arith))))
      (λ e q. by_eqb (release_of t i) u
      (λ d k. omega (arith, left_late t s u i x q, left_open t s (suc u) i x (h.unclosed q) (omega arith), h.unused q, bring_now t s u i x k))
      (λ d k. omega (arith, left_late t s u i x q, left_late t s (suc u) i x (omega arith), bring_none t s u i x k)))

  -- what a row that is released and open has left, with what it brings
  pub left_ready : x.closing ≡ 0 → release_of t i ≤ u → left t s u i x + bring t s u i ≡ cap t s i - x.used
  left_ready p q =
      by_eqb (release_of t i) u
      (λ e k. omega (arith, left_late t s u i x (omega arith), h.unused (omega arith), bring_now t s u i x k))
      (λ e k. omega (arith, left_open t s u i x p (omega arith), bring_none t s u i x k))

  module _ (v : ℕ) (p : x.closing ≡ 0) (q : release_of t i ≤ u) (k : x.used < cap t s i) where
    -- a slot of its own lowers what it has left
    pub left_served : suc (left t s (suc u) i (served t v u i x)) ≤ left t s u i x + bring t s u i
    unfolding served
    left_served = omega (arith, left_ready p q, left_most t s (suc u) i (served t v u i x))

    -- by one, if a row that closes has used its cap
    pub left_served_one : (Over t i (grown t v i x) (suc x.used) → cap t s i ≤ suc x.used)
        → suc (left t s (suc u) i (served t v u i x)) ≡ left t s u i x + bring t s u i
    unfolding served
    left_served_one spent =
        by_over t i (grown t v i x) (x.used + 1)
        (λ e o. omega (
          arith,
          left_ready p q,
          left_closed t s (suc u) i (served t v u i x) (λ z. let z' : u + 1 ≡ 0 = rw e at z in omega arith),
          spent (rw (← one) at o),
        ))
        (λ e _ _. omega (arith, left_ready p q, left_open t s (suc u) i (served t v u i x) (rw e) (omega arith)))
      where
        one : suc x.used ≡ x.used + 1
        one = omega arith
