-- Needs and caps: how many slots a row can take where every supply is at least s.
use Rattle.std.specs.Prelude.{ℕ, suc, ◌+◌, ◌-◌, ◌*◌, ◌≤◌, ◌<◌, min, true, false, cond, ◌≡◌}
use Rattle.std.proofs.Common.{arith, le-div_iff_mul-le, div-lt_iff_lt-mul, mul-le-mul_left}
use Rattle.rules.specs.declared.Table.{Table}
use Rattle.rules.specs.Need.{work_slots, need}
use Rattle.rules.specs.Rows.{work_of, promised_of, need_for, need_of, is_low}
use Rattle.rules.specs.Slots.{allowance}
use Rattle.theory.specs.Tests.{by-ltb, by_bool}

-- fewer slots than the work takes bring less than the work
pub slots_above : (u c s : ℕ) → 1 ≤ s → u * s < c → u < work_slots c s
unfolding work_slots
slots_above u c s p h = (le-div_iff_mul-le p).1 (omega arith)

-- slots that bring the work are as many as it takes, or more
pub slots_below : (u c s : ℕ) → 1 ≤ s → c ≤ u * s → work_slots c s ≤ u
unfolding work_slots
slots_below u c s p h = omega (arith, (div-lt_iff_lt-mul {k = s} {x = c + (s - 1)} {y = suc u} p).1 (omega arith))

-- the slots that the work takes bring it
pub slots_enough : (c s : ℕ) → 1 ≤ s → c ≤ work_slots c s * s
slots_enough c s p = by-ltb (work_slots c s * s) c (λ e h. absurd (omega (arith, slots_above (work_slots c s) c s p h))) (λ e h. h)

-- the faster, the fewer slots
pub slots_fall : (c g n : ℕ) → 1 ≤ g → g ≤ n → work_slots c n ≤ work_slots c g
slots_fall c g n p h = slots_below (work_slots c g) c n (omega arith) (omega (arith, slots_enough c g p, mul-le-mul_left (work_slots c g) h))

-- the less work, the fewer slots
pub slots_rise : (r c s : ℕ) → 1 ≤ s → r ≤ c → work_slots r s ≤ work_slots c s
slots_rise r c s p h = slots_below (work_slots c s) r s p (omega (arith, slots_enough c s p))

-- a work unit takes a slot at most
pub slots_most : (c s : ℕ) → 1 ≤ s → work_slots c s ≤ c
slots_most c s p = slots_below c c s p (omega (arith, mul-le-mul_left c p))

-- Slots used, with k of them for loading, are the need or more exactly if those beyond the loading bring the work. (A slot asks this by
-- multiplication.)
pub need_used : (k c s u : ℕ) → 1 ≤ s → k ≤ u → c ≤ (u - k) * s → need k c s ≤ u
need_used k c s u p q h = omega (arith, slots_below (u - k) c s p h)

pub need_unused : (k c s u : ℕ) → 1 ≤ s → (u - k) * s < c → u < need k c s
need_unused k c s u p h = omega (arith, slots_above (u - k) c s p h)

-- the slots that row i can take at supplies of at least s work units per slot: its need there, and a LO row no more than its allowance
unfoldable pub cap : Table → ℕ → ℕ → ℕ
cap t s i = cond (is_low t i) (min (need_for t s i) (allowance t i)) (need_for t s i)

module _ (t : Table) (s i : ℕ) (n1 : 1 ≤ t.normal) (s1 : 1 ≤ s) where
  -- a row that has work takes a slot
  pub cap_positive : 1 ≤ work_of t i → 1 ≤ cap t s i
  unfolding cap
  cap_positive w =
      by_bool (is_low t i)
      (λ e. rw e (omega (arith, slots_above 0 (work_of t i) t.normal n1 (omega arith), slots_above 0 (work_of t i) s s1 (omega arith))))
      (λ e. rw e (omega (arith, slots_above 0 (work_of t i) s s1 (omega arith))))

  -- a row whose slots beyond its loading fall short of its work, and that is short of its allowance if it is LO, is short of its cap
  pub cap_above : (u : ℕ) → (u - t.loading) * s < work_of t i → (is_low t i ≡ true → u < allowance t i) → u < cap t s i
  unfolding cap
  cap_above u h k =
      let short = need_unused t.loading (work_of t i) s u s1 h in
      by_bool (is_low t i) (λ e. rw e (omega (arith, short, k e))) (λ e. rw e short)

  pub cap_most : cap t s i ≤ t.loading + work_of t i
  unfolding cap
  cap_most =
      by_bool (is_low t i)
      (λ e. rw e (omega (arith, slots_most (work_of t i) s s1)))
      (λ e. rw e (omega (arith, slots_most (work_of t i) s s1)))

  pub cap_need : cap t s i ≤ need_for t s i
  unfolding cap
  cap_need = by_bool (is_low t i) (λ e. rw e (omega arith)) (λ e. rw e (omega arith))

  -- slots that load the row and then bring its work at exactly s are the cap or more
  pub cap_done : (u : ℕ) → t.loading ≤ u → work_of t i ≤ (u - t.loading) * s → cap t s i ≤ u
  cap_done u q h = omega (arith, cap_need, need_used t.loading (work_of t i) s u s1 q h)

pub cap_dropped : (t : Table) (s i u : ℕ) → is_low t i ≡ true → allowance t i ≤ u → cap t s i ≤ u
unfolding cap
cap_dropped t s i u e h = rw e (omega arith)

pub cap_high : (t : Table) (s i : ℕ) → is_low t i ≡ false → cap t s i ≡ need_for t s i
unfolding cap
cap_high t s i e = rw e

-- at exactly N a LO row is done after its need there, which is within its allowance, and so the cap of every row is its need
pub cap_normal : (t : Table) (i : ℕ) → cap t t.normal i ≡ need_of t i
unfolding cap
cap_normal t i = by_bool (is_low t i) (λ e. rw e (omega arith)) (λ e. rw e)

-- at exactly G a LO row that is promised no more than its work uses its allowance, since neither need in it is more than that of its work at G
pub cap_degraded : (t : Table) (i : ℕ) → 1 ≤ t.degraded → t.degraded ≤ t.normal → promised_of t i ≤ work_of t i → is_low t i ≡ true
    → cap t t.degraded i ≡ allowance t i
unfolding cap
cap_degraded t i g1 slower part e =
    rw e (omega (
      arith,
      slots_fall (work_of t i) t.degraded t.normal g1 slower,
      slots_rise (promised_of t i) (work_of t i) t.degraded g1 part,
    ))
