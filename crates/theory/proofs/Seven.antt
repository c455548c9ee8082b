-- What a 7 does not say (rule 19.8): a table without a correct order for which an order serves, since a late preview stops. All courses of speed
-- are gone through slot by slot: a slot that supplies more than the largest work does what one does that supplies just that.
use Rattle.std.specs.Prelude.{ℕ, zero, suc, ◌+◌, ◌-◌, ◌≤◌, min, Bool, true, ◌&&◌, ◌≡◌, refl, List, [], ◌∷◌, eqb, ltb, leb, get_or}
use Rattle.std.proofs.Common.{true≢false, sym, arith, leb-true, eqb-true}
use Rattle.rules.specs.declared.Table.{Table}
use Rattle.rules.specs.Choice.{padded, choice, sequence, fill, taker, unfollowed, passes, word, plan_of}
use Rattle.rules.specs.Correct.{KeptIn, CorrectOrder}
use Rattle.rules.specs.Judge.{table_of}
use Rattle.rules.specs.LateCases.{trouble}
use Rattle.rules.specs.Lists.{all}
use Rattle.rules.specs.Need.{work_slots}
use Rattle.rules.specs.Numbers.{planned_number}
use Rattle.rules.specs.Orders.{is_arrangement, is_order}
use Rattle.rules.specs.Rows.{at, is_row, is_high, work_of, deadline_of, promised_of}
use Rattle.rules.specs.Running.{close_late, run_slot, run_after, RunServes}
use Rattle.rules.specs.Slots.{State, fresh, is_pending, is_waiting, is_ready, chosen, is_over, brought, serve, slot}
use Rattle.rules.specs.Tables.{row_ok, promise_ok, check_wait, tail_ok, check_table, Accepted}
use Rattle.rules.specs.Worst.{horizon, worst_finish, slack, meets}
use Rattle.theory.specs.Counts.{In}
use Rattle.theory.specs.Facts.{row_is}
use Rattle.theory.proofs.Results.{choice_none}
use Rattle.theory.specs.Tests.{by_bool, by-leb, and_left, and_right}
use Rattle.theory.specs.Seven.{order}

-- every entry of a column is at most m
bounded : (m : ℕ) (xs : List ℕ) → all (λ x. leb x m) xs ≡ true → (j : ℕ) → get_or xs j 0 ≤ m
bounded m [] e j = omega arith
bounded m (x ∷ xs) e zero = leb-true x m (and_left (leb x m) (all (λ x. leb x m) xs) e)
bounded m (x ∷ xs) e (suc j) = bounded m xs (and_right (leb x m) (all (λ x. leb x m) xs) e) j

-- supply above the largest work is lost
module _ (t : Table) (m : ℕ) (works : (i : ℕ) → work_of t i ≤ m) (o : List ℕ) where
  got_cut : (i g u v : ℕ) → min (work_of t i) (g + brought t.loading u v) ≡ min (work_of t i) (g + brought t.loading u (min v m))
  unfolding brought
  got_cut i g u v = by_bool (ltb u t.loading) (λ e. rw e) (λ e. rw e (omega (arith, works i)))

  slot_cut : (v : ℕ) (s : State) → slot t o v s ≡ slot t o (min v m) s
  unfolding slot serve
  slot_cut v s = by_bool (eqb (chosen t o s) 0) (λ e. rw e) (λ e. rw (e, got_cut (chosen t o s) (at s.got (chosen t o s)) (at s.used (chosen t o s)) v))

  run_cut : (v : ℕ) (s : State) → run_slot t o v s ≡ run_slot t o (min v m) s
  unfolding run_slot
  run_cut v s = rw (slot_cut v s)

-- the test passes after k slots, whatever each of them supplies of these supplies
abbrev each : Table → List ℕ → List ℕ → ℕ → (State → Bool) → Bool
each t o speeds zero p = p fresh
each t o speeds (suc k) p = each t o speeds k (λ s. all (λ v. p (run_slot t o v s)) speeds)

-- row i has kept its deadline in this state
abbrev has_kept : Table → ℕ → State → Bool
has_kept t i s = eqb (at s.got i) (work_of t i) && leb 1 (at s.closing i) && leb (at s.closing i) (deadline_of t i)

kept_in : (t : Table) (i : ℕ) (s : State) → has_kept t i s ≡ true → KeptIn t s i
kept_in t i s e =
    let a = eqb (at s.got i) (work_of t i) in
    let b = leb 1 (at s.closing i) in
    let c = leb (at s.closing i) (deadline_of t i) in
    record {
      done = eqb-true (at s.got i) (work_of t i) (and_left a b (and_left (a && b) c e));
      closed = leb-true 1 (at s.closing i) (and_right a b (and_left (a && b) c e));
      in_time = leb-true (at s.closing i) (deadline_of t i) (and_right (a && b) c e);
    }

works_most : (i : ℕ) → work_of trouble i ≤ 3
unfolding table_of
works_most i = bounded 3 trouble.work refl (i - 1)

-- every supply of at least `low` work units, cut at 3, is one of these
abbrev Cover : ℕ → List ℕ → Type 0
Cover low speeds = (q : ℕ → Bool) → all q speeds ≡ true → (v : ℕ) → low ≤ v → q (min v 3) ≡ true

from_two : Cover 2 (2 ∷ 3 ∷ [])
from_two q e v l =
    by-leb v 2
    (λ _ h. let w : min v 3 ≡ 2 = omega arith in rw w (and_left (q 2) (q 3 && true) e))
    (λ _ h. let w : min v 3 ≡ 3 = omega arith in rw w (and_left (q 3) true (and_right (q 2) (q 3 && true) e)))

from_one : Cover 1 (1 ∷ 2 ∷ 3 ∷ [])
from_one q e v l =
    by-leb v 1
    (λ _ h. let w : min v 3 ≡ 1 = omega arith in rw w (and_left (q 1) (q 2 && (q 3 && true)) e))
    (λ _ h. from_two q (and_right (q 1) (q 2 && (q 3 && true)) e) v h)

-- what passes after k slots of these supplies passes under every course of speed of at least `low`
each_course : (low : ℕ) (speeds : List ℕ) → Cover low speeds → (σ : ℕ → ℕ) → ((u : ℕ) → low ≤ σ u) → (k : ℕ) (p : State → Bool)
    → each trouble order speeds k p ≡ true → p (run_after trouble order σ k) ≡ true
each_course low speeds cover σ h zero p e = e
each_course low speeds cover σ h (suc k) p e =
    let s = run_after trouble order σ k in
    let every = each_course low speeds cover σ h k (λ x. all (λ v. p (run_slot trouble order v x)) speeds) e in
    rw (run_cut trouble 3 works_most order (σ k) s) (cover (λ v. p (run_slot trouble order v s)) every (σ k) (h k))

-- each row's deadline, at every supply from N or from G on
kept_normal : (each trouble order (2 ∷ 3 ∷ []) 2 (has_kept trouble 1) ≡ true)
    × (each trouble order (2 ∷ 3 ∷ []) 3 (has_kept trouble 2) ≡ true)
    × (each trouble order (2 ∷ 3 ∷ []) 4 (has_kept trouble 3) ≡ true)
unfolding fresh is_pending is_waiting is_ready chosen is_over brought serve slot work_slots table_of padded close_late run_slot
kept_normal = (refl, refl, refl)

kept_degraded : (each trouble order (1 ∷ 2 ∷ 3 ∷ []) 2 (has_kept trouble 1) ≡ true) × (each trouble order (1 ∷ 2 ∷ 3 ∷ []) 4 (has_kept trouble 3) ≡ true)
unfolding fresh is_pending is_waiting is_ready chosen is_over brought serve slot work_slots table_of padded close_late run_slot
kept_degraded = (refl, refl)

by_row {ℓ} : (P : ℕ → Type ℓ) (i : ℕ) → is_row trouble i ≡ true → P 1 → P 2 → P 3 → P i
unfolding table_of
by_row P zero r a b c = absurd (true≢false (sym r))
by_row P (suc zero) r a b c = a
by_row P (suc (suc zero)) r a b c = b
by_row P (suc (suc (suc zero))) r a b c = c
by_row P (suc (suc (suc (suc i)))) r a b c = absurd (let h = row_is trouble (suc (suc (suc (suc i)))) r in omega (arith, h.up_to))

-- the order serves: every row at N, the HI rows at G
pub trouble_serves : RunServes trouble order
unfolding table_of
trouble_serves =
    record {
      normal = λ σ h i r. by_row (λ (j : ℕ). KeptIn trouble (run_after trouble order σ (deadline_of trouble j)) j) i r
          (kept_in trouble 1 _ (each_course 2 (2 ∷ 3 ∷ []) from_two σ h 2 (has_kept trouble 1) kept_normal.0))
          (kept_in trouble 2 _ (each_course 2 (2 ∷ 3 ∷ []) from_two σ h 3 (has_kept trouble 2) kept_normal.1))
          (kept_in trouble 3 _ (each_course 2 (2 ∷ 3 ∷ []) from_two σ h 4 (has_kept trouble 3) kept_normal.2));
      degraded = λ σ h i r. by_row (λ (j : ℕ). is_high trouble j ≡ true → KeptIn trouble (run_after trouble order σ (deadline_of trouble j)) j) i r
          (λ _. kept_in trouble 1 _ (each_course 1 (1 ∷ 2 ∷ 3 ∷ []) from_one σ h 2 (has_kept trouble 1) kept_degraded.0))
          (λ z. absurd (true≢false (sym z)))
          (λ _. kept_in trouble 3 _ (each_course 1 (1 ∷ 2 ∷ 3 ∷ []) from_one σ h 4 (has_kept trouble 3) kept_degraded.1));
      promised = λ σ h i r l. let none : promised_of trouble i ≡ 0 = by_row (λ (j : ℕ). promised_of trouble j ≡ 0) i r refl refl refl in omega arith;
    }

-- it is an order of an accepted table
pub trouble_order : is_order trouble order ≡ true
unfolding table_of is_arrangement is_order padded
trouble_order = refl

pub trouble_accepted : Accepted trouble
unfolding table_of check_table row_ok promise_ok check_wait tail_ok
trouble_accepted = refl

-- the planner's number is 7, and indeed no order is correct
pub trouble_seven : planned_number (plan_of trouble).answer ≡ 7
unfolding planned_number plan_of padded unfollowed passes sequence choice fill taker word table_of work_slots fresh is_pending is_waiting is_ready chosen is_over brought serve slot check_table row_ok promise_ok check_wait tail_ok horizon worst_finish slack meets
trouble_seven = refl

pub trouble_none : CorrectOrder trouble → ⊥
unfolding padded unfollowed passes sequence choice fill taker table_of work_slots fresh is_pending is_waiting is_ready chosen is_over brought serve slot horizon worst_finish slack meets
trouble_none c = choice_none trouble trouble_accepted 1 left c.order c.passes c.correct
  where
    left : In 1 (choice trouble).left
    left = omega arith
