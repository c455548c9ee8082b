-- What is known where the checks of a commit passed (rules 10.16 to 10.18, 11.10), and that they never answer 9 but for the record.
use Rattle.std.specs.Prelude.{ℕ, ◌≤◌, ◌<◌, min, Bool, true, false, cond, ◌&&◌, ◌≡◌, eqb, ltb, Ok, Err}
use Rattle.std.proofs.Math.Bool.{not}
use mathlib.Core.List.{List, [], ◌∷◌}
use Rattle.std.proofs.Math.Path.{refl}
use native.Mathlib.Omega.{arith}
use Rattle.std.proofs.Math.Dec.{leb}
use borrow.Author.Tests.{leb-true, eqb-false, ne_eqb, le-leb}
use Rattle.rules.specs.declared.Table.{Table}
use Rattle.rules.specs.declared.Refusal.{Refusal}
use Rattle.rules.specs.declared.Refusal.TheVariants.{NotAnOrder, NotLower, ReleasedLater, FollowsLow, NotCorrect, RowOpen, ReleasedBefore}
use Rattle.rules.specs.Checks.{Check, Passed, Refused}
use Rattle.rules.specs.Correct.{Correct, earliest}
use Rattle.rules.specs.Judge.{judge_of}
use Rattle.rules.specs.Lists.{all, least}
use Rattle.rules.specs.Numbers.{refusal_number, check_number, verdict_yes}
use Rattle.rules.specs.Orders.{check_order, is_order, check_both}
use Rattle.proposal.specs.Proposals.{all_closed, released_from, check_turn, check_proposal}
use Rattle.rules.specs.Rows.{at, is_row, rows_of, release_of, is_follower, follows_of, is_high, is_low}
use Rattle.rules.specs.Slots.{State}
use Rattle.rules.specs.Tables.{count_ok, speeds_ok, loading_ok, row_ok, promise_ok, tail_ok, and_then, check_wait, check_waits, check_table}
use Rattle.theory.specs.Counts.{In, in_head, in_tail}
use Rattle.theory.specs.Facts.{row_is, rows_in_lem, TableFacts}
use Rattle.theory.proofs.Finishes.{earliest_first}
use Rattle.theory.specs.Tests.{by_bool, not_is}
use Rattle.columns.specs.AllRows.{all_each, all_of}
use Rattle.record.specs.Checked.{limits}
use Rattle.judge.specs.Promise.{exactly}
use Rattle.proposal.specs.Passing.{Turned}

-- a check's answer: it passed, or was refused
pub by_check : {P : Type 0} (c : Check) → (c ≡ Passed → P) → ((w : Refusal) → c ≡ Refused w → P) → P
by_check (Ok tt) f g = f refl
by_check (Err w) f g = g w refl

-- no check is both
pub refused_not : {P : Type 0} (w : Refusal) → Refused w ≡ Passed → P
refused_not w e = let z : ◌≡◌ {A = ℕ} 0 1 = cc in absurd (omega arith)

-- what is not below u is at least u, and so is the least of such numbers
above_least : (f : ℕ → ℕ) (u b : ℕ) (l : List ℕ) → u ≤ b → ((x : ℕ) → In x l → u ≤ f x) → u ≤ least f b l
above_least f u b [] h q = h
above_least f u b (x ∷ l) h q = above_least f u (min b (f x)) l (omega (arith, q x (in_head x l))) (λ y i. q y (in_tail y x l i))

module _ (t : Table) (s : State) (p : Table) (o : List ℕ) where
  both_passed : check_proposal t s p o ≡ Passed → check_both p o ≡ Passed
  unfolding check_proposal
  both_passed e = by_check (check_both p o) (λ c. c) (λ w c. refused_not w (rw c at e))

  turn_passed : check_proposal t s p o ≡ Passed → check_turn t s p o ≡ Passed
  unfolding check_proposal
  turn_passed e = rw (both_passed e) at e

  module _ (e : check_turn t s p o ≡ Passed) where
    judged : verdict_yes (judge_of p o) ≡ true
    unfolding check_turn
    judged = by_bool (verdict_yes (judge_of p o)) (λ b. b) (λ b. refused_not NotCorrect (rw b at e))

    all_closed_lem : all_closed t s ≡ true
    unfolding check_turn
    all_closed_lem = by_bool (all_closed t s) (λ b. b) (λ b. refused_not RowOpen (rw (judged, b) at e))

    from_clock : released_from p s.clock ≡ true
    unfolding check_turn
    from_clock = by_bool (released_from p s.clock) (λ b. b) (λ b. refused_not ReleasedBefore (rw (judged, all_closed_lem, b) at e))

  -- no row open, no release before the clock
  closed_row : all_closed t s ≡ true → (i : ℕ) → is_row t i ≡ true → 1 ≤ at s.closing i
  unfolding all_closed
  closed_row e i r =
      let w = row_is t i r in
      let n = eqb-false (at s.closing i) 0 (not_is (eqb (at s.closing i) 0) (all_each (λ j. not (eqb (at s.closing j) 0)) t.n e i w.from w.up_to)) in
      omega arith

  clock_early : TableFacts p → released_from p s.clock ≡ true → s.clock ≤ earliest p
  unfolding released_from earliest
  clock_early f e =
      let each : (i : ℕ) → 1 ≤ i → i ≤ p.n → s.clock ≤ release_of p i =
      λ i l h. leb-true s.clock (release_of p i) (all_each (λ j. leb s.clock (release_of p j)) p.n e i l h) in
      above_least (release_of p) s.clock (release_of p 1) (rows_of p) (each 1 (omega arith) f.some)
      (λ x i. let r = rows_in_lem p x i in each x r.from r.up_to)

  pub turned : check_proposal t s p o ≡ Passed → Turned t s p o
  turned e =
      let both = both_passed e in
      let turn = turn_passed e in
      record {
        checked = both;
        correct = (exactly p o both).0 (judged turn);
        closed = closed_row (all_closed_lem turn);
        early = clock_early (limits p o both) (from_clock turn);
      }

-- and the other way round: such a proposal passes
module _ (t : Table) (s : State) (p : Table) (o : List ℕ) where
  is_closed : ((i : ℕ) → 1 ≤ i → i ≤ t.n → 1 ≤ at s.closing i) → all_closed t s ≡ true
  unfolding all_closed
  is_closed h = all_of (λ i. not (eqb (at s.closing i) 0)) t.n (λ i l m. let q = h i l m in rw (ne_eqb (at s.closing i) 0 (λ z. omega arith)))

  is_released : ((j : ℕ) → 1 ≤ j → j ≤ p.n → s.clock ≤ release_of p j) → released_from p s.clock ≡ true
  unfolding released_from
  is_released h = all_of (λ j. leb s.clock (release_of p j)) p.n (λ j l m. le-leb s.clock (release_of p j) (h j l m))

  pub turns : check_both p o ≡ Passed → Correct p o → ((i : ℕ) → 1 ≤ i → i ≤ t.n → 1 ≤ at s.closing i)
      → ((j : ℕ) → 1 ≤ j → j ≤ p.n → s.clock ≤ release_of p j) → check_proposal t s p o ≡ Passed
  unfolding check_proposal check_turn
  turns both correct closed later = rw (both, (exactly p o both).1 correct, is_closed closed, is_released later)

-- and else the first that fails gives the answer: the proposal's own checks, 16, 17 and 18 (rule 11.10)
module _ (t : Table) (s : State) (p : Table) (o : List ℕ) where
  pub own_refusal : (w : Refusal) → check_both p o ≡ Refused w → check_proposal t s p o ≡ Refused w
  unfolding check_proposal
  own_refusal w e = rw e

  module _ (both : check_both p o ≡ Passed) where
    pub not_correct : (Correct p o → ⊥) → check_proposal t s p o ≡ Refused NotCorrect
    unfolding check_proposal check_turn
    not_correct n = by_bool (verdict_yes (judge_of p o)) (λ y. absurd (n ((exactly p o both).0 y))) (λ y. rw (both, y))

    module _ (correct : Correct p o) where
      yes : verdict_yes (judge_of p o) ≡ true
      yes = (exactly p o both).1 correct

      pub row_open : (i : ℕ) → is_row t i ≡ true → at s.closing i ≡ 0 → check_proposal t s p o ≡ Refused RowOpen
      unfolding check_proposal check_turn
      row_open i r z =
          by_bool (all_closed t s)
          (λ c. absurd (omega (arith, closed_row t s p o c i r)))
          (λ c. rw (both, yes, c))

      pub released_before : ((i : ℕ) → 1 ≤ i → i ≤ t.n → 1 ≤ at s.closing i) → (j : ℕ) → is_row p j ≡ true → release_of p j < s.clock
          → check_proposal t s p o ≡ Refused ReleasedBefore
      unfolding check_proposal check_turn
      released_before closed j r l =
          by_bool (released_from p s.clock)
          (λ c. absurd (omega (arith, clock_early t s p o (limits p o both) c, earliest_first p j (row_is p j r))))
          (λ c. rw (both, yes, is_closed t s p o closed, c))

-- the number of a check's answer is not 9
abbrev NotNine : Check → Type 0
NotNine c = not (eqb (check_number c) 9) ≡ true

either : (b : Bool) (c d : Check) → NotNine c → NotNine d → NotNine (cond b c d)
either true c d p q = p
either false c d p q = q

both_then : (c d : Check) → NotNine c → NotNine d → NotNine (and_then c d)
both_then (Ok tt) d p q = q
both_then (Err w) d p q = p

-- the checks of a table and of an order, and 16 to 18, answer other numbers
module _ (t : Table) where
  wait_not_nine : (i : ℕ) → NotNine (check_wait t i)
  unfolding check_wait check_number refusal_number
  wait_not_nine i =
      let high = either (is_high t i && is_low t (follows_of t i)) (Refused FollowsLow) Passed refl refl in
      let earlier = either (leb (release_of t (follows_of t i)) (release_of t i)) (cond (is_high t i && is_low t (follows_of t i)) (Refused FollowsLow) Passed)
      (Refused ReleasedLater) high refl in
      let lower = either (ltb (follows_of t i) i) (cond (leb (release_of t (follows_of t i)) (release_of t i)) (cond (is_high t i && is_low t (follows_of t i)) (Refused FollowsLow) Passed)
      (Refused ReleasedLater)) (Refused NotLower) earlier refl in
      either (is_follower t i) (cond (ltb (follows_of t i) i) (cond (leb (release_of t (follows_of t i)) (release_of t i))
      (cond (is_high t i && is_low t (follows_of t i)) (Refused FollowsLow) Passed) (Refused ReleasedLater)) (Refused NotLower)) Passed lower refl

  waits_not_nine : (l : List ℕ) → NotNine (check_waits t l)
  unfolding check_number
  waits_not_nine [] = refl
  waits_not_nine (i ∷ l) = both_then (check_wait t i) (check_waits t l) (wait_not_nine i) (waits_not_nine l)

  table_not_nine : NotNine (check_table t)
  unfolding check_table check_number refusal_number
  table_not_nine =
      by_bool (count_ok t.n)
      (λ a. by_bool (speeds_ok t.normal t.degraded)
      (λ b. by_bool (loading_ok t.loading)
      (λ c. by_bool (all (row_ok t) (rows_of t) && tail_ok t)
      (λ d. by_bool (all (promise_ok t) (rows_of t))
      (λ e. simp (a, b, c, d, e) (waits_not_nine (rows_of t)))
      (λ e. simp (a, b, c, d, e)))
      (λ d. simp (a, b, c, d)))
      (λ c. simp (a, b, c)))
      (λ b. simp (a, b)))
      (λ a. simp a)

  order_not_nine : (o : List ℕ) → NotNine (check_order t o)
  unfolding check_order check_number refusal_number
  order_not_nine o = either (is_order t o) Passed (Refused NotAnOrder) refl refl

turn_not_nine : (t : Table) (s : State) (p : Table) (o : List ℕ) → NotNine (check_turn t s p o)
unfolding check_turn check_number refusal_number
turn_not_nine t s p o =
    by_bool (verdict_yes (judge_of p o))
    (λ a. by_bool (all_closed t s)
    (λ b. by_bool (released_from p s.clock) (λ c. simp (a, b, c)) (λ c. simp (a, b, c)))
    (λ b. simp (a, b)))
    (λ a. simp a)

-- nor does a commit, but for the record (rule 9.11)
pub proposal_not_nine : (t : Table) (s : State) (p : Table) (o : List ℕ) → not (eqb (check_number (check_proposal t s p o)) 9) ≡ true
unfolding check_proposal check_both
proposal_not_nine t s p o =
    both_then (and_then (check_table p) (check_order p o)) (check_turn t s p o)
    (both_then (check_table p) (check_order p o) (table_not_nine p) (order_not_nine p o)) (turn_not_nine t s p o)
