-- A table whose w is all 0: checks, orders, allowance, step, run, calls, correct orders, worst finish, promised moment and slack are those of the rules
-- from before w (rule 21.5); and if its r is all 0 as well, or its K too, those from before these came. What is answered of it stands in SameAnswers.
use Rattle.std.specs.Prelude.{ℕ, zero, suc, ◌+◌, ◌-◌, ◌≤◌, max, min, Bool, false, not, ◌&&◌, ◌↔◌, ◌≡◌, eqb, pos, take, drop, replicate}
use Rattle.std.proofs.Math.Bool.{true, cond}
use Rattle.std.proofs.Common.{true≢false, sym, ap₂, subst, ◌∙◌, arith}
use mathlib.Core.List.{List, [], ◌∷◌, ◌++◌, map}
use Rattle.std.proofs.Math.Path.{refl, ap}
use borrow.Author.Tests.{le-leb}
use Rattle.std.proofs.Math.Dec.{leb}
use Rattle.std.specs.Int.Signed.{lt_z}
use Rattle.rules.specs.declared.Row.{Row}
use Rattle.rules.specs.declared.Table.{Table}
use Rattle.rules.specs.Checks.{Passed}
use Rattle.rules.specs.Calls.{Call, one, forward, tell_one, tell_forward, tell, tell_all}
use Rattle.rules.specs.Correct.{KeptIn, Correct}
use Rattle.rules.specs.Judge.{column, table_of}
use Rattle.rules.specs.Lists.{all, all_zero, rows_to}
use Rattle.rules.specs.Need.{work_slots}
use Rattle.rules.specs.Orders.{is_arrangement, keeps_wait, is_order, check_order, check_both}
use Rattle.rules.specs.Rows.{at, rows_of, work_of, deadline_of, promised_of, follows_of, need_for, promise_need, is_low, is_promised}
use Rattle.rules.specs.Running.{run_slot, run_after, RunServes}
use Rattle.rules.specs.Slots.{State, is_pending, is_waiting, is_ready, chosen, allowance, is_over, serve, slot, course, after}
use Rattle.rules.specs.Tables.{promise_ok, check_wait, check_waits, tail_ok, check_table}
use Rattle.rules.specs.Worst.{worst_speed, horizon, worst_finish, promised_moment, left_from, lesser, slack, meets}
use Rattle.checks.specs.RowLists.{all_append, zero_at}
use Rattle.theory.specs.Agree.{first_agree}
use Rattle.theory.specs.Caps.{slots_below}
use Rattle.theory.specs.Counts.{sum_eq}
use Rattle.theory.specs.Facts.{in_all}
use Rattle.theory.proofs.Promised.{meets_is}
use Rattle.theory.specs.Promised.{latest}
use Rattle.theory.specs.Tests.{by_bool, and_left, and_right, and_both, and_true}
use Rattle.unwaited.specs.Unwaited as Then
use Rattle.unwaited.specs.Unwaited.{Past, loading, with_promises, Before, CorrectThen, RunServesThen}

-- no work takes no slot, at whatever speed
no_slots : (s : ℕ) → work_slots 0 s ≡ 0
unfolding work_slots
no_slots zero = refl
no_slots (suc s) = let z : work_slots 0 (suc s) ≤ 0 = slots_below 0 0 (suc s) (omega arith) (omega arith) in omega arith

-- zeros from some entry on
zeros_drop : (k : ℕ) (xs : List ℕ) → all_zero xs ≡ true → all_zero (drop k xs) ≡ true
zeros_drop zero xs e = e
zeros_drop (suc k) [] e = refl
zeros_drop (suc k) (x ∷ xs) e = zeros_drop k xs (and_right (eqb x 0) (all_zero xs) e)

-- what is the one thing where a test passes and the other where it fails
pub by_cond : {A : Type 0} (b : Bool) (z x y : A) → (b ≡ true → z ≡ x) → (b ≡ false → z ≡ y) → z ≡ cond b x y
by_cond true z x y f g = f refl
by_cond false z x y f g = g refl

-- two steps that are the same make the same run
course_same : (f g : ℕ → State → State) → ((v : ℕ) (s : State) → f v s ≡ g v s) → (σ : ℕ → ℕ) (k : ℕ) → course f σ k ≡ course g σ k
course_same f g e σ zero = refl
course_same f g e σ (suc k) = e (σ k) (course f σ k) ∙ ap (g (σ k)) (course_same f g e σ k)

-- a table whose w is all 0 is one of before, with loading as it is; without promised parts, if its r is all 0 too
pub loaded : (promises : Bool) (t : Table) → (promises ≡ false → all_zero t.promised ≡ true) → all_zero t.follows ≡ true → Before (loading promises) t
loaded promises t none free = record { loads = record { need = λ c s. refl; brought = λ u v. refl; fits = refl }; none = none; free = free }

pub own : (t : Table) → all_zero t.follows ≡ true → Before with_promises t
own t free = loaded true t (λ e. absurd (true≢false e)) free

-- so is the table of a lent list of rows whose w is 0 (rule 7.1)
zeros_taken : (m : ℕ) (xs : List ℕ) → all_zero xs ≡ true → all_zero (take m xs) ≡ true
zeros_taken zero xs e = refl
zeros_taken (suc m) [] e = refl
zeros_taken (suc m) (x ∷ xs) e =
    and_both (eqb x 0) (all_zero (take m xs)) (and_left (eqb x 0) (all_zero xs) e) (zeros_taken m xs (and_right (eqb x 0) (all_zero xs) e))

all_none : (f : Row → ℕ) (rows : List Row) → all (λ r. eqb (f r) 0) rows ≡ true → all_zero (map f rows) ≡ true
all_none f [] e = refl
all_none f (r ∷ rows) e =
    let p : Row → Bool = λ x. eqb (f x) 0 in
    and_both (p r) (all_zero (map f rows)) (and_left (p r) (all p rows) e) (all_none f rows (and_right (p r) (all p rows) e))

pub column_none : (f : Row → ℕ) (rows : List Row) → all (λ r. eqb (f r) 0) rows ≡ true → all_zero (column f rows) ≡ true
column_none f rows e =
    zeros_taken 64 (map f rows ++ replicate 64 0) (all_append (λ x. eqb x 0) (map f rows) (replicate 64 0) ∙ rw (all_none f rows e))

pub lent : (rows : List Row) (n g k : ℕ) → all (λ r. eqb r.follows 0) rows ≡ true → Before with_promises (table_of rows n g k)
unfolding table_of
lent rows n g k e = own (table_of rows n g k) (column_none (λ r. r.follows) rows e)

module _ (p : Past) (t : Table) (b : Before p t) where
  -- no row follows another, so that none waits (rules 1.12, 2.15), checks 13 to 15 pass (rule 5.10), and every arrangement of the rows is an order
  -- (rule 5.11)
  pub none_follows : (i : ℕ) → follows_of t i ≡ 0
  none_follows i = zero_at t.follows 0 (i - 1) b.free (omega arith)

  ready_same : (s : State) (i : ℕ) → is_ready t s i ≡ is_pending t s i
  unfolding is_ready is_waiting
  ready_same s i = rw (none_follows i, and_true (is_pending t s i))

  pub chosen_same : (o : List ℕ) (s : State) → chosen t o s ≡ Then.chosen t o s
  unfolding chosen Then.chosen
  chosen_same o s = first_agree (is_ready t s) (is_pending t s) (ready_same s) o

  waits_pass : (is : List ℕ) → check_waits t is ≡ Passed
  unfolding check_wait
  waits_pass [] = refl
  waits_pass (i ∷ is) = rw (none_follows i) (waits_pass is)

  pub order_same : (o : List ℕ) → check_order t o ≡ Then.check_order t o
  unfolding check_order is_order Then.check_order
  order_same o = rw (in_all (keeps_wait t o) (rows_of t) (λ i _. rw (none_follows i)), and_true (is_arrangement t o))

  -- Where there were no promised parts, no row is promised one. Where there were, what is said of r is the same.
  pub none_promised : p.promises ≡ false → (i : ℕ) → promised_of t i ≡ 0
  none_promised e i = zero_at t.promised 0 (i - 1) (b.none e) (omega arith)

  not_promised : p.promises ≡ false → (i : ℕ) → is_promised t i ≡ false
  not_promised e i = rw (none_promised e i) (by_bool (is_low t i) (λ d. rw d) (λ d. rw d))

  promised_same : (i : ℕ) → is_promised t i ≡ (p.promises && is_promised t i)
  promised_same i = by_bool p.promises (λ e. rw e) (λ e. rw (e, not_promised e i))

  -- need and allowance (rules 1.8, 1.9)
  pub need_same : (s i : ℕ) → need_for t s i ≡ Then.need_for p t s i
  need_same s i = b.loads.need (work_of t i) s

  pub allowance_same : (i : ℕ) → allowance t i ≡ Then.allowance p t i
  allowance_same i =
      by_cond p.promises (allowance t i) (max (Then.need_of p t i) (Then.promise_need p t i)) (Then.need_of p t i)
      (λ _. ap₂ max (need_same t.normal i) (b.loads.need (promised_of t i) t.degraded))
      (λ e. let m : promise_need t i ≡ t.loading = rw (none_promised e i, no_slots t.degraded) (omega arith) in
      let n : allowance t i ≡ need_for t t.normal i = omega arith in
      n ∙ need_same t.normal i)

  pub over_same : (i g u : ℕ) → is_over t i g u ≡ Then.is_over p t i g u
  unfolding is_over Then.is_over
  over_same i g u = rw (allowance_same i)

  -- the step (rule 9.6)
  serve_same : (v i : ℕ) (s : State) → serve t v i s ≡ Then.serve p t v i s
  unfolding serve Then.serve
  serve_same v i s =
      let e = b.loads.brought (at s.used i) v in
      rw (e, over_same i (min (work_of t i) (at s.got i + p.brought t.loading (at s.used i) v)) (at s.used i + 1))

  module _ (o : List ℕ) where
    pub slot_same : (v : ℕ) (s : State) → slot t o v s ≡ Then.slot p t o v s
    unfolding slot Then.slot
    slot_same v s = rw (chosen_same o s, serve_same v (Then.chosen t o s) s)

    pub step_same : (v : ℕ) (s : State) → run_slot t o v s ≡ Then.run_slot p t o v s
    unfolding run_slot Then.run_slot
    step_same v s = rw (slot_same v s)

    -- the runs (rules 3.4, 19.1)
    pub after_same : (σ : ℕ → ℕ) (k : ℕ) → after t o σ k ≡ Then.after p t o σ k
    after_same = course_same (slot t o) (Then.slot p t o) slot_same

    pub run_same : (σ : ℕ → ℕ) (k : ℕ) → run_after t o σ k ≡ Then.run_after p t o σ k
    run_same = course_same (run_slot t o) (Then.run_slot p t o) step_same

    -- correct orders, and orders that serve in runs (rules 3.4, 19.5)
    pub correct_same : Correct t o ↔ CorrectThen p t o
    correct_same = (
      λ c. record {
        normal = λ σ s i r. subst (λ (x : State). KeptIn t x i) (after_same σ (deadline_of t i)) (c.normal σ s i r);
        degraded = λ σ s i r g. subst (λ (x : State). KeptIn t x i) (after_same σ (deadline_of t i)) (c.degraded σ s i r g);
        promised = λ _ σ s i r g. subst (λ (x : State). promised_of t i ≤ at x.got i) (after_same σ (deadline_of t i)) (c.promised σ s i r g);
      },
      λ c. record {
        normal = λ σ s i r. subst (λ (x : State). KeptIn t x i) (sym (after_same σ (deadline_of t i))) (c.normal σ s i r);
        degraded = λ σ s i r g. subst (λ (x : State). KeptIn t x i) (sym (after_same σ (deadline_of t i))) (c.degraded σ s i r g);
        promised = λ σ s i r g. by_bool p.promises
            (λ e. subst (λ (x : State). promised_of t i ≤ at x.got i) (sym (after_same σ (deadline_of t i))) (c.promised e σ s i r g))
            (λ e. omega (arith, none_promised e i));
      },
    )

    pub serves_same : RunServes t o ↔ RunServesThen p t o
    serves_same = (
      λ c. record {
        normal = λ σ s i r. subst (λ (x : State). KeptIn t x i) (run_same σ (deadline_of t i)) (c.normal σ s i r);
        degraded = λ σ s i r g. subst (λ (x : State). KeptIn t x i) (run_same σ (deadline_of t i)) (c.degraded σ s i r g);
        promised = λ _ σ s i r g. subst (λ (x : State). promised_of t i ≤ at x.got i) (run_same σ (deadline_of t i)) (c.promised σ s i r g);
      },
      λ c. record {
        normal = λ σ s i r. subst (λ (x : State). KeptIn t x i) (sym (run_same σ (deadline_of t i))) (c.normal σ s i r);
        degraded = λ σ s i r g. subst (λ (x : State). KeptIn t x i) (sym (run_same σ (deadline_of t i))) (c.degraded σ s i r g);
        promised = λ σ s i r g. by_bool p.promises
            (λ e. subst (λ (x : State). promised_of t i ≤ at x.got i) (sym (run_same σ (deadline_of t i))) (c.promised e σ s i r g))
            (λ e. omega (arith, none_promised e i));
      },
    )

    -- the calls on paper (rules 9.7, 9.8)
    one_same : (v : ℕ) (s : State) → tell_one t o v s ≡ Then.tell_one p t o v s
    unfolding tell_one Then.tell_one
    one_same v s = rw (chosen_same o s, step_same v s)

    forward_same : (k : ℕ) (vs : List ℕ) (s : State) → tell_forward t o k vs s ≡ Then.tell_forward p t o k vs s
    unfolding tell_forward Then.tell_forward
    forward_same k [] s = refl
    forward_same k (v ∷ vs) s = rw (step_same v s, forward_same (k + 1) vs (Then.run_slot p t o v s))

    tell_same : (c : Call) (s : State) → tell t o c s ≡ Then.tell p t o c s
    tell_same (one v) s = one_same v s
    tell_same (forward vs) s = forward_same 0 vs s

    pub calls_same : (cs : List Call) (s : State) → tell_all t o cs s ≡ Then.tell_all p t o cs s
    unfolding tell_all Then.tell_all
    calls_same [] s = refl
    calls_same (c ∷ cs) s = rw (tell_same c s, calls_same cs (Then.tell p t o c s).state)

  -- worst finish and slack (rules 3.6, 3.7)
  horizon_same : (s : ℕ) → horizon t s ≡ Then.horizon p t s
  unfolding horizon Then.horizon
  horizon_same s = rw (sum_eq (need_for t s) (Then.need_for p t s) (rows_of t) (λ i _. need_same s i))

  pub finish_same : (o : List ℕ) (i : ℕ) → worst_finish t o i ≡ Then.worst_finish p t o i
  unfolding worst_finish Then.worst_finish
  finish_same o i = rw (horizon_same (worst_speed t i), after_same o (λ _. worst_speed t i) (Then.horizon p t (worst_speed t i)))

  pub moment_same : (o : List ℕ) (i : ℕ) → promised_moment t o i ≡ Then.promised_moment p t o i
  unfolding promised_moment Then.promised_moment
  moment_same o i =
      rw (horizon_same t.degraded)
      (first_agree (λ k. leb (promised_of t i) (at (after t o (λ _. t.degraded) k).got i)) (λ k. leb (promised_of t i) (at (Then.after p t o (λ _. t.degraded) k).got i))
      (λ k. ap (λ (x : State). leb (promised_of t i) (at x.got i)) (after_same o (λ _. t.degraded) k)) (rows_to (Then.horizon p t t.degraded)))

  pub slack_same : (o : List ℕ) (i : ℕ) → slack t o i ≡ Then.slack p t o i
  unfolding slack Then.slack
  slack_same o i =
      rw (finish_same o i, moment_same o i)
      (ap (λ (x : Bool). cond x (lesser (left_from t i (Then.worst_finish p t o i)) (left_from t i (Then.promised_moment p t o i))) (left_from t i (Then.worst_finish p t o i)))
      (promised_same i))

  -- without promised parts the latest clock that counts for a row is its worst finish
  pub latest_same : p.promises ≡ false → (o : List ℕ) (i : ℕ) → latest t o i ≡ Then.worst_finish p t o i
  unfolding latest
  latest_same e o i = rw (not_promised e i, finish_same o i) (omega arith)

  pub meets_same : (o : List ℕ) (i : ℕ) → meets t o i ≡ Then.meets p t o i
  unfolding meets Then.meets
  meets_same o i =
      by_cond p.promises (meets t o i) (not (lt_z (Then.slack p t o i) (pos 0))) (leb (Then.worst_finish p t o i) (deadline_of t i))
      (λ _. rw (slack_same o i))
      (λ e. meets_is t o i ∙ rw (latest_same e o i))

  -- the checks of a table, and of an order of it (rules 11.3, 11.4)
  tail_same : tail_ok t ≡ Then.tail_ok p t
  unfolding tail_ok Then.tail_ok
  tail_same =
      rw (zeros_drop t.n t.follows b.free, and_true)
      (by_bool p.promises (λ e. rw e) (λ e. rw (e, zeros_drop t.n t.promised (b.none e))))

  promises_same : all (promise_ok t) (rows_of t) ≡ Then.promises_ok p t
  unfolding promise_ok Then.promises_ok
  promises_same =
      by_cond p.promises (all (promise_ok t) (rows_of t)) (all (promise_ok t) (rows_of t)) true
      (λ _. refl)
      (λ e. in_all (promise_ok t) (rows_of t)
      (λ i _. rw (none_promised e i, le-leb 0 (work_of t i) (omega arith)) (by_bool (is_low t i) (λ d. rw d) (λ d. rw d))))

  pub check_same : check_table t ≡ Then.check_table p t
  unfolding check_table Then.check_table
  check_same = rw (b.loads.fits, tail_same, promises_same, waits_pass (rows_of t))

  pub both_same : (o : List ℕ) → check_both t o ≡ Then.check_both p t o
  unfolding check_both Then.check_both
  both_same o = rw (check_same, order_same o)

-- the checks of a table of two times are the same by the rules of both
pub check_between : (p q : Past) (t : Table) → Before p t → Before q t → Then.check_table p t ≡ Then.check_table q t
check_between p q t b d = sym (check_same p t b) ∙ check_same q t d
