-- The claim from the other side: what a caller gets from `Demand3`, in plain terms, derived from its statement alone and without its proof.
-- Where a field of the claim is weakened or left out, a proof here fails.
use Rattle.std.specs.Prelude.{ℕ, zero, suc, ◌+◌, ◌-◌, ◌*◌, ◌/◌, ◌≤◌, min, true, not, ◌↔◌, ◌⊎◌, ◌≡◌, refl, List, [], ◌∷◌, map, ltb, eqb, length, get_or, replicate}
use Rattle.std.proofs.Common.{inl, inr, sym, subst, ◌∙◌, arith, pow_pos, eq-eqb, ne_eqb}
use Rattle.std.proofs.Math.Path.{ap}
use Rattle.record.specs.declared.Run.{Run}
use Rattle.record.specs.Records.{start_run, fresh_of}
use Rattle.rules.specs.declared.Table.{Table}
use Rattle.rules.specs.Plans.{Ordered, NoOrder}
use Rattle.rules.specs.declared.Planning.{Planning}
use Rattle.rules.specs.Checks.{Passed}
use Rattle.rules.specs.Calls.{last_clock, Call, one, forward, Said, tell_one, tell_forward, tell, tell_all, supply_from, supply_at}
use Rattle.rules.specs.Choice.{choice, word, padded, plan_of}
use Rattle.ceiling.specs.Ceiling.{trial_count}
use Rattle.rules.specs.Correct.{earliest, Window, WindowTo}
use Rattle.proposal.specs.Days.{Act, InHand, begun, tell_act, tell_day, run_calls, just_runs}
use Rattle.rules.specs.Lists.{all, least}
use Rattle.rules.proofs.Meaning.{correct_serves, serves_correct, has_correct}
use Rattle.rules.specs.Meaning.{Serves}
use Rattle.rules.specs.Numbers.{planned_number, rows_left}
use Rattle.rules.specs.Orders.{is_order}
use Rattle.rules.specs.Rows.{at, rows_of, release_of}
use Rattle.rules.specs.Running.{run_slot}
use Rattle.rules.specs.Slots.{State, start_at, fresh}
use Rattle.rules.specs.Tables.{Accepted}
use Rattle.rules.specs.Worst.{worst_speed}
use Rattle.theory.specs.Counts.{In, in_head, in_tail}
use Rattle.theory.specs.Facts.{is_row_lem, rows_in_lem, facts}
use Rattle.theory.proofs.Finishes.{earliest_first}
use Rattle.theory.specs.Tests.{by_bool, by-leb, and_left, and_right, not_is, not_both}
use Rattle.proposal.specs.Commits.{commit_of}
use Rattle.guarantee.specs.Playing.{AllMade, make_all, make_day}
use Rattle.guarantee.specs.Claim.{HandRight, Claim, Demand3}
use Rattle.guarantee.proofs.Listed.{fresh_right}
use Rattle.guarantee.specs.Listed.{ListRight}
use Rattle.guarantee.specs.Concluded.{WithZero, WithSeven, Started, ZeroOrEight, Answers, Entries, Done, Supplied, SuppliedTo, Deadlines, Closings, Waited, AtCeiling, Plain, Renewed}

-- What a caller gets of a list of run calls and commits that starts with table t and order o, emptied, at clock k, where no row of t is released before k: with h the
-- sheet in hand on paper, the answers on paper, the record that h says, and of the rows of h what they keep, by the supplies of the whole list (rule 22.9).
pub record PlainDay (t : Table) (o : List ℕ) (k : ℕ) (acts : List Act) (h : InHand) (made : AllMade) : Type 0 where
  pub answers : Answers (length acts) (tell_day acts (begun t o k)).said made.said
  pub passes : is_order h.table h.order ≡ true
  -- the order in hand serves, if the first one did, or if another table or another order is in hand
  pub serves : Serves t o → Serves h.table h.order
  pub renewed : ((h.table ≡ t) × (h.order ≡ o) → ⊥) → Serves h.table h.order
  pub entries : Entries h.table h.order h.state (supply_from k (run_calls acts)) made.run
  pub deadlines : Deadlines h.table h.order (supply_from k (run_calls acts)) made.run
  pub closings : Closings h.table h.order (supply_from k (run_calls acts)) made.run
  pub waits : Waited h.table h.order (supply_from k (run_calls acts)) made.run

-- The word of at least one row is at least 1.
word_some : (x : ℕ) (l : List ℕ) → 1 ≤ word (x ∷ l)
unfolding word
word_some x l = omega (arith, pow_pos (x - 1))

-- A list with a row is not empty.
no_row : (x : ℕ) (l : List ℕ) → x ∷ l ≡ [] → ⊥
no_row x l e = let z : ◌≡◌ {A = ℕ} 0 1 = cc in omega arith

-- Where the least of b and f over the list is at most u, b is, or f of some row of the list.
least_is : (f : ℕ → ℕ) (b : ℕ) (l : List ℕ) (u : ℕ) → least f b l ≤ u → (b ≤ u) ⊎ ((x : ℕ) × In x l × (f x ≤ u))
least_is f b [] u h = inl h
least_is f b (x ∷ l) u h = go (least_is f (min b (f x)) l u h)
  where
    go : (min b (f x) ≤ u) ⊎ ((y : ℕ) × In y l × (f y ≤ u)) → (b ≤ u) ⊎ ((y : ℕ) × In y (x ∷ l) × (f y ≤ u))
    go (inl m) = by-leb b (f x) (λ _ q. inl (omega arith)) (λ _ q. inr (x, in_head x l, omega arith))
    go (inr r) = inr (r.0, in_tail r.0 x l r.1, r.2)

-- A row of the table that is released by slot u.
record Released (t : Table) (u : ℕ) : Type 0 where
  row : ℕ
  from : 1 ≤ row
  up_to : row ≤ t.n
  by : at t.release row ≤ u

-- In each slot from the earliest release on some row of the table is released.
released : (t : Table) → Accepted t → (u : ℕ) → earliest t ≤ u → Released t u
unfolding earliest
released t accepted u h = go (least_is (release_of t) (release_of t 1) (rows_of t) u h)
  where
    go : (release_of t 1 ≤ u) ⊎ ((x : ℕ) × In x (rows_of t) × (release_of t x ≤ u)) → Released t u
    go (inl r) = record { row = 1; from = omega arith; up_to = (facts t accepted).some; by = r }
    go (inr r) = let w = rows_in_lem t r.0 r.1 in record { row = r.0; from = w.from; up_to = w.up_to; by = r.2 }

-- A list of calls has as many answers on paper as calls.
told_many : (t : Table) (o : List ℕ) (cs : List Call) (s : State) → length (tell_all t o cs s).said ≡ length cs
unfolding tell_all
told_many t o [] s = refl
told_many t o (c ∷ cs) s = ap suc (told_many t o cs (tell t o c s).state)

-- On paper forward says 0 or 8.
told_forward : (t : Table) (o : List ℕ) (k : ℕ) (vs : List ℕ) (s : State) → ZeroOrEight (tell_forward t o k vs s).said.number
unfolding tell_forward
told_forward t o k [] s = inl refl
told_forward t o k (v ∷ vs) s = by_bool (ltb s.clock last_clock) (λ e. rw e (told_forward t o (k + 1) vs (run_slot t o v s))) (λ e. rw e (inr refl))

-- On paper either call says 0 or 8.
told_call : (t : Table) (o : List ℕ) (c : Call) (s : State) → ZeroOrEight (tell t o c s).said.number
unfolding tell_one
told_call t o (one v) s = by_bool (ltb s.clock last_clock) (λ e. rw e (inl refl)) (λ e. rw e (inr refl))
told_call t o (forward vs) s = told_forward t o 0 vs s

-- On paper every call of a list says 0 or 8; after the last, 0 is read.
told_number : (t : Table) (o : List ℕ) (cs : List Call) (s : State) (k : ℕ) → ZeroOrEight (get_or (map (λ (x : Said). x.number) (tell_all t o cs s).said) k 0)
unfolding tell_all
told_number t o [] s k = inl refl
told_number t o (c ∷ cs) s zero = told_call t o c s
told_number t o (c ∷ cs) s (suc k) = told_number t o cs (tell t o c s).state k

-- Where no answer has the number 9, the one at index k has not.
nine_nowhere : (l : List Said) → all (λ s. not (eqb s.number 9)) l ≡ true → (k : ℕ) → get_or (map (λ (s : Said). s.number) l) k 0 ≡ 9 → ⊥
nine_nowhere [] e k n = omega arith
nine_nowhere (s ∷ l) e zero n =
    not_both (eqb s.number 9) (eq-eqb s.number 9 n)
    (not_is (eqb s.number 9) (and_left (not (eqb s.number 9)) (all (λ s. not (eqb s.number 9)) l) e))
nine_nowhere (s ∷ l) e (suc k) n = nine_nowhere l (and_right (not (eqb s.number 9)) (all (λ s. not (eqb s.number 9)) l) e) k n

-- The plan, as the claim has it.
module _ (t : Table) (acts : List Act) (c : Claim t acts) where
  -- The choice leaves no row, or it leaves a first one and others.
  by_left : {P : Type 0} → ((choice t).left ≡ [] → P) → ((x : ℕ) (l : List ℕ) → (choice t).left ≡ x ∷ l → P) → P
  by_left {P} f g = go (choice t).left refl
    where
      go : (l : List ℕ) → (choice t).left ≡ l → P
      go [] e = f e
      go (x ∷ l) e = g x l e

  -- With no row left the plan is the order that the choice made.
  plan_none : (choice t).left ≡ [] → plan_of t ≡ record { answer = Ordered; order = padded (choice t).placed }
  plan_none e = c.plan ∙ rw e

  -- With some row left the plan is the word of these rows and sixty-four zeros.
  plan_some : (x : ℕ) (l : List ℕ) → (choice t).left ≡ x ∷ l → plan_of t ≡ record { answer = NoOrder (word (choice t).left); order = replicate 64 0 }
  plan_some x l e = c.plan ∙ rw (e, ne_eqb (suc (length l)) 0 (λ z. omega arith))

  -- With some row left the choice left rows.
  some_left_lem : (x : ℕ) (l : List ℕ) → (choice t).left ≡ x ∷ l → (choice t).left ≡ [] → ⊥
  some_left_lem x l e z = no_row x l (sym e ∙ z)

  -- With no row left the planner's number is 0.
  number_none : (choice t).left ≡ [] → planned_number (plan_of t).answer ≡ 0
  number_none = c.zero

  -- With some row left the planner's number is 7.
  number_some : (x : ℕ) (l : List ℕ) → (choice t).left ≡ x ∷ l → planned_number (plan_of t).answer ≡ 7
  number_some x l e = (c.seven (some_left_lem x l e)).0

  -- With no row left the order planned is one that serves.
  planned : (choice t).left ≡ [] → WithZero t
  unfolding rows_left
  planned e =
      record {
        order = ap (λ (p : Planning). p.order) (plan_none e);
        passes = (c.found e).0;
        serves = correct_serves t (plan_of t).order (c.found e).1;
        left = rw (plan_none e);
      }

  -- With some row left the planner hands out their word.
  left_some : (x : ℕ) (l : List ℕ) → (choice t).left ≡ x ∷ l → rows_left (plan_of t).answer ≡ word (choice t).left
  left_some x l e = (c.seven (some_left_lem x l e)).1

  -- With some row left no order of the table serves.
  unplanned : (x : ℕ) (l : List ℕ) → (choice t).left ≡ x ∷ l → WithSeven t
  unplanned x l e =
      record {
        none = λ o p s. no_row x l (sym e ∙ c.exists.0 (record { order = o; passes = p; correct = serves_correct t o s }));
        order = ap (λ (p : Planning). p.order) (plan_some x l e);
        left = left_some x l e;
        some = rw (left_some x l e, e) (word_some x l);
      }

  -- The planner's number is 0 exactly if some order of the table serves.
  zero_serves : (planned_number (plan_of t).answer ≡ 0) ↔ ((o : List ℕ) × (is_order t o ≡ true) × Serves t o)
  zero_serves = (
    λ z. by_left (λ e. (has_correct t).0 (c.exists.1 e)) (λ x l e. absurd (omega (arith, number_some x l e))),
    λ s. number_none (c.exists.0 ((has_correct t).1 s)),
  )

-- Answers that are told on paper and are never 9.
answered : (n : ℕ) (told said : List Said) → said ≡ told → length told ≡ n → all (λ s. not (eqb s.number 9)) said ≡ true → Answers n told said
answered n told said e m q =
    record {
      as_many = ap (λ (l : List Said). length l) e ∙ m;
      numbers = ap (λ (l : List Said). map (λ (s : Said). s.number) l) e;
      values = ap (λ (l : List Said). map (λ (s : Said). s.value) l) e;
      never_nine = λ k _. nine_nowhere said q k;
    }

-- What the record shows of the sheet in hand, under any order of the table.
module _ (t : Table) (accepted : Accepted t) (o : List ℕ) (s : State) (σ : ℕ → ℕ) (r : Run) (f : HandRight t o s σ r) where
  -- The record's entries are those on paper.
  entered : Entries t o s σ r
  entered =
      record {
        taken = f.taken;
        clock = f.clock;
        got = λ i. ap (λ (l : List ℕ). at l i) f.got;
        used = λ i. ap (λ (l : List ℕ). at l i) f.used;
        closing = λ i. ap (λ (l : List ℕ). at l i) f.closing;
        table = f.table;
        order = f.order;
      }

  -- Each slot of row i's window is one by which some row is released, so that it supplied at least so many work units.
  window : (i v : ℕ) → Supplied t σ i v → Window t σ i v
  window i v h u p q = let w = released t accepted u p in h u w.row w.from w.up_to w.by q

  window_to : (k i v : ℕ) → SuppliedTo t σ k i v → WindowTo t σ k i v
  window_to k i v h u p q l = let w = released t accepted u p in h u w.row w.from w.up_to w.by q l

  -- A row is done if each of those slots supplied at least its worst speed, in work units per slot.
  done : Serves t o → (i : ℕ) → 1 ≤ i → i ≤ t.n → at t.deadline i ≤ r.clock → Supplied t σ i (worst_speed t i) → Done t r i
  done c i l h d w =
      let k = f.kept (serves_correct t o c) i (is_row_lem t i (record { from = l; up_to = h })) d (window i (worst_speed t i) w) in
      record { got = k.done; from = k.closed; up_to = k.in_time }

  closed_done : Serves t o → (i : ℕ) → 1 ≤ i → i ≤ t.n → 1 ≤ at r.closing i → SuppliedTo t σ (at r.closing i) i (worst_speed t i) → Done t r i
  closed_done c i l h z w =
      let k = f.settled (serves_correct t o c) i (is_row_lem t i (record { from = l; up_to = h })) z (window_to (at r.closing i) i (worst_speed t i) w) in
      record { got = k.done; from = k.closed; up_to = k.in_time }

  -- The worst speed, in work units per slot, is N at level 0 and G at any other.
  pub in_time_lem : Deadlines t o σ r
  in_time_lem =
      record {
        low = λ c i l h v d w. done c i l h d (λ u j p q a b. rw (eq-eqb (at t.level i) 0 v) (w u j p q a b));
        high = λ c i l h v d w. done c i l h d (λ u j p q a b. rw (ne_eqb (at t.level i) 0 v) (w u j p q a b));
        part = λ c i l h v d w. f.promised (serves_correct t o c) i (is_row_lem t i (record { from = l; up_to = h })) (eq-eqb (at t.level i) 0 v) d
            (window i t.degraded w);
      }

  pub closings_are : Closings t o σ r
  closings_are =
      record {
        low = λ c i l h v z w. closed_done c i l h z (λ u j p q a b e. rw (eq-eqb (at t.level i) 0 v) (w u j p q a b e));
        high = λ c i l h v z w. closed_done c i l h z (λ u j p q a b e. rw (ne_eqb (at t.level i) 0 v) (w u j p q a b e));
        part = λ c i l h v z w. f.settled_part (serves_correct t o c) i (is_row_lem t i (record { from = l; up_to = h })) (eq-eqb (at t.level i) 0 v) z
            (window_to (at r.closing i) i t.degraded w);
      }

  -- A row that has used a slot was not kept waiting any more.
  pub waited : Waited t o σ r
  waited =
      record {
        slots = λ i u l h some. f.held i u (is_row_lem t i (record { from = l; up_to = h })) (omega arith);
        closed = λ i l h some u. (f.waited i (is_row_lem t i (record { from = l; up_to = h })) (omega arith) u).0;
        after = λ i l h some u. (f.waited i (is_row_lem t i (record { from = l; up_to = h })) (omega arith) u).1;
        done = λ i l h some v u. (f.waited i (is_row_lem t i (record { from = l; up_to = h })) (omega arith) u).2 (rw (ne_eqb (at t.level i) 0 v));
      }

-- The fresh record of an order of the table, as the claim has it.
first_record : (t : Table) (acts : List Act) → Claim t acts → (o : List ℕ) → is_order t o ≡ true → Started t o
first_record t acts c o e =
    let f = c.started o e in
    record { check = rw f; table = rw f; order = rw f; clock = rw f; got = rw f; used = rw f; closing = rw f }

-- The planner at a ceiling that is not below the count.
at_ceiling : (t : Table) (acts : List Act) → Claim t acts → (c : ℕ) → trial_count t ≤ c → AtCeiling t c
at_ceiling t acts claim c h = let e = claim.ceiling c h in record { number = rw e; order = rw e; left = rw e; trials = rw e }

-- Demand 3 in plain terms, of every accepted table and every list of run calls.
pub concluded : Demand3 → (t : Table) → Accepted t → (cs : List Call) → Plain t cs
unfolding fresh
concluded demand t accepted cs =
    let acts = just_runs cs in
    let c = demand t accepted acts in
    let end : List ℕ → AllMade = λ o. make_all cs (fresh_of t o).run in
    let right : (o : List ℕ) → is_order t o ≡ true → ListRight t o 0 cs (make_all cs (fresh_of t o).run) = λ o e. fresh_right t cs c o e in
    record {
      either = by_left t acts c (λ e. inl (number_none t acts c e)) (λ x l e. inr (number_some t acts c x l e));
      zero = zero_serves t acts c;
      order = λ z. by_left t acts c (λ e. planned t acts c e) (λ x l e. absurd (omega (arith, number_some t acts c x l e)));
      seven = λ z. by_left t acts c (λ e. absurd (omega (arith, number_none t acts c e))) (λ x l e. unplanned t acts c x l e);
      ceilings = at_ceiling t acts c;
      enough = at_ceiling t acts c (t.n * (t.n + 1) / 2) c.enough;
      started = first_record t acts c;
      answers = λ o e. answered (length cs) (tell_all t o cs (start_at 0)).said (end o).said (right o e).said (told_many t o cs (start_at 0)) (right o e).no_nine;
      zero_or_eight = λ o e k. subst (λ (l : List Said). ZeroOrEight (get_or (map (λ (s : Said). s.number) l) k 0)) (sym (right o e).said) (told_number t o cs (start_at 0) k);
      entries = λ o e. entered t accepted o (tell_all t o cs (start_at 0)).state (supply_at cs) (end o).run (right o e).hand;
      deadlines = λ o e. in_time_lem t accepted o (tell_all t o cs (start_at 0)).state (supply_at cs) (end o).run (right o e).hand;
      closings = λ o e. closings_are t accepted o (tell_all t o cs (start_at 0)).state (supply_at cs) (end o).run (right o e).hand;
      waits = λ o e. waited t accepted o (tell_all t o cs (start_at 0)).state (supply_at cs) (end o).run (right o e).hand;
    }

-- A commit that is answered 0, in plain terms.
pub renewed : Demand3 → (t : Table) → Accepted t → (r : Run) (o : List ℕ) → (commit_of r t o).check ≡ Passed → Renewed t o r
renewed demand t accepted r o e =
    let c = (demand t accepted []).committed r o e in
    record {
      sound = c.sound;
      closed = λ i l h. c.closed i (is_row_lem r.table i (record { from = l; up_to = h }));
      passes = c.passes;
      serves = correct_serves t o c.correct;
      later = λ j l h. omega (arith, c.early, earliest_first t j (record { from = l; up_to = h }));
      emptied = rw c.left (refl, refl, refl, refl, refl, refl);
    }

-- Either of two.
by_first : {P A B : Type 0} → A ⊎ B → (A → P) → (B → P) → P
by_first (inl a) f g = f a
by_first (inr b) f g = g b

-- A list of acts has as many answers on paper as acts.
acts_many : (acts : List Act) (h : InHand) → length (tell_day acts h).said ≡ length acts
unfolding tell_day
acts_many [] h = refl
acts_many (a ∷ more) h = ap suc (acts_many more (tell_act a h).hand)

-- A clock before which no row is released is not after the earliest release.
not_after : (t : Table) → Accepted t → (k : ℕ) → ((j : ℕ) → 1 ≤ j → j ≤ t.n → k ≤ at t.release j) → k ≤ earliest t
not_after t accepted k h =
    by-leb k (earliest t) (λ _ q. q) (λ _ q. let w = released t accepted (earliest t) (omega arith) in absurd (omega (arith, h w.row w.from w.up_to, w.by)))

-- Demand 3 in plain terms, of every accepted table, every order of it, every clock before which none of its rows is released, and every list of run calls and
-- commits.
pub day_concluded : Demand3 → (t : Table) → Accepted t → (o : List ℕ) → is_order t o ≡ true → (k : ℕ) → ((j : ℕ) → 1 ≤ j → j ≤ t.n → k ≤ at t.release j)
    → (acts : List Act) → PlainDay t o k acts (tell_day acts (begun t o k)).hand (make_day acts (start_run t o k))
day_concluded demand t accepted o e k later acts =
    let r = (demand t accepted acts).right o e k (not_after t accepted k later) in
    let h = (tell_day acts (begun t o k)).hand in
    let σ = supply_from k (run_calls acts) in
    let end = make_day acts (start_run t o k) in
    record {
      answers = answered (length acts) (tell_day acts (begun t o k)).said end.said r.said (acts_many acts (begun t o k)) r.no_nine;
      passes = r.passes;
      serves = λ s. by_first {P = Serves h.table h.order} r.first (λ q. rw (q.0, q.1) s) (λ c. correct_serves h.table h.order c);
      renewed = λ n. by_first {P = Serves h.table h.order} r.first (λ q. absurd (n q)) (λ c. correct_serves h.table h.order c);
      entries = entered h.table r.accepted h.order h.state σ end.run r.hand;
      deadlines = in_time_lem h.table r.accepted h.order h.state σ end.run r.hand;
      closings = closings_are h.table r.accepted h.order h.state σ end.run r.hand;
      waits = waited h.table r.accepted h.order h.state σ end.run r.hand;
    }
