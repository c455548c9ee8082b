-- The promised moment of a row is the worst finish of its part (Part), so that a row meets its deadline exactly if its worst finish and, where it is
-- promised a part, that part's are in time (rules 3.7, 3.9, 4.4); and an order is correct exactly if all rows do (rule 3.4).
use Prim.Native.Nat.{ℕ, zero, suc, ◌+◌, ◌-◌, ◌≤◌, ◌<◌, max}
use Rattle.std.proofs.Math.Bool.{true}
use Rattle.std.specs.Prelude.{false, cond, ◌≡◌, refl, List, [], ◌∷◌, ◌++◌, ◌⊎◌, ltb, pos, ◌-ℤ◌, nat_abs}
use Rattle.std.proofs.Common.{true≢false, sym, subst, ◌∙◌, append_assoc, inl, inr}
use Rattle.std.proofs.Math.Path.{ap}
use native.Mathlib.Omega.{arith}
use Rattle.std.proofs.Math.Dec.{leb}
use Rattle.std.specs.Int.Signed.{lt_z}
use borrow.Author.Tests.{le-leb, lt-leb, le-ltb, lt-ltb, leb-true, ltb-true}
use Rattle.rules.specs.declared.Table.{Table}
use Rattle.rules.specs.Lists.{rows_to, first}
use Rattle.rules.specs.Rows.{at, rows_of, is_low, is_promised, work_of, deadline_of, release_of, promised_of, need_for, promise_need}
use Rattle.rules.specs.Orders.{is_arrangement, is_order}
use Rattle.rules.specs.Slots.{State, after}
use Rattle.rules.specs.Correct.{KeptIn, Correct, earliest, Window}
use Rattle.rules.specs.Worst.{worst_speed, horizon, worst_finish, promised_moment, lesser, slack, meets}
use Rattle.theory.specs.Agree.{first_agree}
use Rattle.theory.specs.Tests.{by_bool, by-leb, by_eqb, and_left, and_right, and_both, not_is}
use Rattle.theory.specs.Counts.{In, Once, Within, Same, in_last, sum_within, sum_le}
use Rattle.theory.specs.Caps.{cap, cap_need, slots_rise}
use Rattle.theory.specs.Facts.{Row, row_is, is_row_lem, rows_in_lem, TableFacts}
use Rattle.theory.specs.Cells.{cell_at}
use Rattle.theory.specs.Ends.{Rule, planning, state_by}
use Rattle.theory.proofs.Invariant.{held, got_high}
use Rattle.theory.specs.Invariant.{Over}
use Rattle.theory.proofs.Exact.{closes_at, closed_finish}
use Rattle.theory.specs.Waits.{Stand}
use Rattle.theory.specs.Places.{placed}
use Rattle.theory.specs.Sorting.{Sorted}
use Rattle.theory.specs.Sweep.{sweep}
use Rattle.theory.proofs.Sweep.{sweep_same}
use Rattle.theory.proofs.Finishes.{rows_of_lem, once_of, within_rows, worst_slower, worst_finish_lem, worst_bound, worst_sweep, time_moved}
use Rattle.theory.specs.Finishes.{on_time}
use Rattle.theory.proofs.Verdict.{late_is, less_left, more_left, kept_by, kept, all_timely}
use Rattle.theory.proofs.Part.{part_row, part_table_lem, part_work, part_high, other_work, other_low, other_promised, part_rule, got_grows, Together, Parted, together}
use Rattle.theory.specs.Part.{part_table}
use Rattle.theory.specs.Promised.{latest, Part}

-- the first of the numbers 1, 2, .., n from k on
first_on : (k n : ℕ) → 1 ≤ k → first (leb k) (rows_to n) ≡ cond (leb k n) k 0
first_on k zero h = rw (lt-leb k 0 h)
first_on k (suc n) h =
    by-leb k n
    (λ e p. early (rows_to n) (rw e at (first_on k n h)) ∙ rw (le-leb k (suc n) (omega arith)))
    (λ e p. late (rows_to n) (rw e at (first_on k n h)) ∙ by-leb k (suc n)
    (λ d q. let z : suc n ≡ k = omega arith in rw (d, z))
    (λ d q. rw d))
  where
    early : (l : List ℕ) → first (leb k) l ≡ k → first (leb k) (l ++ (suc n ∷ [])) ≡ k
    early [] e = absurd (omega arith)
    early (x ∷ l) e = by_bool (leb k x) (λ d. rw d (rw d at e)) (λ d. rw d (early l (rw d at e)))

    late : (l : List ℕ) → first (leb k) l ≡ 0 → first (leb k) (l ++ (suc n ∷ [])) ≡ cond (leb k (suc n)) (suc n) 0
    late [] e = refl
    late (x ∷ l) e =
        by-leb k x
        (λ d q. let z : x ≡ 0 = rw d at e in absurd (omega arith))
        (λ d q. rw d (late l (rw d at e)))

-- the lesser of two differences is that of the later clock
lesser_is : (d k m : ℕ) → lesser (pos d -ℤ pos k) (pos d -ℤ pos m) ≡ pos d -ℤ pos (max k m)
lesser_is d k m =
    by-leb m k
    (λ _ h. let e : max k m ≡ k = omega arith in rw (e, less_left d m k h))
    (λ _ h. let e : max k m ≡ m = omega arith in rw (e, more_left d k m h))

module _ (t : Table) (o : List ℕ) (i : ℕ) where
  -- the slack is what is left from it to the deadline
  pub slack_is : slack t o i ≡ pos (deadline_of t i) -ℤ pos (latest t o i)
  unfolding slack latest
  slack_is =
      by_bool (is_promised t i)
      (λ e. rw e (lesser_is (deadline_of t i) (worst_finish t o i) (promised_moment t o i)))
      (λ e. let z : max (worst_finish t o i) 0 ≡ worst_finish t o i = omega arith in rw (e, z))

  pub late_slack : lt_z (slack t o i) (pos 0) ≡ ltb (deadline_of t i) (latest t o i)
  late_slack = rw slack_is (late_is (deadline_of t i) (latest t o i))

  pub slack_meets : lt_z (slack t o i) (pos 0) ≡ false → meets t o i ≡ true
  unfolding meets
  slack_meets e = rw e

  pub meets_slack : meets t o i ≡ true → lt_z (slack t o i) (pos 0) ≡ false
  unfolding meets
  meets_slack e = not_is (lt_z (slack t o i) (pos 0)) e

  -- a row meets its deadline if that clock is not after it
  pub meets_is : meets t o i ≡ leb (latest t o i) (deadline_of t i)
  unfolding meets
  meets_is =
      by-leb (latest t o i) (deadline_of t i)
      (λ e h. rw (e, late_slack, le-ltb (deadline_of t i) (latest t o i) h))
      (λ e h. rw (e, late_slack, lt-ltb (deadline_of t i) (latest t o i) h))

  -- where it is not, the slack is their difference as natural numbers
  pub natural : meets t o i ≡ true → nat_abs (slack t o i) ≡ deadline_of t i - latest t o i
  natural e = rw slack_is (difference (deadline_of t i) (latest t o i) (leb-true (latest t o i) (deadline_of t i) (sym meets_is ∙ e)))
    where
      difference : (d k : ℕ) → k ≤ d → nat_abs (pos d -ℤ pos k) ≡ d - k
      difference d zero h = omega arith
      difference d (suc k) h = rw (le-ltb d (suc k) h)

  pub finish_latest : worst_finish t o i ≤ latest t o i
  unfolding latest
  finish_latest = omega arith

  pub moment_latest : is_promised t i ≡ true → promised_moment t o i ≤ latest t o i
  unfolding latest
  moment_latest e = rw e (omega arith)

  -- the two clocks in it, and nothing else, count
  pub latest_by : (d : ℕ) → worst_finish t o i ≤ d → (is_promised t i ≡ true → promised_moment t o i ≤ d) → latest t o i ≤ d
  unfolding latest
  latest_by d h k = by_bool (is_promised t i) (λ e. rw e (omega (arith, k e))) (λ e. rw e (omega arith))

pub part_of : (t : Table) (i : ℕ) → is_promised t i ≡ true → Part t i
part_of t i e = record { low = and_left (is_low t i) (ltb 0 (promised_of t i)) e; some = ltb-true 0 (promised_of t i) (and_right (is_low t i) (ltb 0 (promised_of t i)) e) }

pub is_part : (t : Table) (i : ℕ) → is_low t i ≡ true → 1 ≤ promised_of t i → is_promised t i ≡ true
is_part t i l h = and_both (is_low t i) (ltb 0 (promised_of t i)) l (lt-ltb 0 (promised_of t i) h)

module _ (t : Table) (f : TableFacts t) (i : ℕ) (r : Row t i) (promise : Part t i) where
  abbrev p : Table
  p = part_table t i

  pub part_known : TableFacts p
  part_known = part_table_lem t f i r promise.some

  pub part_speed : worst_speed p i ≡ t.degraded
  part_speed = rw (part_high t f i r)

  -- no row of it needs more slots at G
  part_needs_lem : (x : ℕ) → Row t x → need_for p t.degraded x ≤ need_for t t.degraded x
  part_needs_lem x q =
      by_eqb x i
      (λ _ e. rw (e, part_work t f i r) (omega (arith, slots_rise (promised_of t i) (work_of t i) t.degraded f.crawls (f.part i r).within)))
      (λ _ e. rw (other_work t f i x q e) (omega arith))

  -- caps at G: the part's need for row i, and for every other row what it was
  part_cap_lem : cap p t.degraded i ≡ promise_need t i
  unfolding cap
  part_cap_lem = rw (part_high t f i r, part_work t f i r)

  other_cap : (x : ℕ) → Row t x → (x ≡ i → ⊥) → cap p t.degraded x ≡ cap t t.degraded x
  unfolding cap
  other_cap x q e = rw (other_low t f i x q e, other_work t f i x q e, other_promised t f i x q e)

  -- row i below the rows of a, with b below it
  module _ (a b : List ℕ) (rows : (x : ℕ) → In x (a ++ (i ∷ [])) → Row t x) (once : Once (a ++ (i ∷ []))) (stand : Stand t a i) where
    abbrev o : List ℕ
    o = a ++ (i ∷ b)

    rows' : (x : ℕ) → In x (a ++ (i ∷ [])) → Row p x
    rows' x j = part_row t i x (rows x j)

    abbrev finishes : ℕ
    finishes = worst_finish p o i

    whole : a ++ (i ∷ []) ++ b ≡ o
    whole = append_assoc a (i ∷ []) b

    abbrev runs_at : ℕ → State
    runs_at k = after p o (λ _. t.degraded) k

    -- at a clock the row has its part in the run at exactly G just if that clock is not before the part's finish
    has_part : (k : ℕ) → leb (promised_of t i) (at (after t o (λ _. t.degraded) k).got i) ≡ leb finishes k
    has_part k = go (together t f i r promise.some (planning t) o (λ _. t.degraded) k (λ u _ _. omega arith) k (omega arith))
      where
        closing : ℕ
        closing = at (after p o (λ _. t.degraded) k).closing i

        speed : worst_speed p i ≡ t.degraded
        speed = part_speed

        done : finishes ≤ k → closing ≡ finishes
        done h =
            subst (λ (l : List ℕ). at (after p l (λ _. t.degraded) k).closing i ≡ finishes) whole
            (closes_at p part_known a b i rows' once stand t.degraded f.crawls f.slower finishes k
            (rw speed at (worst_finish_lem p part_known a b i rows' once stand)) h)

        since : 1 ≤ closing → finishes ≤ k
        since h =
            closed_finish p part_known a b i rows' once stand t.degraded f.crawls f.slower finishes k
            (rw speed at (worst_finish_lem p part_known a b i rows' once stand))
            (subst (λ (l : List ℕ). 1 ≤ at (after p l (λ _. t.degraded) k).closing i) (sym whole) h)

        still : Together t f i r promise.some (planning t) o (λ _. t.degraded) k (λ u _ _. omega arith) k → closing ≡ 0
        still x =
            by_eqb closing 0
            (λ _ z. z)
            (λ _ z. ended ((held p part_known (planning p) o (λ _. t.degraded) 0 0 k (λ j q. omega arith) (λ u q l. omega arith) k (omega arith) i (part_row t i i r)).ended (omega arith)))
          where
            ended : Over p i (at (runs_at k).got i) (at (runs_at k).used i) ⊎ (false ≡ true) → closing ≡ 0
            ended (inl c) =
                absurd (omega (
                  arith,
                  x.short,
                  ap (λ (s : State). at s.got i) x.same,
                  part_work t f i r,
                  got_high p i (cell_at (after p o (λ _. t.degraded) k) i) (part_high t f i r) c,
                ))
            ended (inr c) = absurd (true≢false (sym c))

        go : Together t f i r promise.some (planning t) o (λ _. t.degraded) k (λ u _ _. omega arith) k
            ⊎ Parted t f i r promise.some (planning t) o (λ _. t.degraded) k (λ u _ _. omega arith) k
            → leb (promised_of t i) (at (after t o (λ _. t.degraded) k).got i) ≡ leb finishes k
        go (inl x) =
            lt-leb (promised_of t i) (at (after t o (λ _. t.degraded) k).got i) x.short
            ∙ sym (by-leb finishes k
            (λ _ h. absurd (omega (arith, still x, done h, (worst_finish_lem p part_known a b i rows' once stand).after)))
            (λ e _. e))
        go (inr x) = le-leb (promised_of t i) (at (after t o (λ _. t.degraded) k).got i) x.has ∙ sym (le-leb finishes k (since x.closed))

    -- which is within the horizon of the run
    part_bound : finishes ≤ horizon t t.degraded
    unfolding horizon
    part_bound =
        omega (
          arith,
          rw part_speed at (worst_bound p part_known a b i rows' once stand),
          sum_within (cap p t.degraded) (a ++ (i ∷ [])) (rows_of t) (within_rows t f (a ++ (i ∷ [])) rows once),
          sum_le (cap p t.degraded) (need_for t t.degraded) (rows_of t)
              (λ x j. let c = cap_need p t.degraded x f.runs f.crawls in omega (arith, c, part_needs_lem x (rows_in_lem t x j))),
        )

    pub moment_is : promised_moment t o i ≡ finishes
    unfolding promised_moment
    moment_is =
        first_agree (λ k. leb (promised_of t i) (at (after t o (λ _. t.degraded) k).got i)) (leb finishes) has_part (rows_to (horizon t t.degraded))
        ∙ first_on finishes (horizon t t.degraded) (omega (arith, (worst_finish_lem p part_known a b i rows' once stand).after))
        ∙ rw (le-leb finishes (horizon t t.degraded) part_bound)

    -- one pass over the rows down to i by rising release finds it, with the row's own cap set to its need of the part (rule 20.4)
    pub moment_sweep : (l : List ℕ) → Sorted (release_of t) 0 l → Same l (a ++ (i ∷ [])) → (c : ℕ → ℕ) → c i ≡ promise_need t i
        → ((x : ℕ) → In x l → (x ≡ i → ⊥) → c x ≡ cap t t.degraded x) → promised_moment t o i ≡ sweep (release_of t) c (release_of t i) 0 l
    moment_sweep l sorted same c own other =
        moment_is
        ∙ rw part_speed at (worst_sweep p part_known a b i rows' once stand l sorted same)
        ∙ sweep_same (release_of t) (cap p t.degraded) c (release_of t i) 0 l
        (λ x j. let q = rows x (omega (arith, same x)) in
        by_eqb x i
        (λ _ e. rw e (part_cap_lem ∙ sym own))
        (λ _ e. other_cap x q e ∙ sym (other x j e)))

    -- a clock at which the run at exactly G has brought the part is not before it
    pub moment_first : (k : ℕ) → promised_of t i ≤ at (after t o (λ _. t.degraded) k).got i → promised_moment t o i ≤ k
    moment_first k h =
        omega (arith, moment_is, leb-true finishes k (sym (has_part k) ∙ le-leb (promised_of t i) (at (after t o (λ _. t.degraded) k).got i) h))

    pub moment_bound : promised_moment t o i ≤ horizon t t.degraded
    moment_bound = omega (arith, moment_is, part_bound)

  -- an order under check 6
  module _ (o : List ℕ) (e : is_order t o ≡ true) where
    part_order : is_order p o ≡ true
    unfolding is_arrangement is_order
    part_order = e

    pub moment_order : promised_moment t o i ≡ worst_finish p o i
    moment_order =
        let q = placed t f o e i r in
        subst (λ (l : List ℕ). promised_moment t l i ≡ worst_finish p l i) (sym q.whole) (moment_is q.above q.below q.rows q.once q.stand)

    -- A promised moment that is in time is kept by either rule, at every clock from the deadline on, if each slot of the row's window supplies at
    -- least G (rules 9.18, 20.3).
    pub part_kept : (rule : Rule t) → promised_moment t o i ≤ deadline_of t i → (σ : ℕ → ℕ) → Window t σ i t.degraded → (k : ℕ) → deadline_of t i ≤ k
        → promised_of t i ≤ at (state_by rule o σ k).got i
    unfolding earliest
    part_kept rule h σ w k q =
        let d = deadline_of t i in
        let z : k - d + d ≡ k = omega arith in
        let timely : on_time p o i ≡ true = le-leb (worst_finish p o i) d (omega (arith, moment_order)) in
        let done = kept_by p part_known o part_order (part_rule t f i rule) i (part_row t i i r) timely σ
        (λ u l m. rw (part_high t f i r) (w u l m)) d (omega arith) in
        omega (
          arith,
          got_grows t f rule o σ i r d (k - d),
          ap (λ (u : ℕ). at (state_by rule o σ u).got i) z,
          go d w done (together t f i r promise.some rule o σ d w d (omega arith)),
        )
      where
        go : (d : ℕ) (w : (u : ℕ) → earliest t ≤ u → u < d → t.degraded ≤ σ u) → KeptIn p (state_by (part_rule t f i rule) o σ d) i
            → Together t f i r promise.some rule o σ d w d ⊎ Parted t f i r promise.some rule o σ d w d
            → promised_of t i ≤ at (state_by rule o σ d).got i
        go d w e (inl x) = absurd (omega (arith, x.short, ap (λ (s : State). at s.got i) x.same, e.done, part_work t f i r))
        go d w e (inr x) = x.has

module _ (t : Table) (f : TableFacts t) where
  -- what a row has to meet: its own deadline, and with its promised part as well
  module _ (a b : List ℕ) (i : ℕ) (rows : (x : ℕ) → In x (a ++ (i ∷ [])) → Row t x) (once : Once (a ++ (i ∷ []))) (stand : Stand t a i) where
    abbrev placed_at : List ℕ
    placed_at = a ++ (i ∷ b)

    part_moment : is_promised t i ≡ true → promised_moment t placed_at i ≡ worst_finish (part_table t i) placed_at i
    part_moment e = moment_is t f i (rows i (in_last a i)) (part_of t i e) a b rows once stand

    pub meets_time : meets t placed_at i ≡ true → on_time t placed_at i ≡ true
    meets_time m =
        le-leb (worst_finish t placed_at i) (deadline_of t i)
        (omega (arith, finish_latest t placed_at i, leb-true (latest t placed_at i) (deadline_of t i) (sym (meets_is t placed_at i) ∙ m)))

    pub meets_part : meets t placed_at i ≡ true → is_promised t i ≡ true → on_time (part_table t i) placed_at i ≡ true
    meets_part m e =
        le-leb (worst_finish (part_table t i) placed_at i) (deadline_of t i)
        (omega (arith, part_moment e, moment_latest t placed_at i e, leb-true (latest t placed_at i) (deadline_of t i) (sym (meets_is t placed_at i) ∙ m)))

    pub time_meets : on_time t placed_at i ≡ true → (is_promised t i ≡ true → on_time (part_table t i) placed_at i ≡ true) → meets t placed_at i ≡ true
    time_meets x y =
        meets_is t placed_at i
        ∙ le-leb (latest t placed_at i) (deadline_of t i)
        (latest_by t placed_at i (deadline_of t i) (leb-true (worst_finish t placed_at i) (deadline_of t i) x)
        (λ e. omega (arith, part_moment e, leb-true (worst_finish (part_table t i) placed_at i) (deadline_of t i) (y e))))

  -- a row moved: what it met above a list, it meets above another, with no more rows above it
  pub moved : (a b a' b' : List ℕ) (i : ℕ) → Within (a ++ (i ∷ [])) (rows_of t) → Within (a' ++ (i ∷ [])) (a ++ (i ∷ [])) → Stand t a i → Stand t a' i
      → meets t (a ++ (i ∷ b)) i ≡ true → meets t (a' ++ (i ∷ b')) i ≡ true
  moved a b a' b' i w s c c' m =
      let w' : Within (a' ++ (i ∷ [])) (rows_of t) = λ x. omega (arith, w x, s x) in
      let rows = rows_of_lem t (a ++ (i ∷ [])) w in
      let once = once_of t (a ++ (i ∷ [])) w in
      time_meets a' b' i (rows_of_lem t (a' ++ (i ∷ [])) w') (once_of t (a' ++ (i ∷ [])) w') c'
      (time_moved t f a b a' b' i w s c c' (meets_time a b i rows once c m))
      (λ e. time_moved (part_table t i) (part_known t f i (rows i (in_last a i)) (part_of t i e)) a b a' b' i w s c c' (meets_part a b i rows once c m e))

  -- an order under check 6
  module _ (o : List ℕ) (e : is_order t o ≡ true) where
    pub meets_kept : (i : ℕ) → Row t i → meets t o i ≡ true → on_time t o i ≡ true
    meets_kept i r m =
        le-leb (worst_finish t o i) (deadline_of t i) (omega (arith, finish_latest t o i, leb-true (latest t o i) (deadline_of t i) (sym (meets_is t o i) ∙ m)))

    -- a LO row that meets its deadline gets its promised part in time, by either rule; of a row that is promised nothing this says nothing
    pub meets_promise : (rule : Rule t) (i : ℕ) → Row t i → is_low t i ≡ true → meets t o i ≡ true → (σ : ℕ → ℕ) → Window t σ i t.degraded → (k : ℕ)
        → deadline_of t i ≤ k → promised_of t i ≤ at (state_by rule o σ k).got i
    meets_promise rule i r low m σ w k q =
        by-leb 1 (promised_of t i)
        (λ _ h. let c = is_part t i low h in
        part_kept t f i r (part_of t i c) o e rule
        (omega (arith, moment_latest t o i c, leb-true (latest t o i) (deadline_of t i) (sym (meets_is t o i) ∙ m))) σ w k q)
        (λ _ h. omega arith)

    pub correct : ((i : ℕ) → Row t i → meets t o i ≡ true) → Correct t o
    correct h =
        record {
          normal = λ σ s i r. kept t f o e i (row_is t i r) (meets_kept i (row_is t i r) (h i (row_is t i r))) σ
              (λ u p q. omega (arith, s u, worst_slower t f i)) (deadline_of t i) (omega arith);
          degraded = λ σ s i r g. kept t f o e i (row_is t i r) (meets_kept i (row_is t i r) (h i (row_is t i r))) σ
              (λ u p q. rw (not_is (is_low t i) g) (s u)) (deadline_of t i) (omega arith);
          promised = λ σ s i r l. meets_promise (planning t) i (row_is t i r) l (h i (row_is t i r)) σ (λ u p q. s u) (deadline_of t i) (omega arith);
        }

    -- the run at exactly G is itself a course of speed
    pub all_meet : Correct t o → (i : ℕ) → Row t i → meets t o i ≡ true
    all_meet c i r =
        meets_is t o i
        ∙ le-leb (latest t o i) (deadline_of t i)
        (latest_by t o i (deadline_of t i) (leb-true (worst_finish t o i) (deadline_of t i) (all_timely t f o e c i r)) moment)
      where
        moment : is_promised t i ≡ true → promised_moment t o i ≤ deadline_of t i
        moment x =
            let q = placed t f o e i r in
            let y = part_of t i x in
            let has = c.promised (λ _. t.degraded) (λ u. omega arith) i (is_row_lem t i r) y.low in
            subst (λ (l : List ℕ). promised_of t i ≤ at (after t l (λ _. t.degraded) (deadline_of t i)).got i → promised_moment t l i ≤ deadline_of t i) (sym q.whole)
            (λ h. moment_first t f i r y q.above q.below q.rows q.once q.stand (deadline_of t i) h) has
