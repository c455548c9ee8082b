-- The results of this crate, to be cited by name. Each is a statement about the definitions of `rules` and is preceded by what it says.
-- Lists of rows are compared by how often each row stands in them (Counts): `In x l`, row x stands in l; `Within a b`, what stands in a
-- stands in b; `Same a b`, the two hold the same rows. A list that is within the table's rows holds each row at most once. `Closed t l` says that l holds
-- every row which one of its rows follows, and `Stand t a i` that a does so and holds the row which row i follows (Waits): every order that passes
-- check 6 has such rows above each of its rows.
use Rattle.std.specs.Prelude.{ℕ, ◌+◌, ◌≤◌, ◌<◌, true, false, ◌≡◌, refl, ◌↔◌, ℤ, pos, negsuc, nat_abs}
use Rattle.std.proofs.Common.{true≢false, sym, ap, subst, ◌∙◌}
use mathlib.Core.List.{List, [], ◌∷◌, ◌++◌}
use native.Mathlib.Omega.{arith}
use Rattle.std.specs.Int.Signed.{lt_z}
use Rattle.rules.specs.declared.Sought.{Sought}
use Rattle.rules.specs.declared.Table.{Table}
use Rattle.rules.specs.Lists.{first, erase}
use Rattle.rules.specs.Rows.{at, is_row, is_low, is_high, is_promised, rows_of, release_of, work_of, deadline_of, promised_of, follows_of, promise_need, need_for}
use Rattle.rules.specs.Tables.{Accepted}
use Rattle.rules.specs.Orders.{is_order}
use Rattle.rules.specs.Slots.{State, is_pending, chosen, after}
use Rattle.rules.specs.Correct.{KeptIn, Correct, CorrectOrder, earliest, Window}
use Rattle.rules.specs.Running.{run_after, RunServes}
use Rattle.rules.specs.Worst.{worst_speed, horizon, worst_finish, promised_moment, slack}
use Rattle.rules.specs.Choice.{lowest, unfollowed, passes, choice, padded}
use Rattle.searches.specs.Speeds.{with_speeds, at_speed, slowest, fastest, InRange, LeastSpeed}
use Rattle.theory.specs.Tests.{by_bool, not_is}
use Rattle.theory.specs.Counts.{In, Within, Same, in_last, erase_last, count_append, sum_most}
use Rattle.theory.specs.Sorting.{Sorted}
use Rattle.theory.specs.Sweep.{sweep}
use Rattle.theory.specs.Caps.{cap, slots_most}
use Rattle.theory.specs.Cells.{cell_at}
use Rattle.theory.specs.Ends.{running, running_is}
use Rattle.theory.specs.Facts.{TableFacts, row_is, is_row_lem, rows_in_lem, facts, follows, followed_row_lem}
use Rattle.theory.proofs.Runs.{timely, high_done, dropped, one_run}
use Rattle.theory.specs.Runs.{Timely}
use Rattle.theory.specs.Waits.{Closed, Stand, stand_same}
use Rattle.theory.proofs.Waiting as Waiting
use Rattle.theory.specs.Waiting.{unbound}
use Rattle.theory.specs.Places.{placed, length_rows}
use Rattle.theory.proofs.Finishes.{rows_of_lem, once_of, worst_runs, worst_slower, worst_bound, within_rows}
use Rattle.theory.proofs.Finishes as Finishes
use Rattle.theory.proofs.Verdict.{finished, less_left, kept_by, kept}
use Rattle.theory.specs.Verdict.{Finished}
use Rattle.theory.specs.Part.{part_table}
use Rattle.theory.proofs.Promised.{slack_is, slack_meets, meets_slack, latest_by, part_of, moved, meets_kept, meets_promise, all_meet, correct}
use Rattle.theory.specs.Promised.{latest}
use Rattle.theory.proofs.Promised as Promises
use Rattle.theory.proofs.Speeds.{accepted_speeds}
use Rattle.theory.proofs.Faster.{finish_falls, moment_falls, latest_falls, correct_faster, correct_at, least_parts}
use Rattle.theory.proofs.Choosing.{choice_filled, no_order, lowest_stands, unfollowed_within}
use Rattle.theory.proofs.Choosing as Choosing
use Rattle.theory.proofs.SumBound.{sum_bound, latest_release}
use Rattle.theory.specs.Results.{DroppedIn}

module _ (t : Table) (accepted : Accepted t) where
  abbrev f : TableFacts t
  f = facts t accepted

  -- 1. SET ONLY. The worst finish of row i depends on which rows stand above it and not on their order, even where that order breaks waits among them;
  -- the rows below do not matter.
  pub set_only : (a b c d : List ℕ) (i : ℕ) → Within (a ++ (i ∷ [])) (rows_of t) → Stand t a i → Same a c → worst_finish t (a ++ (i ∷ b)) i ≡ worst_finish t (c ++ (i ∷ d)) i
  set_only a b c d i w k s =
      let both : Same (a ++ (i ∷ [])) (c ++ (i ∷ [])) = λ x. omega (arith, s x, count_append x a (i ∷ []), count_append x c (i ∷ [])) in
      Finishes.finish_set_only t f a b c d i w (λ x. omega (arith, w x, both x)) k (stand_same t a c i s k) both

  -- So does its promised moment, and so its slack.
  pub set_only_moment : (a b c d : List ℕ) (i : ℕ) → Within (a ++ (i ∷ [])) (rows_of t) → Stand t a i → Same a c → is_promised t i ≡ true
      → promised_moment t (a ++ (i ∷ b)) i ≡ promised_moment t (c ++ (i ∷ d)) i
  set_only_moment a b c d i w k s x =
      let both : Same (a ++ (i ∷ [])) (c ++ (i ∷ [])) = λ y. omega (arith, s y, count_append y a (i ∷ []), count_append y c (i ∷ [])) in
      let v : Within (c ++ (i ∷ [])) (rows_of t) = λ y. omega (arith, w y, both y) in
      let promise = part_of t i x in
      let r = rows_of_lem t (a ++ (i ∷ [])) w i (in_last a i) in
      let g = Promises.part_known t f i r promise in
      Promises.moment_is t f i r promise a b (rows_of_lem t (a ++ (i ∷ [])) w) (once_of t (a ++ (i ∷ [])) w) k
      ∙ Finishes.finish_set_only (part_table t i) g a b c d i w v k (stand_same t a c i s k) both
      ∙ sym (Promises.moment_is t f i r promise c d (rows_of_lem t (c ++ (i ∷ [])) v) (once_of t (c ++ (i ∷ [])) v) (stand_same t a c i s k))

  pub set_only_slack : (a b c d : List ℕ) (i : ℕ) → Within (a ++ (i ∷ [])) (rows_of t) → Stand t a i → Same a c → slack t (a ++ (i ∷ b)) i ≡ slack t (c ++ (i ∷ d)) i
  unfolding slack
  set_only_slack a b c d i w k s =
      by_bool (is_promised t i)
      (λ e. rw (e, set_only a b c d i w k s, set_only_moment a b c d i w k s e))
      (λ e. rw (e, set_only a b c d i w k s))

  module _ (o : List ℕ) (order : is_order t o ≡ true) where
    -- 2. SUSTAINABILITY. A row whose slack is not below zero has kept its deadline at every clock from d on, if every slot from the
    -- earliest release to d-1 supplied at least N, whatever the other slots supplied.
    pub sustainable : (i : ℕ) → is_row t i ≡ true → lt_z (slack t o i) (pos 0) ≡ false → (σ : ℕ → ℕ) → Window t σ i t.normal
        → (k : ℕ) → deadline_of t i ≤ k → KeptIn t (after t o σ k) i
    sustainable i r s σ w k q =
        kept t f o order i (row_is t i r) (meets_kept t f o order i (row_is t i r) (slack_meets t o i s)) σ (λ u p l. omega (arith, w u p l, worst_slower t f i)) k (omega arith)

    -- The same for a HI row, if those slots supplied at least G.
    pub sustainable_degraded : (i : ℕ) → is_row t i ≡ true → is_high t i ≡ true → lt_z (slack t o i) (pos 0) ≡ false → (σ : ℕ → ℕ) → Window t σ i t.degraded
        → (k : ℕ) → deadline_of t i ≤ k → KeptIn t (after t o σ k) i
    sustainable_degraded i r h s σ w k q =
        kept t f o order i (row_is t i r) (meets_kept t f o order i (row_is t i r) (slack_meets t o i s)) σ (λ u p l. rw (not_is (is_low t i) h) (w u p l)) k (omega arith)

    -- The same for any row at its own worst speed, N for LO and G for HI.
    pub sustainable_worst : (i : ℕ) → is_row t i ≡ true → lt_z (slack t o i) (pos 0) ≡ false → (σ : ℕ → ℕ) → Window t σ i (worst_speed t i)
        → (k : ℕ) → deadline_of t i ≤ k → KeptIn t (after t o σ k) i
    sustainable_worst i r s σ w k q = kept t f o order i (row_is t i r) (meets_kept t f o order i (row_is t i r) (slack_meets t o i s)) σ w k (omega arith)

    -- 3. VERDICT. An order is correct, over all courses of speed, exactly if no row's slack is below zero.
    pub verdict : Correct t o ↔ ((i : ℕ) → is_row t i ≡ true → lt_z (slack t o i) (pos 0) ≡ false)
    verdict = (
      λ c i r. meets_slack t o i (all_meet t f o order c i (row_is t i r)),
      λ h. correct t f o order (λ i r. slack_meets t o i (h i (is_row_lem t i r))),
    )

    -- A slack that is not below zero is a natural number.
    pub natural_slack : (i : ℕ) → lt_z (slack t o i) (pos 0) ≡ false → pos (nat_abs (slack t o i)) ≡ slack t o i
    natural_slack i s = go (slack t o i) s
      where
        go : (z : ℤ) → lt_z z (pos 0) ≡ false → pos (nat_abs z) ≡ z
        go (pos v) e = refl
        go (negsuc v) e = absurd (true≢false e)

    -- A worst run may last as long as it likes: at every clock from the horizon on, the row is closed at its worst finish, which is at
    -- least 1 slot, and has got all its work.
    pub lasting : (i : ℕ) → is_row t i ≡ true → (k : ℕ) → horizon t (worst_speed t i) ≤ k → Finished t o i k
    lasting i r k h = finished t f o order i (row_is t i r) k h

  -- 4. SWEEP. One pass over the rows down to i, sorted by release, finds i's worst finish: the busy time grows by each row's cap from its
  -- release on, and the pass stops at a row released after i that finds the processor free.
  pub worst_sweep : (a b : List ℕ) (i : ℕ) → Within (a ++ (i ∷ [])) (rows_of t) → Stand t a i → (l : List ℕ) → Sorted (release_of t) 0 l → Same l (a ++ (i ∷ []))
      → worst_finish t (a ++ (i ∷ b)) i ≡ sweep (release_of t) (cap t (worst_speed t i)) (release_of t i) 0 l
  worst_sweep a b i w k l s p = Finishes.worst_sweep t f a b i (rows_of_lem t (a ++ (i ∷ [])) w) (once_of t (a ++ (i ∷ [])) w) k l s p

  -- The promised moment is found by such a pass with the caps at G, but for i its need of the promised part there.
  pub moment_sweep : (a b : List ℕ) (i : ℕ) → Within (a ++ (i ∷ [])) (rows_of t) → Stand t a i → is_promised t i ≡ true → (l : List ℕ) → Sorted (release_of t) 0 l
      → Same l (a ++ (i ∷ [])) → (c : ℕ → ℕ) → c i ≡ promise_need t i → ((x : ℕ) → In x l → (x ≡ i → ⊥) → c x ≡ cap t t.degraded x)
      → promised_moment t (a ++ (i ∷ b)) i ≡ sweep (release_of t) c (release_of t i) 0 l
  moment_sweep a b i w k x l s p c own other =
      let rows = rows_of_lem t (a ++ (i ∷ [])) w in
      Promises.moment_sweep t f i (rows i (in_last a i)) (part_of t i x) a b rows (once_of t (a ++ (i ∷ [])) w) k l s p c own other

  -- 5. ANTITONE. A row that no row of a set follows, and that passes lowest in it, passes lowest in every subset that holds it; both sets hold what their
  -- rows follow.
  pub antitone : (s r : List ℕ) (i : ℕ) → Within s (rows_of t) → Closed t s → Within r s → Closed t r → In i r → unfollowed t s i ≡ true → passes t s i ≡ true
      → passes t r i ≡ true
  unfolding passes
  antitone s r i w x v y k u p =
      let j : In i s = omega (arith, v i) in
      let less : Within r (rows_of t) = λ z. omega (arith, w z, v z) in
      moved t f (erase i s) [] (erase i r) [] i (λ x. omega (arith, w x, erase_last i s j x))
      (λ x. omega (arith, v x, erase_last i s j x, erase_last i r k x)) (lowest_stands t f s (rows_of_lem t s w) x i j u)
      (lowest_stands t f r (rows_of_lem t r less) y i k (unfollowed_within t s r i v u)) p

  -- 6. CHOICE. If the choice leaves no row, the order that it makes passes check 6 and is correct.
  pub choice_order : (choice t).left ≡ [] → is_order t (padded (choice t).placed) ≡ true
  choice_order none = Choosing.choice_order t f none

  pub choice_correct : (choice t).left ≡ [] → Correct t (padded (choice t).placed)
  choice_correct none = Choosing.choice_correct t f none

  -- If the choice leaves rows, no order that passes check 6 is correct: none that keeps all waits.
  pub choice_none : (x : ℕ) → In x (choice t).left → (o : List ℕ) → is_order t o ≡ true → Correct t o → ⊥
  choice_none x i o e c = Choosing.choice_none t f x i o e c

  -- The set that the choice leaves holds what its rows follow, and in it no row that none of them follows passes lowest.
  pub choice_closed : Closed t (choice t).left
  choice_closed = (choice_filled t f).filling.closed

  pub choice_stuck : (x : ℕ) → In x (choice t).left → unfollowed t (choice t).left x ≡ true → passes t (choice t).left x ≡ false
  choice_stuck = (choice_filled t f).stuck

  -- The rows placed and the rows left are together the rows of the table.
  pub choice_every : Same ((choice t).left ++ (choice t).placed) (rows_of t)
  choice_every = (choice_filled t f).filling.every

  -- Any such set of rows rules out every order.
  pub stuck_none : (s : List ℕ) → Within s (rows_of t) → Closed t s → ((x : ℕ) → In x s → unfollowed t s x ≡ true → passes t s x ≡ false) → (x : ℕ) → In x s
      → (o : List ℕ) → is_order t o ≡ true → Correct t o → ⊥
  stuck_none = no_order t f

  -- 7. BOUNDS. What a sweep adds (SumBound), and so a worst finish, is at most 65,001,024 slots.
  pub finish_bound : (a b : List ℕ) (i : ℕ) → Within (a ++ (i ∷ [])) (rows_of t) → Stand t a i → worst_finish t (a ++ (i ∷ b)) i ≤ 65001024
  finish_bound a b i w k =
      omega (
        arith,
        worst_bound t f a b i (rows_of_lem t (a ++ (i ∷ [])) w) (once_of t (a ++ (i ∷ [])) w) k,
        sum_bound t accepted (worst_speed t i) (worst_runs t f i) (a ++ (i ∷ [])) w,
      )

  -- Under an order that passes check 6 this holds of every row.
  pub order_bound : (o : List ℕ) → is_order t o ≡ true → (i : ℕ) → is_row t i ≡ true → worst_finish t o i ≤ 65001024
  order_bound o e i r =
      let p = placed t f o e i (row_is t i r) in
      subst (λ (l : List ℕ). worst_finish t l i ≤ 65001024) (sym p.whole)
      (finish_bound p.above p.below i (within_rows t f (p.above ++ (i ∷ [])) p.rows p.once) p.stand)

  -- The run at exactly G, in which promised moments are looked for, is as short.
  pub horizon_bound : (s : ℕ) → 1 ≤ s → horizon t s ≤ 65001024
  unfolding horizon
  horizon_bound s s1 =
      omega (
        arith,
        sum_most (need_for t s) 1000016 (rows_of t)
            (λ x i. omega (arith, slots_most (work_of t x) s s1, f.loads, (f.row x (rows_in_lem t x i)).light)),
        latest_release t accepted (rows_of t) (λ x i. rows_in_lem t x i),
        length_rows t.n,
        f.few,
      )

  -- So the clock from which a slack is counted is at most 65,001,024 slots.
  pub latest_bound : (o : List ℕ) → is_order t o ≡ true → (i : ℕ) → is_row t i ≡ true → latest t o i ≤ 65001024
  latest_bound o e i r =
      latest_by t o i 65001024 (order_bound o e i r)
      (λ x. let p = placed t f o e i (row_is t i r) in
      subst (λ (l : List ℕ). promised_moment t l i ≤ 65001024) (sym p.whole)
      (omega (
        arith,
        Promises.moment_bound t f i (row_is t i r) (part_of t i x) p.above p.below p.rows p.once p.stand,
        horizon_bound t.degraded f.crawls,
      )))

  -- 8. SPEEDS. An order that is correct, over all courses of speed, stays correct at a larger G, a larger N, or both, within their limits.
  pub larger_speeds : (o : List ℕ) → is_order t o ≡ true → Correct t o → (n g : ℕ) → t.normal ≤ n → n ≤ 1000 → t.degraded ≤ g → g ≤ n
      → Correct (with_speeds t n g) o
  larger_speeds o e c n g normal most degraded slower =
      correct_faster t t.normal t.degraded n g normal degraded f
      (facts (with_speeds t n g) (accepted_speeds t accepted n g most (omega (arith, f.crawls)) slower)) o e c

  -- Under any order no row's worst finish grows.
  pub finish_larger : (o : List ℕ) → is_order t o ≡ true → (i : ℕ) → is_row t i ≡ true → (n g : ℕ) → t.normal ≤ n → n ≤ 1000 → t.degraded ≤ g → g ≤ n
      → worst_finish (with_speeds t n g) o i ≤ worst_finish t o i
  finish_larger o e i r n g normal most degraded slower =
      finish_falls t t.normal t.degraded n g normal degraded f
      (facts (with_speeds t n g) (accepted_speeds t accepted n g most (omega (arith, f.crawls)) slower)) o e i (row_is t i r)

  -- Nor does any promised moment.
  pub moment_larger : (o : List ℕ) → is_order t o ≡ true → (i : ℕ) → is_row t i ≡ true → is_promised t i ≡ true → (n g : ℕ) → t.normal ≤ n → n ≤ 1000
      → t.degraded ≤ g → g ≤ n → promised_moment (with_speeds t n g) o i ≤ promised_moment t o i
  moment_larger o e i r x n g normal most degraded slower =
      moment_falls t t.normal t.degraded n g normal degraded f
      (facts (with_speeds t n g) (accepted_speeds t accepted n g most (omega (arith, f.crawls)) slower)) o e i (row_is t i r) x

  -- And so no row's slack falls.
  pub slack_larger : (o : List ℕ) → is_order t o ≡ true → (i : ℕ) → is_row t i ≡ true → (n g : ℕ) → t.normal ≤ n → n ≤ 1000 → t.degraded ≤ g → g ≤ n
      → lt_z (slack (with_speeds t n g) o i) (slack t o i) ≡ false
  slack_larger o e i r n g normal most degraded slower =
      let known = facts (with_speeds t n g) (accepted_speeds t accepted n g most (omega (arith, f.crawls)) slower) in
      rw (slack_is (with_speeds t n g) o i, slack_is t o i)
      (less_left (deadline_of t i) (latest (with_speeds t n g) o i) (latest t o i)
      (latest_falls t t.normal t.degraded n g normal degraded f known o e i (row_is t i r)))

  -- The least workable speed parts its range: a correct order exists at it and at every larger speed, and at no smaller one.
  pub least_exact : (q : Sought) (s : ℕ) → LeastSpeed q t s → (r : ℕ) → InRange q t r → CorrectOrder (at_speed q t r) ↔ (s ≤ r)
  least_exact q = least_parts q t accepted

  -- An order that is correct at a speed of the range is correct at every larger one.
  pub larger_at : (q : Sought) (s r : ℕ) → slowest q t ≤ s → s ≤ r → r ≤ fastest q t → (o : List ℕ) → is_order t o ≡ true → Correct (at_speed q t s) o
      → Correct (at_speed q t r) o
  larger_at q = correct_at q t accepted

  -- 9. RUNNING RULE. What planner and judge promise by the planning rule is kept in runs by the running rule. A row whose slack is not below
  -- zero has kept its deadline at every clock from d on, if every slot from the earliest release to d-1 supplied at least N for a LO row, or
  -- G for a HI row, whatever the other slots supplied and whatever became of the other rows.
  module _ (o : List ℕ) (order : is_order t o ≡ true) where
    pub running_sustainable : (i : ℕ) → is_row t i ≡ true → lt_z (slack t o i) (pos 0) ≡ false → (σ : ℕ → ℕ) → Window t σ i (worst_speed t i)
        → (k : ℕ) → deadline_of t i ≤ k → KeptIn t (run_after t o σ k) i
    running_sustainable i r s σ w k q =
        subst (λ (x : State). KeptIn t x i) (running_is t o σ k) (kept_by t f o order (running t) i (row_is t i r) (meets_kept t f o order i (row_is t i r) (slack_meets t o i s)) σ w k q)

    -- A LO row whose slack is not below zero has got its promised part at every clock from d on, if every slot from the earliest release to d-1
    -- supplied at least G, whatever the other slots supplied.
    pub running_promise : (i : ℕ) → is_row t i ≡ true → is_low t i ≡ true → lt_z (slack t o i) (pos 0) ≡ false → (σ : ℕ → ℕ) → Window t σ i t.degraded
        → (k : ℕ) → deadline_of t i ≤ k → promised_of t i ≤ at (run_after t o σ k).got i
    running_promise i r l s σ w k q =
        subst (λ (x : State). promised_of t i ≤ at x.got i) (running_is t o σ k)
        (meets_promise t f o order (running t) i (row_is t i r) l (slack_meets t o i s) σ w k q)

    -- In particular every row does under a correct order.
    pub correct_window : Correct t o → (i : ℕ) → is_row t i ≡ true → (σ : ℕ → ℕ) → Window t σ i (worst_speed t i) → (k : ℕ) → deadline_of t i ≤ k
        → KeptIn t (run_after t o σ k) i
    correct_window c i r = running_sustainable i r ((verdict o order).0 c i r)

    -- A correct order serves in runs.
    pub correct_runs : Correct t o → RunServes t o
    correct_runs c =
        record {
          normal = λ σ enough i r. running_sustainable i r ((verdict o order).0 c i r) σ
              (λ u p l. omega (arith, enough u, worst_slower t f i)) (deadline_of t i) (omega arith);
          degraded = λ σ enough i r h. running_sustainable i r ((verdict o order).0 c i r) σ
              (λ u p l. rw (not_is (is_low t i) h) (enough u)) (deadline_of t i) (omega arith);
          promised = λ σ enough i r l. running_promise i r l ((verdict o order).0 c i r) σ (λ u p q. enough u) (deadline_of t i) (omega arith);
        }

    -- Under a correct order the two rules make one run up to clock m, if every slot from the earliest release to m-1 supplied at least N.
    pub rules_agree : Correct t o → (σ : ℕ → ℕ) (m : ℕ) → ((u : ℕ) → earliest t ≤ u → u < m → t.normal ≤ σ u)
        → (k : ℕ) → k ≤ m → run_after t o σ k ≡ after t o σ k
    rules_agree c σ m enough k p = one_run t f o order c σ m enough k p

    -- In a run by the running rule, whatever the slots supply, an open LO row has its deadline still before it, and a closed one was closed
    -- by then;
    pub running_low : (i : ℕ) → is_row t i ≡ true → is_low t i ≡ true → (σ : ℕ → ℕ) (k : ℕ) → Timely t k i (cell_at (run_after t o σ k) i)
    running_low i r l σ k = subst (λ (x : State). Timely t k i (cell_at x i)) (running_is t o σ k) (timely t f o σ i (row_is t i r) l k)

    -- a HI row that is closed is done;
    pub running_high : (i : ℕ) → is_row t i ≡ true → is_high t i ≡ true → (σ : ℕ → ℕ) (k : ℕ) → 1 ≤ at (run_after t o σ k).closing i
        → at (run_after t o σ k).got i ≡ work_of t i
    running_high i r h σ k =
        subst (λ (x : State). 1 ≤ at x.closing i → at x.got i ≡ work_of t i) (running_is t o σ k)
        (λ c. high_done t f o σ i (row_is t i r) k (not_is (is_low t i) h) c)

    -- and a row that is closed and not done is LO, and has used just its allowance and was closed at its deadline or before, or has used less
    -- and was closed at its deadline.
    pub running_dropped : (i : ℕ) → is_row t i ≡ true → (σ : ℕ → ℕ) (k : ℕ) → 1 ≤ at (run_after t o σ k).closing i
        → (at (run_after t o σ k).got i ≡ work_of t i → ⊥) → DroppedIn t (run_after t o σ k) i
    running_dropped i r σ k =
        subst (λ (x : State). 1 ≤ at x.closing i → (at x.got i ≡ work_of t i → ⊥) → DroppedIn t x i)
        (running_is t o σ k) (λ c n. let d = dropped t f o σ i (row_is t i r) k c n in (d.low, d.why))

    -- 10. WAITS. Under an order that passes check 6 waiting changes no slot, whatever the state: the row that a slot runs is the first from the top that is
    -- released and open.
    pub first_pending : (s : State) → chosen t o s ≡ first (is_pending t s) o
    first_pending s = Waiting.chosen_pending t f o order s

    -- So its runs, by either rule, are those of the table that states no wait, and it is correct there exactly if it is here, with the same
    -- worst finishes, promised moments and slacks.
    pub waits_run : (σ : ℕ → ℕ) (k : ℕ) → (after t o σ k ≡ after (unbound t) o σ k) × (run_after t o σ k ≡ run_after (unbound t) o σ k)
    waits_run σ k = (Waiting.same_after t f o order σ k, Waiting.same_run_lem t f o order σ k)

    pub waits_correct : Correct t o ↔ Correct (unbound t) o
    waits_correct = Waiting.same_correct t f o order

    pub waits_finish : (i : ℕ) → worst_finish t o i ≡ worst_finish (unbound t) o i
    waits_finish = Waiting.same_finish t f o order

    pub waits_moment : (i : ℕ) → promised_moment t o i ≡ promised_moment (unbound t) o i
    waits_moment = Waiting.same_moment t f o order

    pub waits_slack : (i : ℕ) → slack t o i ≡ slack (unbound t) o i
    waits_slack = Waiting.same_slack_lem t f o order

    -- In every run by the running rule a slot u goes to a follower only if the row that it follows was closed by clock u: at every clock from there on the
    -- closing slot of that row is from 1 to u.
    pub follower_held : (i : ℕ) → is_row t i ≡ true → 1 ≤ follows_of t i → (σ : ℕ → ℕ) (u k : ℕ) → u ≤ k → chosen t o (run_after t o σ u) ≡ i
        → (1 ≤ at (run_after t o σ k).closing (follows_of t i)) × (at (run_after t o σ k).closing (follows_of t i) ≤ u)
    follower_held i r some σ u k h q =
        subst (λ (x : State). (1 ≤ at x.closing (follows_of t i)) × (at x.closing (follows_of t i) ≤ u)) (running_is t o σ k)
        (Waiting.slot_later t f (running t) o σ i (row_is t i r) some u k h (ap (chosen t o) (running_is t o σ u) ∙ q))

    -- So at every clock k the row that a follower with a slot used follows is closed, and its closing slot and the slots that the follower has used are together
    -- no more than k.
    pub follower_later : (i : ℕ) → is_row t i ≡ true → 1 ≤ follows_of t i → (σ : ℕ → ℕ) (k : ℕ) → 1 ≤ at (run_after t o σ k).used i
        → (1 ≤ at (run_after t o σ k).closing (follows_of t i)) × (at (run_after t o σ k).closing (follows_of t i) + at (run_after t o σ k).used i ≤ k)
    follower_later i r some σ k =
        subst (λ (x : State). 1 ≤ at x.used i → (1 ≤ at x.closing (follows_of t i)) × (at x.closing (follows_of t i) + at x.used i ≤ k)) (running_is t o σ k)
        (λ h. let l = Waiting.used_later t f (running t) o σ i (row_is t i r) some k h in (l.closed, l.after))

    -- If that row is HI, the row that it follows is done: a HI row follows no LO row, and a HI row is closed by nothing else.
    pub high_follower_later : (i : ℕ) → is_row t i ≡ true → is_high t i ≡ true → 1 ≤ follows_of t i → (σ : ℕ → ℕ) (k : ℕ) → 1 ≤ at (run_after t o σ k).used i
        → at (run_after t o σ k).got (follows_of t i) ≡ work_of t (follows_of t i)
    high_follower_later i r h some σ k used =
        let own = row_is t i r in
        running_high (follows_of t i) (is_row_lem t (follows_of t i) (followed_row_lem t f i own some)) ((follows t accepted i own some).level h) σ k (follower_later i r some σ k used).0

  -- In a trial the rows above stand in trial sequence, which may break waits among them. Of rows left that hold what one of them follows, a row that none of
  -- them follows has the slack lowest that it has below them in any other order, and that it has in the table without waits.
  module _ (left : List ℕ) (within : Within left (rows_of t)) (closed : Closed t left) (i : ℕ) (own : In i left) (alone : unfollowed t left i ≡ true) where
    trial_within : Within (lowest left i) (rows_of t)
    trial_within x = omega (arith, within x, erase_last i left own x)

    trial_stand : Stand t (erase i left) i
    trial_stand = lowest_stands t f left (rows_of_lem t left within) closed i own alone

    pub trial_set : (c : List ℕ) → Same (erase i left) c → slack t (lowest left i) i ≡ slack t (c ++ (i ∷ [])) i
    trial_set c same = set_only_slack (erase i left) [] c [] i trial_within trial_stand same

    pub trial_free : slack t (lowest left i) i ≡ slack (unbound t) (lowest left i) i
    trial_free = Waiting.lowest_slack t f (erase i left) [] i (rows_of_lem t (lowest left i) trial_within) (once_of t (lowest left i) trial_within) trial_stand

  -- Every accepted table has an order that passes check 6: its rows by their numbers.
  pub some_order : is_order t (padded (rows_of t)) ≡ true
  some_order = Choosing.numbered_order t f
