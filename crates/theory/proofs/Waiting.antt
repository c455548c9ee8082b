-- What waiting does to runs (section 21 of the rules). Under an order that passes check 6 it changes no slot: the first row from the top that is released and
-- open has every row that it follows closed, since that one stands above it and was released no later (rule 21.2). So such an order makes the runs of the
-- table that states no wait. In every run a follower has used no slot before the row that it follows is closed (rules 2.15, 9.19). And in a trial,
-- whose rows above may break waits among themselves, the finish is what it is without waits (rule 21.3).
use Prim.Native.Nat.{ℕ, zero, suc, ◌+◌, ◌-◌, ◌≤◌}
use Rattle.std.specs.Prelude.{Bool, true, false, not, List, [], ◌∷◌, ◌++◌, ◌↔◌, ◌⊎◌, ◌≡◌, get_or, replicate}
use Rattle.std.proofs.Common.{inl, inr, subst, ◌∙◌, arith}
use Rattle.std.proofs.Math.Path.{refl, sym, ap}
use Rattle.std.proofs.Math.Dec.{leb}
use Rattle.rules.specs.declared.Table.{Table}
use Rattle.rules.specs.Correct.{KeptIn, Correct}
use Rattle.rules.specs.Lists.{rows_to, first}
use Rattle.rules.specs.Orders.{is_order}
use Rattle.rules.specs.Rows.{at, is_promised, release_of, deadline_of, promised_of, follows_of}
use Rattle.rules.specs.Running.{close_late, run_slot, run_after}
use Rattle.rules.specs.Slots.{State, is_pending, is_waiting, is_ready, chosen, is_over, serve, slot, after}
use Rattle.rules.specs.Worst.{worst_speed, horizon, worst_finish, promised_moment, slack}
use Rattle.theory.specs.Agree.{first_agree}
use Rattle.theory.specs.Tests.{by_bool, by_eqb, by-leb, not_both, and_left, and_true}
use Rattle.theory.specs.Counts.{In, Once, in_last, count_append, count_same, first_passes, first_above}
use Rattle.theory.specs.Sorting.{sort_by, sorted_sort, same_sort}
use Rattle.theory.specs.Caps.{cap}
use Rattle.theory.specs.Facts.{Row, TableFacts, followed_row_lem}
use Rattle.theory.specs.Cells.{Cell, cell_at, served, fresh_cell, pending_is, is_pending_lem, by-waiting, is_ready_lem, chosen_ready}
use Rattle.theory.specs.Ends.{Rule, Shut, state_by}
use Rattle.theory.proofs.Invariant.{worked_by, cell_served, cell_other, looked, held}
use Rattle.theory.proofs.Sustain.{closed_stays}
use Rattle.theory.specs.Waits.{Stand}
use Rattle.theory.specs.Places.{placed}
use Rattle.theory.proofs.Finishes.{worst_sweep}
use Rattle.theory.proofs.Part.{part_row}
use Rattle.theory.specs.Part.{part_table}
use Rattle.theory.proofs.Promised.{part_of, part_known, moment_is}
use Rattle.theory.specs.Waiting.{unbound, Later}

zeros_at : (n k : ℕ) → get_or {A = ℕ} (replicate n 0) k 0 ≡ 0
zeros_at zero k = refl
zeros_at (suc n) zero = refl
zeros_at (suc n) (suc k) = zeros_at n k

-- the first that passes a test passes a stricter one as well: it is the first that does
first_stricter : (p q : ℕ → Bool) (l : List ℕ) → p 0 ≡ false → ((x : ℕ) → q x ≡ true → p x ≡ true) → ((first p l ≡ 0 → ⊥) → q (first p l) ≡ true)
    → first q l ≡ first p l
first_stricter p q [] z h k = refl
first_stricter p q (x ∷ l) z h k =
    by_bool (p x)
    (λ e. let some : x ≡ 0 → ⊥ = λ y. not_both (p x) e (ap p y ∙ z) in
    let passed : q x ≡ true = rw e at k some in
    rw (e, passed))
    (λ e. let fails : q x ≡ false = by_bool (q x) (λ y. absurd (not_both (p x) (h x y) e)) (λ y. y) in
    rw (e, fails) (first_stricter p q l z h (rw e at k)))

module _ (t : Table) (f : TableFacts t) (o : List ℕ) (e : is_order t o ≡ true) where
  module _ (s : State) where
    ready_pending : (x : ℕ) → is_ready t s x ≡ true → is_pending t s x ≡ true
    unfolding is_ready
    ready_pending x h = and_left (is_pending t s x) (not (is_waiting t s x)) h

    none_zero : is_pending t s 0 ≡ false
    unfolding is_pending
    none_zero = refl

    -- a row that waits follows one that is above it, released and open, and so is not the first such row
    first_ready : (first (is_pending t s) o ≡ 0 → ⊥) → is_ready t s (first (is_pending t s) o) ≡ true
    first_ready some =
        let i = first (is_pending t s) o in
        let h = first_passes (is_pending t s) o some in
        let p = pending_is t s i h in
        by-waiting t s i
        (λ _ follower still.
        let q = placed t f o e i p.row in
        let w = follows_of t i in
        let up = q.stand.1 follower in
        let lower = q.rows w (omega (arith, count_append w q.above (i ∷ []))) in
        let free = is_pending_lem t s w lower (omega (arith, f.earlier i p.row follower, p.released)) still in
        let found = first_above (is_pending t s) q.above (i ∷ q.below) w up free in
        let twice : In i q.above = subst (λ (l : List ℕ). In (first (is_pending t s) l) q.above) (sym q.whole) found in
        absurd (omega (arith, q.once i, count_append i q.above (i ∷ []), count_same i [])))
        (λ d _. is_ready_lem t s i h d)

    pub chosen_pending : chosen t o s ≡ first (is_pending t s) o
    unfolding chosen
    chosen_pending = first_stricter (is_pending t s) (is_ready t s) o none_zero ready_pending first_ready

  -- without waits a row is ready if it is released and open
  free_ready : (s : State) (x : ℕ) → is_ready (unbound t) s x ≡ is_pending t s x
  unfolding is_pending is_waiting is_ready
  free_ready s x = rw (zeros_at 64 (x - 1)) (and_true _)

  same_chosen : (s : State) → chosen t o s ≡ chosen (unbound t) o s
  unfolding chosen
  same_chosen s = chosen_pending s ∙ sym (first_agree (is_ready (unbound t) s) (is_pending t s) (free_ready s) o)

  same_slot : (v : ℕ) (s : State) → slot t o v s ≡ slot (unbound t) o v s
  unfolding slot serve is_over
  same_slot v s = rw (same_chosen s)

  same_step : (v : ℕ) (s : State) → run_slot t o v s ≡ run_slot (unbound t) o v s
  unfolding run_slot close_late
  same_step v s = rw (same_slot v s)

  pub same_after : (σ : ℕ → ℕ) (k : ℕ) → after t o σ k ≡ after (unbound t) o σ k
  same_after σ zero = refl
  same_after σ (suc k) = same_slot (σ k) (after t o σ k) ∙ ap (slot (unbound t) o (σ k)) (same_after σ k)

  pub same_run_lem : (σ : ℕ → ℕ) (k : ℕ) → run_after t o σ k ≡ run_after (unbound t) o σ k
  same_run_lem σ zero = refl
  same_run_lem σ (suc k) = same_step (σ k) (run_after t o σ k) ∙ ap (run_slot (unbound t) o (σ k)) (same_run_lem σ k)

  pub same_correct : Correct t o ↔ Correct (unbound t) o
  same_correct = (
    λ c. record {
      normal = λ σ h i r. kept (after t o σ (deadline_of t i)) (after (unbound t) o σ (deadline_of t i)) i (same_after σ (deadline_of t i)) (c.normal σ h i r);
      degraded = λ σ h i r g. kept (after t o σ (deadline_of t i)) (after (unbound t) o σ (deadline_of t i)) i (same_after σ (deadline_of t i)) (c.degraded σ h i r g);
      promised = λ σ h i r l. subst (λ (s : State). promised_of t i ≤ at s.got i) (same_after σ (deadline_of t i)) (c.promised σ h i r l);
    },
    λ c. record {
      normal = λ σ h i r. back (after (unbound t) o σ (deadline_of t i)) (after t o σ (deadline_of t i)) i (sym (same_after σ (deadline_of t i))) (c.normal σ h i r);
      degraded = λ σ h i r g. back (after (unbound t) o σ (deadline_of t i)) (after t o σ (deadline_of t i)) i (sym (same_after σ (deadline_of t i))) (c.degraded σ h i r g);
      promised = λ σ h i r l. subst (λ (s : State). promised_of t i ≤ at s.got i) (sym (same_after σ (deadline_of t i))) (c.promised σ h i r l);
    },
  )
    where
      kept : (a b : State) (i : ℕ) → a ≡ b → KeptIn t a i → KeptIn (unbound t) b i
      kept a b i q k = let k' = subst (λ (s : State). KeptIn t s i) q k in record { done = k'.done; closed = k'.closed; in_time = k'.in_time }

      back : (a b : State) (i : ℕ) → a ≡ b → KeptIn (unbound t) a i → KeptIn t b i
      back a b i q k = let k' = subst (λ (s : State). KeptIn (unbound t) s i) q k in record { done = k'.done; closed = k'.closed; in_time = k'.in_time }

  -- worst finishes, promised moments and slacks, in slots
  pub same_finish : (i : ℕ) → worst_finish t o i ≡ worst_finish (unbound t) o i
  unfolding worst_finish horizon
  same_finish i = ap (λ (s : State). at s.closing i) (same_after (λ _. worst_speed t i) (horizon t (worst_speed t i)))

  pub same_moment : (i : ℕ) → promised_moment t o i ≡ promised_moment (unbound t) o i
  unfolding promised_moment horizon
  same_moment i =
      first_agree (λ k. leb (promised_of t i) (at (after t o (λ _. t.degraded) k).got i)) (λ k. leb (promised_of t i) (at (after (unbound t) o (λ _. t.degraded) k).got i))
      (λ k. ap (λ (s : State). leb (promised_of t i) (at s.got i)) (same_after (λ _. t.degraded) k)) (rows_to (horizon t t.degraded))

  pub same_slack_lem : (i : ℕ) → slack t o i ≡ slack (unbound t) o i
  unfolding slack
  same_slack_lem i = rw (same_finish i, same_moment i)

module _ (t : Table) (f : TableFacts t) (rule : Rule t) (o : List ℕ) (σ : ℕ → ℕ) (i : ℕ) (r : Row t i) (some : 1 ≤ follows_of t i) where
  abbrev now : ℕ → State
  now k = state_by rule o σ k

  abbrev above : ℕ
  above = follows_of t i

  -- a closed row keeps its closing slot, which is not after the clock
  stays : (k m : ℕ) → 1 ≤ at (now k).closing above → at (now (m + k)).closing above ≡ at (now k).closing above
  stays k m c = ap (λ (x : Cell). x.closing) (closed_stays t f rule o σ above (followed_row_lem t f i r some) k m c)

  past : (k : ℕ) → at (now k).closing above ≤ k
  past k = (held t f rule o σ 0 0 k (λ j q. omega arith) (λ u q l. omega arith) k (omega arith) above (followed_row_lem t f i r some)).past

  -- A slot that goes to the follower: the row that it follows was closed by clock u, and stays so.
  pub slot_later : (u k : ℕ) → u ≤ k → chosen t o (now u) ≡ i → (1 ≤ at (now k).closing above) × (at (now k).closing above ≤ u)
  slot_later u k h q =
      let c = (chosen_ready t o (now u) i r.from q).free some in
      let e : (k - u) + u ≡ k = omega arith in
      let same : at (now k).closing above ≡ at (now u).closing above = ap (λ (v : ℕ). at (now v).closing above) (sym e) ∙ stays u (k - u) c in
      (omega (arith, c, same), omega (arith, past u, same))

  pub used_later : (k : ℕ) → 1 ≤ at (now k).used i → Later t (now k) i k
  unfolding served
  used_later zero h = absurd (omega (arith, ap (λ (x : Cell). x.used) (fresh_cell i r.from (omega (arith, f.few, r.up_to)))))
  used_later (suc k) h =
      by_eqb (chosen t o (now k)) i
      (λ _ q. let c = slot_later k (suc k) (omega arith) q in
      let used : at (now (suc k)).used i ≡ at (now k).used i + 1 = used_same ∙ ap (λ (x : Cell). x.used) (cell_served t f rule o σ k i r q) in
      by-leb 1 (at (now k).used i)
      (λ _ p. let l = used_later k p in record { closed = c.0; after = omega (arith, l.after, next l.closed, used) })
      (λ _ p. record { closed = c.0; after = omega (arith, c.1, used) }))
      (λ _ q. let used : at (now (suc k)).used i ≡ at (now k).used i = used_same ∙ ap (λ (x : Cell). x.used) (cell_other t f rule o σ k i r q) in
      let l = used_later k (omega arith) in
      record { closed = omega (arith, l.closed, next l.closed); after = omega (arith, l.after, next l.closed, used) })
    where
      -- the look at the clock uses no slot
      used_same : at (now (suc k)).used i ≡ at (worked_by t f rule o σ k).used i
      used_same = go (looked t f rule o σ k i r)
        where
          go : (cell_at (now (suc k)) i ≡ cell_at (worked_by t f rule o σ k) i) ⊎ Shut rule.may (worked_by t f rule o σ k) (now (suc k)) i
              → at (now (suc k)).used i ≡ at (worked_by t f rule o σ k).used i
          go (inl x) = ap (λ (c : Cell). c.used) x
          go (inr x) = ap (λ (c : Cell). c.used) x.shut

      next : 1 ≤ at (now k).closing above → at (now (suc k)).closing above ≡ at (now k).closing above
      next c = let e : 1 + k ≡ suc k = omega arith in ap (λ (u : ℕ). at (now u).closing above) (sym e) ∙ stays k 1 c

-- The table without waits is a table like any other.
pub unbound_table : (t : Table) → TableFacts t → TableFacts (unbound t)
unbound_table t f =
    record {
      some = f.some;
      few = f.few;
      runs = f.runs;
      fast = f.fast;
      crawls = f.crawls;
      slower = f.slower;
      loads = f.loads;
      row = λ i r. let g = f.row i (back i r) in record { works = g.works; light = g.light; soon = g.soon; before = g.before; level = g.level };
      part = λ i r. let g = f.part i (back i r) in record { within = g.within; low = g.low };
      lower = λ i r h. absurd (omega (arith, zeros_at 64 (i - 1)));
      earlier = λ i r h. absurd (omega (arith, zeros_at 64 (i - 1)));
    }
  where
    back : (i : ℕ) → Row (unbound t) i → Row t i
    back i r = record { from = r.from; up_to = r.up_to }

-- A trial of a row that none of the rows left follows, which may stand lowest: whatever the order of the rows above, which may break waits among them, its worst
-- finish and its promised moment are those of the table without waits (rule 21.3).
module _ (t : Table) (f : TableFacts t) (a b : List ℕ) (i : ℕ) (rows : (x : ℕ) → In x (a ++ (i ∷ [])) → Row t x) (once : Once (a ++ (i ∷ []))) (stand : Stand t a i) where
  abbrev sorted : List ℕ
  sorted = sort_by (release_of t) (a ++ (i ∷ []))

  rows' : (x : ℕ) → In x (a ++ (i ∷ [])) → Row (unbound t) x
  rows' x j = let r = rows x j in record { from = r.from; up_to = r.up_to }

  free_stand : Stand (unbound t) a i
  free_stand = (λ x j h. absurd (omega (arith, zeros_at 64 (x - 1))), λ h. absurd (omega (arith, zeros_at 64 (i - 1))))

  pub lowest_finish : worst_finish t (a ++ (i ∷ b)) i ≡ worst_finish (unbound t) (a ++ (i ∷ b)) i
  unfolding cap
  lowest_finish =
      worst_sweep t f a b i rows once stand sorted (sorted_sort (release_of t) (a ++ (i ∷ []))) (same_sort (release_of t) (a ++ (i ∷ [])))
      ∙ sym (worst_sweep (unbound t) (unbound_table t f) a b i rows' once free_stand sorted (sorted_sort (release_of t) (a ++ (i ∷ []))) (same_sort (release_of t) (a ++ (i ∷ []))))

  pub lowest_moment : is_promised t i ≡ true → promised_moment t (a ++ (i ∷ b)) i ≡ promised_moment (unbound t) (a ++ (i ∷ b)) i
  unfolding cap
  lowest_moment e =
      let p = part_table t i in
      let q = part_table (unbound t) i in
      let own = rows i (in_last a i) in
      let known = part_known t f i own (part_of t i e) in
      moment_is t f i own (part_of t i e) a b rows once stand
      ∙ worst_sweep p known a b i (λ x j. part_row t i x (rows x j)) once stand sorted (sorted_sort (release_of t) (a ++ (i ∷ []))) (same_sort (release_of t) (a ++ (i ∷ [])))
      ∙ sym (worst_sweep q (part_known (unbound t) (unbound_table t f) i (rows' i (in_last a i)) (part_of (unbound t) i e)) a b i (λ x j. part_row (unbound t) i x (rows' x j)) once free_stand
      sorted (sorted_sort (release_of t) (a ++ (i ∷ []))) (same_sort (release_of t) (a ++ (i ∷ []))))
      ∙ sym (moment_is (unbound t) (unbound_table t f) i (rows' i (in_last a i)) (part_of (unbound t) i e) a b rows' once free_stand)

  pub lowest_slack : slack t (a ++ (i ∷ b)) i ≡ slack (unbound t) (a ++ (i ∷ b)) i
  unfolding slack
  lowest_slack =
      by_bool (is_promised t i)
      (λ e. rw (e, lowest_finish, lowest_moment e))
      (λ e. rw (e, lowest_finish))
