-- Supplies of at least s, by either rule of a slot (Ends): the rows at the top of an order never have more left than their backlog, so they
-- are closed when it is 0, by the slot itself and before the look at the clock that follows it (rule 19.3).
use Rattle.std.specs.Prelude.{ℕ, zero, suc, ◌+◌, ◌≤◌, ◌<◌, true, ◌≡◌, refl, List, ◌++◌, ◌⊎◌}
use Rattle.std.proofs.Common.{sym, ap, subst, ◌∙◌, inl, inr, arith}
use Rattle.rules.specs.declared.Table.{Table}
use Rattle.rules.specs.Lists.{sum, count}
use Rattle.rules.specs.Rows.{at, release_of, deadline_of}
use Rattle.rules.specs.Slots.{State, chosen}
use Rattle.theory.specs.Tests.{by_eqb, by-leb}
use Rattle.theory.specs.Counts.{In, sum_zero, sum_part}
use Rattle.theory.specs.Backlog.{backlog, arrivals}
use Rattle.theory.specs.Caps.{cap}
use Rattle.theory.specs.Facts.{Row, TableFacts}
use Rattle.theory.specs.Cells.{Cell, cell_at, served, grown, by-pending}
use Rattle.theory.specs.Waits.{Closed, chosen_above}
use Rattle.theory.specs.Demand.{Served, served_less, served_sum}
use Rattle.theory.proofs.Sustained.{sustained}
use Rattle.theory.specs.Ends.{Rule, Shut, planning, running, state_by, clock_by}
use Rattle.theory.proofs.Invariant.{by_over, worked_by, cell_served, cell_other, looked, clock_worked, ran, held, held_worked, under}
use Rattle.theory.specs.Invariant.{Held, Over}
use Rattle.theory.proofs.Left.{left_open, left_late, left_closed, left_waits, left_served}
use Rattle.theory.specs.Left.{left, bring}

-- the slot goes to no row of a, the rows at the top of the order, which wait for none but rows of a: none of them has anything left after it
pub none_left : (t : Table) (f : TableFacts t) (r : Rule t) (o a b : List ℕ) → o ≡ a ++ b → ((x : ℕ) → In x a → Row t x) → Closed t a → (σ : ℕ → ℕ) (s u x : ℕ)
    → (In (chosen t o (state_by r o σ u)) a → ⊥) → In x a → left t s (suc u) x (cell_at (worked_by t f r o σ u) x) ≡ 0
none_left t f rule o a b whole rows closed σ s u x out i =
    let same = cell_other t f rule o σ u x (rows x i) (λ q. out (rw q i)) in
    let now = state_by rule o σ u in
    by-pending t now x (rows x i)
    (λ r. absurd (out (subst (λ (l : List ℕ). In (chosen t l now) a) (sym whole) (chosen_above t f now a rows closed b x i r))))
    (λ r. rw same (by_eqb (at now.closing x) 0
    (λ _ z. left_late t s (suc u) x (cell_at now x) (omega (arith, r z, clock_by t rule o σ u)))
    (λ _ z. left_closed t s (suc u) x (cell_at now x) z)))

-- a row that a slot of its own closes is over
closed_served : (t : Table) (i v k : ℕ) (y x : Cell) → y ≡ served t v k i x → 1 ≤ y.closing → Over t i y.got y.used
unfolding served
closed_served t i v k y x e c =
    by_over t i (grown t v i x) (x.used + 1)
    (λ w o. rw e o)
    (λ w m n. let z : y.closing ≡ 0 = ap (λ (q : Cell). q.closing) e ∙ rw w in absurd (omega arith))

-- a are the rows at the top of the order, b all below; e is not after any release
module _ (t : Table) (f : TableFacts t) (rule : Rule t) (a b : List ℕ) (rows : (x : ℕ) → In x a → Row t x) (closed : Closed t a) (σ : ℕ → ℕ) where
  abbrev pub state_at : ℕ → State
  state_at u = state_by rule (a ++ b) σ u

  -- the state after slot u, before the look at the clock
  abbrev pub worked_at : ℕ → State
  worked_at u = worked_by t f rule (a ++ b) σ u

  module _ (s : ℕ) (s1 : 1 ≤ s) (u : ℕ) (hold : (x : ℕ) → Row t x → Held t rule s u x (cell_at (state_at u) x)) where
    -- a slot of a row's own
    served_left : (x : ℕ) → Row t x → chosen t (a ++ b) (state_at u) ≡ x
        → suc (left t s (suc u) x (cell_at (worked_at u) x)) ≤ left t s u x (cell_at (state_at u) x) + bring t s u x
    served_left x r q =
        let z = ran t f rule (a ++ b) σ u x r q in
        let h = hold x r in
        rw (cell_served t f rule (a ++ b) σ u x r q)
        (left_served t rule s u x (cell_at (state_at u) x) h (σ u) z.still z.released (under t rule s u x (cell_at (state_at u) x) f.runs s1 h z.still))

    -- the two facts that the abstract step asks for, of the slot
    pub slot_serves : Served a (bring t s u) (λ x. left t s u x (cell_at (state_at u) x)) (λ x. left t s (suc u) x (cell_at (worked_at u) x))
    slot_serves =
        record {
          calm = λ x i. by_eqb (chosen t (a ++ b) (state_at u)) x
              (λ _ q. omega (arith, served_left x (rows x i) q))
              (λ _ q. rw (cell_other t f rule (a ++ b) σ u x (rows x i) q) (omega (arith, left_waits t rule s u x (cell_at (state_at u) x) (hold x (rows x i)))));
          works = by-leb 1 (count (chosen t (a ++ b) (state_at u)) a)
              (λ _ i. inr (record {
                row = chosen t (a ++ b) (state_at u);
                among = i;
                falls = served_left (chosen t (a ++ b) (state_at u)) (rows (chosen t (a ++ b) (state_at u)) i) refl;
              }))
              (λ _ i. inl (λ x j. none_left t f rule (a ++ b) a b refl rows closed σ s u x (λ k. omega arith) j));
        }

    -- the look at the clock takes demand away, or leaves it
    look_less : (x : ℕ) → Row t x → left t s (suc u) x (cell_at (state_at (suc u)) x) ≤ left t s (suc u) x (cell_at (worked_at u) x)
    look_less x r = go (looked t f rule (a ++ b) σ u x r)
      where
        go : (cell_at (state_at (suc u)) x ≡ cell_at (worked_at u) x) ⊎ Shut rule.may (worked_at u) (state_at (suc u)) x
            → left t s (suc u) x (cell_at (state_at (suc u)) x) ≤ left t s (suc u) x (cell_at (worked_at u) x)
        go (inl e) = rw e (omega arith)
        go (inr h) =
            let e = ap (λ (y : Cell). y.closing) h.shut in
            omega (arith, left_closed t s (suc u) x (cell_at (state_at (suc u)) x) (λ z. omega (arith, e, clock_worked t f rule (a ++ b) σ u)))

    -- and of the slot with the look after it
    pub rule_serves : Served a (bring t s u) (λ x. left t s u x (cell_at (state_at u) x)) (λ x. left t s (suc u) x (cell_at (state_at (suc u)) x))
    rule_serves =
        served_less a (bring t s u) (λ x. left t s u x (cell_at (state_at u) x)) (λ x. left t s (suc u) x (cell_at (worked_at u) x))
        (λ x. left t s (suc u) x (cell_at (state_at (suc u)) x)) slot_serves (λ x i. look_less x (rows x i))

  module _ (s e m : ℕ) (s1 : 1 ≤ s) (first : (j : ℕ) → Row t j → e ≤ release_of t j) (enough : (u : ℕ) → e ≤ u → u < m → s ≤ σ u) where
    holds : (k : ℕ) → k ≤ m → (x : ℕ) → Row t x → Held t rule s k x (cell_at (state_at k) x)
    holds k p x r = held t f rule (a ++ b) σ s e m first enough k p x r

    pub left_backlog : (k : ℕ) → k ≤ m → sum (λ x. left t s k x (cell_at (state_at k) x)) a ≤ backlog (arrivals (release_of t) (cap t s) a) k
    left_backlog k p =
        sustained a (bring t s) (λ u x. left t s u x (cell_at (state_at u) x)) k
        (sum_zero (λ x. left t s 0 x (cell_at (state_at 0) x)) a (λ x i. left_late t s 0 x (cell_at (state_at 0) x) (omega arith)))
        (λ u q. rule_serves s s1 u (holds u (omega arith)))

    module _ (k : ℕ) (p : k < m) where
      -- the same before the look at the clock
      worked_backlog : sum (λ x. left t s (suc k) x (cell_at (worked_at k) x)) a ≤ backlog (arrivals (release_of t) (cap t s) a) (suc k)
      worked_backlog =
          omega (
            arith,
            served_sum a (bring t s k) (λ x. left t s k x (cell_at (state_at k) x)) (λ x. left t s (suc k) x (cell_at (worked_at k) x))
                (slot_serves s s1 k (holds k (omega arith))),
            left_backlog k (omega arith),
          )

      worked_holds : (i : ℕ) → Row t i → Held t rule s (suc k) i (cell_at (worked_at k) i)
      worked_holds i r = held_worked t f rule (a ++ b) σ s k i r (λ l. enough k (omega (arith, first i r, l)) p) (holds k (omega arith) i r)

      -- a row released before a clock at which nothing is left is closed by the slot before it, without the look at that clock
      pub closed_by : backlog (arrivals (release_of t) (cap t s) a) (suc k) ≡ 0 → (i : ℕ) → In i a → release_of t i ≤ k → 1 ≤ at (worked_at k).closing i
      closed_by z i j r =
          by_eqb (at (worked_at k).closing i) 0
          (λ _ q. absurd (omega (
            arith,
            worked_backlog,
            sum_part (λ x. left t s (suc k) x (cell_at (worked_at k) x)) i a j,
            left_open t s (suc k) i (cell_at (worked_at k) i) q (omega arith),
            under t rule s (suc k) i (cell_at (worked_at k) i) f.runs s1 (worked_holds i (rows i j)) q,
          )))
          (λ _ q. omega arith)

      -- if that clock is not after its deadline, the row is over: no look before it can have closed the row
      pub over_by : (i : ℕ) → Row t i → suc k ≤ deadline_of t i → 1 ≤ at (worked_at k).closing i → Over t i (at (worked_at k).got i) (at (worked_at k).used i)
      over_by i r d c =
          by_eqb (at (state_at k).closing i) 0
          (λ _ z. by_eqb (chosen t (a ++ b) (state_at k)) i
          (λ _ q. closed_served t i (σ k) k (cell_at (worked_at k) i) (cell_at (state_at k) i) (cell_served t f rule (a ++ b) σ k i r q) c)
          (λ _ q. absurd (omega (arith, ap (λ (x : Cell). x.closing) (cell_other t f rule (a ++ b) σ k i r q)))))
          (λ _ z. earlier (cell_other t f rule (a ++ b) σ k i r (λ q. z (ran t f rule (a ++ b) σ k i r q).still)) (holds k (omega arith) i r) (omega arith))
        where
          earlier : cell_at (worked_at k) i ≡ cell_at (state_at k) i → Held t rule s k i (cell_at (state_at k) i) → 0 < at (state_at k).closing i
              → Over t i (at (worked_at k).got i) (at (worked_at k).used i)
          earlier e h p = go (h.ended p)
            where
              go : Over t i (at (state_at k).got i) (at (state_at k).used i) ⊎ (rule.may (at (state_at k).closing i) i ≡ true)
                  → Over t i (at (worked_at k).got i) (at (worked_at k).used i)
              go (inl o) = subst (λ (x : Cell). Over t i x.got x.used) (sym e) o
              go (inr y) = absurd (omega (arith, rule.reached (at (state_at k).closing i) i y, h.past))

-- a closed row stays as it is
module _ (t : Table) (f : TableFacts t) (rule : Rule t) (o : List ℕ) (σ : ℕ → ℕ) (i : ℕ) (r : Row t i) where
  -- also through the look at the clock
  pub look_stays : (k : ℕ) → 1 ≤ at (worked_by t f rule o σ k).closing i → cell_at (state_by rule o σ (suc k)) i ≡ cell_at (worked_by t f rule o σ k) i
  look_stays k h = go (looked t f rule o σ k i r)
    where
      go : (cell_at (state_by rule o σ (suc k)) i ≡ cell_at (worked_by t f rule o σ k) i) ⊎ Shut rule.may (worked_by t f rule o σ k) (state_by rule o σ (suc k)) i
          → cell_at (state_by rule o σ (suc k)) i ≡ cell_at (worked_by t f rule o σ k) i
      go (inl e) = e
      go (inr x) = absurd (omega (arith, x.still))

  pub closed_slot : (k : ℕ) → 1 ≤ at (state_by rule o σ k).closing i → cell_at (state_by rule o σ (suc k)) i ≡ cell_at (state_by rule o σ k) i
  closed_slot k h =
      let e = cell_other t f rule o σ k i r (λ q. let z = ran t f rule o σ k i r q in omega (arith, z.still)) in
      look_stays k (rw (ap (λ (x : Cell). x.closing) e) h) ∙ e

  pub closed_stays : (k m : ℕ) → 1 ≤ at (state_by rule o σ k).closing i → cell_at (state_by rule o σ (m + k)) i ≡ cell_at (state_by rule o σ k) i
  closed_stays k zero h = let e : 0 + k ≡ k = omega arith in ap (λ (u : ℕ). cell_at (state_by rule o σ u) i) e
  closed_stays k (suc m) h =
      let e : suc m + k ≡ suc (m + k) = omega arith in
      let q = closed_stays k m h in
      ap (λ (u : ℕ). cell_at (state_by rule o σ u) i) e
      ∙ closed_slot (m + k) (rw (ap (λ (x : Cell). x.closing) q) h)
      ∙ q

-- the two instances: the planning rule and the running rule, each from slot to slot
module _ (t : Table) (f : TableFacts t) (a b : List ℕ) (rows : (x : ℕ) → In x a → Row t x) (closed : Closed t a) (σ : ℕ → ℕ) (s : ℕ) (s1 : 1 ≤ s) (u : ℕ) where
  abbrev left_by : Rule t → ℕ → ℕ → ℕ
  left_by r k x = left t s k x (cell_at (state_by r (a ++ b) σ k) x)

  pub planning_serves : ((x : ℕ) → Row t x → Held t (planning t) s u x (cell_at (state_by (planning t) (a ++ b) σ u) x))
      → Served a (bring t s u) (left_by (planning t) u) (left_by (planning t) (suc u))
  planning_serves = rule_serves t f (planning t) a b rows closed σ s s1 u

  pub running_serves : ((x : ℕ) → Row t x → Held t (running t) s u x (cell_at (state_by (running t) (a ++ b) σ u) x))
      → Served a (bring t s u) (left_by (running t) u) (left_by (running t) (suc u))
  running_serves = rule_serves t f (running t) a b rows closed σ s s1 u
