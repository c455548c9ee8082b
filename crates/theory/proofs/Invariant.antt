-- What holds of a row at every clock of a run whose slots supply at least s, by either rule of a slot (Ends).
use Rattle.std.specs.Prelude.{ℕ, zero, suc, ◌+◌, ◌-◌, ◌*◌, ◌≤◌, ◌<◌, min, true, false, ◌≡◌, refl, List, ◌⊎◌}
use Rattle.std.proofs.Common.{sym, subst, ap, ◌∙◌, inl, inr, arith, mul-le-mul_right}
use Rattle.rules.specs.declared.Table.{Table}
use Rattle.rules.specs.Need.{work_slots}
use Rattle.rules.specs.Rows.{at, release_of, work_of, deadline_of, is_low}
use Rattle.rules.specs.Slots.{State, chosen, allowance, is_over, brought, slot}
use Rattle.theory.specs.Tests.{by_bool, by_eqb, by-leb, by-ltb, not_both}
use Rattle.theory.specs.Caps.{cap, cap_above, slots_enough, slots_above}
use Rattle.theory.specs.Facts.{Row, TableFacts}
use Rattle.theory.specs.Cells.{Cell, cell_at, brought_none, brought_all, grown, served, fresh_cell, slot_served, slot_other, sized_slot, clock_slot, chosen_ready}
use Rattle.theory.specs.Ends.{Rule, Shut, state_by, sized_by, clock_by}
use Rattle.theory.specs.Invariant.{Over, Held}

pub by_over {ℓ} : {P : Type ℓ} (t : Table) (i g u : ℕ)
    → (is_over t i g u ≡ true → Over t i g u → P)
    → (is_over t i g u ≡ false → (g ≡ work_of t i → ⊥) → (is_low t i ≡ true → u < allowance t i) → P) → P
unfolding is_over
by_over t i g u f k =
    by_eqb g (work_of t i)
    (λ e p. f (rw e) (inl p))
    (λ e p. by_bool (is_low t i)
    (λ d. by-leb (allowance t i) u
    (λ c q. f (rw (e, d, c)) (inr (d, q)))
    (λ c q. k (rw (e, d, c)) p (λ _. q)))
    (λ d. k (rw (e, d)) p (λ z. absurd (not_both (is_low t i) z d))))

held_wait : (t : Table) (r : Rule t) (s u i : ℕ) (x : Cell) → Held t r s u i x → Held t r s (suc u) i x
held_wait t r s u i x h =
    record {
      supplied = h.supplied;
      most = h.most;
      short = h.short;
      slots = h.slots;
      past = omega arith;
      ended = h.ended;
      unused = λ q. h.unused (omega arith);
      unclosed = λ q. h.unclosed (omega arith);
    }

-- A slot of a row that has used u slots: one of the k that load it, which brings nothing, so that neither before nor after it is there a slot
-- beyond the loading; or one that brings its supply and is the next beyond the loading, each counted with s work units.
pub by-brought {ℓ} : {P : Type ℓ} (k u v s : ℕ) → (brought k u v ≡ 0 → (u - k) * s ≡ 0 → (u + 1 - k) * s ≡ 0 → P)
    → (brought k u v ≡ v → k ≤ u → (u + 1 - k) * s ≡ (u - k) * s + s → P) → P
by-brought k u v s f g =
    by-ltb u k
    (λ e h. let y : u - k ≡ 0 = omega arith in let z : u + 1 - k ≡ 0 = omega arith in f (brought_none k u v h) (rw y (omega arith)) (rw z (omega arith)))
    (λ e h. let z : u + 1 - k ≡ suc (u - k) = omega arith in g (brought_all k u v h) h (rw z (omega arith)))

held_served : (t : Table) (r : Rule t) (s u i v : ℕ) (x : Cell) → s ≤ v → Held t r s u i x → x.closing ≡ 0 → release_of t i ≤ u
    → Held t r s (suc u) i (served t v u i x)
unfolding served
held_served t rule s u i v x p h z r =
    by_over t i (grown t v i x) (x.used + 1)
    (λ e o. record {
      supplied = more;
      most = omega arith;
      short = λ y. let y' : u + 1 ≡ 0 = rw e at y in absurd (omega arith);
      slots = λ y w. let y' : u + 1 ≡ 0 = rw e at y in absurd (omega arith);
      past = rw e (omega arith);
      ended = λ y. inl o;
      unused = λ q. absurd (omega arith);
      unclosed = λ q. absurd (omega arith);
    })
    (λ e a b. record {
      supplied = more;
      most = omega arith;
      short = λ y. omega (arith, lt_of_ne (grown t v i x) (work_of t i) (omega arith) a);
      slots = λ y w. b w;
      past = rw e (omega arith);
      ended = λ y. let y' : 0 < 0 = rw e at y in absurd (omega arith);
      unused = λ q. absurd (omega arith);
      unclosed = λ q. absurd (omega arith);
    })
  where
    more : min (work_of t i) ((x.used + 1 - t.loading) * s) ≤ grown t v i x
    more = by-brought t.loading x.used v s (λ e y z. omega (arith, e, z)) (λ e k z. omega (arith, e, z, p, h.supplied))

    lt_of_ne : (a b : ℕ) → a ≤ b → (a ≡ b → ⊥) → a < b
    lt_of_ne a b q n = by_eqb a b (λ e w. absurd (n w)) (λ e w. omega arith)

-- a row that has used no slot has used none beyond its loading
pub none_beyond : (k s : ℕ) → (0 - k) * s ≡ 0
none_beyond k s = let z : 0 - k ≡ 0 = omega arith in rw z (omega arith)

-- nothing has happened to the row
held_fresh : (t : Table) (r : Rule t) (s i : ℕ) → 1 ≤ t.normal → 1 ≤ work_of t i → Held t r s 0 i (record { got = 0; used = 0; closing = 0 })
held_fresh t r s i n w =
    record {
      supplied = omega (arith, none_beyond t.loading s);
      most = omega arith;
      short = λ z. omega arith;
      slots = λ z k. omega (arith, slots_above 0 (work_of t i) t.normal n (omega arith));
      past = omega arith;
      ended = λ z. absurd (omega arith);
      unused = λ q. refl;
      unclosed = λ q. refl;
    }

-- the look at the clock closes the row
held_shut : (t : Table) (r : Rule t) (s u i : ℕ) (x : Cell) → release_of t i < deadline_of t i → Held t r s u i x → r.may u i ≡ true → 0 < u
    → Held t r s u i (record { got = x.got; used = x.used; closing = u })
held_shut t r s u i x before h may p =
    record {
      supplied = h.supplied;
      most = h.most;
      short = λ y. absurd (omega arith);
      slots = λ y w. absurd (omega arith);
      past = omega arith;
      ended = λ y. inr may;
      unused = h.unused;
      unclosed = λ q. absurd (omega (arith, r.reached u i may));
    }

module _ (t : Table) (f : TableFacts t) (rule : Rule t) (o : List ℕ) (σ : ℕ → ℕ) where
  -- the state after slot k, before the look at the clock that it has brought
  abbrev pub worked_by : ℕ → State
  worked_by k = slot t o (σ k) (state_by rule o σ k)

  in_columns : (i : ℕ) → Row t i → i ≤ 64
  in_columns i r = omega (arith, f.few, r.up_to)

  -- the row that slot k goes to, and every other
  pub cell_served : (k i : ℕ) → Row t i → chosen t o (state_by rule o σ k) ≡ i
      → cell_at (worked_by k) i ≡ served t (σ k) k i (cell_at (state_by rule o σ k) i)
  cell_served k i r e =
      slot_served t o (σ k) (state_by rule o σ k) i (sized_by t rule o σ k) r.from (in_columns i r) e
      ∙ ap (λ (u : ℕ). served t (σ k) u i (cell_at (state_by rule o σ k) i)) (clock_by t rule o σ k)

  pub cell_other : (k i : ℕ) → Row t i → (chosen t o (state_by rule o σ k) ≡ i → ⊥) → cell_at (worked_by k) i ≡ cell_at (state_by rule o σ k) i
  cell_other k i r h = slot_other t o (σ k) (state_by rule o σ k) i r.from h

  -- the look after slot k leaves a row as it is, or closes it
  pub looked : (k i : ℕ) → Row t i
      → (cell_at (state_by rule o σ (suc k)) i ≡ cell_at (worked_by k) i) ⊎ Shut rule.may (worked_by k) (state_by rule o σ (suc k)) i
  looked k i r = rule.look (worked_by k) i (sized_slot t o (σ k) (state_by rule o σ k) (sized_by t rule o σ k)) (in_columns i r) r

  pub clock_worked : (k : ℕ) → (worked_by k).clock ≡ suc k
  clock_worked k = clock_slot t o (σ k) (state_by rule o σ k) ∙ ap suc (clock_by t rule o σ k)

  pub record Ran (k i : ℕ) : Type 0 where
    pub released : release_of t i ≤ k
    pub still : at (state_by rule o σ k).closing i ≡ 0

  pub ran : (k i : ℕ) → Row t i → chosen t o (state_by rule o σ k) ≡ i → Ran k i
  ran k i r e =
      let q = chosen_ready t o (state_by rule o σ k) i r.from e in
      record { released = omega (arith, q.released, clock_by t rule o σ k); still = q.still }

  -- slot k, which supplies at least s if it can go to the row
  pub held_worked : (s k i : ℕ) → Row t i → (release_of t i ≤ k → s ≤ σ k) → Held t rule s k i (cell_at (state_by rule o σ k) i)
      → Held t rule s (suc k) i (cell_at (worked_by k) i)
  held_worked s k i r enough h =
      by_eqb (chosen t o (state_by rule o σ k)) i
      (λ _ q. let z = ran k i r q in
      subst (Held t rule s (suc k) i) (sym (cell_served k i r q))
      (held_served t rule s k i (σ k) (cell_at (state_by rule o σ k) i) (enough z.released) h z.still z.released))
      (λ _ q. subst (Held t rule s (suc k) i) (sym (cell_other k i r q)) (held_wait t rule s k i (cell_at (state_by rule o σ k) i) h))

  -- and the look after it
  held_looked : (s k i : ℕ) → Row t i → Held t rule s (suc k) i (cell_at (worked_by k) i) → Held t rule s (suc k) i (cell_at (state_by rule o σ (suc k)) i)
  held_looked s k i r h = go (looked k i r)
    where
      go : (cell_at (state_by rule o σ (suc k)) i ≡ cell_at (worked_by k) i) ⊎ Shut rule.may (worked_by k) (state_by rule o σ (suc k)) i
          → Held t rule s (suc k) i (cell_at (state_by rule o σ (suc k)) i)
      go (inl e) = subst (Held t rule s (suc k) i) (sym e) h
      go (inr x) =
          let c = clock_worked k in
          let e : cell_at (state_by rule o σ (suc k)) i ≡ record { got = at (worked_by k).got i; used = at (worked_by k).used i; closing = suc k } = x.shut ∙ rw c in
          subst (Held t rule s (suc k) i) (sym e)
          (held_shut t rule s (suc k) i (cell_at (worked_by k) i) (f.row i r).before h (rw c at x.why) (omega arith))

  -- supplies of at least s from the earliest release to clock m are enough, since an earlier slot is idle
  pub held : (s e m : ℕ) → ((j : ℕ) → Row t j → e ≤ release_of t j) → ((u : ℕ) → e ≤ u → u < m → s ≤ σ u)
      → (k : ℕ) → k ≤ m → (i : ℕ) → Row t i → Held t rule s k i (cell_at (state_by rule o σ k) i)
  held s e m first enough zero p i r =
      subst (Held t rule s 0 i) (sym (fresh_cell i r.from (in_columns i r))) (held_fresh t rule s i f.runs (f.row i r).works)
  held s e m first enough (suc k) p i r =
      held_looked s k i r
      (held_worked s k i r (λ l. enough k (omega (arith, first i r, l)) (omega arith)) (held s e m first enough k (omega arith) i r))

-- a row that is over in a run at its own worst speed or better has got its work
pub got_high : (t : Table) (i : ℕ) (x : Cell) → is_low t i ≡ false → Over t i x.got x.used → x.got ≡ work_of t i
got_high t i x e (inl q) = q
got_high t i x e (inr q) = absurd (not_both (is_low t i) q.0 e)

pub got_normal : (t : Table) (r : Rule t) (u i : ℕ) (x : Cell) → 1 ≤ t.normal → Held t r t.normal u i x → Over t i x.got x.used → x.got ≡ work_of t i
got_normal t r u i x n h (inl q) = q
got_normal t r u i x n h (inr q) = omega (arith, h.supplied, h.most, slots_enough (work_of t i) t.normal n, beyond)
  where
    beyond : work_slots (work_of t i) t.normal * t.normal ≤ (x.used - t.loading) * t.normal
    beyond = mul-le-mul_right t.normal (let b : work_slots (work_of t i) t.normal ≤ x.used - t.loading = omega (arith, q.1) in b)

-- an open row has a slot left of its cap
pub under : (t : Table) (r : Rule t) (s u i : ℕ) (x : Cell) → 1 ≤ t.normal → 1 ≤ s → Held t r s u i x → x.closing ≡ 0 → x.used < cap t s i
under t r s u i x n p h z = cap_above t s i n p x.used (omega (arith, h.supplied, h.short z)) (h.slots z)
