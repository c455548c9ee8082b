-- What a slot does to each row of the state.
use Rattle.std.specs.Prelude.{ℕ, suc, ◌+◌, ◌-◌, ◌≤◌, ◌<◌, min, true, false, cond, not, ◌&&◌, ◌≡◌, refl, List, leb, eqb, length}
use Rattle.std.proofs.Common.{sym, arith, get_or-set_same, get_or-set_other}
use Rattle.std.proofs.Math.ListN.{length-set}
use Rattle.std.proofs.lemmas.List.{get_or-replicate}
use borrow.Author.Tests.{lt-ltb, le-ltb, le-leb, leb-true, eqb-true, eq-eqb, ne_eqb}
use Rattle.rules.specs.declared.Table.{Table}
use Rattle.rules.specs.Lists.{first}
use Rattle.rules.specs.Rows.{at, put, is_row, release_of, work_of, follows_of}
use Rattle.rules.specs.Slots.{State, fresh, is_pending, is_waiting, is_ready, chosen, is_over, brought, serve, slot}
use Rattle.theory.specs.Tests.{by_bool, by_eqb, by-leb, by-ltb, and_left, and_right, not_is, not_both}
use Rattle.theory.specs.Counts.{In, first_in, first_passes}
use Rattle.theory.specs.Facts.{Row, row_is, is_row_lem}

-- a row's part of the state: work units got, slots used, closing slot
pub record Cell : Type 0 where
  pub got : ℕ
  pub used : ℕ
  pub closing : ℕ

abbrev pub cell_at : State → ℕ → Cell
cell_at s i = record { got = at s.got i; used = at s.used i; closing = at s.closing i }

-- a slot of a row that still loads brings nothing, and one of a row that has loaded brings its supply (rules 2.5, 2.14)
pub brought_none : (k u v : ℕ) → u < k → brought k u v ≡ 0
unfolding brought
brought_none k u v h = rw (lt-ltb u k h)

pub brought_all : (k u v : ℕ) → k ≤ u → brought k u v ≡ v
unfolding brought
brought_all k u v h = rw (le-ltb u k h)

-- the work units that row i has after a slot of its own with supply v (rules 2.5, 2.14)
abbrev pub grown : Table → ℕ → ℕ → Cell → ℕ
grown t v i x = min (work_of t i) (x.got + brought t.loading x.used v)

-- the row's part after a slot of its own at clock u with supply v
unfoldable pub served : Table → ℕ → ℕ → ℕ → Cell → Cell
served t v u i x = record { got = grown t v i x; used = x.used + 1; closing = cond (is_over t i (grown t v i x) (x.used + 1)) (u + 1) 0 }

-- the columns have sixty-four entries
pub record Sized (s : State) : Type 0 where
  pub gots : length s.got ≡ 64
  pub useds : length s.used ≡ 64
  pub closings : length s.closing ≡ 64

pub at_put_same : (xs : List ℕ) (i v : ℕ) → length xs ≡ 64 → 1 ≤ i → i ≤ 64 → at (put xs i v) i ≡ v
at_put_same xs i v l p q = get_or-set_same xs (i - 1) v 0 (omega arith)

pub at_put_other : (xs : List ℕ) (i j v : ℕ) → 1 ≤ i → 1 ≤ j → (j ≡ i → ⊥) → at (put xs i v) j ≡ at xs j
at_put_other xs i j v p q h = get_or-set_other xs (i - 1) (j - 1) v 0 (λ e. h (omega arith))

pub sized_fresh : Sized fresh
unfolding fresh
sized_fresh = record { gots = refl; useds = refl; closings = refl }

-- the fresh state is zero in every row
pub fresh_cell : (i : ℕ) → 1 ≤ i → i ≤ 64 → cell_at fresh i ≡ record { got = 0; used = 0; closing = 0 }
unfolding fresh
fresh_cell i p q = rw (get_or-replicate {A = ℕ} 64 (i - 1) 0 0 (omega arith))

module _ (t : Table) (o : List ℕ) (v : ℕ) (s : State) where
  pub sized_slot : Sized s → Sized (slot t o v s)
  unfolding slot serve
  sized_slot z =
      by_bool (eqb (chosen t o s) 0)
      (λ e. rw e (record { gots = z.gots; useds = z.useds; closings = z.closings }))
      (λ e. rw e (record { gots = simp length-set z.gots; useds = simp length-set z.useds; closings = simp length-set z.closings }))

  pub clock_slot : (slot t o v s).clock ≡ suc s.clock
  unfolding slot serve
  clock_slot = by_bool (eqb (chosen t o s) 0) (λ e. rw e (omega arith)) (λ e. rw e (omega arith))

  -- the row that the slot goes to
  pub slot_served : (i : ℕ) → Sized s → 1 ≤ i → i ≤ 64 → chosen t o s ≡ i → cell_at (slot t o v s) i ≡ served t v s.clock i (cell_at s i)
  unfolding slot serve served
  slot_served i z p q e =
      rw (
        e,
        ne_eqb i 0 (λ w. omega arith),
        at_put_same s.got i (grown t v i (cell_at s i)) z.gots p q,
        at_put_same s.used i (at s.used i + 1) z.useds p q,
        at_put_same s.closing i
            (cond (is_over t i (grown t v i (cell_at s i)) (at s.used i + 1)) (s.clock + 1) 0) z.closings p q,
      )

  -- every other row
  pub slot_other : (j : ℕ) → 1 ≤ j → (chosen t o s ≡ j → ⊥) → cell_at (slot t o v s) j ≡ cell_at s j
  unfolding slot serve
  slot_other j p h =
      by_eqb (chosen t o s) 0
      (λ e q. rw e)
      (λ e q. rw (
        e,
        at_put_other s.got (chosen t o s) j (grown t v (chosen t o s) (cell_at s (chosen t o s))) (omega arith) p (λ w. h (sym w)),
        at_put_other s.used (chosen t o s) j (at s.used (chosen t o s) + 1) (omega arith) p (λ w. h (sym w)),
        at_put_other s.closing (chosen t o s) j
            (cond (is_over t (chosen t o s) (grown t v (chosen t o s) (cell_at s (chosen t o s))) (at s.used (chosen t o s) + 1)) (s.clock + 1) 0)
            (omega arith) p (λ w. h (sym w)),
      ))

-- a row of the table, released, open
pub record Pending (t : Table) (s : State) (i : ℕ) : Type 0 where
  pub row : Row t i
  pub released : release_of t i ≤ s.clock
  pub still : at s.closing i ≡ 0

pub pending_is : (t : Table) (s : State) (i : ℕ) → is_pending t s i ≡ true → Pending t s i
unfolding is_pending
pending_is t s i e =
    let f = and_left (is_row t i && leb (release_of t i) s.clock) (eqb (at s.closing i) 0) e in
    record {
      row = row_is t i (and_left (is_row t i) (leb (release_of t i) s.clock) f);
      released = leb-true (release_of t i) s.clock (and_right (is_row t i) (leb (release_of t i) s.clock) f);
      still = eqb-true (at s.closing i) 0 (and_right (is_row t i && leb (release_of t i) s.clock) (eqb (at s.closing i) 0) e);
    }

pub is_pending_lem : (t : Table) (s : State) (i : ℕ) → Row t i → release_of t i ≤ s.clock → at s.closing i ≡ 0 → is_pending t s i ≡ true
unfolding is_pending
is_pending_lem t s i r p q = rw (is_row_lem t i r, le-leb (release_of t i) s.clock p, eq-eqb (at s.closing i) 0 q)

-- a row of the table that is not: still to be released, or closed
pub by-pending {ℓ} : {P : Type ℓ} (t : Table) (s : State) (i : ℕ) → Row t i
    → (is_pending t s i ≡ true → P) → ((at s.closing i ≡ 0 → s.clock < release_of t i) → P) → P
by-pending t s i r f g =
    by-leb (release_of t i) s.clock
    (λ e p. by_eqb (at s.closing i) 0 (λ d q. f (is_pending_lem t s i r p q)) (λ d q. g (λ z. absurd (q z))))
    (λ e p. g (λ z. p))

-- a row that waits follows one that is open, and one that does not follows none or one that is closed
pub by-waiting {ℓ} : {P : Type ℓ} (t : Table) (s : State) (i : ℕ)
    → (is_waiting t s i ≡ true → 1 ≤ follows_of t i → at s.closing (follows_of t i) ≡ 0 → P)
    → (is_waiting t s i ≡ false → (1 ≤ follows_of t i → 1 ≤ at s.closing (follows_of t i)) → P) → P
unfolding is_waiting
by-waiting t s i f g =
    by-ltb 0 (follows_of t i)
    (λ e p. by_eqb (at s.closing (follows_of t i)) 0
    (λ d q. f (rw (e, d)) p q)
    (λ d q. g (rw (e, d)) (λ _. omega arith)))
    (λ e p. g (rw e) (λ h. absurd (omega arith)))

-- ready: released and open, and what it follows is closed
pub record Ready (t : Table) (s : State) (i : ℕ) : Type 0 where
  pub row : Row t i
  pub released : release_of t i ≤ s.clock
  pub still : at s.closing i ≡ 0
  pub free : 1 ≤ follows_of t i → 1 ≤ at s.closing (follows_of t i)

pub ready_is : (t : Table) (s : State) (i : ℕ) → is_ready t s i ≡ true → Ready t s i
unfolding is_ready
ready_is t s i e =
    let p = pending_is t s i (and_left (is_pending t s i) (not (is_waiting t s i)) e) in
    let w : is_waiting t s i ≡ false = not_is (is_waiting t s i) (and_right (is_pending t s i) (not (is_waiting t s i)) e) in
    record {
      row = p.row;
      released = p.released;
      still = p.still;
      free = by-waiting t s i (λ y _ _. absurd (not_both (is_waiting t s i) y w)) (λ _ h. h);
    }

pub is_ready_lem : (t : Table) (s : State) (i : ℕ) → is_pending t s i ≡ true → is_waiting t s i ≡ false → is_ready t s i ≡ true
unfolding is_ready
is_ready_lem t s i p w = rw (p, w)

module _ (t : Table) (o : List ℕ) (s : State) where
  pub chosen_ready : (i : ℕ) → 1 ≤ i → chosen t o s ≡ i → Ready t s i
  unfolding chosen
  chosen_ready i p e =
      let h : first (is_ready t s) o ≡ 0 → ⊥ = λ z. omega (arith, e, z) in
      ready_is t s i (rw e at (first_passes (is_ready t s) o h))

  pub chosen_in : (i : ℕ) → 1 ≤ i → chosen t o s ≡ i → In i o
  unfolding chosen
  chosen_in i p e =
      let h : first (is_ready t s) o ≡ 0 → ⊥ = λ z. omega (arith, e, z) in
      rw e at (first_in (is_ready t s) o h)
