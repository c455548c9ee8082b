-- The promised part of a LO row as a job of its own: the table in which the row is a HI job of just its promised work (rules 1.11, 20.4). Up to
-- the moment at which the row has got that part, a run of the table and a run of this one go the same way, whatever the slots supply from G on;
-- so what is known of HI rows holds of promised parts.
use Prim.Native.Nat.{ℕ, zero, suc, ◌+◌, ◌-◌, ◌*◌, ◌≤◌, ◌<◌, min}
use Rattle.std.specs.Prelude.{false, ◌≡◌, List, [], ◌∷◌, ◌++◌, map, ◌⊎◌, eqb, length, get_or}
use Rattle.std.proofs.Math.Path.{refl, ap}
use Rattle.std.proofs.Common.{subst, sym, ◌∙◌}
use Rattle.std.proofs.lemmas.List.{map-append, length-map}
use Rattle.std.proofs.Math.Logic.{inl, inr}
use native.Mathlib.Omega.{arith}
use Rattle.std.proofs.Math.ListN.{get_or-append}
use Rattle.std.proofs.Math.Seq.{get_or-append_seam}
use borrow.Author.Tests.{ne_eqb, eq-eqb, lt-leb}
use Rattle.rules.specs.declared.Table.{Table}
use Rattle.rules.specs.Lists.{rows_to}
use Rattle.rules.specs.Rows.{at, is_low, work_of, promised_of}
use Rattle.rules.specs.Correct.{earliest}
use Rattle.rules.specs.Slots.{State, is_pending, is_waiting, is_ready, chosen, is_over, brought, serve, slot, allowance}
use Rattle.theory.specs.Tests.{by_bool, by_eqb, by-leb}
use Rattle.theory.specs.Caps.{need_unused}
use Rattle.theory.specs.Facts.{Row, TableFacts}
use Rattle.theory.specs.Places.{length_rows}
use Rattle.theory.specs.Cells.{Cell, cell_at, grown, served, fresh_cell, chosen_ready}
use Rattle.theory.specs.Ends.{Rule, Shut, state_by}
use Rattle.theory.proofs.Invariant.{worked_by, held, looked, cell_served, cell_other, ran, by-brought}
use Rattle.theory.specs.Invariant.{Held}
use Rattle.theory.proofs.Sustain.{look_stays, closed_stays}
use Rattle.theory.proofs.Finishes.{earliest_first}
use Rattle.theory.specs.Part.{figures_of, besides, part_table}

rows_entry : (f : ℕ → ℕ) (n k : ℕ) → k < n → get_or (map f (rows_to n)) k 0 ≡ f (suc k)
rows_entry f zero k h = absurd (omega arith)
rows_entry f (suc n) k h =
    let l : length (map f (rows_to n)) ≡ n = length-map (rows_to n) f ∙ length_rows n in
    ap (λ (xs : List ℕ). get_or xs k 0) (map-append f (rows_to n) (suc n ∷ []))
    ∙ by_eqb k n
    (λ _ q. ap (λ (j : ℕ). get_or (map f (rows_to n) ++ (f (suc n) ∷ [])) j 0) (q ∙ sym l) ∙ get_or-append_seam (map f (rows_to n)) (f (suc n)) [] 0 ∙ ap (λ (j : ℕ). f (suc j)) (sym q))
    (λ _ q. get_or-append (map f (rows_to n)) (f (suc n) ∷ []) 0 k (omega arith) ∙ rows_entry f n k (omega arith))

figures_at : (f : ℕ → ℕ) (i : ℕ) → 1 ≤ i → i ≤ 64 → at (figures_of f) i ≡ f i
figures_at f i p q = let e : suc (i - 1) ≡ i = omega arith in rows_entry f 64 (i - 1) (omega arith) ∙ ap f e

pub part_row : (t : Table) (i j : ℕ) → Row t j → Row (part_table t i) j
part_row t i j r = record { from = r.from; up_to = r.up_to }

pub row_part : (t : Table) (i j : ℕ) → Row (part_table t i) j → Row t j
row_part t i j r = record { from = r.from; up_to = r.up_to }

module _ (t : Table) (f : TableFacts t) (i : ℕ) where
  abbrev p : Table
  p = part_table t i

  few : (j : ℕ) → Row t j → j ≤ 64
  few j r = omega (arith, f.few, r.up_to)

  -- the figures of row i
  module _ (r : Row t i) where
    pub part_work : work_of p i ≡ promised_of t i
    part_work = figures_at (besides i (promised_of t i) (work_of t)) i r.from (few i r) ∙ rw (eq-eqb i i refl)

    part_level : at p.level i ≡ 1
    part_level = figures_at (besides i 1 (at t.level)) i r.from (few i r) ∙ rw (eq-eqb i i refl)

    pub part_high : is_low p i ≡ false
    part_high = ne_eqb (at p.level i) 0 (λ z. omega (arith, part_level))

    part_promised : promised_of p i ≡ 0
    part_promised = figures_at (besides i 0 (promised_of t)) i r.from (few i r) ∙ rw (eq-eqb i i refl)

  -- and of every other row
  module _ (j : ℕ) (r : Row t j) (other : j ≡ i → ⊥) where
    pub other_work : work_of p j ≡ work_of t j
    other_work = figures_at (besides i (promised_of t i) (work_of t)) j r.from (few j r) ∙ rw (ne_eqb j i other)

    other_level : at p.level j ≡ at t.level j
    other_level = figures_at (besides i 1 (at t.level)) j r.from (few j r) ∙ rw (ne_eqb j i other)

    pub other_low : is_low p j ≡ is_low t j
    other_low = ap (λ (l : ℕ). eqb l 0) other_level

    pub other_promised : promised_of p j ≡ promised_of t j
    other_promised = figures_at (besides i 0 (promised_of t)) j r.from (few j r) ∙ rw (ne_eqb j i other)

  -- it is a table like any other
  pub part_table_lem : Row t i → 1 ≤ promised_of t i → TableFacts p
  part_table_lem r some =
      record {
        some = f.some;
        few = f.few;
        runs = f.runs;
        fast = f.fast;
        crawls = f.crawls;
        slower = f.slower;
        loads = f.loads;
        row = λ j q. let g = f.row j (row_part t i j q) in
            by_eqb j i
            (λ _ e. record {
              works = rw e (omega (arith, part_work r, some));
              light = rw e (omega (arith, part_work r, (f.part i r).within, (f.row i r).light));
              soon = g.soon;
              before = g.before;
              level = rw e (omega (arith, part_level r));
            })
            (λ _ e. let q' = row_part t i j q in
            record {
              works = omega (arith, other_work j q' e, g.works);
              light = omega (arith, other_work j q' e, g.light);
              soon = g.soon;
              before = g.before;
              level = omega (arith, other_level j q' e, g.level);
            });
        part = λ j q. let g = f.part j (row_part t i j q) in
            by_eqb j i
            (λ _ e. record { within = rw e (omega (arith, part_promised r)); low = λ h. absurd (omega (arith, ap (promised_of p) e, part_promised r)) })
            (λ _ e. let q' = row_part t i j q in
            record {
              within = omega (arith, other_work j q' e, other_promised j q' e, g.within);
              low = λ h. other_low j q' e ∙ g.low (omega (arith, other_promised j q' e));
            });
        lower = λ j q. f.lower j (row_part t i j q);
        earlier = λ j q. f.earlier j (row_part t i j q);
      }

  -- a rule of a slot for it: the same look at the clock
  abbrev pub part_rule : Rule t → Rule p
  part_rule r =
      record {
        ends = r.ends;
        may = r.may;
        reached = λ u j e. r.reached u j e;
        clock = r.clock;
        sized = r.sized;
        look = λ s j z m q. r.look s j z m (row_part t i j q);
      }

-- work got is never taken back
module _ (t : Table) (f : TableFacts t) (rule : Rule t) (o : List ℕ) (σ : ℕ → ℕ) (i : ℕ) (r : Row t i) where
  pub got_looked : (k : ℕ) → at (state_by rule o σ (suc k)).got i ≡ at (worked_by t f rule o σ k).got i
  got_looked k = go (looked t f rule o σ k i r)
    where
      go : (cell_at (state_by rule o σ (suc k)) i ≡ cell_at (worked_by t f rule o σ k) i) ⊎ Shut rule.may (worked_by t f rule o σ k) (state_by rule o σ (suc k)) i
          → at (state_by rule o σ (suc k)).got i ≡ at (worked_by t f rule o σ k).got i
      go (inl e) = ap (λ (x : Cell). x.got) e
      go (inr x) = ap (λ (y : Cell). y.got) x.shut

  got_slot : (k : ℕ) → at (state_by rule o σ k).got i ≤ at (state_by rule o σ (suc k)).got i
  unfolding served
  got_slot k =
      let most = (held t f rule o σ 0 0 k (λ j q. omega arith) (λ u p q. omega arith) k (omega arith) i r).most in
      by_eqb (chosen t o (state_by rule o σ k)) i
      (λ _ q. omega (arith, got_looked k, most, ap (λ (x : Cell). x.got) (cell_served t f rule o σ k i r q)))
      (λ _ q. omega (arith, got_looked k, ap (λ (x : Cell). x.got) (cell_other t f rule o σ k i r q)))

  pub got_grows : (k m : ℕ) → at (state_by rule o σ k).got i ≤ at (state_by rule o σ (m + k)).got i
  got_grows k zero = let e : 0 + k ≡ k = omega arith in rw e (omega arith)
  got_grows k (suc m) = let e : suc m + k ≡ suc (m + k) = omega arith in rw e (omega (arith, got_grows k m, got_slot (m + k)))

-- one slot of both tables, from a state in which row i has not got its part
module _ (t : Table) (f : TableFacts t) (i : ℕ) (r : Row t i) (o : List ℕ) (v : ℕ) (s : State) where
  abbrev q : Table
  q = part_table t i

  chosen_same : chosen q o s ≡ chosen t o s
  unfolding chosen is_pending is_waiting is_ready
  chosen_same = refl

  -- a slot of another row
  other_serve : (j : ℕ) → Row t j → (j ≡ i → ⊥) → serve q v j s ≡ serve t v j s
  unfolding serve is_over
  other_serve j w n = rw (other_work t f i j w n, other_low t f i j w n, other_promised t f i j w n)

  pub other_slot : (chosen t o s ≡ i → ⊥) → slot q o v s ≡ slot t o v s
  unfolding slot
  other_slot n =
      by_eqb (chosen t o s) 0
      (λ e _. rw (chosen_same, e))
      (λ e z. rw (chosen_same, e, other_serve (chosen t o s) (chosen_ready t o s (chosen t o s) (omega arith) refl).row n))

  -- a slot of its own that does not bring the rest of the part, nor uses up the allowance
  module _ (mine : chosen t o s ≡ i) (short : at s.got i + brought t.loading (at s.used i) v < promised_of t i)
      (within : at s.used i + 1 < allowance t i) where
    abbrev more : ℕ
    more = at s.got i + brought t.loading (at s.used i) v

    own_serve : serve q v i s ≡ serve t v i s
    unfolding serve is_over
    own_serve =
        let a : min (work_of t i) more ≡ more = omega (arith, (f.part i r).within) in
        let b : min (promised_of t i) more ≡ more = omega arith in
        rw (
          part_work t f i r,
          part_high t f i r,
          a,
          b,
          ne_eqb more (work_of t i) (λ e. omega (arith, (f.part i r).within)),
          ne_eqb more (promised_of t i) (λ e. omega arith),
          lt-leb (allowance t i) (at s.used i + 1) within,
        )
        (by_bool (is_low t i) (λ e. rw e) (λ e. rw e))

    pub own_slot : slot q o v s ≡ slot t o v s
    unfolding slot
    own_slot = rw (chosen_same, mine, ne_eqb i 0 (λ z. omega (arith, r.from)), own_serve)

-- Two runs, of the table and of the one with row i's part, where every slot from the earliest release to before clock m supplies at least G: as long as
-- the row has not got its part they are in one state, and from then on the part has been got in one and the job of that work is closed in the other.
module _ (t : Table) (f : TableFacts t) (i : ℕ) (r : Row t i) (some : 1 ≤ promised_of t i) (rule : Rule t) (o : List ℕ) (σ : ℕ → ℕ) (m : ℕ)
    (enough : (u : ℕ) → earliest t ≤ u → u < m → t.degraded ≤ σ u) where
  abbrev g : TableFacts (part_table t i)
  g = part_table_lem t f i r some

  abbrev pub whole_at : ℕ → State
  whole_at k = state_by rule o σ k

  abbrev pub part_at : ℕ → State
  part_at k = state_by (part_rule t f i rule) o σ k

  pub record Together (k : ℕ) : Type 0 where
    pub same : part_at k ≡ whole_at k
    pub short : at (whole_at k).got i < promised_of t i

  pub record Parted (k : ℕ) : Type 0 where
    pub has : promised_of t i ≤ at (whole_at k).got i
    pub closed : 1 ≤ at (part_at k).closing i

  part_i : Row (part_table t i) i
  part_i = part_row t i i r

  stays_parted : (k : ℕ) → Parted k → Parted (suc k)
  stays_parted k h =
      let e : suc k ≡ 1 + k = omega arith in
      record {
        has = subst (λ (m : ℕ). promised_of t i ≤ at (whole_at m).got i) (sym e) (omega (arith, h.has, got_grows t f rule o σ i r k 1));
        closed = subst (λ (m : ℕ). 1 ≤ at (part_at m).closing i) (sym e)
            (rw (ap (λ (x : Cell). x.closing) (closed_stays (part_table t i) g (part_rule t f i rule) o σ i part_i k 1 h.closed)) h.closed);
      }

  -- both runs make the same slot
  on_together : (k : ℕ) → Together k → slot (part_table t i) o (σ k) (whole_at k) ≡ slot t o (σ k) (whole_at k)
      → at (whole_at (suc k)).got i < promised_of t i → Together (suc k)
  on_together k h e short = record { same = ap (λ (s : State). rule.ends (slot (part_table t i) o (σ k) s)) h.same ∙ ap rule.ends e; short = short }

  -- the slot brings the rest of the part
  parts : (k : ℕ) → Together k → chosen t o (whole_at k) ≡ i
      → promised_of t i ≤ at (whole_at k).got i + brought t.loading (at (whole_at k).used i) (σ k) → Parted (suc k)
  unfolding served is_over
  parts k h mine enough =
      let part = part_table t i in
      let there : chosen part o (part_at k) ≡ i = rw h.same (chosen_same t f i r o (σ k) (whole_at k) ∙ mine) in
      let x = cell_served part g (part_rule t f i rule) o σ k i part_i there in
      let a : at (part_at k).got i ≡ at (whole_at k).got i = ap (λ (s : State). at s.got i) h.same in
      let b : at (part_at k).used i ≡ at (whole_at k).used i = ap (λ (s : State). at s.used i) h.same in
      let all : grown part (σ k) i (cell_at (part_at k) i) ≡ promised_of t i = rw (part_work t f i r, a, b) (omega arith) in
      let closing : at (worked_by part g (part_rule t f i rule) o σ k).closing i ≡ k + 1 =
      ap (λ (y : Cell). y.closing) x ∙ rw (all, part_work t f i r, eq-eqb (promised_of t i) (promised_of t i) refl) in
      let closed : 1 ≤ at (worked_by part g (part_rule t f i rule) o σ k).closing i = omega arith in
      record {
        has = omega (arith, got_looked t f rule o σ i r k, ap (λ (y : Cell). y.got) (cell_served t f rule o σ k i r mine), (f.part i r).within);
        closed = rw (ap (λ (y : Cell). y.closing) (look_stays part g (part_rule t f i rule) o σ i part_i k closed)) closed;
      }

  slot_together : (k : ℕ) → k < m → Together k → Together (suc k) ⊎ Parted (suc k)
  unfolding served
  slot_together k h now =
      by_eqb (chosen t o (whole_at k)) i
      (λ _ mine. by-leb (promised_of t i) (at (whole_at k).got i + brought t.loading (at (whole_at k).used i) (σ k))
      (λ _ e. inr (parts k now mine e))
      (λ _ e. let z = ran t f rule o σ k i r mine in
      let hold = held t f rule o σ t.degraded (earliest t) m (earliest_first t) enough k (omega arith) i r in
      let supply = enough k (omega (arith, earliest_first t i r, z.released)) h in
      inl (on_together k now (own_slot t f i r o (σ k) (whole_at k) mine e (slots_left k e supply hold))
      (omega (arith, got_looked t f rule o σ i r k, ap (λ (y : Cell). y.got) (cell_served t f rule o σ k i r mine))))))
      (λ _ other. inl (on_together k now (other_slot t f i r o (σ k) (whole_at k) other)
      (omega (arith, now.short, got_looked t f rule o σ i r k, ap (λ (y : Cell). y.got) (cell_other t f rule o σ k i r other)))))
    where
      -- slots that have not brought the part are fewer than it needs at G
      slots_left : (k : ℕ) → at (whole_at k).got i + brought t.loading (at (whole_at k).used i) (σ k) < promised_of t i → t.degraded ≤ σ k
          → Held t rule t.degraded k i (cell_at (whole_at k) i) → at (whole_at k).used i + 1 < allowance t i
      slots_left k e supply hold =
          let u = at (whole_at k).used i in
          let few : (u + 1 - t.loading) * t.degraded < promised_of t i =
          by-brought t.loading u (σ k) t.degraded
          (λ b y z. omega (arith, z, some))
          (λ b l z. omega (arith, b, z, e, supply, hold.supplied, (f.part i r).within)) in
          omega (arith, need_unused t.loading (promised_of t i) t.degraded (u + 1) f.crawls few)

  pub together : (k : ℕ) → k ≤ m → Together k ⊎ Parted k
  together zero h =
      inl (record { same = refl; short = omega (arith, some, ap (λ (x : Cell). x.got) (fresh_cell i r.from (omega (arith, f.few, r.up_to)))) })
  together (suc k) h = go (together k (omega arith))
    where
      go : Together k ⊎ Parted k → Together (suc k) ⊎ Parted (suc k)
      go (inl x) = slot_together k (omega arith) x
      go (inr x) = inr (stays_parted k x)
