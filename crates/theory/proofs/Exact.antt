-- Supplies of exactly s, by the planning rule: what the rows at the top of an order have left is their backlog, and the lowest of them closes at its finish.
use Prim.Native.Nat.{ℕ, zero, suc, ◌+◌, ◌-◌, ◌*◌, ◌≤◌, ◌<◌, min}
use Rattle.std.specs.Prelude.{◌≡◌, refl, List, [], ◌∷◌, ◌++◌, ◌⊎◌}
use Rattle.std.proofs.Common.{sym, subst, ◌∙◌, append_assoc, arith}
use Rattle.std.proofs.Math.Path.{ap}
use Rattle.std.proofs.Math.Logic.{inl, inr}
use Rattle.rules.specs.declared.Table.{Table}
use Rattle.rules.specs.Lists.{sum, count}
use Rattle.rules.specs.Rows.{at, release_of, work_of}
use Rattle.rules.specs.Slots.{State, chosen, is_over, after}
use Rattle.theory.specs.Tests.{by_eqb, by-leb, by_bool}
use Rattle.theory.specs.Counts.{In, Once, count_append, count_same, count_other, in_last, sum_zero, sum_part, sum_falls_one}
use Rattle.theory.specs.Backlog.{backlog, arrivals, Finish, finish_only}
use Rattle.theory.specs.Caps.{cap, cap_done, cap_dropped}
use Rattle.theory.specs.Facts.{Row, TableFacts}
use Rattle.theory.specs.Cells.{Cell, cell_at, grown, served, fresh_cell}
use Rattle.theory.specs.Demand.{sum_both}
use Rattle.theory.specs.Ends.{planning}
use Rattle.theory.proofs.Invariant.{by-brought, none_beyond, cell_served, cell_other, ran, held, under}
use Rattle.theory.specs.Invariant.{Held, Over}
use Rattle.theory.proofs.Left.{left_open, left_late, left_closed, left_waits, left_served_one}
use Rattle.theory.specs.Left.{left, bring}
use Rattle.theory.proofs.Sustain.{none_left}
use Rattle.theory.specs.Waits.{Closed, Stand, stand_closed}

-- work got is what the slots used beyond the loading have brought
abbrev Brought : Table → ℕ → ℕ → Cell → Type 0
Brought t s i x = x.got ≡ min (work_of t i) ((x.used - t.loading) * s)

brought_more : (t : Table) (s k i : ℕ) (x : Cell) → Brought t s i x → Brought t s i (served t s k i x)
unfolding served
brought_more t s k i x e =
    by-brought t.loading x.used s s
    (λ b y z. omega (arith, b, y, z))
    (λ b q z. omega (arith, b, z))

got_exact : (t : Table) (f : TableFacts t) (o : List ℕ) (s k i : ℕ) → Row t i → Brought t s i (cell_at (after t o (λ _. s) k) i)
got_exact t f o s zero i r = subst (Brought t s i) (sym (fresh_cell i r.from (omega (arith, f.few, r.up_to)))) (omega (arith, none_beyond t.loading s))
got_exact t f o s (suc k) i r =
    let h = got_exact t f o s k i r in
    by_eqb (chosen t o (after t o (λ _. s) k)) i
    (λ _ q. subst (Brought t s i) (sym (cell_served t f (planning t) o (λ _. s) k i r q)) (brought_more t s k i (cell_at (after t o (λ _. s) k) i) h))
    (λ _ q. subst (Brought t s i) (sym (cell_other t f (planning t) o (λ _. s) k i r q)) h)

module _ (t : Table) (f : TableFacts t) (a b : List ℕ) (rows : (x : ℕ) → In x a → Row t x) (once : Once a) (closed : Closed t a) (s : ℕ) (s1 : 1 ≤ s) (sn : s ≤ t.normal) where
  abbrev worst_at : ℕ → State
  worst_at u = after t (a ++ b) (λ _. s) u

  abbrev left_at : ℕ → ℕ → ℕ
  left_at u x = left t s u x (cell_at (worst_at u) x)

  hold : (u x : ℕ) → Row t x → Held t (planning t) s u x (cell_at (worst_at u) x)
  hold u x r = held t f (planning t) (a ++ b) (λ _. s) s 0 u (λ j q. omega arith) (λ v p q. omega arith) u (omega arith) x r

  waits : (u x : ℕ) → Row t x → (chosen t (a ++ b) (worst_at u) ≡ x → ⊥) → left_at (suc u) x ≡ left_at u x + bring t s u x
  waits u x r q = rw (cell_other t f (planning t) (a ++ b) (λ _. s) u x r q) (left_waits t (planning t) s u x (cell_at (worst_at u) x) (hold u x r))

  serves : (u x : ℕ) → Row t x → chosen t (a ++ b) (worst_at u) ≡ x → suc (left_at (suc u) x) ≡ left_at u x + bring t s u x
  serves u x r q =
      let z = ran t f (planning t) (a ++ b) (λ _. s) u x r q in
      let y = cell_at (worst_at u) x in
      rw (cell_served t f (planning t) (a ++ b) (λ _. s) u x r q)
      (left_served_one t (planning t) s u x y (hold u x r) s z.still z.released (under t (planning t) s u x y f.runs s1 (hold u x r) z.still)
      (spent y (got_exact t f (a ++ b) s u x r)))
    where
      spent : (y : Cell) → Brought t s x y → Over t x (grown t s x y) (suc y.used) → cap t s x ≤ suc y.used
      spent y e (inl p) =
          let one : suc y.used ≡ y.used + 1 = omega arith in
          let works = (f.row x r).works in
          by-brought t.loading y.used s s
          (λ b w z. absurd (omega (arith, b, e, p, works, w)))
          (λ b q z. cap_done t s x f.runs s1 (suc y.used) (omega arith) (rw one (omega (arith, b, z, e, p))))
      spent y e (inr p) = cap_dropped t s x (suc y.used) p.0 p.1

  left_slot : (u : ℕ) → sum (left_at (suc u)) a ≡ sum (left_at u) a + sum (bring t s u) a - 1
  left_slot u =
      by-leb 1 (count (chosen t (a ++ b) (worst_at u)) a)
      (λ _ i. let c = chosen t (a ++ b) (worst_at u) in
      omega (
        arith,
        sum_falls_one (left_at (suc u)) (λ x. left_at u x + bring t s u x) c a (omega (arith, once c))
            (λ x j n. waits u x (rows x j) (λ q. n (sym q))) (serves u c (rows c i) refl),
        sum_both (left_at u) (bring t s u) a,
      ))
      (λ _ i. omega (
        arith,
        sum_zero (left_at (suc u)) a (λ x j. gone u x (λ k. omega arith) j),
        sum_zero (λ x. left_at u x + bring t s u x) a (λ x j. omega (
          arith,
          gone u x (λ k. omega arith) j,
          waits u x (rows x j) (λ q. let k : In (chosen t (a ++ b) (worst_at u)) a = rw q j in omega arith),
        )),
        sum_both (left_at u) (bring t s u) a,
      ))
    where
      gone : (u x : ℕ) → (In (chosen t (a ++ b) (worst_at u)) a → ⊥) → In x a → left_at (suc u) x ≡ 0
      gone u x out j = none_left t f (planning t) (a ++ b) a b refl rows closed (λ _. s) s u x out j

  pub left_exact : (u : ℕ) → sum (left_at u) a ≡ backlog (arrivals (release_of t) (cap t s) a) u
  left_exact zero = sum_zero (left_at 0) a (λ x i. left_late t s 0 x (cell_at (worst_at 0) x) (omega arith))
  left_exact (suc u) = omega (arith, left_exact u, left_slot u)

  -- an open row that is released has something left
  pub open_left : (u i : ℕ) → In i a → release_of t i < u → at (worst_at u).closing i ≡ 0 → 0 < backlog (arrivals (release_of t) (cap t s) a) u
  open_left u i j r z =
      omega (
        arith,
        left_exact u,
        sum_part (left_at u) i a j,
        left_open t s u i (cell_at (worst_at u) i) z r,
        under t (planning t) s u i (cell_at (worst_at u) i) f.runs s1 (hold u i (rows i j)) z,
      )

-- the lowest row i of a list, with a above it
module _ (t : Table) (f : TableFacts t) (a b : List ℕ) (i : ℕ) (rows : (x : ℕ) → In x (a ++ (i ∷ [])) → Row t x) (once : Once (a ++ (i ∷ [])))
    (stand : Stand t a i) (s : ℕ) (s1 : 1 ≤ s) (sn : s ≤ t.normal) where
  abbrev work : ℕ → ℕ
  work = arrivals (release_of t) (cap t s) (a ++ (i ∷ []))

  abbrev closing_at : ℕ → ℕ
  closing_at u = at (after t (a ++ (i ∷ []) ++ b) (λ _. s) u).closing i

  -- the row is open at clock u, and has had something left since its release
  pub record StillOpen (u : ℕ) : Type 0 where
    pub still : closing_at u ≡ 0
    pub busy : (w : ℕ) → release_of t i < w → w ≤ u → 0 < backlog work w

  -- the row closed at its finish
  pub record ClosedAt (u : ℕ) : Type 0 where
    pub finish : Finish work (release_of t i) (closing_at u)
    pub by : closing_at u ≤ u

  own_row : Row t i
  own_row = rows i (in_last a i)

  not_above : In i a → ⊥
  not_above h = omega (arith, once i, count_append i a (i ∷ []), count_same i [])

  stays_open : (u : ℕ) → StillOpen u → closing_at (suc u) ≡ 0 → StillOpen (suc u)
  stays_open u h z =
      record {
        still = z;
        busy = λ w p q. by-leb w u
            (λ _ k. h.busy w p k)
            (λ _ k. let e : w ≡ suc u = omega arith in rw e (open_left t f (a ++ (i ∷ [])) b rows once (stand_closed t a i stand) s s1 sn (suc u) i (in_last a i) (omega arith) z));
      }

  -- the slot that closes the row leaves nothing: no row above was ready
  clear_after : (u : ℕ) → chosen t (a ++ (i ∷ []) ++ b) (after t (a ++ (i ∷ []) ++ b) (λ _. s) u) ≡ i → (closing_at (suc u) ≡ 0 → ⊥) → backlog work (suc u) ≡ 0
  clear_after u e z =
      omega (
        arith,
        left_exact t f (a ++ (i ∷ [])) b rows once (stand_closed t a i stand) s s1 sn (suc u),
        sum_zero (λ x. left t s (suc u) x (cell_at (after t (a ++ (i ∷ []) ++ b) (λ _. s) (suc u)) x)) (a ++ (i ∷ [])) (λ x j. gone x j),
      )
    where
      gone : (x : ℕ) → In x (a ++ (i ∷ [])) → left t s (suc u) x (cell_at (after t (a ++ (i ∷ []) ++ b) (λ _. s) (suc u)) x) ≡ 0
      gone x j =
          by_eqb x i
          (λ _ q. rw q (left_closed t s (suc u) i (cell_at (after t (a ++ (i ∷ []) ++ b) (λ _. s) (suc u)) i) z))
          (λ _ q. none_left t f (planning t) (a ++ (i ∷ []) ++ b) a ((i ∷ []) ++ b) (append_assoc a (i ∷ []) b)
          (λ y k. rows y (omega (arith, count_append y a (i ∷ [])))) stand.0 (λ _. s) s u x
          (λ k. not_above (rw e at k)) (omega (arith, count_append x a (i ∷ []), count_other x i [] q)))

  closing_slot : (u : ℕ) → StillOpen u → StillOpen (suc u) ⊎ ClosedAt (suc u)
  unfolding served
  closing_slot u h =
      by_eqb (chosen t (a ++ (i ∷ []) ++ b) (after t (a ++ (i ∷ []) ++ b) (λ _. s) u)) i
      (λ _ q. let z = ran t f (planning t) (a ++ (i ∷ []) ++ b) (λ _. s) u i own_row q in
      let y = cell_at (after t (a ++ (i ∷ []) ++ b) (λ _. s) u) i in
      let e : closing_at (suc u) ≡ (served t s u i y).closing = ap (λ (x : Cell). x.closing) (cell_served t f (planning t) (a ++ (i ∷ []) ++ b) (λ _. s) u i own_row q) in
      by_bool (is_over t i (grown t s i y) (y.used + 1))
      (λ d. let c : closing_at (suc u) ≡ suc u = e ∙ rw d (omega arith) in
      inr (record {
        finish = rw c (record {
          after = omega (arith, z.released);
          clear = clear_after u q (λ w. omega arith);
          least = λ w p k. h.busy w p (omega arith);
        });
        by = omega arith;
      }))
      (λ d. inl (stays_open u h (e ∙ rw d))))
      (λ _ q. inl (stays_open u h (ap (λ (x : Cell). x.closing) (cell_other t f (planning t) (a ++ (i ∷ []) ++ b) (λ _. s) u i own_row q) ∙ h.still)))

  closing_stays : (u : ℕ) → ClosedAt u → ClosedAt (suc u)
  closing_stays u h =
      let e : closing_at (suc u) ≡ closing_at u =
      ap (λ (x : Cell). x.closing) (cell_other t f (planning t) (a ++ (i ∷ []) ++ b) (λ _. s) u i own_row
      (λ q. let z = ran t f (planning t) (a ++ (i ∷ []) ++ b) (λ _. s) u i own_row q in omega (arith, z.still, h.finish.after))) in
      record { finish = rw e h.finish; by = omega (arith, h.by) }

  pub closing_cases : (u : ℕ) → StillOpen u ⊎ ClosedAt u
  closing_cases zero =
      inl (record {
        still = ap (λ (x : Cell). x.closing) (fresh_cell i own_row.from (omega (arith, f.few, own_row.up_to)));
        busy = λ w p q. absurd (omega arith);
      })
  closing_cases (suc u) = go (closing_cases u)
    where
      go : StillOpen u ⊎ ClosedAt u → StillOpen (suc u) ⊎ ClosedAt (suc u)
      go (inl h) = closing_slot u h
      go (inr h) = inr (closing_stays u h)

  -- by any clock from the finish on, the row has closed at it
  pub closes_at : (k u : ℕ) → Finish work (release_of t i) k → k ≤ u → closing_at u ≡ k
  closes_at k u p q = go (closing_cases u)
    where
      go : StillOpen u ⊎ ClosedAt u → closing_at u ≡ k
      go (inl h) = absurd (omega (arith, h.busy k p.after q, p.clear))
      go (inr h) = finish_only work (release_of t i) (closing_at u) k h.finish p

  -- a row that is closed has reached its finish
  pub closed_finish : (k u : ℕ) → Finish work (release_of t i) k → 1 ≤ closing_at u → k ≤ u
  closed_finish k u p q = go (closing_cases u)
    where
      go : StillOpen u ⊎ ClosedAt u → k ≤ u
      go (inl h) = absurd (omega (arith, h.still))
      go (inr h) = omega (arith, h.by, finish_only work (release_of t i) (closing_at u) k h.finish p)
