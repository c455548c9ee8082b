-- What larger speeds leave standing of a correct order (rule 18.8): no row finishes later, none gets its promised part later, so it stays correct.
use Rattle.std.specs.Prelude.{ℕ, ◌≤◌, true, ◌≡◌, List, [], ◌∷◌, ◌++◌, ◌↔◌}
use Rattle.std.proofs.Math.Path.{refl}
use Rattle.std.proofs.Common.{sym, subst, ◌∙◌, leb-true, le-leb}
use native.Mathlib.Omega.{arith}
use Rattle.rules.specs.declared.Table.{Table}
use Rattle.rules.specs.Rows.{is_promised, release_of, deadline_of}
use Rattle.rules.specs.Tables.{Accepted}
use Rattle.rules.specs.Orders.{is_arrangement, is_order}
use Rattle.rules.specs.Correct.{Correct, CorrectOrder}
use Rattle.rules.specs.Worst.{worst_speed, worst_finish, promised_moment}
use Rattle.rules.specs.declared.Sought.{Sought}
use Rattle.rules.specs.declared.Sought.TheVariants.{Degraded, Normal}
use Rattle.searches.specs.Speeds.{with_speeds, at_speed, slowest, fastest, InRange, LeastSpeed}
use Rattle.theory.specs.Tests.{by-leb}
use Rattle.theory.specs.Counts.{In, Once}
use Rattle.theory.specs.Backlog.{finish_first, arrivals}
use Rattle.theory.specs.Caps.{cap}
use Rattle.theory.specs.Facts.{Row, TableFacts, facts}
use Rattle.theory.specs.Waits.{Stand}
use Rattle.theory.specs.Places.{placed}
use Rattle.theory.proofs.Finishes.{worst_runs, worst_finish_lem}
use Rattle.theory.proofs.Part.{part_row}
use Rattle.theory.specs.Part.{part_table}
use Rattle.theory.proofs.Promised.{latest_by, finish_latest, moment_latest, meets_is, part_of, part_known, moment_order, all_meet, correct}
use Rattle.theory.specs.Promised.{latest}
use Rattle.theory.proofs.Speeds.{caps_backlog, same_row, accepted_speeds, worst_faster, cap_falls, order_same}

-- one table at two pairs of speeds, N of n and m and G of g and h work units per slot; neither falls
module _ (t : Table) (n g m h : ℕ) (normal : n ≤ m) (degraded : g ≤ h) where
  abbrev slow : Table
  slow = with_speeds t n g

  abbrev fast : Table
  fast = with_speeds t m h

  module _ (f : TableFacts slow) (k : TableFacts fast) where
    -- row i with the rows of a above it and b below it
    finish_below : (a b : List ℕ) (i : ℕ) → ((x : ℕ) → In x (a ++ (i ∷ [])) → Row slow x) → Once (a ++ (i ∷ [])) → Stand t a i
        → worst_finish fast (a ++ (i ∷ b)) i ≤ worst_finish slow (a ++ (i ∷ b)) i
    finish_below a b i rows once stand =
        let before = worst_finish_lem slow f a b i rows once stand in
        finish_first (arrivals (release_of t) (cap fast (worst_speed fast i)) (a ++ (i ∷ []))) (release_of t i)
        (worst_finish fast (a ++ (i ∷ b)) i) (worst_finish slow (a ++ (i ∷ b)) i)
        (worst_finish_lem fast k a b i (λ x j. same_row t n g m h x (rows x j)) once stand) before.after
        (omega (
          arith,
          before.clear,
          caps_backlog (release_of t) (cap fast (worst_speed fast i)) (cap slow (worst_speed slow i)) (a ++ (i ∷ []))
              (λ x. cap_falls t n g m h normal degraded f.runs f.crawls (worst_speed slow i) (worst_speed fast i) x (worst_runs slow f i) (worst_faster t n g m h normal degraded i))
              (worst_finish slow (a ++ (i ∷ b)) i),
        ))

  module _ (f : TableFacts slow) (k : TableFacts fast) (o : List ℕ) (e : is_order slow o ≡ true) where
    -- no row finishes later in its worst run
    pub finish_falls : (i : ℕ) → Row slow i → worst_finish fast o i ≤ worst_finish slow o i
    finish_falls i r =
        let p = placed slow f o e i r in
        subst (λ (l : List ℕ). worst_finish fast l i ≤ worst_finish slow l i) (sym p.whole) (finish_below f k p.above p.below i p.rows p.once p.stand)

module _ (t : Table) (n g m h : ℕ) (normal : n ≤ m) (degraded : g ≤ h) (f : TableFacts (with_speeds t n g)) (k : TableFacts (with_speeds t m h)) (o : List ℕ)
    (e : is_order (with_speeds t n g) o ≡ true) where
  abbrev was : Table
  was = with_speeds t n g

  abbrev is : Table
  is = with_speeds t m h

  now_order : is_order is o ≡ true
  now_order = sym (order_same t n g m h normal degraded o) ∙ e

  -- no row gets its promised part later: the part, as a job of its own, finishes no later
  pub moment_falls : (i : ℕ) → Row was i → is_promised t i ≡ true → promised_moment is o i ≤ promised_moment was o i
  unfolding is_arrangement is_order
  moment_falls i r x =
      let r' = same_row t n g m h i r in
      let before = part_known was f i r (part_of was i x) in
      let after = part_known is k i r' (part_of is i x) in
      omega (
        arith,
        moment_order was f i r (part_of was i x) o e,
        moment_order is k i r' (part_of is i x) o now_order,
        finish_falls (part_table t i) n g m h normal degraded before after o e i (part_row was i i r),
      )

  pub latest_falls : (i : ℕ) → Row was i → latest is o i ≤ latest was o i
  latest_falls i r =
      latest_by is o i (latest was o i)
      (omega (arith, finish_falls t n g m h normal degraded f k o e i r, finish_latest was o i))
      (λ x. omega (arith, moment_falls i r x, moment_latest was o i x))

  -- an order that was correct is correct
  pub correct_faster : Correct was o → Correct is o
  correct_faster c =
      correct is k o now_order
      (λ i r. let r' = same_row t m h n g i r in
      meets_is is o i
      ∙ le-leb (latest is o i) (deadline_of t i)
      (omega (
        arith,
        leb-true (latest was o i) (deadline_of t i) (sym (meets_is was o i) ∙ all_meet was f o e c i r'),
        latest_falls i r',
      )))

-- the speed sought, in the table and in its range

-- an accepted table is accepted at every speed of the range
pub accepted_at : (f : Sought) (t : Table) → Accepted t → (s : ℕ) → InRange f t s → Accepted (at_speed f t s)
accepted_at Degraded t accepted s q = accepted_speeds t accepted t.normal s (facts t accepted).fast q.from q.up_to
accepted_at Normal t accepted s q = accepted_speeds t accepted s t.degraded q.up_to (facts t accepted).crawls q.from

-- and check 6 passes the same orders there
pub order_at_lem : (f : Sought) (t : Table) (s : ℕ) (o : List ℕ) → is_order (at_speed f t s) o ≡ is_order t o
unfolding is_arrangement is_order
order_at_lem Degraded t s o = refl
order_at_lem Normal t s o = refl

-- an order that is correct at a speed of the range is correct at every larger one
pub correct_at : (f : Sought) (t : Table) → Accepted t → (s r : ℕ) → slowest f t ≤ s → s ≤ r → r ≤ fastest f t
    → (o : List ℕ) → is_order t o ≡ true → Correct (at_speed f t s) o → Correct (at_speed f t r) o
correct_at f t accepted s r from more up_to o e c = go f (facts_at s from (omega arith)) (facts_at r (omega arith) up_to) (order_at_lem f t s o ∙ e) more c
  where
    facts_at : (q : ℕ) → slowest f t ≤ q → q ≤ fastest f t → TableFacts (at_speed f t q)
    facts_at q from up_to = facts (at_speed f t q) (accepted_at f t accepted q (record { from = from; up_to = up_to }))

    go : (f : Sought) → TableFacts (at_speed f t s) → TableFacts (at_speed f t r) → is_order (at_speed f t s) o ≡ true → s ≤ r
        → Correct (at_speed f t s) o → Correct (at_speed f t r) o
    go Degraded u v e more c = correct_faster t t.normal s t.normal r (omega arith) more u v o e c
    go Normal u v e more c = correct_faster t s t.degraded r t.degraded more (omega arith) u v o e c

-- and so where a correct order exists at a speed of the range, one exists at every larger one
pub exists_at : (f : Sought) (t : Table) → Accepted t → (s r : ℕ) → slowest f t ≤ s → s ≤ r → r ≤ fastest f t
    → CorrectOrder (at_speed f t s) → CorrectOrder (at_speed f t r)
exists_at f t accepted s r from more up_to c =
    let e : is_order t c.order ≡ true = sym (order_at_lem f t s c.order) ∙ c.passes in
    record {
      order = c.order;
      passes = order_at_lem f t r c.order ∙ e;
      correct = correct_at f t accepted s r from more up_to c.order e c.correct;
    }

-- the least workable speed parts the range: a correct order exists at it and at every larger speed, and at no smaller one
pub least_parts : (f : Sought) (t : Table) → Accepted t → (s : ℕ) → LeastSpeed f t s → (r : ℕ) → InRange f t r → CorrectOrder (at_speed f t r) ↔ (s ≤ r)
least_parts f t accepted s l r q = (
  λ c. by-leb s r (λ _ p. p) (λ _ p. absurd (l.least r q.from p c)),
  λ p. exists_at f t accepted s r l.in_range.from p q.up_to l.works,
)
