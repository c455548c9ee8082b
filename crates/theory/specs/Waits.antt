-- Rows that follow rows (section 21 of the rules). A set of rows that holds every row which one of them follows never waits as a whole: while one of them
-- is released and open, a slot goes to one of them, in whatever order they stand (rule 21.3).
use Rattle.std.specs.Prelude.{ℕ, zero, suc, ◌≤◌, true, List, [], ◌∷◌, ◌++◌, ◌≡◌}
use Rattle.std.proofs.Common.{arith}
use Rattle.rules.specs.declared.Table.{Table}
use Rattle.rules.specs.Lists.{count}
use Rattle.rules.specs.Rows.{rows_of, follows_of}
use Rattle.rules.specs.Slots.{State, is_pending, is_ready, chosen}
use Rattle.theory.specs.Tests.{by_eqb}
use Rattle.theory.specs.Counts.{In, Same, count_append, first_above}
use Rattle.theory.specs.Facts.{Row, in_rows, rows_in_lem, TableFacts, followed_row_lem}
use Rattle.theory.specs.Cells.{pending_is, is_pending_lem, by-waiting, is_ready_lem}

-- whatever a row of the list follows stands in it
abbrev pub Closed : Table → List ℕ → Type 0
Closed t l = (x : ℕ) → In x l → 1 ≤ follows_of t x → In (follows_of t x) l

-- row i may stand below the rows of a: what any of them follows is among them, and so is what i follows
abbrev pub Stand : Table → List ℕ → ℕ → Type 0
Stand t a i = Closed t a × (1 ≤ follows_of t i → In (follows_of t i) a)

module _ (t : Table) where
  pub closed_same : (a b : List ℕ) → Same a b → Closed t a → Closed t b
  closed_same a b s c x i w = omega (arith, s (follows_of t x), c x (omega (arith, s x)) w)

  pub stand_same : (a b : List ℕ) (i : ℕ) → Same a b → Stand t a i → Stand t b i
  stand_same a b i s c = (closed_same a b s c.0, λ w. omega (arith, s (follows_of t i), c.1 w))

  -- with row i they are such a list again
  pub stand_closed : (a : List ℕ) (i : ℕ) → Stand t a i → Closed t (a ++ (i ∷ []))
  stand_closed a i c x j w =
      by_eqb x i
      (λ _ q. rw q (omega (arith, count_append (follows_of t i) a (i ∷ []), c.1 (rw q at w))))
      (λ e q. let alone : count x (i ∷ []) ≡ 0 = rw e in
      omega (arith, count_append (follows_of t x) a (i ∷ []), c.0 x (omega (arith, count_append x a (i ∷ []))) w))

-- all rows of a table, in whatever order
pub rows_closed : (t : Table) → TableFacts t → (l : List ℕ) → Same l (rows_of t) → Closed t l
rows_closed t f l s x i some =
    omega (arith, s (follows_of t x), in_rows t (follows_of t x) (followed_row_lem t f x (rows_in_lem t x (omega (arith, s x))) some))

module _ (t : Table) (f : TableFacts t) (s : State) (a : List ℕ) (rows : (x : ℕ) → In x a → Row t x) (closed : Closed t a) where
  -- a row of the list that may run
  record Free : Type 0 where
    row : ℕ
    among : In row a
    ready : is_ready t s row ≡ true

  -- from a row that waits to the one that it follows, which has a lower number and was released no later
  free_below : (n x : ℕ) → x ≤ n → In x a → is_pending t s x ≡ true → Free
  free_below zero x h i e = absurd (omega (arith, (rows x i).from))
  free_below (suc n) x h i e =
      let p = pending_is t s x e in
      by-waiting t s x
      (λ _ some still. let w = follows_of t x in
      let j = closed x i some in
      free_below n w (omega (arith, f.lower x p.row some)) j
      (is_pending_lem t s w (rows w j) (omega (arith, f.earlier x p.row some, p.released)) still))
      (λ d _. record { row = x; among = i; ready = is_ready_lem t s x e d })

  -- where a row of the list is released and open, the slot goes to one of the list
  pub chosen_above : (b : List ℕ) (x : ℕ) → In x a → is_pending t s x ≡ true → In (chosen t (a ++ b) s) a
  unfolding chosen
  chosen_above b x i e = let r = free_below x x (omega arith) i e in first_above (is_ready t s) a b r.row r.among r.ready
