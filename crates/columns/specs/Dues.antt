-- When the clock may next close a row (rules 19.2, 19.7): the least deadline of the rows that are LO and open.
use Rattle.std.specs.Prelude.{ℕ, zero, suc, ◌+◌, ◌-◌, ◌≤◌, ◌<◌, min, false, cond, ◌&&◌, List, [], ◌∷◌, ◌++◌, ◌≡◌, eqb, get_or}
use Rattle.std.proofs.Math.Path.{refl}
use Rattle.std.proofs.Common.{◌∙◌, arith, add-one, eq-eqb, ne_eqb}
use Rattle.std.proofs.lemmas.Bool.{lt-leb}
use Rattle.rules.specs.Lists.{rows_to, least}
use Rattle.rules.specs.Rows.{at}
use Rattle.theory.specs.Tests.{by_eqb, by-leb, and_false}
use Rattle.columns.specs.Figures.{due_at, due_row, due_beyond}

-- the clock at which a row of this deadline, level and closing slot is due, in slots; one that no clock reaches if it never is
abbrev pub due_clock : ℕ → ℕ → ℕ → ℕ
due_clock deadline level closing = cond (eqb level 0 && eqb closing 0) deadline 4294967295

module _ (deadline level closing : ℕ) where
  pub due_open : level ≡ 0 → closing ≡ 0 → due_clock deadline level closing ≡ deadline
  due_open z e = rw (eq-eqb level 0 z, eq-eqb closing 0 e)

  pub due_high : (level ≡ 0 → ⊥) → due_clock deadline level closing ≡ 4294967295
  due_high h = rw (ne_eqb level 0 h)

  pub due_closed : (closing ≡ 0 → ⊥) → due_clock deadline level closing ≡ 4294967295
  due_closed h = rw (ne_eqb closing 0 h, and_false (eqb level 0))

-- the least of these clocks over the first n rows
unfoldable pub first_due : ℕ → List ℕ → List ℕ → List ℕ → ℕ
first_due n deadline level closing = least (λ i. due_clock (at deadline i) (at level i) (at closing i)) 4294967295 (rows_to n)

least_more : (f : ℕ → ℕ) (b : ℕ) (l : List ℕ) (x : ℕ) → least f b (l ++ (x ∷ [])) ≡ min (least f b l) (f x)
least_more f b [] x = refl
least_more f b (y ∷ l) x = least_more f (min b (f y)) l x

module _ (deadline level : List ℕ) where
  -- one row more
  pub due_more : (closing : List ℕ) (k : ℕ)
      → first_due (suc k) deadline level closing
      ≡ min (first_due k deadline level closing) (due_clock (at deadline (suc k)) (at level (suc k)) (at closing (suc k)))
  unfolding first_due
  due_more closing k = least_more (λ i. due_clock (at deadline i) (at level i) (at closing i)) 4294967295 (rows_to k) (suc k)

  -- row k + 1 stands at index k of each column
  pub due_next : (closing : List ℕ) (k : ℕ)
      → first_due (k + 1) deadline level closing
      ≡ min (first_due k deadline level closing) (due_clock (get_or deadline k 0) (get_or level k 0) (get_or closing k 0))
  due_next closing k = let e : suc k - 1 ≡ k = omega arith in rw (add-one k) (rw e at (due_more closing k))

  -- of none it is a clock that is never reached, and it is never above that
  pub due_none : (closing : List ℕ) → first_due 0 deadline level closing ≡ 4294967295
  unfolding first_due
  due_none closing = refl

  pub due_most : (n : ℕ) (closing : List ℕ) → first_due n deadline level closing ≤ 4294967295
  due_most zero closing = omega (arith, due_none closing)
  due_most (suc k) closing = omega (arith, due_more closing k, due_most k closing)

  -- no row that is LO and open has its deadline before it
  pub due_first : (n : ℕ) (closing : List ℕ) (i : ℕ) → 1 ≤ i → i ≤ n → at level i ≡ 0 → at closing i ≡ 0
      → first_due n deadline level closing ≤ at deadline i
  due_first zero closing i l h z e = absurd (omega arith)
  due_first (suc k) closing i l h z e =
      by_eqb i (suc k)
      (λ _ q.
      let m : first_due (suc k) deadline level closing ≡ min (first_due k deadline level closing) (due_clock (at deadline i) (at level i) (at closing i)) =
      rw q (due_more closing k) in
      omega (arith, due_open (at deadline i) (at level i) (at closing i) z e))
      (λ _ q. omega (arith, due_more closing k, due_first k closing i l (omega arith) z e))

  -- where no more rows are open it is no earlier
  pub due_later : (n : ℕ) (closing closing' : List ℕ) → ((i : ℕ) → 1 ≤ i → i ≤ n → at closing' i ≡ 0 → at closing i ≡ 0)
      → first_due n deadline level closing ≤ first_due n deadline level closing'
  due_later zero closing closing' h = omega (arith, due_none closing, due_none closing')
  due_later (suc k) closing closing' h =
      let now = due_clock (at deadline (suc k)) (at level (suc k)) (at closing (suc k)) in
      let then = due_clock (at deadline (suc k)) (at level (suc k)) (at closing' (suc k)) in
      let before = due_later k closing closing' (λ i l m. h i l (omega arith)) in
      by_eqb (at closing' (suc k)) 0
      (λ _ z. let same : now ≡ then = rw (z, h (suc k) (omega arith) (omega arith) z) in omega (arith, due_more closing k, due_more closing' k))
      (λ _ z.
      let never = due_closed (at deadline (suc k)) (at level (suc k)) (at closing' (suc k)) z in
      omega (arith, due_more closing k, due_more closing' k, due_most k closing))

  -- before it no open row is due (rule 19.7)
  pub not_due : (n clock : ℕ) (closing : List ℕ) → clock < first_due n deadline level closing → (i : ℕ) → 1 ≤ i → at closing i ≡ 0
      → due_at n clock deadline level i ≡ false
  not_due n clock closing early i l e =
      by-leb i n
      (λ _ h.
      due_row n clock deadline level i l h
      ∙ by_eqb (at level i) 0
      (λ q z. rw (q, lt-leb (at deadline i) clock (omega (arith, due_first n closing i l h z e))))
      (λ q _. rw q))
      (λ _ h. due_beyond n clock deadline level i h)
