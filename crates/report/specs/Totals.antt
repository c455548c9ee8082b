-- The totals of the last line (rule 16.3): over the rows of the table and over the lines of the places they are the same, they have at most
-- eight digits, as all figures have (rule 16.11), and no row has a slack below 0 slots exactly if the order is correct (rule 16.10).
use Rattle.std.specs.Prelude.{◌<◌, ℕ, suc, ◌+◌, ◌≤◌, true, false, ◌≡◌, refl, List, [], ◌∷◌, ◌↔◌, ℤ, pos, nat_abs, get_or}
use Rattle.std.proofs.Common.{◌∙◌, add-one, arith}
use Rattle.std.specs.Int.Signed.{lt_z}
use Rattle.rules.specs.declared.Table.{Table}
use Rattle.rules.specs.Checks.{Passed}
use Rattle.rules.specs.Correct.{Correct}
use Rattle.rules.specs.Judge.{judge_of}
use Rattle.rules.specs.Lists.{rows_to, sum}
use Rattle.rules.specs.Numbers.{verdict_yes}
use Rattle.rules.specs.Orders.{is_order, check_both}
use Rattle.rules.specs.Rows.{at, rows_of, need_of}
use Rattle.rules.specs.Worst.{worst_finish, slack}
use Rattle.texts.specs.Reports.{figure, is_late, needs_of, late_rows}
use Rattle.theory.specs.Counts.{sum_append, sum_part, sum_zero, sum_most}
use Rattle.theory.specs.Facts.{Row, row_is, is_row_lem, in_rows, rows_in_lem, both_accepted, both_order}
use Rattle.theory.specs.Places.{length_rows, place_row, sum_lines}
use Rattle.theory.proofs.Results.{verdict}
use Rattle.theory.specs.Tests.{by_bool}
use Rattle.fields.specs.Figures.{figure_space}
use Rattle.judge.specs.Promise.{promised}
use Rattle.report.specs.Jobs.{late_one, few, need_small, finish_small, slack_small}

-- ---- one line more
sum_more : (f : ℕ → ℕ) (k : ℕ) → sum f (rows_to (k + 1)) ≡ sum f (rows_to k) + f (k + 1)
sum_more f k = rw (add-one k) (sum_append f (rows_to k) (suc k ∷ []) ∙ omega arith)

module _ (t : Table) (o : List ℕ) where
  -- what the lines of the first k places come to
  abbrev pub needs_to : ℕ → ℕ
  needs_to k = sum (λ j. need_of t (at o j)) (rows_to k)

  abbrev pub late_to : ℕ → ℕ
  late_to k = sum (λ j. is_late (slack t o (at o j))) (rows_to k)

  pub needs_more : (k : ℕ) → needs_to (k + 1) ≡ needs_to k + need_of t (at o (k + 1))
  needs_more k = sum_more (λ j. need_of t (at o j)) k

  pub late_more : (k : ℕ) → late_to (k + 1) ≡ late_to k + is_late (slack t o (at o (k + 1)))
  late_more k = sum_more (λ j. is_late (slack t o (at o j))) k

-- ---- all lines, and the rows of the table (rule 16.3)
module _ (t : Table) (o : List ℕ) (order : is_order t o ≡ true) where
  pub needs_of_lines : needs_to t o t.n ≡ needs_of t
  unfolding needs_of
  needs_of_lines = sum_lines t o order (need_of t)

  pub late_of_lines : late_to t o t.n ≡ late_rows t o
  unfolding late_rows
  late_of_lines = sum_lines t o order (λ i. is_late (slack t o i))

-- ---- how large they are
-- at most 64 rows of at most 1,000,016 slots each
module _ (t : Table) (o : List ℕ) (c : check_both t o ≡ Passed) where
  pub needs_most : needs_of t ≤ 64001024
  unfolding needs_of
  needs_most =
      omega (arith, sum_most (need_of t) 1000016 (rows_of t) (λ x i. need_small t o c x (rows_in_lem t x i)), length_rows t.n, few t o c)

  pub late_most : late_rows t o ≤ 64
  unfolding late_rows
  late_most = omega (arith, sum_most (λ i. is_late (slack t o i)) 1 (rows_of t) (λ x i. late_one (slack t o x)), length_rows t.n, few t o c)

-- ---- no row has a slack below 0 slots exactly if the order is correct (rule 16.10)
module _ (t : Table) (o : List ℕ) (c : check_both t o ≡ Passed) where
  in_time_lem : late_rows t o ≡ 0 → (i : ℕ) → Row t i → lt_z (slack t o i) (pos 0) ≡ false
  unfolding late_rows
  in_time_lem z i r =
      by_bool (lt_z (slack t o i) (pos 0))
      (λ e. let one : is_late (slack t o i) ≡ 1 = rw e in absurd (omega (arith, sum_part (λ j. is_late (slack t o j)) i (rows_of t) (in_rows t i r))))
      (λ e. e)

  none_late : ((i : ℕ) → Row t i → lt_z (slack t o i) (pos 0) ≡ false) → late_rows t o ≡ 0
  unfolding late_rows
  none_late h = sum_zero (λ j. is_late (slack t o j)) (rows_of t) (λ x i. rw (h x (rows_in_lem t x i)))

  pub late_none : (late_rows t o ≡ 0) ↔ Correct t o
  late_none =
      let v = verdict t (both_accepted t o c) o (both_order t o c) in
      (λ z. v.1 (λ i r. in_time_lem z i (row_is t i r)), λ k. none_late (λ i r. v.0 k i (is_row_lem t i r)))

  -- and so it is exactly if the judge says yes
  pub late_yes : (late_rows t o ≡ 0) ↔ (verdict_yes (judge_of t o) ≡ true)
  late_yes =
      let j = (promised t o (judge_of t o) refl).exact c in
      (λ z. j.1 (late_none.0 z), λ y. late_none.1 (j.0 y))

-- ---- every figure of a report has at most eight digits, and a space before it (rule 16.11)
pub record Fits (z : ℤ) : Type 0 where
  pub digits : nat_abs z < 100000000
  pub space : get_or (figure z) 0 0 ≡ 32

fits : (z : ℤ) → nat_abs z < 100000000 → Fits z
fits z h = record { digits = h; space = figure_space z h }

module _ (t : Table) (o : List ℕ) (c : check_both t o ≡ Passed) where
  pub line_fits : (k : ℕ) → 1 ≤ k → k ≤ t.n → let i = at o k in Fits (pos k) × Fits (pos i) × Fits (pos (need_of t i)) × Fits (pos (worst_finish t o i)) × Fits (slack t o i)
  line_fits k a b =
      let i = at o k in
      let r = place_row t o (both_order t o c) k a b in
      let n = few t o c in (
        fits (pos k) (omega arith),
        fits (pos i) (omega (arith, r.up_to)),
        fits (pos (need_of t i)) (omega (arith, need_small t o c i r)),
        fits (pos (worst_finish t o i)) (omega (arith, finish_small t o c i r)),
        fits (slack t o i) (slack_small t o c i r),
      )

  pub last_fits : Fits (pos (needs_of t)) × Fits (pos (late_rows t o))
  last_fits = (fits (pos (needs_of t)) (omega (arith, needs_most t o c)), fits (pos (late_rows t o)) (omega (arith, late_most t o c)))
