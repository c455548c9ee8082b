-- The row of least slack, as a loop over the rows finds it.
use Rattle.std.specs.Prelude.{ℕ, suc, ◌+◌, ◌-◌, ◌^◌, ◌≤◌, ◌<◌, Bool, true, false, cond, ◌≡◌, refl, List, [], ◌∷◌, map, ℤ, pos, ◌-ℤ◌, get_or}
use Rattle.std.proofs.Common.{sym, ap, ap₂, ◌∙◌, arith}
use Rattle.std.specs.Int.Signed.{lt_z}
use Rattle.rules.specs.declared.Table.{Table}
use Rattle.rules.specs.Lists.{rows_to}
use Rattle.rules.specs.Rows.{at, rows_of}
use Rattle.rules.specs.Worst.{slack}
use Rattle.rules.specs.Choice.{padded}
use Rattle.rules.specs.Judge.{least_slack, tightest}
use Rattle.theory.specs.Counts.{In, in_head, in_tail}
use Rattle.theory.specs.Facts.{Row, is_row_lem, rows_in_lem, facts}
use Rattle.theory.proofs.Promised.{slack_is}
use Rattle.theory.specs.Promised.{latest}
use Rattle.theory.proofs.Results.{latest_bound}
use Rattle.theory.specs.Tests.{by_bool}
use Rattle.sweep.specs.Padded.{padded_at}
use Rattle.sweep.specs.Sorts.{rows_from, rows_all}
use Rattle.judge.specs.Checked.{Checked}
use Rattle.judge.specs.Late.{tightest_row}

-- the slack of row i, in slots, off columns of deadlines and of the clocks that slacks count from
abbrev pub slack_in : List ℕ → List ℕ → ℕ → ℤ
slack_in deadline clock i = pos (at deadline i) -ℤ pos (at clock i)

-- row k + 1 is at index k
pub slack_next : (deadline clock : List ℕ) (k : ℕ) (z : ℤ) → z ≡ pos (get_or deadline k 0) -ℤ pos (get_or clock k 0) → z ≡ slack_in deadline clock (k + 1)
slack_next deadline clock k z e = let w : k + 1 - 1 ≡ k = omega arith in rw w e

-- the row of least slack s among row b and the rows of the list, which come after it
abbrev pub least_by : (ℕ → ℤ) → ℕ → List ℕ → ℕ
least_by s b [] = b
least_by s b (i ∷ is) = least_by s (cond (lt_z (s i) (s b)) i b) is

module _ (s : ℕ → ℤ) (n : ℕ) where
  -- the rows from row k + 1 on are left to compare with row b
  abbrev pub least_from : ℕ → ℕ → ℕ
  least_from b k = least_by s b (rows_from (k + 1) (n - k))

  step : (k : ℕ) → k < n → rows_from (k + 1) (n - k) ≡ (k + 1) ∷ rows_from (k + 1 + 1) (n - (k + 1))
  step k h =
      let e : n - k ≡ suc (n - (k + 1)) = omega arith in
      let w : suc (k + 1) ≡ k + 1 + 1 = omega arith in
      rw (e, w)

  itself : (b : Bool) → ◌≡◌ {A = ℕ} (cond b 1 1) 1
  itself true = refl
  itself false = refl

  -- row 1 is no tighter than itself
  pub least_start : 1 ≤ n → least_from 1 1 ≡ least_by s 1 (rows_to n)
  least_start h =
      let e = step 0 h in
      let z : n - 0 ≡ n = omega arith in
      sym (ap (least_by s 1) (sym (rows_all n)) ∙ rw z at (ap (least_by s 1) e) ∙ ap (λ (b : ℕ). least_from b 1) (itself (lt_z (s 1) (s 1))))

  -- one row further: it is tighter, or it is not
  module _ (b k : ℕ) (h : k < n) where
    abbrev later : ℕ → ℕ
    later x = least_from x (k + 1)

    pub least_on : (b' : ℕ) → lt_z (s (k + 1)) (s b) ≡ true → b' ≡ k + 1 → least_from b' (k + 1) ≡ least_from b k
    least_on b' e q = ap later (q ∙ sym (ap (λ (x : Bool). cond x (k + 1) b) e)) ∙ sym (ap (least_by s b) (step k h))

    pub least_off : (b' : ℕ) → lt_z (s (k + 1)) (s b) ≡ false → b' ≡ b → least_from b' (k + 1) ≡ least_from b k
    least_off b' e q = ap later (q ∙ sym (ap (λ (x : Bool). cond x (k + 1) b) e)) ∙ sym (ap (least_by s b) (step k h))

  pub least_end : (b k : ℕ) → n ≤ k → least_from b k ≡ b
  least_end b k h = let e : n - k ≡ 0 = omega arith in rw e

-- slacks that are the rows' own
least_agree : (t : Table) (o : List ℕ) (s : ℕ → ℤ) (b : ℕ) (l : List ℕ) → s b ≡ slack t o b → ((x : ℕ) → In x l → s x ≡ slack t o x)
    → least_by s b l ≡ least_slack t o b l
least_agree t o s b [] e h = refl
least_agree t o s b (i ∷ l) e h =
    ap (λ (x : Bool). least_by s (cond x i b) l) (ap₂ lt_z (h i (in_head i l)) e)
    ∙ by_bool (lt_z (slack t o i) (slack t o b))
    (λ q. rw q (least_agree t o s i l (h i (in_head i l)) (λ x j. h x (in_tail x i l j))))
    (λ q. rw q (least_agree t o s b l e (λ x j. h x (in_tail x i l j))))

module _ (t : Table) (o : List ℕ) (c : Checked t o) (clock : List ℕ) (f : clock ≡ padded (map (latest t o) (rows_of t))) where
  clock_at : (i : ℕ) → Row t i → at clock i ≡ latest t o i
  clock_at i r = rw f (padded_at (latest t o) t.n i r.from r.up_to (facts t c.accepted).few)

  slack_at : (i : ℕ) → Row t i → slack_in t.deadline clock i ≡ slack t o i
  slack_at i r = rw (clock_at i r) (sym (slack_is t o i))

  -- deadlines and those clocks, in slots, are small
  pub slack_small : (k : ℕ) → k < t.n → (get_or t.deadline k 0 < 2 ^ 31) × (get_or clock k 0 < 2 ^ 31)
  slack_small k h =
      let r : Row t (suc k) = record { from = omega arith; up_to = h } in
      let w : suc k - 1 ≡ k = omega arith in (
        omega (arith, rw w at ((facts t c.accepted).row (suc k) r).soon),
        omega (arith, rw w at (clock_at (suc k) r), latest_bound t c.accepted o c.order (suc k) (is_row_lem t (suc k) r)),
      )

  pub least_is : least_by (slack_in t.deadline clock) 1 (rows_of t) ≡ tightest t o
  unfolding tightest
  least_is = least_agree t o (slack_in t.deadline clock) 1 (rows_of t)
      (slack_at 1 (record { from = omega arith; up_to = (facts t c.accepted).some }))
      (λ x j. slack_at x (rows_in_lem t x j))

  pub least_slack_lem : slack_in t.deadline clock (tightest t o) ≡ slack t o (tightest t o)
  least_slack_lem = slack_at (tightest t o) (tightest_row t o (facts t c.accepted).some)
