-- If any row has a slack below zero, the row of least slack has.
use Rattle.std.specs.Prelude.{ℕ, ◌≤◌, Bool, true, false, ◌≡◌, refl, List, [], ◌∷◌, ℤ, pos, negsuc}
use Rattle.std.proofs.Common.{arith, ltb-true}
use Rattle.std.specs.Int.Signed.{lt_z}
use Rattle.rules.specs.declared.Table.{Table}
use Rattle.rules.specs.Rows.{rows_of}
use Rattle.rules.specs.Worst.{slack}
use Rattle.rules.specs.Judge.{least_slack, tightest}
use Rattle.theory.specs.Tests.{by_bool, by_eqb}
use Rattle.theory.specs.Counts.{In, in_head, in_tail}
use Rattle.theory.specs.Facts.{Row, rows_in_lem}

-- what is below a number below zero is below zero
below : (a b : ℤ) → lt_z a b ≡ true → lt_z b (pos 0) ≡ true → lt_z a (pos 0) ≡ true
below (pos a) (pos b) e f = absurd (omega (arith, ltb-true b 0 f))
below (pos a) (negsuc b) e f = let z : ◌≡◌ {A = ℕ} 0 1 = cc in absurd (omega arith)
below (negsuc a) b e f = refl

-- what is not above a number below zero is below zero
not_above : (a b : ℤ) → lt_z a b ≡ false → lt_z a (pos 0) ≡ true → lt_z b (pos 0) ≡ true
not_above (pos a) b e f = absurd (omega (arith, ltb-true a 0 f))
not_above (negsuc a) (pos b) e f = let z : ◌≡◌ {A = ℕ} 0 1 = cc in absurd (omega arith)
not_above (negsuc a) (negsuc b) e f = refl

module _ (t : Table) (o : List ℕ) where
  -- a slack below zero, in slots
  abbrev pub late : ℕ → Bool
  late i = lt_z (slack t o i) (pos 0)

  stays_late : (b : ℕ) (l : List ℕ) → late b ≡ true → late (least_slack t o b l) ≡ true
  stays_late b [] h = h
  stays_late b (i ∷ l) h =
      by_bool (lt_z (slack t o i) (slack t o b))
      (λ e. rw e (stays_late i l (below (slack t o i) (slack t o b) e h)))
      (λ e. rw e (stays_late b l h))

  late_among : (b : ℕ) (l : List ℕ) (x : ℕ) → In x l → late x ≡ true → late (least_slack t o b l) ≡ true
  late_among b [] x j h = absurd (omega arith)
  late_among b (i ∷ l) x j h =
      by_eqb x i
      (λ _ q. let g : late i ≡ true = rw q at h in
      by_bool (lt_z (slack t o i) (slack t o b))
      (λ e. rw e (stays_late i l g))
      (λ e. rw e (stays_late b l (not_above (slack t o i) (slack t o b) e g))))
      (λ e q. by_bool (lt_z (slack t o i) (slack t o b))
      (λ f. rw f (late_among i l x (rw e at j) h))
      (λ f. rw f (late_among b l x (rw e at j) h)))

  pub late_tightest : (x : ℕ) → In x (rows_of t) → late x ≡ true → late (tightest t o) ≡ true
  unfolding tightest
  late_tightest x j h = late_among 1 (rows_of t) x j h

  least_row : (b : ℕ) (l : List ℕ) → Row t b → ((x : ℕ) → In x l → Row t x) → Row t (least_slack t o b l)
  least_row b [] r h = r
  least_row b (i ∷ l) r h =
      by_bool (lt_z (slack t o i) (slack t o b))
      (λ e. rw e (least_row i l (h i (in_head i l)) (λ x j. h x (in_tail x i l j))))
      (λ e. rw e (least_row b l r (λ x j. h x (in_tail x i l j))))

  -- the row of least slack is a row of the table
  pub tightest_row : 1 ≤ t.n → Row t (tightest t o)
  unfolding tightest
  tightest_row h = least_row 1 (rows_of t) (record { from = omega arith; up_to = h }) (λ x j. rows_in_lem t x j)
