-- The clock's look through a column of closing slots (rule 19.2), row by row: what the code's loop does, and the entries after the last row.
use Rattle.std.specs.Prelude.{ℕ, zero, suc, ◌+◌, ◌≤◌, ◌<◌, Bool, true, false, cond, ◌&&◌, List, [], ◌∷◌, ◌++◌, ◌≡◌, refl, eqb, length, get_or, set, take, drop}
use Rattle.std.proofs.Common.{ap, ◌∙◌, arith, add-one, take-append-drop, drop-cons, take-suc-set, drop-set-lt, eq-eqb}
use Rattle.std.proofs.Math.Seq.{append_snoc}
use Rattle.std.proofs.lemmas.List.{set-get_or}
use Rattle.rules.specs.Rows.{at}
use Rattle.rules.specs.Running.{closed_from}
use Rattle.theory.specs.Late.{closed_at}
use Rattle.theory.specs.Tests.{and_false}
use Rattle.columns.specs.Figures.{looked, due_at, due_row}

module _ (p : ℕ → Bool) (u : ℕ) where
  -- rows whose numbers no test passes keep their closing slots
  pub closed_beyond : (i : ℕ) (ks : List ℕ) → ((j : ℕ) → i < j → p j ≡ false) → closed_from p u (i + 1) ks ≡ ks
  closed_beyond i [] h = refl
  closed_beyond i (k ∷ ks) h = rw (h (i + 1) (omega arith), and_false (eqb k 0), closed_beyond (i + 1) ks (λ j l. h j (omega arith)))

  -- the look from row i on, past m rows, is the look from row m + i on
  pub closed_past : (m i : ℕ) (ks : List ℕ) → drop m (closed_from p u i ks) ≡ closed_from p u (m + i) (drop m ks)
  closed_past zero i ks = let e : i ≡ zero + i = omega arith in ap (λ (j : ℕ). closed_from p u j ks) e
  closed_past (suc m) i [] = refl
  closed_past (suc m) i (k ∷ ks) = let e : m + (i + 1) ≡ suc m + i = omega arith in closed_past m (i + 1) ks ∙ ap (λ (j : ℕ). closed_from p u j (drop m ks)) e

  -- the entries after the first n stay where the test passes for no number above n
  pub closed_drop : (n : ℕ) (ks : List ℕ) → ((j : ℕ) → n < j → p j ≡ false) → drop n (closed_from p u 1 ks) ≡ drop n ks
  closed_drop n ks h = closed_past n 1 ks ∙ closed_beyond n (drop n ks) h

  -- the first i rows looked at, and the look from there on
  abbrev pub looked_to : ℕ → List ℕ → List ℕ
  looked_to i ks = take i ks ++ closed_from p u (i + 1) (drop i ks)

  -- one row more, with the closing slot that the look gives it
  pub looked_on : (i : ℕ) (ks : List ℕ) → i < length ks
      → looked_to (i + 1) (set ks i (cond (eqb (get_or ks i 0) 0 && p (i + 1)) u (get_or ks i 0))) ≡ looked_to i ks
  looked_on i ks h =
      let v = cond (eqb (get_or ks i 0) 0 && p (suc i)) u (get_or ks i 0) in
      rw (add-one i)
      (rw (take-suc-set ks i v h, drop-set-lt (suc i) ks i v (omega arith))
      (append_snoc (take i ks) v (closed_from p u (suc i + 1) (drop (suc i) ks)) ∙ rw (drop-cons ks i 0 h)))

  -- so an open row that passes the test is closed with the clock, and every other stays
  pub looked_closed : (i : ℕ) (ks : List ℕ) → i < length ks → get_or ks i 0 ≡ 0 → p (i + 1) ≡ true → looked_to (i + 1) (set ks i u) ≡ looked_to i ks
  looked_closed i ks h z e = rw (eq-eqb (get_or ks i 0) 0 z, e) at (looked_on i ks h)

  pub looked_left : (i : ℕ) (ks : List ℕ) → i < length ks → eqb (get_or ks i 0) 0 && p (i + 1) ≡ false → looked_to (i + 1) ks ≡ looked_to i ks
  looked_left i ks h e = rw (e, set-get_or ks i 0) at (looked_on i ks h)

  -- where the test passes for no number above i, no row is left to look at
  pub looked_all : (i : ℕ) (ks : List ℕ) → ((j : ℕ) → i < j → p j ≡ false) → looked_to i ks ≡ ks
  looked_all i ks h = rw (closed_beyond i (drop i ks) h) (take-append-drop i ks)

-- what the look makes of row i's closing slot
pub looked_row : (n u : ℕ) (deadline level ks : List ℕ) (i : ℕ) → 1 ≤ i → i ≤ n → i ≤ length ks
    → at (closed_from (due_at n u deadline level) u 1 ks) i ≡ looked (at deadline i) (at level i) u (at ks i)
looked_row n u deadline level ks i l h s = closed_at (due_at n u deadline level) u ks i l s ∙ rw (due_row n u deadline level i l h)
