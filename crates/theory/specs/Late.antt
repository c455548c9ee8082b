-- Closing slots once a clock has closed the open rows that pass a test (rule 19.2): entry by entry, and where no open row passes.
use Rattle.std.specs.Prelude.{ℕ, zero, suc, ◌+◌, ◌-◌, ◌≤◌, ◌<◌, Bool, false, cond, ◌&&◌, List, [], ◌∷◌, ◌≡◌, refl, eqb, length, get_or}
use Rattle.std.proofs.Common.{ap, ◌∙◌, arith}
use Rattle.rules.specs.Rows.{at}
use Rattle.rules.specs.Running.{closed_from}
use Rattle.theory.specs.Tests.{by_eqb}

module _ (p : ℕ → Bool) (u : ℕ) where
  pub closed_length : (i : ℕ) (ks : List ℕ) → length (closed_from p u i ks) ≡ length ks
  closed_length i [] = refl
  closed_length i (k ∷ ks) = ap suc (closed_length (i + 1) ks)

  -- the entry of row i + j, where row i is the first of the list
  closed_entry : (i j : ℕ) (ks : List ℕ) → j < length ks → get_or (closed_from p u i ks) j 0 ≡ cond (eqb (get_or ks j 0) 0 && p (i + j)) u (get_or ks j 0)
  closed_entry i j [] h = absurd (omega arith)
  closed_entry i zero (k ∷ ks) h = let e : i ≡ i + 0 = omega arith in ap (λ (m : ℕ). cond (eqb k 0 && p m) u k) e
  closed_entry i (suc j) (k ∷ ks) h =
      let e : i + 1 + j ≡ i + suc j = omega arith in
      closed_entry (i + 1) j ks (omega arith) ∙ ap (λ (m : ℕ). cond (eqb (get_or ks j 0) 0 && p m) u (get_or ks j 0)) e

  -- row i's entry of a whole column
  pub closed_at : (ks : List ℕ) (i : ℕ) → 1 ≤ i → i ≤ length ks → at (closed_from p u 1 ks) i ≡ cond (eqb (at ks i) 0 && p i) u (at ks i)
  closed_at ks i l h =
      let e : 1 + (i - 1) ≡ i = omega arith in
      closed_entry 1 (i - 1) ks (omega arith) ∙ ap (λ (m : ℕ). cond (eqb (at ks i) 0 && p m) u (at ks i)) e

  none_from : (i : ℕ) (ks : List ℕ) → ((j : ℕ) → j < length ks → get_or ks j 0 ≡ 0 → p (i + j) ≡ false) → closed_from p u i ks ≡ ks
  none_from i [] h = refl
  none_from i (k ∷ ks) h =
      let rest = none_from (i + 1) ks (λ j l z. let e : i + 1 + j ≡ i + suc j = omega arith in rw e (h (suc j) (omega arith) z)) in
      by_eqb k 0
      (λ e z. let n : i + 0 ≡ i = omega arith in let q : p i ≡ false = rw n at (h 0 (omega arith) z) in rw (e, q) (ap (λ (l : List ℕ). k ∷ l) rest))
      (λ e z. rw e (ap (λ (l : List ℕ). k ∷ l) rest))

  -- no open row passes: the column stays as it is
  pub closed_none : (ks : List ℕ) → ((i : ℕ) → 1 ≤ i → i ≤ length ks → at ks i ≡ 0 → p i ≡ false) → closed_from p u 1 ks ≡ ks
  closed_none ks h =
      none_from 1 ks (λ j l z. let e : 1 + j - 1 ≡ j = omega arith in h (1 + j) (omega arith) (omega arith) (rw e z))
