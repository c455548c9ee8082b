-- Where numbers stand in a list: the first that passes a test, the place of a number, and zeros from a place on.
use Rattle.std.specs.Prelude.{ℕ, zero, suc, ◌+◌, ◌-◌, ◌≤◌, ◌<◌, Bool, true, false, List, [], ◌∷◌, ◌≡◌, refl, length, get_or, take, drop}
use Rattle.std.proofs.Common.{sym, ap, ◌∙◌, arith, length-take, length-drop, take-append-drop, get_or-take, get_or-drop, eq-eqb}
use Rattle.rules.specs.Lists.{all_zero, count, first}
use Rattle.rules.specs.Rows.{at}
use Rattle.theory.specs.Counts.{In, in_entry, count_append}
use Rattle.theory.specs.Tests.{by_bool, by_eqb, by-ltb}
use Rattle.checks.specs.RowLists.{zero_at}

-- ---- the first that passes stands at a place, and none before it passes
pub record FirstAt (p : ℕ → Bool) (xs : List ℕ) (i : ℕ) : Type 0 where
  pub place : ℕ
  pub stands : get_or xs place 0 ≡ i
  pub before : (k : ℕ) → k < place → p (get_or xs k 0) ≡ false

pub first_at : (p : ℕ → Bool) (xs : List ℕ) → (first p xs ≡ 0 → ⊥) → FirstAt p xs (first p xs)
first_at p [] h = absurd (h refl)
first_at p (x ∷ xs) h =
    by_bool (p x)
    (λ e. rw e (record { place = 0; stands = refl; before = λ k l. absurd (omega arith) }))
    (λ e. rw e (later e (first_at p xs (rw e at h))))
  where
    later : p x ≡ false → FirstAt p xs (first p xs) → FirstAt p (x ∷ xs) (first p xs)
    later e f = record { place = suc f.place; stands = f.stands; before = earlier }
      where
        earlier : (k : ℕ) → k < suc f.place → p (get_or (x ∷ xs) k 0) ≡ false
        earlier zero l = e
        earlier (suc k) l = f.before k (omega arith)

-- ---- the place of a number
-- one that stands in a list stands at a place of it
pub entry_of_lem : (l : List ℕ) (i : ℕ) → In i l → (k : ℕ) × (k < length l) × (get_or l k 0 ≡ i)
entry_of_lem [] i h = absurd (omega arith)
entry_of_lem (x ∷ l) i h =
    by_eqb i x
    (λ _ q. (0, omega arith, sym q))
    (λ f _. let p = entry_of_lem l i (rw f at h) in (suc p.0, omega (arith, p.1), p.2))

-- no place after the last holds a number above 0
pub within : (l : List ℕ) (k : ℕ) → 1 ≤ get_or l k 0 → k < length l
within [] k h = absurd (omega arith)
within (x ∷ l) zero h = omega arith
within (x ∷ l) (suc k) h = omega (arith, within l k h)

-- a number that stands in a list once has one place
pub one_place : (l : List ℕ) (p q i : ℕ) → count i l ≡ 1 → 1 ≤ i → get_or l p 0 ≡ i → get_or l q 0 ≡ i → p ≡ q
one_place l p q i once some e f =
    by-ltb p q
    (λ _ h. absurd (apart p q h e f))
    (λ _ h. by-ltb q p (λ _ g. absurd (apart q p g f e)) (λ _ g. omega arith))
  where
    apart : (p q : ℕ) → p < q → get_or l p 0 ≡ i → get_or l q 0 ≡ i → ⊥
    apart p q h e f =
        let long : q < length l = within l q (omega arith) in
        let above : In i (take q l) = rw (get_or-take q l p 0 h, e) at (in_entry (take q l) p (omega (arith, length-take q l))) in
        let here : q + 0 ≡ q = omega arith in
        let below : In i (drop q l) = rw (get_or-drop q l 0 0, here, f) at (in_entry (drop q l) 0 (omega (arith, length-drop q l))) in
        omega (arith, above, below, once, rw (take-append-drop q l) at (count_append i (take q l) (drop q l)))

-- ---- zeros from a place on
pub each_zero : (xs : List ℕ) → ((k : ℕ) → k < length xs → get_or xs k 0 ≡ 0) → all_zero xs ≡ true
each_zero [] h = refl
each_zero (x ∷ xs) h = rw (eq-eqb x 0 (h 0 (omega arith)), each_zero xs (λ k l. h (suc k) (omega arith)))

-- a column of sixty-four entries, after row n
pub tail_each : (xs : List ℕ) (n i : ℕ) → all_zero (drop n xs) ≡ true → n < i → at xs i ≡ 0
tail_each xs n i e h = zero_at xs n (i - 1) e (omega arith)

pub each_tail : (xs : List ℕ) (n : ℕ) → length xs ≡ 64 → ((i : ℕ) → n < i → i ≤ 64 → at xs i ≡ 0) → all_zero (drop n xs) ≡ true
each_tail xs n long h =
    each_zero (drop n xs) (λ k l.
    let e : n + k + 1 - 1 ≡ n + k = omega arith in
    get_or-drop n xs k 0 ∙ ap (λ (j : ℕ). get_or xs j 0) (sym e) ∙ h (n + k + 1) (omega arith) (omega (arith, l, length-drop n xs)))
