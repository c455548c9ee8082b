-- A number in decimal, one weight more at a time, and how long it is.
use Rattle.std.specs.Prelude.{ℕ, ◌+◌, ◌≤◌, ◌<◌, true, false, List, [], ◌∷◌, ◌++◌, ◌≡◌, refl, length, get_or, take, drop}
use Rattle.std.proofs.Common.{append-nil, sym, ap, ◌∙◌, add-one, arith, length-append, take-append-drop, take-suc}
use Rattle.rules.specs.Lists.{joined}
use Rattle.texts.specs.Fields.{weights}
use Rattle.texts.specs.Decimals.{has_digit, digit_if, decimal}
use Rattle.fields.specs.Lengths.{joined_append}

pub digit_there : (v w : ℕ) → has_digit v w ≡ true → length (digit_if v w) ≡ 1
unfolding digit_if
digit_there v w e = rw e

pub digit_none : (v w : ℕ) → has_digit v w ≡ false → digit_if v w ≡ []
unfolding digit_if
digit_none v w e = rw e

-- ---- what comes of the first i entries of a list, and one entry more
module _ (f : ℕ → List ℕ) (l : List ℕ) where
  pub entry_more : (i : ℕ) → i < length l → joined f (take (i + 1) l) ≡ joined f (take i l) ++ f (get_or l i 0)
  entry_more i h =
      rw (add-one i, take-suc l i 0 h)
      (joined_append f (take i l) (get_or l i 0 ∷ []) ∙ ap (λ (x : List ℕ). joined f (take i l) ++ x) (append-nil (f (get_or l i 0))))

  -- they are no longer than what comes of all
  pub entries_within : (i : ℕ) → length (joined f (take i l)) ≤ length (joined f l)
  entries_within i =
      let e : length (joined f l) ≡ length (joined f (take i l)) + length (joined f (drop i l)) =
      ap (λ (x : List ℕ). length (joined f x)) (sym (take-append-drop i l))
      ∙ ap length (joined_append f (take i l) (drop i l))
      ∙ length-append (joined f (take i l)) (joined f (drop i l)) in
      omega (arith, e)

-- ---- the first two places, and the last eight
pub decimal_split : (v : ℕ) → digit_if v 1000000000 ++ (digit_if v 100000000 ++ joined (digit_if v) weights) ≡ decimal v
unfolding decimal
decimal_split v = refl
