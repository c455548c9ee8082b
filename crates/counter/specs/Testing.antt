-- Which rows of a word may stand lowest, over columns, as the code asks for it.
use Rattle.std.specs.Prelude.{ℕ, zero, suc, ◌+◌, ◌-◌, ◌^◌, ◌≤◌, ◌<◌, Bool, true, false, cond, ◌&&◌, List, ◌≡◌, take}
use Rattle.std.proofs.Common.{⊎_elim, sym, ap, ◌∙◌, pow-suc, add-one, arith}
use borrow.Author.Tests.{leb-true}
use Rattle.rules.specs.Rows.{at}
use Rattle.theory.specs.Tests.{by_bool, by_eqb, not_both}
use Rattle.sweep.specs.Masks.{bit, bit_lt, is_left, above, set_same, set_other}
use Rattle.sweep.specs.Padded.{zeros, zeros_entry}
use Rattle.sweep.specs.Trials.{trial}
use Rattle.periods.specs.Busy.{row, LeftAt}
use Rattle.periods.specs.Periods.{known_start}
use Rattle.periods.specs.Renewing.{Meets}
use Rattle.periods.specs.Searching.{pass}
use Rattle.periods.specs.Sweeping.{queue_length}
use Rattle.periods.specs.Trying.{Speed, Grouped, Renewed, in_time, part_in_time}

-- the bit of the entry of each row left tells whether the row is in time; other bits tell nothing
abbrev pub AllIn : List ℕ → ℕ → List ℕ → List ℕ → List ℕ → List ℕ → ℕ → ℕ → Type 0
AllIn queue n release deadline cap entry left word =
    (k : ℕ) → LeftAt (is_left left) (take n queue) k
    → bit word (at entry (row (take n queue) k)) ≡ cond (in_time queue n release deadline cap left (row (take n queue) k)) 1 0

-- row i is left, its entry is in the word, and its promised part is in time
abbrev pub stands_in : List ℕ → ℕ → List ℕ → List ℕ → List ℕ → List ℕ → List ℕ → List ℕ → ℕ → ℕ → ℕ → Bool
stands_in queue n release deadline cap promised part entry left word i =
    is_left left i && (is_left word (at entry i + 1) && part_in_time queue n release deadline cap promised part left i)

module _ (p : ℕ → Bool) where
  -- those of the first k rows that pass, as a word
  abbrev pub standing_to : ℕ → ℕ
  standing_to zero = 0
  standing_to (suc k) = cond (p (suc k)) (standing_to k + 2 ^ k) (standing_to k)

  standing_below : (k : ℕ) → standing_to k < 2 ^ k
  standing_below zero = omega arith
  standing_below (suc k) = by_bool (p (suc k)) (λ e. rw e (omega (arith, standing_below k, pow-suc 2 k))) (λ e. rw e (omega (arith, standing_below k, pow-suc 2 k)))

  -- the next row's bit is clear before its turn
  pub standing_clear : (k : ℕ) → bit (standing_to k) k ≡ 0
  standing_clear k = above k k (standing_to k) (standing_below k) (omega arith)

  -- a row that passes has its bit set, another leaves the word as it is
  pub standing_more : (k : ℕ) → p (k + 1) ≡ true → standing_to (k + 1) ≡ standing_to k + 2 ^ (k + 1 - 1)
  standing_more k e =
      let z : k + 1 - 1 ≡ k = omega arith in
      let d : p (suc k) ≡ true = ap p (sym (add-one k)) ∙ e in
      ap standing_to (add-one k) ∙ rw d (ap (λ (j : ℕ). standing_to k + 2 ^ j) (sym z))

  pub standing_same : (k : ℕ) → p (k + 1) ≡ false → standing_to (k + 1) ≡ standing_to k
  standing_same k e = let d : p (suc k) ≡ false = ap p (sym (add-one k)) ∙ e in ap standing_to (add-one k) ∙ rw d

  pub standing_bit : (k i : ℕ) → i < k → bit (standing_to k) i ≡ cond (p (suc i)) 1 0
  standing_bit zero i h = absurd (omega arith)
  standing_bit (suc k) i h =
      by_eqb i k
      (λ _ q. rw q (by_bool (p (suc k)) (λ e. rw e (set_same k (standing_to k) (standing_clear k))) (λ e. rw e (standing_clear k))))
      (λ _ q. let r = standing_bit k i (omega arith) in
      by_bool (p (suc k)) (λ e. rw e (set_other k i (standing_to k) (standing_clear k) q ∙ r)) (λ e. rw e r))

  pub standing_above : (k i : ℕ) → k ≤ i → bit (standing_to k) i ≡ 0
  standing_above k i h = above k i (standing_to k) (standing_below k) h

-- the first sweep, of one busy period that holds all rows, tells of every row whether it is in time
module _ (queue : List ℕ) (n : ℕ) (release deadline cap entry : List ℕ) (left : ℕ) (s : Speed queue n release cap entry) (some : 1 ≤ n) where
  abbrev q : List ℕ
  q = take n queue

  pub all_grouped : Grouped queue n release cap left (zeros 64)
  all_grouped =
      (known_start (λ j. at release j) (λ j. at cap j) (λ j. at deadline j) (λ j. at entry j) (is_left left) q s.queued
      (omega (arith, queue_length queue n release deadline cap entry left s))).groups

  meets : (k : ℕ) → in_time queue n release deadline cap left (row q k) ≡ true
      → Meets (λ j. at release j) (λ j. at cap j) (λ j. at deadline j) (λ j. at entry j) (is_left left) q k
  unfolding in_time
  meets k e = leb-true (trial release cap left (at release (row q k)) 0 q) (at deadline (row q k)) e

  pub all_in : (period : List ℕ) (word : ℕ) → Renewed queue n release deadline cap entry left 0 (zeros 64) period word
      → AllIn queue n release deadline cap entry left word
  all_in period word r k w =
      by_bool (in_time queue n release deadline cap left (row q k))
      (λ e. rw e (⊎_elim
      (λ h. h (meets k e))
      (λ h. absurd (h.1 (zeros_entry 64 (row q k - 1))))
      (r.whole k w)))
      (λ e. rw e (by_eqb (bit word (at entry (row q k))) 1
      (λ _ b. absurd (not_both (in_time queue n release deadline cap left (row q k)) (pass queue n release deadline cap entry left k (r.sound k w b)) e))
      (λ _ b. omega (arith, bit_lt word (at entry (row q k)), b))))
