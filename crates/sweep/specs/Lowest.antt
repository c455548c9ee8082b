-- The lowest row of a word: the number of its lowest set bit, counted from 1.
use Rattle.std.specs.Prelude.{ℕ, zero, suc, ◌+◌, ◌-◌, ◌/◌, ◌%◌, ◌^◌, ◌≤◌, ◌<◌, ◌≡◌}
use Rattle.std.proofs.Math.Path.{ap}
use Rattle.std.proofs.Common.{◌∙◌, pow-suc}
use native.Mathlib.Omega.{arith}
use Rattle.std.proofs.Math.Arith.{lt-one}
use Rattle.std.specs.Int.Count.{count_trailing_zeros, under}
use Rattle.theory.specs.Tests.{by-ltb}
use Rattle.sweep.specs.Masks.{bit, bit_zero, bit_suc, above}

-- the lowest row of a word, 65 of a word of none
unfoldable pub lowest_of : ℕ → ℕ
lowest_of m = count_trailing_zeros 64 m + 1

-- an even number has one zero more than its half, an odd one none

even_zeros : (k m : ℕ) → m % 2 ≡ 0 → count_trailing_zeros (suc k) m ≡ suc (count_trailing_zeros k (m / 2))
unfolding count_trailing_zeros
even_zeros k m e = ap (λ (d : ℕ). under d (count_trailing_zeros k (m / 2))) e

odd_zeros : (k m : ℕ) → m % 2 ≡ 1 → count_trailing_zeros (suc k) m ≡ 0
unfolding count_trailing_zeros
odd_zeros k m e = ap (λ (d : ℕ). under d (count_trailing_zeros k (m / 2))) e

-- the bit above the zeros is set, and it is one of the k
zeros_set : (k m : ℕ) → 1 ≤ m → m < 2 ^ k → bit m (count_trailing_zeros k m) ≡ 1
zeros_set zero m h l = absurd (omega (arith, lt-one l))
zeros_set (suc k) m h l =
    by-ltb (m % 2) 1
    (λ _ q. let e = even_zeros k m (omega arith) in
    ap (bit m) e ∙ bit_suc m (count_trailing_zeros k (m / 2)) ∙ zeros_set k (m / 2) (omega arith) (omega (arith, pow-suc 2 k)))
    (λ _ q. let e = odd_zeros k m (omega arith) in ap (bit m) e ∙ bit_zero m ∙ omega arith)

-- a number that ends in zeros is even
even : (k m j : ℕ) → j < count_trailing_zeros (suc k) m → m % 2 ≡ 0
even k m j h = by-ltb (m % 2) 1 (λ _ q. omega arith) (λ _ q. absurd (omega (arith, odd_zeros k m (omega arith))))

-- no bit below is set
zeros_clear : (k m j : ℕ) → j < count_trailing_zeros k m → bit m j ≡ 0
unfolding count_trailing_zeros
zeros_clear zero m j h = absurd (omega arith)
zeros_clear (suc k) m zero h = bit_zero m ∙ even k m zero h
zeros_clear (suc k) m (suc j) h = bit_suc m j ∙ zeros_clear k (m / 2) j (omega (arith, even_zeros k m (even k m (suc j) h)))

module _ (m : ℕ) (some : 1 ≤ m) (small : m < 2 ^ 64) where
  pub lowest_set : bit m (lowest_of m - 1) ≡ 1
  unfolding lowest_of
  lowest_set =
      let e : count_trailing_zeros 64 m + 1 - 1 ≡ count_trailing_zeros 64 m = omega arith in
      ap (bit m) e ∙ zeros_set 64 m some small

  pub lowest_clear : (j : ℕ) → j < lowest_of m - 1 → bit m j ≡ 0
  unfolding lowest_of
  lowest_clear j h = zeros_clear 64 m j (omega arith)

  pub lowest_from : 1 ≤ lowest_of m
  unfolding lowest_of
  lowest_from = omega arith

  -- a word of the first k rows has its lowest among them
  pub lowest_within : (k : ℕ) → m < 2 ^ k → lowest_of m ≤ k
  lowest_within k l =
      by-ltb k (lowest_of m)
      (λ _ q. absurd (omega (arith, lowest_set, above k (lowest_of m - 1) m l (omega arith))))
      (λ _ q. q)

  pub lowest_upto : lowest_of m ≤ 64
  lowest_upto = lowest_within 64 small
