-- What a number means, for each of the first twenty-one numbers, and that any other has no meaning.
use Rattle.std.specs.Prelude.{ℕ, zero, suc, ◌+◌, ◌≤◌, ◌≡◌}
use Rattle.std.proofs.Common.{sym, arith}
use Rattle.std.proofs.Math.Path.{ap}
use Rattle.std.proofs.Math.Arith.{lt_of_le-ne}
use Rattle.texts.specs.Quoted.{bytes}
use Rattle.sentences.proofs.Longest.{beyond}
use Rattle.sentences.specs.Sentences.{meanings, words_at, meaning}

-- a number that is none of the k from b on
abbrev pub NoneFrom : ℕ → ℕ → ℕ → Type 0
NoneFrom b zero n = Unit {0}
NoneFrom b (suc k) n = NoneFrom b k n × (n ≡ b + k → ⊥)

-- is not below the next one
from_there : (b k n : ℕ) → b ≤ n → NoneFrom b k n → b + k ≤ n
from_there b zero n l h = omega arith
from_there b (suc k) n l h =
    let e : b + suc k ≡ suc (b + k) = omega arith in
    rw e (lt_of_le-ne (from_there b k n l h.0) (λ z. h.1 (sym z)))

module _ (number : ℕ) where
  pub meaning_is : (k : ℕ) → number ≡ k → meaning number ≡ bytes (words_at meanings k)
  unfolding meaning
  meaning_is k e = ap meaning e

  -- the last that is left of numbers from b to b + k
  pub meaning_last : (b k : ℕ) → b ≤ number → number ≤ b + k → NoneFrom b k number → meaning number ≡ bytes (words_at meanings (b + k))
  meaning_last b k l u h = meaning_is (b + k) (omega (arith, from_there b k number l h))

  pub meaning_none : 14 ≤ number → NoneFrom 14 7 number → meaning number ≡ bytes "a number without a meaning"
  unfolding meaning
  meaning_none l h = ap bytes (beyond meanings number (from_there 14 7 number l h))

  -- the same of a number that is none of the twenty-one from 0 on
  pub meaning_beyond : NoneFrom 0 21 number → meaning number ≡ bytes "a number without a meaning"
  unfolding meaning
  meaning_beyond h = ap bytes (beyond meanings number (from_there 0 21 number (omega arith) h))
