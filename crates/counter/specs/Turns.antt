-- A turn of the counting over what a planning has prepared.
use Rattle.std.specs.Prelude.{ℕ, ◌+◌, ◌-◌, ◌^◌, ◌≤◌, Bool, cond, List, ◌≡◌, length, set}
use Rattle.std.proofs.Common.{◌∙◌, ap, arith, length-set, pow_mono, pow_pos}
use Rattle.std.specs.Int.Bits.{bit_and, bit_or}
use Rattle.rules.specs.declared.Table.{Table}
use Rattle.rules.specs.Checks.{Passed}
use Rattle.rules.specs.Lists.{all_zero}
use Rattle.rules.specs.Tables.{Accepted}
use Rattle.theory.specs.Facts.{facts}
use Rattle.choices.specs.declared.Choices.{Choices}
use Rattle.trials.specs.declared.Trials.{Trials}
use Rattle.trials.specs.Opening.{open_to}
use Rattle.trials.specs.Prepared.{trials_of}
use Rattle.counter.specs.Lowest.{stands_is}
use Rattle.counter.specs.Testing.{AllIn, stands_in, standing_to}
use Rattle.counter.specs.Words.{filled, filled_length, standing_rows, standing_agree}

module _ (t : Table) (accepted : Accepted t) (w : Trials) (prepared : w ≡ trials_of t) where
  -- the rows that the code finds are those that may stand lowest in the word
  pub standing_found : (m all tries normal slow rows : ℕ) (free : Bool) → all ≡ 2 ^ t.n - 1 → free ≡ all_zero t.follows
      → tries ≡ cond free all (open_to t.follows w.entry m all t.n)
      → AllIn w.queue t.n t.release t.deadline w.normal w.entry m normal
      → AllIn w.queue t.n t.release t.deadline w.degraded w.entry m slow
      → rows ≡ standing_to (stands_in w.queue t.n t.release t.deadline w.degraded t.promised w.part w.entry m
      (bit_and tries (bit_or (bit_and normal w.low) (bit_and slow w.high)))) t.n
      → rows ≡ standing_rows t m
  unfolding trials_of
  standing_found m all tries normal slow rows free e q z a b r =
      r ∙ rw prepared (standing_agree _ _ t.n
      (λ i h l. stands_is t accepted m all e tries free q (rw prepared at z) normal slow (rw prepared at a) (rw prepared at b) i (record { from = h; up_to = l })))

-- one row or more has a word other than 0
pub pow_two : (n : ℕ) → 1 ≤ n → 2 ≤ 2 ^ n
pow_two n h = omega (arith, pow_mono {i = 1} {j = n} h)

-- an answer by its counts
pub counts_are : (a b : ℕ) (x y : List ℕ) → a ≡ b → x ≡ y
    → ◌≡◌ {A = Choices} (record { check = Passed; count = a; lowest = x }) (record { check = Passed; count = b; lowest = y })
counts_are a b x y p q = rw (p, q)

-- the words of up to 12 rows have their entries
module _ (t : Table) (accepted : Accepted t) (few : t.n ≤ 12) (all : ℕ) (every : all ≡ 2 ^ t.n - 1) where
  pub words_few : all + 1 ≤ 4096
  words_few = omega (arith, every, pow_mono {i = t.n} {j = 12} few, pow_pos t.n)

  pub words_all : all + 1 ≡ 2 ^ t.n
  words_all = omega (arith, every, pow_pos t.n)

  -- the scratch keeps its length
  pub kept_length : (old scratch : List ℕ) (m : ℕ) → 4096 ≤ length old → m ≤ all + 1 → scratch ≡ filled t (set old 0 1) m → length scratch ≡ length old
  kept_length old scratch m room h e =
      ap length e ∙ filled_length t (facts t accepted) (set old 0 1) m (omega (arith, words_few, length-set old 0 1)) ∙ length-set old 0 1
