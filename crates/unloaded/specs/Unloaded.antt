-- What the rules said before jobs could load (rule 1.10): needs without loading, slots that all bring their supply, and no check 11; and no promised parts,
-- which came later. Everything else of those rules stands in the crate unwaited, which takes this as the time that it speaks of. None of K, r and w is
-- looked at.
use Rattle.std.specs.Prelude.{ℕ, ◌+◌, ◌-◌, ◌/◌, true, false}
use Rattle.unwaited.specs.Unwaited.{Past}

-- need: the work divided by the speed, rounded up, in slots
unfoldable pub need : ℕ → ℕ → ℕ
need c s = (c + (s - 1)) / s

abbrev pub without : Past
without = record { need = λ k c s. need c s; brought = λ k u v. v; fits = λ k. true; promises = false }
