-- A text for 1, another for 0, and a third for every other value.
use Rattle.std.specs.Prelude.{ℕ, cond, List, ◌≡◌, eqb}
use Rattle.std.proofs.Common.{ne_eqb}

module _ (v : ℕ) (one none other : List ℕ) where
  -- which of the texts it is
  abbrev pub chosen : List ℕ
  chosen = cond (eqb v 1) one (cond (eqb v 0) none other)

  pub for_one : v ≡ 1 → chosen ≡ one
  for_one e = rw e

  pub for_none : v ≡ 0 → chosen ≡ none
  for_none e = rw e

  pub for_other : (v ≡ 1 → ⊥) → (v ≡ 0 → ⊥) → chosen ≡ other
  for_other e f = rw (ne_eqb v 1 e, ne_eqb v 0 f)
