-- Functions and tests that agree on every number make the same of a list.
use Rattle.std.specs.Prelude.{ℕ, Bool, List, [], ◌∷◌, map, ◌≡◌, refl}
use Rattle.std.proofs.Common.{ap₂}
use Rattle.rules.specs.Lists.{all, first, joined}

pub map_agree : (f g : ℕ → ℕ) → ((x : ℕ) → f x ≡ g x) → (l : List ℕ) → map f l ≡ map g l
map_agree f g h [] = refl
map_agree f g h (x ∷ l) = ap₂ (λ (y : ℕ) (m : List ℕ). y ∷ m) (h x) (map_agree f g h l)

pub joined_agree : (f g : ℕ → List ℕ) → ((x : ℕ) → f x ≡ g x) → (l : List ℕ) → joined f l ≡ joined g l
joined_agree f g h [] = refl
joined_agree f g h (x ∷ l) = rw (h x, joined_agree f g h l)

pub all_agree : (p q : ℕ → Bool) → ((x : ℕ) → p x ≡ q x) → (l : List ℕ) → all p l ≡ all q l
all_agree p q h [] = refl
all_agree p q h (x ∷ l) = rw (h x, all_agree p q h l)

pub first_agree : (p q : ℕ → Bool) → ((x : ℕ) → p x ≡ q x) → (l : List ℕ) → first p l ≡ first q l
first_agree p q h [] = refl
first_agree p q h (x ∷ l) = rw (h x, first_agree p q h l)
