-- What a search for a speed tells a C caller: its number, the speed in work units per slot and the order (rules 18.4 to 18.6).
use Rattle.std.specs.Prelude.{ℕ, ◌≡◌, List}
use Rattle.std.proofs.Common.{subst}
use Rattle.rules.specs.declared.Searching.{Searching}
use Rattle.rules.specs.Numbers.{searched_number, searched_speed}

abbrev pub SearchTold : Searching → ℕ → ℕ → List ℕ → Type 0
SearchTold searching number speed order =
    (number ≡ searched_number searching.answer) × (speed ≡ searched_speed searching.answer) × (order ≡ searching.order)

-- of whatever equals the search's answer the same is told
pub told_same : (s r : Searching) → s ≡ r → (number speed : ℕ) (order : List ℕ) → SearchTold s number speed order → SearchTold r number speed order
told_same s r e number speed order = subst (λ (x : Searching). SearchTold x number speed order) e
