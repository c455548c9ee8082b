-- Case analysis on a test, and what passed tests say.
use Rattle.std.specs.Prelude.{ℕ, ◌≤◌, ◌<◌, Bool, true, false, not, ◌&&◌, ◌≡◌, refl, ltb, leb, eqb}
use Rattle.std.proofs.Common.{◌∙◌, sym, arith, ltb-true, ltb-false, leb-true, leb-false, eqb-true}
use Rattle.std.proofs.lemmas.Bool.{eqb-false}

-- n where the test passes, 0 where it fails
abbrev pub gate : Bool → ℕ → ℕ
gate true n = n
gate false n = 0

pub by_bool {ℓ} : {P : Type ℓ} (b : Bool) → (b ≡ true → P) → (b ≡ false → P) → P
by_bool true f g = f refl
by_bool false f g = g refl

pub by-ltb {ℓ} : {P : Type ℓ} (a b : ℕ) → (ltb a b ≡ true → a < b → P) → (ltb a b ≡ false → b ≤ a → P) → P
by-ltb a b f g = by_bool (ltb a b) (λ e. f e (ltb-true a b e)) (λ e. g e (ltb-false a b e))

pub by-leb {ℓ} : {P : Type ℓ} (a b : ℕ) → (leb a b ≡ true → a ≤ b → P) → (leb a b ≡ false → b < a → P) → P
by-leb a b f g = by_bool (leb a b) (λ e. f e (leb-true a b e)) (λ e. g e (leb-false a b e))

pub by_eqb {ℓ} : {P : Type ℓ} (a b : ℕ) → (eqb a b ≡ true → a ≡ b → P) → (eqb a b ≡ false → (a ≡ b → ⊥) → P) → P
by_eqb a b f g = by_bool (eqb a b) (λ e. f e (eqb-true a b e)) (λ e. g e (eqb-false a b e))

-- two tests that pass for one another are the same
pub both_ways : (a b : Bool) → (a ≡ true → b ≡ true) → (b ≡ true → a ≡ true) → a ≡ b
both_ways true b f g = sym (f refl)
both_ways false true f g = g refl
both_ways false false f g = refl

pub not_both : (b : Bool) → b ≡ true → b ≡ false → ⊥
not_both b p q = let z : ◌≡◌ {A = ℕ} 0 1 = cc in omega arith

pub and_left : (a b : Bool) → a && b ≡ true → a ≡ true
and_left true b e = refl
and_left false b e = e

pub and_right : (a b : Bool) → a && b ≡ true → b ≡ true
and_right true b e = e
and_right false b e = absurd (not_both false e refl)

pub and_both : (a b : Bool) → a ≡ true → b ≡ true → a && b ≡ true
and_both true b p q = q
and_both false b p q = p

pub not_is : (b : Bool) → not b ≡ true → b ≡ false
not_is true e = absurd (not_both false e refl)
not_is false e = refl

pub is_not : (b : Bool) → not b ≡ false → b ≡ true
is_not true e = refl
is_not false e = sym e

pub and_true : (a : Bool) → a && true ≡ a
and_true true = refl
and_true false = refl

pub and_false : (a : Bool) → a && false ≡ false
and_false true = refl
and_false false = refl

pub and_assoc : (a b c : Bool) → a && b && c ≡ a && (b && c)
and_assoc true b c = refl
and_assoc false b c = refl

-- what a flag is where code joins two tests: the second test where the first passed, else the first
pub both : (a b f : Bool) → a ≡ true → f ≡ b → f ≡ a && b
both a b f p q = rw p q

pub neither : (a b f : Bool) → a ≡ false → f ≡ a → f ≡ a && b
neither a b f p q = q ∙ rw p
