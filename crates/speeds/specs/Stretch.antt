-- The first speed of a stretch that passes a test: how it is known, and what is known of it.
use Rattle.std.specs.Prelude.{ℕ, zero, suc, ◌+◌, ◌≤◌, ◌<◌, Bool, true, false, ◌≡◌, refl}
use Rattle.std.proofs.Common.{arith}
use Rattle.rules.specs.Lists.{first}
use Rattle.searches.specs.Speeds.{speeds_from}
use Rattle.theory.specs.Tests.{by_bool, by_eqb}

-- none passes
pub first_none : (p : ℕ → Bool) (k s : ℕ) → ((q : ℕ) → s ≤ q → q < s + k → p q ≡ false) → first p (speeds_from k s) ≡ 0
first_none p zero s h = refl
first_none p (suc k) s h = rw (h s (omega arith) (omega arith), first_none p k (s + 1) (λ q a b. h q (omega arith) (omega arith)))

-- r passes, and none before it
pub first_at : (p : ℕ → Bool) (k s r : ℕ) → s ≤ r → r < s + k → p r ≡ true → ((q : ℕ) → s ≤ q → q < r → p q ≡ false) → first p (speeds_from k s) ≡ r
first_at p zero s r from up_to e h = absurd (omega arith)
first_at p (suc k) s r from up_to e h =
    by_eqb s r
    (λ _ q. rw (q, e))
    (λ _ q. rw (h s (omega arith) (omega arith)) (first_at p k (s + 1) r (omega arith) (omega arith) e (λ x a b. h x (omega arith) b)))

-- where the answer is 0, none of the stretch passes
pub none_first : (p : ℕ → Bool) (k s : ℕ) → 1 ≤ s → first p (speeds_from k s) ≡ 0 → (q : ℕ) → s ≤ q → q < s + k → p q ≡ false
none_first p zero s some e q from up_to = absurd (omega arith)
none_first p (suc k) s some e q from up_to =
    by_bool (p s)
    (λ y. absurd (omega (arith, rw y at e)))
    (λ y. by_eqb q s
    (λ _ z. rw z y)
    (λ _ z. none_first p k (s + 1) (omega arith) (rw y at e) q (omega arith) (omega arith)))

-- any other answer is a speed of the stretch that passes, and none before it does
pub record First (p : ℕ → Bool) (k s r : ℕ) : Type 0 where
  pub from : s ≤ r
  pub up_to : r < s + k
  pub passes : p r ≡ true
  pub before : (q : ℕ) → s ≤ q → q < r → p q ≡ false

pub some_first : (p : ℕ → Bool) (k s : ℕ) → (first p (speeds_from k s) ≡ 0 → ⊥) → First p k s (first p (speeds_from k s))
some_first p zero s n = absurd (n refl)
some_first p (suc k) s n =
    by_bool (p s)
    (λ y. rw y (record { from = omega arith; up_to = omega arith; passes = y; before = λ q a b. absurd (omega arith) }))
    (λ y. let r = some_first p k (s + 1) (rw y at n) in
    rw y (record {
      from = omega (arith, r.from);
      up_to = omega (arith, r.up_to);
      passes = r.passes;
      before = λ q a b. by_eqb q s (λ _ z. rw z y) (λ _ z. r.before q (omega arith) b);
    }))
