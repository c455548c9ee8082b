-- The backlog of a set of rows: the slots of released work that are still to be run, whatever the order.
use Rattle.std.specs.Prelude.{ℕ, zero, suc, ◌+◌, ◌-◌, ◌≤◌, ◌<◌, ◌≡◌, List, eqb}
use Rattle.std.proofs.Common.{arith}
use Rattle.rules.specs.Lists.{sum}
use Rattle.theory.specs.Tests.{gate, by-ltb}
use Rattle.theory.specs.Counts.{Within, Same, sum_within, sum_same}

-- f u slots of work arrive with slot u, and each slot runs one
abbrev pub backlog : (ℕ → ℕ) → ℕ → ℕ
backlog f zero = 0
backlog f (suc u) = backlog f u + f u - 1

-- more work, more backlog
pub backlog_mono : (f g : ℕ → ℕ) → ((u : ℕ) → f u ≤ g u) → (u : ℕ) → backlog f u ≤ backlog g u
backlog_mono f g h zero = omega arith
backlog_mono f g h (suc u) = omega (arith, backlog_mono f g h u, h u)

pub backlog_same : (f g : ℕ → ℕ) → ((u : ℕ) → f u ≡ g u) → (u : ℕ) → backlog f u ≡ backlog g u
backlog_same f g h u = omega (arith, backlog_mono f g (λ v. omega (arith, h v)) u, backlog_mono g f (λ v. omega (arith, h v)) u)

-- k is the first clock after a at which nothing is left
pub record Finish (f : ℕ → ℕ) (a k : ℕ) : Type 0 where
  pub after : a < k
  pub clear : backlog f k ≡ 0
  pub least : (u : ℕ) → a < u → u < k → 0 < backlog f u

pub finish_same : (f g : ℕ → ℕ) → ((u : ℕ) → f u ≡ g u) → (a k : ℕ) → Finish f a k → Finish g a k
finish_same f g h a k p =
    record {
      after = p.after;
      clear = omega (arith, p.clear, backlog_same f g h k);
      least = λ u q r. omega (arith, p.least u q r, backlog_same f g h u);
    }

-- a finish is not after any clock after a at which nothing is left
pub finish_first : (f : ℕ → ℕ) (a k m : ℕ) → Finish f a k → a < m → backlog f m ≡ 0 → k ≤ m
finish_first f a k m p h z = by-ltb m k (λ e q. absurd (omega (arith, p.least m h q))) (λ e q. q)

pub finish_only : (f : ℕ → ℕ) (a k m : ℕ) → Finish f a k → Finish f a m → k ≡ m
finish_only f a k m p q = omega (arith, finish_first f a k m p q.after q.clear, finish_first f a m k q p.after p.clear)

-- the work that the rows of a list bring with slot u: row x brings cap x slots with its release
module _ (rel cap : ℕ → ℕ) where
  abbrev pub brings : ℕ → ℕ → ℕ
  brings u x = gate (eqb (rel x) u) (cap x)

  abbrev pub arrivals : List ℕ → ℕ → ℕ
  arrivals l u = sum (brings u) l

  pub arrivals_within : (a b : List ℕ) → Within a b → (u : ℕ) → backlog (arrivals a) u ≤ backlog (arrivals b) u
  arrivals_within a b h u = backlog_mono (arrivals a) (arrivals b) (λ v. sum_within (brings v) a b h) u

  pub finish_set : (a b : List ℕ) → Same a b → (r k : ℕ) → Finish (arrivals a) r k → Finish (arrivals b) r k
  finish_set a b h r k p = finish_same (arrivals a) (arrivals b) (λ u. sum_same (brings u) a b h) r k p
