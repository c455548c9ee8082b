-- Numbers of a call that checks the room last (rules 11.6, 11.7): 10 is said of the room alone, and any other number is that of the checks
-- before it.
use Rattle.std.specs.Prelude.{ℕ, ◌<◌, ◌≡◌, refl, Ok, Err}
use Rattle.std.proofs.Common.{arith}
use Rattle.rules.specs.Numbers.{refusal_number, check_number}
use Rattle.rules.specs.Tables.{and_then}
use Rattle.texts.specs.Lent.{check_room}
use Rattle.theory.specs.Room.{too_short, long_enough}
use Rattle.theory.specs.Tests.{by-ltb}
use Rattle.rules.specs.Checks.{Check, Passed}

pub ten_is : (c : Check) (size room : ℕ) → (check_number c ≡ 10 → ⊥) → check_number (and_then c (check_room size room)) ≡ 10 → (c ≡ Passed) × (room < size)
unfolding check_number
ten_is (Ok tt) size room n h = (
  refl,
  by-ltb room size (λ _ k. k) (λ _ k. let z : ◌≡◌ {A = ℕ} 0 10 = rw (long_enough size room k) at h in absurd (omega arith)),
)
ten_is (Err r) size room n h = absurd (n h)

pub own_is : (c : Check) (size room : ℕ) → (check_number (and_then c (check_room size room)) ≡ 10 → ⊥) → check_number (and_then c (check_room size room)) ≡ check_number c
unfolding check_number refusal_number
own_is (Ok tt) size room h = by-ltb room size (λ _ k. absurd (h (rw (too_short size room k)))) (λ _ k. rw (long_enough size room k))
own_is (Err r) size room h = refl
