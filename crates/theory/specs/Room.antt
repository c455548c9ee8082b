-- Check 10 after other checks (rules 11.6, 11.7): what it says of the room, and what its answer says back.
use Rattle.std.specs.Prelude.{ℕ, ◌≤◌, ◌<◌, ◌≡◌, refl, Ok, Err}
use Rattle.std.proofs.Common.{lt-ltb, le-ltb}
use Rattle.rules.specs.declared.Refusal.TheVariants.{NoRoom}
use Rattle.rules.specs.Checks.{Check, Passed, Refused}
use Rattle.rules.specs.Tables.{and_then}
use Rattle.texts.specs.Lent.{check_room}
use Rattle.theory.specs.Tests.{by-ltb}
use Rattle.theory.specs.Facts.{clash}

module _ (size room : ℕ) where
  pub too_short : room < size → check_room size room ≡ Refused NoRoom
  unfolding check_room
  too_short h = rw (lt-ltb room size h)

  pub long_enough : size ≤ room → check_room size room ≡ Passed
  unfolding check_room
  long_enough h = rw (le-ltb room size h)

  pub room_passed : check_room size room ≡ Passed → size ≤ room
  unfolding check_room
  room_passed e = by-ltb room size (λ b h. clash (rw b at e)) (λ b h. h)

-- of two checks that passed together, each passed
pub both_passed : (c d : Check) → and_then c d ≡ Passed → (c ≡ Passed) × (d ≡ Passed)
both_passed (Ok tt) d e = (refl, e)
both_passed (Err r) d e = clash e
