-- A verdict (rules 7.2 to 7.4) in one word for a C caller: its number in bits 0 to 3, yes in bit 4, the row from bit 5 on, and the 32 bits
-- of the slack (slots, below zero as two's complement) from bit 16 on.
use Rattle.std.specs.Prelude.{ℕ, ◌+◌, ◌*◌, ◌≡◌, refl, pos, negsuc}
use Rattle.std.specs.Int.{w32}
use Rattle.std.proofs.Common.{of_z}
use Rattle.rules.specs.declared.Refusal.TheVariants.{NotAnOrder}
use Rattle.rules.specs.Verdicts.{Judgement}
use Rattle.rules.specs.Verdicts as Verdicts
use Rattle.rules.specs.Numbers.{refusal_number, verdict_number, verdict_yes, verdict_row, verdict_slack}
use Rattle.jasminebrace.specs.Finishes.{yes_word}

-- the word of a verdict: number, yes, row and slack (rules 7.2 to 7.4)
unfoldable pub packed_of : Judgement → ℕ
packed_of v = verdict_number v + 16 * yes_word (verdict_yes v) + 32 * verdict_row v + 65536 * of_z w32 (verdict_slack v)

-- a yes of row 3 with a slack of 5 slots, a no of row 64 with one of -1, and number 6
pub packed_cases : (packed_of (Verdicts.Correct 3 (pos 5)) ≡ 327792) × (packed_of (Verdicts.Incorrect 64 (negsuc 0)) ≡ 281474976647168) × (packed_of (Verdicts.Refused NotAnOrder) ≡ 6)
unfolding packed_of verdict_number verdict_yes verdict_row verdict_slack refusal_number
packed_cases = (refl, refl, refl)

pub packs : (v : Judgement) (a b r s : ℕ) → a ≡ verdict_number v → b ≡ yes_word (verdict_yes v) → r ≡ verdict_row v → s ≡ of_z w32 (verdict_slack v)
    → a + 16 * b + 32 * r + 65536 * s ≡ packed_of v
unfolding packed_of
packs v a b r s d e f g = rw (d, e, f, g)
