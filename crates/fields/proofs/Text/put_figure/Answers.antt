-- A space, a space or the minus, and the columns of the weights, one after the other.
use Rattle.std.proofs.Common.{ℕ, ◌<◌, ◌∷◌, ◌≡◌, ℤ, pos, nat_abs}
use Rattle.std.proofs.Math.Facts.{to_z-of_z}
use Rattle.std.specs.Int.Signed.{lt_z}
use Rattle.texts.specs.Reports.{figure}
use Rattle.fields.specs.Figures.{signed_at, signed_columns, by_sign}
use Rattle.fields.specs.Texts.{puts_as, puts_then}
use Rattle.fields.proofs.Text.put_figure.Goals as goal

-- the number z is read back from its bits as z'
as_figure : (z z' : ℤ) (size minus : ℕ) → z' ≡ z → size ≡ nat_abs z' → minus ≡ signed_at (lt_z z' (pos 0)) size 100000000 → nat_abs z < 100000000
    → 32 ∷ minus ∷ signed_columns (lt_z z' (pos 0)) size ≡ figure z
as_figure z z' size minus same sized signed small = rw (signed, sized, same) (by_sign z small)

pub returns : goal.returns
returns c =
    puts_as (as_figure c.args.value _ _ _ (to_z-of_z c.ranges.value) c.unsigned_abs-size.ensures.value c.figure_byte.ensures c.requires.0)
    (puts_then c.put_byte.ensures (puts_then c.put_byte-2.ensures c.put_columns.ensures))
