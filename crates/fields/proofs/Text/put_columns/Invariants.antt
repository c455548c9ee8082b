-- The first i columns are written.
use Rattle.std.proofs.Common.{◌≡◌}
use Rattle.std.proofs.Math.Seq.{paste}
use Rattle.fields.specs.Figures.{signed_columns}
use Rattle.fields.proofs.Text.put_columns.Given as goal

abbrev pub invariant-loop-i : goal.invariant-loop-i
invariant-loop-i l = l.out ≡ paste l.initial.out l.at (signed_columns l.below l.size) l.i
