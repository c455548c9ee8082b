-- Every slot keeps a record sound (rule 8.16), so that 9 never comes up after a sound start (rule 9.11).
use Rattle.std.specs.Prelude.{length}
use Rattle.std.proofs.Math.Path.{◌≡◌}
use Rattle.record.specs.declared.Run.{Run}

-- the columns that a slot writes hold sixty-four entries, as those of every record in the code do
pub record Sized (r : Run) : Type 0 where
  pub got : length r.got ≡ 64
  pub used : length r.used ≡ 64
  pub closing : length r.closing ≡ 64
