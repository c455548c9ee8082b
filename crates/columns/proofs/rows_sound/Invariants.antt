-- `columns::rows_sound` meets its contract: the rows passed are sound, and the first that is not decides for all. Assumes nothing.
use Rattle.std.proofs.Common.{true, ◌≡◌}
use Rattle.rules.specs.Lists.{all, rows_to}
use Rattle.columns.specs.Entries.{sound_row_in}
use Rattle.columns.proofs.rows_sound.Given as goal

abbrev pub invariant-loop-k : goal.invariant-loop-k
invariant-loop-k l = all (sound_row_in l.table l.clock l.got l.used l.closing) (rows_to l.k) ≡ true
