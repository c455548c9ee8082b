-- A sheet of n rows has 33 + 49 n bytes (rule 6.7): the table's check, and check 10 after it.
use Rattle.std.proofs.Common.{◌∙◌}
use Rattle.texts.specs.Sheets.{check_write}
use Rattle.checks.specs.Both.{and_is}
use Rattle.sheet.specs.Writer.{sheet_long}
use Rattle.sheet.proofs.check_write.Goals as goal

pub returns : goal.returns
unfolding check_write
returns c = rw (sheet_long c.args.t, ← c.check_table.ensures, ← c.check_room.ensures) (c.and.ensures ∙ and_is c.check_table.result c.check_room.result)
