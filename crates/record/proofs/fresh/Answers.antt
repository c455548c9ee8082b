use Rattle.std.proofs.Common.{sym, ◌∙◌}
use Rattle.rules.specs.Slots.{fresh}
use Rattle.record.specs.Records.{fresh_of}
use Rattle.record.proofs.fresh.Goals as goal

pub returns-in-Ok : goal.returns-in-Ok
unfolding fresh_of fresh
returns-in-Ok c = rw (sym c.check_both.ensures ∙ c.in-Ok.is, c.start.ensures)

pub returns-in-Err : goal.returns-in-Err
unfolding fresh_of fresh
returns-in-Err c = rw (sym c.check_both.ensures ∙ c.in-Err.is, c.start-in-Err.ensures, c.zero_table.ensures)
