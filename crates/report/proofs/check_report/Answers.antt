-- A report of n rows has 51 n + 21 bytes: the checks of table and order, and check 10 after them.
use Rattle.std.proofs.Common.{◌∙◌}
use Rattle.texts.specs.Reports.{check_report}
use Rattle.checks.specs.Both.{and_is}
use Rattle.report.specs.Lines.{report_long}
use Rattle.report.proofs.check_report.Goals as goal

pub returns : goal.returns
unfolding check_report
returns c = rw (report_long c.args.t c.args.order, ← c.check_both.ensures, ← c.check_room.ensures) (c.and.ensures ∙ and_is c.check_both.result c.check_room.result)
