-- A refused sheet answers for itself; for any other the search over its table does.
use Rattle.speeds.specs.Promise.{sheet_refused, sheet_taken}
use Rattle.speeds.proofs.sheet_speed.Goals as goal

pub returns-in-Err : goal.returns-in-Err
returns-in-Err c =
    sheet_refused c.args.sought c.args.sheet.now c.read-reading.result c.read-reading.ensures c.refused.result c.in-Err.why
    c.in-Err.is c.refused.ensures

pub returns-in-Ok : goal.returns-in-Ok
returns-in-Ok c =
    sheet_taken c.args.sought c.args.sheet.now c.read-reading.result c.read-reading.ensures c.least_speed.result c.in-Ok.is
    c.least_speed.ensures.answer
