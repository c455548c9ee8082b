-- What the two exported functions say and leave is what the judge and the worst finishes answer.
use Rattle.conclusions.specs.Judged.{opinion}
use Rattle.conclusions.proofs.sales_desk.Goals as goal

pub returns : goal.returns
returns c = let e = c.jb_judge-number.ensures in let f = c.jb_finishes-timed.ensures in rw (e.0, e.1, e.2, e.3, f.0, f.1) (opinion _ _)
