use mathlib.Core.Path.{sym, ap, ◌∙◌}
use Rattle.rules.specs.declared.Reading.{Reading}
use Rattle.proposal.specs.Proposals.{ask_of}
use Rattle.proposal.proofs.ask.Goals as goal

pub returns-in-Err : goal.returns-in-Err
unfolding ask_of
returns-in-Err c = rw (ap (λ (x : Reading). x.check) (sym c.read-reading.ensures) ∙ c.in-Err.is) c.nothing.ensures

pub returns-in-Ok : goal.returns-in-Ok
unfolding ask_of
returns-in-Ok c = rw (sym c.read-reading.ensures, c.in-Ok.is) c.planned.ensures
