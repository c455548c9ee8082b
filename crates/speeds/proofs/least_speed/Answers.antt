-- A refused table answers for itself; for an accepted one the search does.
use mathlib.Core.Path.{sym, ◌∙◌}
use Rattle.searches.specs.Speeds.{search_of}
use Rattle.speeds.specs.Promise.{promised_search}
use Rattle.speeds.proofs.least_speed.Goals as goal

pub returns-in-Err : goal.returns-in-Err
unfolding search_of
returns-in-Err c = promised_search _ _ _ (c.refused.ensures ∙ rw (sym c.in-Err.ensures))

pub returns-in-Ok : goal.returns-in-Ok
unfolding search_of
returns-in-Ok c = promised_search _ _ _ (rw (sym c.in-Ok.ensures) c.search.ensures)
