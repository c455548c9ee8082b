-- Two tables of twelve rows (rule 13.19), whose 479,001,600 arrangements are too many to be listed: their choices are computed through the lowest rows.
use Rattle.std.specs.Prelude.{true, ◌≡◌, refl}
use Rattle.std.proofs.Common.{◌∙◌}
use Rattle.rules.specs.Choice.{unfollowed, passes}
use Rattle.rules.specs.Judge.{table_of}
use Rattle.rules.specs.Lists.{all, rows_to}
use Rattle.rules.specs.Need.{work_slots}
use Rattle.rules.specs.Rows.{rows_of}
use Rattle.rules.specs.Slots.{fresh, is_pending, is_waiting, is_ready, chosen, is_over, brought, serve, slot}
use Rattle.rules.specs.Tables.{Accepted, row_ok, tail_ok, promise_ok, check_wait, check_table}
use Rattle.rules.specs.Worst.{horizon, worst_finish, slack, meets}
use Rattle.theory.specs.Facts.{facts, all_in, in_rows}
use Rattle.choices.specs.Choices.{choices}
use Rattle.lowest.specs.Standing.{may_stand, by_lowest}
use Rattle.lowest.proofs.Standing.{choices_lowest_lem}
use Rattle.lowest.proofs.Counted.{choices_every}
use Rattle.lowest.specs.TwelveCases.{wherever, rising}

pub wherever_accepted : Accepted wherever
unfolding table_of check_table row_ok promise_ok check_wait tail_ok
wherever_accepted = refl

each_stands : all (may_stand wherever (rows_of wherever)) (rows_of wherever) ≡ true
unfolding may_stand unfollowed passes table_of work_slots fresh is_pending is_waiting is_ready chosen is_over brought serve slot horizon worst_finish slack meets
each_stands = refl

-- all orders are correct
pub twelve_every : choices wherever ≡ 479001600
unfolding table_of
twelve_every =
    choices_every wherever (facts wherever wherever_accepted)
    (λ i r. all_in (may_stand wherever (rows_of wherever)) (rows_of wherever) each_stands i (in_rows wherever i r))

pub rising_accepted : Accepted rising
unfolding table_of check_table row_ok promise_ok check_wait tail_ok
rising_accepted = refl

by_rows : by_lowest (may_stand rising) 12 (rows_to 12) ≡ 1
unfolding may_stand unfollowed passes table_of work_slots fresh is_pending is_waiting is_ready chosen is_over brought serve slot horizon worst_finish slack meets
by_rows = refl

-- just one order is correct
pub twelve_one : choices rising ≡ 1
unfolding table_of
twelve_one = choices_lowest_lem rising (facts rising rising_accepted) ∙ by_rows
