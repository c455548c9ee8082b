-- A refused table answers for itself; of an accepted one check 6 can follow, over the column of the rows that its rows follow.
use Rattle.std.proofs.Common.{rules, sym, ◌∙◌}
use Rattle.rules.specs.Tables.{Accepted}
use Rattle.rules.specs.Orders.{check_both}
use Rattle.theory.specs.Facts.{facts}
use Rattle.checks.specs.Keeping.{order_numbered, order_columns}
use Rattle.checks.proofs.check_both.Goals as goal

pub check_order-requires : goal.check_order-requires
check_order-requires c =
    let t = c.args.t.now in
    let it : Accepted t = sym c.check_table.ensures ∙ c.in_ok-check_table.was in
    ((facts t it).few, order_numbered t it c.args.order)

pub returns-in_err-check_table : goal.returns-in_err-check_table
unfolding check_both
returns-in_err-check_table c =
    rw (sym c.check_table.ensures ∙ c.in_err-check_table.was) (search rules)

pub returns : goal.returns
unfolding check_both
returns c =
    let t = c.args.t.now in
    let it : Accepted t = sym c.check_table.ensures ∙ c.in_ok-check_table.was in
    rw it (c.check_order.ensures ∙ order_columns t it c.args.order)
