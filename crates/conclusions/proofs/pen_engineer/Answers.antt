-- What the exported functions say and leave, one after another, is the plan, the fresh record of it and that record worked forward.
use Rattle.std.proofs.Common.{◌≡◌, length, rules}
use Rattle.conclusions.specs.Drawn.{drawn}
use Rattle.conclusions.proofs.pen_engineer.Goals as goal

pub returns : goal.returns
returns c =
    let a = c.args in
    let tables : length a.table ≡ 388 = search rules in
    let p = c.jb_plan-planned.ensures in
    let f = c.jb_fresh-fresh.ensures in
    let g = c.jb_forward-forward.ensures in
    drawn a.table a.supplies.now _ _ _ tables _
    (record { planned = p.0; order = p.1; fresh = f.0; run_table = f.1; run_order = f.2; start = f.3; forward = g.0; worked = g.1; state = g.2 })
