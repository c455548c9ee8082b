use Rattle.judge.specs.Gather.{no_rows, gathered, gather_more, gather_end, rows_judged}
use Rattle.judge.proofs.judge.Goals as goal

pub loop-row-preserved : goal.loop-row-preserved
loop-row-preserved c =
    let l = c.loop-row in
    let a = c.args in
    gather_more a.rows.now l.row-index l.t (gathered (no_rows a.normal a.degraded a.loading) a.rows.now) l.invariant
    (record { release = 0; work = 0; deadline = 0; level = 0; promised = 0; follows = 0 }) c.put_row.new.t c.loop-row-test.true c.put_row.ensures

pub returns : goal.returns
returns c =
    let l = c.loop-row in
    let a = c.args in
    rows_judged a.rows.now a.normal a.degraded a.loading a.order l.t c.judge_table.result
    (gather_end a.rows.now l.row-index l.t (gathered (no_rows a.normal a.degraded a.loading) a.rows.now) l.invariant c.loop-row-test.false) c.judge_table.ensures
