use Rattle.std.proofs.Common.{◌≡◌, refl, sym, ◌∙◌, arith, rules}
use Rattle.rules.specs.Rows.{rows_of}
use Rattle.checks.specs.Limits.{limits_in, limits_rows, row_limits}
use Rattle.checks.specs.RowLists.{all_rows_fail}
use Rattle.checks.proofs.rows_ok.Goals as goal

pub loop-k-init : goal.loop-k-init
loop-k-init c = (search rules, search rules, refl)

pub returns-then-not-row_ok : goal.returns-then-not-row_ok
returns-then-not-row_ok c =
    let t = c.args.t.now in
    let l = c.loop-k in
    let bad = row_limits t.release t.work t.deadline t.level l.k ∙ sym c.row_ok.ensures ∙ c.if-not-row_ok.true in
    sym (sym (limits_rows t (rows_of t)) ∙ all_rows_fail (limits_in t.release t.work t.deadline t.level) l.k t.n (omega arith) bad)

pub returns : goal.returns
returns c =
    let t = c.args.t.now in
    let l = c.loop-k in
    let e : l.k ≡ t.n = omega arith in
    sym (rw e at l.invariant.2) ∙ limits_rows t (rows_of t)
