use Rattle.std.proofs.Common.{◌≡◌, refl, sym, ◌∙◌, arith, rules}
use Rattle.rules.specs.Rows.{rows_of}
use Rattle.checks.specs.Limits.{part_in, parts_rows, row_part}
use Rattle.checks.specs.RowLists.{all_rows_fail}
use Rattle.checks.proofs.promises_ok.Goals as goal

pub loop-k-init : goal.loop-k-init
loop-k-init c = (search rules, search rules, refl)

pub returns-then-not-promise_ok : goal.returns-then-not-promise_ok
returns-then-not-promise_ok c =
    let t = c.args.t.now in
    let l = c.loop-k in
    let bad = row_part t.work t.level t.promised l.k ∙ sym c.promise_ok.ensures ∙ c.if-not-promise_ok.true in
    sym (sym (parts_rows t (rows_of t)) ∙ all_rows_fail (part_in t.work t.level t.promised) l.k t.n (omega arith) bad)

pub returns : goal.returns
returns c =
    let t = c.args.t.now in
    let l = c.loop-k in
    let e : l.k ≡ t.n = omega arith in
    sym (rw e at l.invariant.2) ∙ parts_rows t (rows_of t)
