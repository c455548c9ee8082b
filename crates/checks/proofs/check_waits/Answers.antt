use Rattle.std.proofs.Common.{◌≡◌, refl, sym, ◌∙◌, arith, rules}
use Rattle.checks.specs.Limits.{row_wait}
use Rattle.checks.specs.Keeping.{waits_more, waits_stop, waits_columns}
use Rattle.checks.proofs.check_waits.Goals as goal

pub loop-k-init : goal.loop-k-init
loop-k-init c = (search rules, search rules, refl)

pub returns-in_err-check_wait : goal.returns-in_err-check_wait
returns-in_err-check_wait c =
    let t = c.args.t.now in
    let l = c.loop-k in
    let here = waits_more t.follows t.release t.level l.k l.invariant.2 ∙ sym (row_wait t l.k) ∙ sym c.check_wait.ensures ∙ c.in_err-check_wait.was in
    let whole = sym (waits_columns t t.n) ∙ waits_stop t.follows t.release t.level l.k t.n _ (omega arith) here in
    search rules

pub loop-k-preserved : goal.loop-k-preserved
loop-k-preserved c =
    let t = c.args.t.now in
    let l = c.loop-k in
    (omega arith, l.invariant.1, waits_more t.follows t.release t.level l.k l.invariant.2 ∙ sym (row_wait t l.k) ∙ sym c.check_wait.ensures ∙ c.in_ok-check_wait.was)

pub returns : goal.returns
returns c =
    let t = c.args.t.now in
    let l = c.loop-k in
    let e : l.k ≡ t.n = omega arith in
    sym (rw e at l.invariant.2) ∙ waits_columns t t.n
