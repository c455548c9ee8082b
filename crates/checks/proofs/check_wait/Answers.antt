-- The first test that fails answers; a row that follows none passes.
use Rattle.std.proofs.Common.{sym, ◌∙◌}
use Rattle.checks.specs.Limits.{row_wait, wait_none, wait_not_lower, wait_later, wait_low, wait_follows_low, wait_follows_high}
use Rattle.checks.proofs.check_wait.Goals as goal

pub returns-then-w-eq0 : goal.returns-then-w-eq0
returns-then-w-eq0 c =
    let t = c.args.t.now in
    sym (row_wait t c.args.k ∙ wait_none t.follows t.release t.level c.args.k c.if-w-eq0.true)

pub returns-then-k-w : goal.returns-then-k-w
returns-then-k-w c =
    let t = c.args.t.now in
    sym (row_wait t c.args.k ∙ wait_not_lower t.follows t.release t.level c.args.k c.if-w-eq0.false c.if-k-w.true)

pub returns-then-t-i : goal.returns-then-t-i
returns-then-t-i c =
    let t = c.args.t.now in
    sym (row_wait t c.args.k ∙ wait_later t.follows t.release t.level c.args.k c.if-w-eq0.false c.if-k-w.false c.if-t-i.true)

pub returns-then-t-i-eq0 : goal.returns-then-t-i-eq0
returns-then-t-i-eq0 c =
    let t = c.args.t.now in
    sym (row_wait t c.args.k ∙ wait_low t.follows t.release t.level c.args.k c.if-w-eq0.false c.if-k-w.false c.if-t-i.false c.if-t-i-eq0.true)

pub returns-then-t-above-eq0 : goal.returns-then-t-above-eq0
returns-then-t-above-eq0 c =
    let t = c.args.t.now in
    sym (row_wait t c.args.k ∙ wait_follows_low t.follows t.release t.level c.args.k c.if-w-eq0.false c.if-k-w.false c.if-t-i.false c.if-t-i-eq0.false c.if-t-above-eq0.true)

pub returns : goal.returns
returns c =
    let t = c.args.t.now in
    sym (row_wait t c.args.k ∙ wait_follows_high t.follows t.release t.level c.args.k c.if-w-eq0.false c.if-k-w.false c.if-t-i.false c.if-t-i-eq0.false c.if-t-above-eq0.false)
