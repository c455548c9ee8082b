use Rattle.std.proofs.Common.{◌≤◌, true, ◌≡◌, refl, sym, arith, rules, length, get_or, length-set}
use Rattle.rules.specs.Rows.{at}
use Rattle.checks.specs.Keeping.{kept_at, seen_start, seen_more, kept_more, kept_stop, kept_none, kept_seen, kept_unseen}
use Rattle.checks.proofs.keeps_waits.Goals as goal
use Rattle.checks.proofs.keeps_waits.Goals.{then-w-ne0+else-seen-w-eq0, else-w-ne0}

pub loop-k-init : goal.loop-k-init
loop-k-init c = (search rules, search rules, refl, seen_start c.args.follows.now c.args.order, refl, search rules)

pub overflow_sub-w : goal.overflow_sub-w
overflow_sub-w c = let l = c.loop-k in (l.invariant.5.rows l.k (omega arith)).0

pub offset_bounds-follows-row : goal.offset_bounds-follows-row
offset_bounds-follows-row c = let l = c.loop-k in omega (arith, (l.invariant.5.rows l.k (omega arith)).1)

pub bounds-follows-row : goal.bounds-follows-row
bounds-follows-row c = let l = c.loop-k in omega (arith, (l.invariant.5.rows l.k (omega arith)).1)

pub bounds-seen-w : goal.bounds-seen-w
bounds-seen-w c =
    let l = c.loop-k in
    omega (arith, l.invariant.5.most l.k (omega arith))

pub bounds-seen-row : goal.bounds-seen-row
bounds-seen-row c = let l = c.loop-k in omega (arith, (l.invariant.5.rows l.k (omega arith)).1)

pub returns-then-seen-w-eq0 : goal.returns-then-seen-w-eq0
returns-then-seen-w-eq0 c =
    let l = c.loop-k in
    let column = c.args.follows.now in
    let order = c.args.order in
    let most = l.invariant.5.most l.k (omega arith) in
    let some : 1 ≤ at column (get_or order l.k 0) = omega (arith, c.if-w-ne0.true) in
    sym (kept_stop column order l.k c.args.n (omega arith) (kept_unseen column order l.seen l.k l.invariant.3 most some c.if-seen-w-eq0.true))

pub loop-k-preserved : goal.loop-k-preserved
loop-k-preserved c =
    let l = c.loop-k in
    let column = c.args.follows.now in
    let order = c.args.order in
    let n : length order ≡ 64 = search rules in
    let most = l.invariant.5.most l.k (omega arith) in
    let row = l.invariant.5.rows l.k (omega arith) in
    let good : kept_at column order l.k ≡ true = elim c.if-w-ne0.branch [
      | then-w-ne0+else-seen-w-eq0 w ↦ kept_seen column order l.seen l.k l.invariant.3 most (omega (arith, w.if-seen-w-eq0.false))
      | else-w-ne0 w ↦ kept_none column order l.seen l.k l.invariant.3 most w.if-w-ne0.false
    ] in (
      omega arith,
      l.invariant.1,
      rw length-set l.invariant.2,
      seen_more column order l.seen l.k l.invariant.2 (omega arith) row.1 l.invariant.3,
      kept_more column order l.k l.invariant.4 good,
      l.invariant.5,
    )

pub returns : goal.returns
returns c =
    let l = c.loop-k in
    let e : l.k ≡ c.args.n = omega arith in
    sym (rw e at l.invariant.4)
