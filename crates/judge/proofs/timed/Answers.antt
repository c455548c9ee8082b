use Rattle.std.proofs.Common.{rules, ℕ, ◌≤◌, ◌<◌, ◌+◌, ◌-◌, max, cond, eqb, ◌≡◌, ◌∙◌, refl, sym, ap, subst, arith, List, length, take, get_or, get_or-take, length-take-le, length-set, lt-ltb}
use Rattle.rules.specs.declared.Table.{Table}
use Rattle.rules.specs.Rows.{at, put, promised_of}
use Rattle.rules.specs.Worst.{worst_finish}
use Rattle.theory.specs.Promised as PromisedDefs
use Rattle.sweep.specs.CapColumn.{limited, limited_parts, caps_normal, caps_degraded}
use Rattle.sweep.specs.Holds.{Holds, holds_empty}
use Rattle.judge.specs.Checked.{Checked, checked}
use Rattle.judge.specs.Down.{Ready, swept_by, swept_low, swept_high, counted_from, normal_columns, degraded_columns, part_most}
use Rattle.judge.specs.Stored.{Stored, stored_none, stored_more, stored_all, place_range, place_free, place_down, place_finish, place_latest}
use Rattle.judge.proofs.timed.Goals as goal
use Rattle.judge.proofs.timed.Goals.{In-loop-row, then-t-i-eq0, else-t-i-eq0, then-t-i-eq0-2, else-t-i-eq0-2}

pub sorted-queue-requires : goal.sorted-queue-requires
sorted-queue-requires c = (limited c.args.t (checked c.args.t c.args.order c.requires).accepted).few

pub needs-need-requires : goal.needs-need-requires
needs-need-requires c = limited c.args.t (checked c.args.t c.args.order c.requires).accepted

pub needs-part-requires : goal.needs-part-requires
needs-part-requires c = limited_parts c.args.t (checked c.args.t c.args.order c.requires).accepted

pub degraded_caps-caps-requires : goal.degraded_caps-caps-requires
degraded_caps-caps-requires c = limited c.args.t (checked c.args.t c.args.order c.requires).accepted

pub slice_bounds-order-end : goal.slice_bounds-order-end
slice_bounds-order-end c = omega (arith, (limited c.args.t (checked c.args.t c.args.order c.requires).accepted).few)

pub slice_bounds-row-items-end : goal.slice_bounds-row-items-end
slice_bounds-row-items-end c =
    let few = (limited c.args.t (checked c.args.t c.args.order c.requires).accepted).few in
    omega (arith, few, length-take-le c.args.t.n c.args.order (omega (arith, few)))

pub loop-row-init : goal.loop-row-init
loop-row-init c =
    let a = c.args in
    (refl, refl, holds_empty, stored_none (worst_finish a.t a.order) a.order, stored_none (PromisedDefs.latest a.t a.order) a.order)

-- what a turn knows: the columns made before the loop, and the row at its place
module _ (c : In-loop-row) where
  abbrev t : Table
  t = c.args.t

  abbrev o : List ℕ
  o = c.args.order

  passes : Checked t o
  passes = checked t o c.requires

  abbrev place : ℕ
  place = c.loop-row.row-index

  -- the row as the loop reads it, and as the order has it
  abbrev here : ℕ
  here = get_or (take t.n o) place 0

  abbrev row : ℕ
  row = get_or o place 0

  abbrev queue : List ℕ
  queue = c.sorted-queue.result

  abbrev normal : List ℕ
  normal = c.needs-need.result

  abbrev part : List ℕ
  part = c.needs-part.result

  abbrev degraded : List ℕ
  degraded = c.degraded_caps-caps.result

  ready : Ready t queue normal part degraded
  ready =
      record {
        accepted = passes.accepted;
        queued = c.sorted-queue.ensures;
        at_normal = c.needs-need.ensures ∙ caps_normal t;
        parts = c.needs-part.ensures;
        at_degraded = caps_degraded t passes.accepted normal part degraded c.needs-need.ensures c.needs-part.ensures c.degraded_caps-caps.ensures;
      }

  long : length o ≡ 64
  long = search rules

  inside : place < t.n
  inside =
      let few = (limited t passes.accepted).few in
      omega (arith, c.loop-row-test.true, length-take-le t.n o (omega (arith, long, few)))

  same : here ≡ row
  same = get_or-take t.n o place 0 inside

  range : (1 ≤ here) × (here ≤ 64)
  range = rw same (place_range t o passes long place inside)

pub with-upto-requires : goal.with-upto-requires
with-upto-requires c =
    let i = (goal.at.with-upto-requires c).In-loop-row in
    let l = c.loop-row in
    ((range i).0, (range i).1, rw (same i) (place_free (t i) (o i) (passes i) (long i) (place i) (inside i) l.down l.invariant.2))

-- the row's entries of the columns
pub overflow_sub-i : goal.overflow_sub-i
overflow_sub-i c = (range (goal.at.overflow_sub-i c).In-loop-row).0

pub bounds-t-i : goal.bounds-t-i
bounds-t-i c = let r = range (goal.at.bounds-t-i c).In-loop-row in omega (arith, r.0, r.1)

pub bounds-t-i-in-loop-row : goal.bounds-t-i-in-loop-row
bounds-t-i-in-loop-row c = let r = range (goal.at.bounds-t-i-in-loop-row c).In-loop-row in omega (arith, r.0, r.1)

pub bounds-t-i-in-loop-row-2 : goal.bounds-t-i-in-loop-row-2
bounds-t-i-in-loop-row-2 c = let r = range (goal.at.bounds-t-i-in-loop-row-2 c).In-loop-row in omega (arith, r.0, r.1)

pub bounds-finish-i : goal.bounds-finish-i
bounds-finish-i c = let r = range (goal.at.bounds-finish-i c).In-loop-row in omega (arith, r.0, r.1)

pub bounds-latest-i : goal.bounds-latest-i
bounds-latest-i c = let r = range (goal.at.bounds-latest-i c).In-loop-row in omega (arith, r.0, r.1)

-- either workload is within the limits of a sweep
pub finish-end-requires : goal.finish-end-requires
finish-end-requires c =
    let i = (goal.at.finish-end-requires c).In-loop-row in
    elim c.if-t-i-eq0.branch [
      | then-t-i-eq0 w ↦ rw w.worst-is (normal_columns (t i) (queue i) (normal i) (part i) (degraded i) (ready i))
      | else-t-i-eq0 w ↦ rw w.worst-is (degraded_columns (t i) (queue i) (normal i) (part i) (degraded i) (ready i))
    ]

pub part_finish-requires : goal.part_finish-requires
part_finish-requires c =
    let i = (goal.at.part_finish-requires c).In-loop-row in (
      degraded_columns (t i) (queue i) (normal i) (part i) (degraded i) (ready i),
      (range i).0,
      (range i).1,
      part_most (t i) (queue i) (normal i) (part i) (degraded i) (ready i) (here i),
    )

-- the clock that a slack counts from, where nothing is promised and where something is
counted_none : (finish promised moment clock : ℕ) → promised ≡ 0 → clock ≡ finish → clock ≡ counted_from finish promised moment
counted_none finish promised moment clock p e = rw (p, e) (omega arith)

counted_some : (finish promised moment clock : ℕ) → (promised ≡ 0 → ⊥) → clock ≡ max finish moment → clock ≡ counted_from finish promised moment
counted_some finish promised moment clock p e = rw (lt-ltb 0 promised (omega (arith, p)), e)

pub loop-row-preserved : goal.loop-row-preserved
loop-row-preserved c =
    let i = (goal.at.loop-row-preserved c).In-loop-row in
    let l = c.loop-row in
    let k = inside i in
    let m = c.with-upto.result in
    let down : Holds m (take (place i + 1) (o i)) =
    subst (λ (m : ℕ). Holds m (take (place i + 1) (o i))) (sym (rw (same i) at c.with-upto.ensures))
    (place_down (t i) (o i) (passes i) (long i) (place i) k l.down l.invariant.2) in
    let low = swept_low (queue i) (t i).release (normal i) (degraded i) (t i).n m (here i) (at (t i).level (here i)) (at (t i).release (here i)) c.finish-end.result refl in
    let high = swept_high (queue i) (t i).release (normal i) (degraded i) (t i).n m (here i) (at (t i).level (here i)) (at (t i).release (here i)) c.finish-end.result refl in
    let swept : c.finish-end.result ≡ swept_by (queue i) (t i).n (t i).release (cond (eqb (at (t i).level (here i)) 0) (normal i) (degraded i)) m (here i) =
    elim c.if-t-i-eq0.branch [
      | then-t-i-eq0 w ↦ low w.if-t-i-eq0.true (rw w.worst-is at c.finish-end.ensures)
      | else-t-i-eq0 w ↦ high w.if-t-i-eq0.false (rw w.worst-is at c.finish-end.ensures)
    ] in
    let finish : c.finish-end.result ≡ worst_finish (t i) (o i) (row i) =
    rw (same i) at swept
    ∙ place_finish (t i) (o i) (passes i) (long i) (place i) k m down (queue i) (normal i) (part i) (degraded i) (ready i) in
    let moment = swept_by (queue i) (t i).n (t i).release (put (degraded i) (here i) (at (part i) (here i))) m (here i) in
    let counted : c.if-t-i-eq0-2.latest ≡ counted_from c.finish-end.result (promised_of (t i) (here i)) moment =
    elim c.if-t-i-eq0-2.branch [
      | then-t-i-eq0-2 w ↦ counted_none c.finish-end.result (promised_of (t i) (here i)) moment c.if-t-i-eq0-2.latest w.if-t-i-eq0-2.true w.latest-is
      | else-t-i-eq0-2 w ↦ counted_some c.finish-end.result (promised_of (t i) (here i)) moment c.if-t-i-eq0-2.latest w.if-t-i-eq0-2.false
          (w.latest-is ∙ w.max.ensures ∙ ap (max c.finish-end.result) w.part_finish.ensures)
    ] in
    let latest : c.if-t-i-eq0-2.latest ≡ PromisedDefs.latest (t i) (o i) (row i) =
    rw (same i) at counted
    ∙ place_latest (t i) (o i) (passes i) (long i) (place i) k m down (queue i) (normal i) (part i) (degraded i) (ready i) c.finish-end.result finish in (
      length-set l.finish (here i - 1) c.finish-end.result ∙ l.invariant.0,
      length-set l.latest (here i - 1) c.if-t-i-eq0-2.latest ∙ l.invariant.1,
      down,
      rw (same i) (stored_more (t i) (o i) (passes i) (long i) (place i) k (worst_finish (t i) (o i)) l.finish c.finish-end.result l.invariant.0 finish l.invariant.3),
      rw (same i) (stored_more (t i) (o i) (passes i) (long i) (place i) k (PromisedDefs.latest (t i) (o i)) l.latest c.if-t-i-eq0-2.latest l.invariant.1 latest l.invariant.4),
    )

pub returns : goal.returns
returns c =
    let l = c.loop-row in
    let t = c.args.t in
    let o = c.args.order in
    let ok = checked t o c.requires in
    let wide : length o ≡ 64 = search rules in
    let few = (limited t ok.accepted).few in
    let e : l.row-index ≡ t.n = omega (arith, few, c.loop-row-test.false, l.auto.row-index-end, length-take-le t.n o (omega (arith, wide, few))) in (
      c.needs-need.ensures,
      stored_all t o ok wide (worst_finish t o) l.finish l.invariant.0 (subst (λ (k : ℕ). Stored (worst_finish t o) o k l.finish) e l.invariant.3),
      stored_all t o ok wide (PromisedDefs.latest t o) l.latest l.invariant.1 (subst (λ (k : ℕ). Stored (PromisedDefs.latest t o) o k l.latest) e l.invariant.4),
    )
