use Prim.Native.Nat.{ℕ, ◌+◌, ◌≤◌, ◌<◌}
use mathlib.Core.List.{List}
use mathlib.Core.Path.{◌≡◌}
use lib.ListN.{length}
use Rattle.guarantee.specs.Encoding.{next_at}
use Rattle.guarantee.specs.Reading.{next_after, next_within, call_one, call_forward}
use Rattle.guarantee.proofs.call_at.Goals as goal

-- the part begins at or before the index of the next call, and that is within the list
begins : (calls : List ℕ) (i to : ℕ) → i < length calls → to ≡ next_at calls i → i + 1 ≤ to
begins calls i to h e = rw e (next_after calls i h)

ends : (calls : List ℕ) (i to : ℕ) → to ≡ next_at calls i → to ≤ length calls
ends calls i to e = rw e (next_within calls i)

pub returns-then-calls-i-eq0 : goal.returns-then-calls-i-eq0
returns-then-calls-i-eq0 c =
    rw (call_one c.args.calls.now c.args.i c.if-calls-i-eq0.true, ← c.number_at.ensures) c.one_call.ensures

pub slice_bounds-forward_call-count : goal.slice_bounds-forward_call-count
slice_bounds-forward_call-count c = begins c.args.calls.now c.args.i c.next_at-to.result c.requires c.next_at-to.ensures

pub slice_bounds-forward_call-start : goal.slice_bounds-forward_call-start
slice_bounds-forward_call-start c = begins c.args.calls.now c.args.i c.next_at-to.result c.requires c.next_at-to.ensures

pub slice_bounds-forward_call-end : goal.slice_bounds-forward_call-end
slice_bounds-forward_call-end c = ends c.args.calls.now c.args.i c.next_at-to.result c.next_at-to.ensures

pub returns-else-calls-i-eq0 : goal.returns-else-calls-i-eq0
returns-else-calls-i-eq0 c =
    rw (call_forward c.args.calls.now c.args.i c.requires c.if-calls-i-eq0.false, ← c.next_at-to.ensures) c.forward_call.ensures
