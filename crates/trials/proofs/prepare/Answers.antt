-- Each column is what its callee ensures, and the sort by trial key is the trial sequence.
use Prim.Native.Nat.{ℕ, ◌≤◌}
use mathlib.Core.Path.{sym, subst, ◌∙◌}
use mathlib.Core.List.{List}
use Rattle.rules.specs.Rows.{at}
use Rattle.sweep.specs.CapColumn.{limited, limited_parts, caps_normal, caps_degraded}
use Rattle.sweep.specs.Padded.{Rows}
use Rattle.sweep.specs.Sorts.{sorted_rows}
use Rattle.theory.specs.Facts.{facts}
use Rattle.trials.specs.Keys.{keys_of, soon_at}
use Rattle.trials.specs.Prepared.{prepared}
use Rattle.trials.proofs.prepare.Goals as goal
use Rattle.trials.proofs.prepare.Goals.{After-sorted-sequence}

-- the sequence is of row numbers
sequenced : (c : After-sorted-sequence) → (c.args.t.n ≤ 64) × Rows c.sorted-sequence.result c.args.t.n
sequenced c =
    let n = c.args.t.n in
    let few = (facts _ c.requires).few in
    (few, subst (λ (l : List ℕ). Rows l n) (sym c.sorted-sequence.ensures) (sorted_rows (λ i. at c.trial_keys-keys.result i) n few))

pub trial_keys-keys-requires : goal.trial_keys-keys-requires
trial_keys-keys-requires c =
    ((facts _ c.requires).few, soon_at _ c.requires)

pub sorted-queue-requires : goal.sorted-queue-requires
sorted-queue-requires c = (facts _ c.requires).few

pub sorted-sequence-requires : goal.sorted-sequence-requires
sorted-sequence-requires c = (facts _ c.requires).few

pub entries-entry-requires : goal.entries-entry-requires
entries-entry-requires c = sequenced (goal.at.entries-entry-requires c).After-sorted-sequence

pub entries_at-low-requires : goal.entries_at-low-requires
entries_at-low-requires c = sequenced (goal.at.entries_at-low-requires c).After-sorted-sequence

pub entries_at-high-requires : goal.entries_at-high-requires
entries_at-high-requires c = sequenced (goal.at.entries_at-high-requires c).After-sorted-sequence

pub needs-normal-requires : goal.needs-normal-requires
needs-normal-requires c = limited _ c.requires

pub needs-part-requires : goal.needs-part-requires
needs-part-requires c = limited_parts _ c.requires

pub degraded_caps-degraded-requires : goal.degraded_caps-degraded-requires
degraded_caps-degraded-requires c = limited _ c.requires

pub returns : goal.returns
returns c =
    let t = c.args.t in
    prepared t c.requires
    c.sorted-queue.result c.trial_keys-keys.result c.sorted-sequence.result c.entries-entry.result c.needs-normal.result c.degraded_caps-degraded.result
    c.needs-part.result c.entries_at-low.result c.entries_at-high.result
    c.sorted-queue.ensures (c.trial_keys-keys.ensures ∙ keys_of t t.n) c.sorted-sequence.ensures c.entries-entry.ensures
    c.entries_at-low.ensures c.entries_at-high.ensures
    (c.needs-normal.ensures ∙ caps_normal t)
    (caps_degraded t c.requires c.needs-normal.result c.needs-part.result c.degraded_caps-degraded.result c.needs-normal.ensures c.needs-part.ensures
    c.degraded_caps-degraded.ensures)
    c.needs-part.ensures
