-- The sweep over the rows down to a place: a row's worst finish and its promised moment, read off columns of caps.
use Rattle.std.specs.Prelude.{ℕ, ◌-◌, ◌≤◌, max, true, false, cond, ◌≡◌, List, [], ◌∷◌, ◌++◌, map, eqb, ltb, get_or, take}
use Rattle.std.proofs.Common.{sym, ◌∙◌, arith, ltb-true, eq-eqb, ne_eqb}
use Rattle.rules.specs.declared.Table.{Table}
use Rattle.rules.specs.Lists.{rows_to}
use Rattle.rules.specs.Rows.{at, put, rows_of, release_of, promised_of, promise_need, is_low, is_promised}
use Rattle.rules.specs.Tables.{Accepted}
use Rattle.rules.specs.Worst.{worst_speed, worst_finish}
use Rattle.rules.specs.Choice.{padded}
use Rattle.theory.specs.Tests.{by_bool}
use Rattle.theory.specs.Counts.{Within, in_last}
use Rattle.theory.specs.Caps.{cap}
use Rattle.theory.specs.Facts.{Row, rows_in_lem, facts}
use Rattle.theory.specs.Promised.{latest}
use Rattle.theory.proofs.Results.{worst_sweep}
use Rattle.theory.specs.Waits.{Stand}
use Rattle.sweep.specs.CapColumn.{part_needs, parts_most}
use Rattle.sweep.specs.Holds.{Holds}
use Rattle.sweep.specs.Padded.{padded_at, padded_beyond, rows_length}
use Rattle.sweep.specs.Trials.{Columns, trial}
use Rattle.sweep.specs.Finds.{by_release, queued, queued_sorted, queued_same, columns, finds, finds_part}

-- the finish of row i, in slots, that a sweep over the rows of the word finds; queue has n rows by rising release, caps in slots
abbrev pub swept_by : List ℕ → ℕ → List ℕ → List ℕ → ℕ → ℕ → ℕ
swept_by queue n release caps m i = trial release caps m (at release i) 0 (take n queue)

-- what the sweep finds from the row's release on, by the caps that its level says
module _ (queue release normal degraded : List ℕ) (n m i level from r : ℕ) (e : from ≡ at release i) where
  pub swept_low : level ≡ 0 → r ≡ trial release normal m from 0 (take n queue) → r ≡ swept_by queue n release (cond (eqb level 0) normal degraded) m i
  swept_low l z = rw (eq-eqb level 0 l, ← e) z

  pub swept_high : (level ≡ 0 → ⊥) → r ≡ trial release degraded m from 0 (take n queue) → r ≡ swept_by queue n release (cond (eqb level 0) normal degraded) m i
  swept_high l z = rw (ne_eqb level 0 l, ← e) z

-- the clock that a slack counts from, in slots: the finish, or where some work units are promised the moment, if it is later
abbrev pub counted_from : ℕ → ℕ → ℕ → ℕ
counted_from finish promised moment = max finish (cond (ltb 0 promised) moment 0)

-- a column has zeros after its n rows
pub padded_past : (f : ℕ → ℕ) (n j : ℕ) → n ≤ 64 → n ≤ j → get_or (padded (map f (rows_to n))) j 0 ≡ 0
padded_past f n j few h = let e = rows_length f n in padded_beyond (map f (rows_to n)) j (omega arith) (omega arith)

-- an accepted table's queue, its needs of promised parts at G, and its caps at both speeds, in slots
pub record Ready (t : Table) (queue normal part degraded : List ℕ) : Type 0 where
  pub accepted : Accepted t
  pub queued : queue ≡ padded (by_release t)
  pub at_normal : normal ≡ padded (map (cap t t.normal) (rows_of t))
  pub parts : part ≡ part_needs t
  pub at_degraded : degraded ≡ padded (map (cap t t.degraded) (rows_of t))

module _ (t : Table) (queue normal part degraded : List ℕ) (ready : Ready t queue normal part degraded) where
  -- they are within the limits of a sweep
  pub normal_columns : Columns queue t.n t.release normal
  normal_columns = columns t ready.accepted t.normal queue normal (facts t ready.accepted).runs ready.queued ready.at_normal

  pub degraded_columns : Columns queue t.n t.release degraded
  degraded_columns = columns t ready.accepted t.degraded queue degraded (facts t ready.accepted).crawls ready.queued ready.at_degraded

  pub part_most : (i : ℕ) → at part i ≤ 1000016
  part_most i = rw ready.parts (parts_most t ready.accepted (i - 1))

  -- a row's caps at its worst speed: those at exactly N for a LO row, at exactly G for any other
  worst_caps : (i : ℕ) → cond (eqb (at t.level i) 0) normal degraded ≡ padded (map (cap t (worst_speed t i)) (rows_of t))
  worst_caps i = by_bool (is_low t i) (λ e. rw e ready.at_normal) (λ e. rw e ready.at_degraded)

  -- row i lowest of the rows that the word m holds, above the rows of b; whatever one of those down to i follows stands above i
  module _ (a b : List ℕ) (m i : ℕ) (w : Within (a ++ (i ∷ [])) (rows_of t)) (stand : Stand t a i) (h : Holds m (a ++ (i ∷ []))) where
    abbrev o : List ℕ
    o = a ++ (i ∷ b)

    row : Row t i
    row = rows_in_lem t i (omega (arith, in_last a i, w i))

    part_is : at part i ≡ promise_need t i
    part_is = rw ready.parts (padded_at (promise_need t) t.n i row.from row.up_to (facts t ready.accepted).few)

    pub finish_is : swept_by queue t.n t.release (cond (eqb (at t.level i) 0) normal degraded) m i ≡ worst_finish t o i
    finish_is =
        finds t ready.accepted m (worst_speed t i) (release_of t i) queue (cond (eqb (at t.level i) 0) normal degraded) ready.queued (worst_caps i)
        ∙ sym (worst_sweep t ready.accepted a b i w stand (queued t m) (queued_sorted t m) (queued_same t m (a ++ (i ∷ [])) h w))

    -- only a LO row is promised a part
    only_low : ltb 0 (promised_of t i) ≡ true → is_promised t i ≡ true
    only_low e = rw (e, ((facts t ready.accepted).part i row).low (ltb-true 0 (promised_of t i) e))

    nothing_promised : ltb 0 (promised_of t i) ≡ false → is_promised t i ≡ false
    nothing_promised e = by_bool (is_low t i) (λ y. rw (y, e)) (λ y. rw y)

    pub latest_is : (finish : ℕ) → finish ≡ worst_finish t o i
        → counted_from finish (promised_of t i) (swept_by queue t.n t.release (put degraded i (at part i)) m i) ≡ latest t o i
    unfolding latest
    latest_is finish f =
        by_bool (ltb 0 (promised_of t i))
        (λ y. rw (only_low y, y, f, finds_part t ready.accepted a b m i (at part i) queue degraded w stand h (only_low y) ready.queued ready.at_degraded part_is))
        (λ y. rw (nothing_promised y, y, f))
