-- A column of figures of the rows, filled place by place from the top of an order.
use Rattle.std.specs.Prelude.{ℕ, suc, ◌+◌, ◌-◌, ◌^◌, ◌≤◌, ◌<◌, cond, ◌≡◌, refl, List, [], ◌∷◌, ◌++◌, map, eqb, leb, length, get_or, take, drop, set, replicate}
use Rattle.std.proofs.Common.{sym, ap, ◌∙◌, add-one, arith, le-leb, ext_get_or, get_or-set_same, get_or-set_other, get_or-take, take-suc, take-take, length-take-le}
use Rattle.std.proofs.lemmas.Bool.{lt-leb}
use Rattle.std.proofs.Math.Seq.{split_at}
use Rattle.rules.specs.declared.Table.{Table}
use Rattle.rules.specs.Lists.{count}
use Rattle.rules.specs.Rows.{at, put, rows_of, promised_of}
use Rattle.rules.specs.Worst.{worst_finish}
use Rattle.rules.specs.Choice.{padded}
use Rattle.theory.specs.Tests.{gate, by_eqb, by-ltb}
use Rattle.theory.specs.Counts.{Within, count_append, count_same, count_other, in_last}
use Rattle.theory.specs.Facts.{Row, rows_in_lem, facts, count_rows, count_no_row}
use Rattle.theory.specs.Places.{order_rows, rows_once, stand_at}
use Rattle.theory.specs.Promised.{latest}
use Rattle.theory.specs.Waits.{Stand}
use Rattle.sweep.specs.Masks.{bit}
use Rattle.sweep.specs.Holds.{Holds, holds_with_last}
use Rattle.sweep.specs.Padded.{padded_at, padded_length, rows_length}
use Rattle.judge.specs.Checked.{Checked}
use Rattle.sweep.specs.Finds.{zero_entry}
use Rattle.judge.specs.Down.{Ready, swept_by, counted_from, padded_past, finish_is, latest_is}

-- the rows of the first k places have their figure f in the column, and the others 0
abbrev pub Stored : (ℕ → ℕ) → List ℕ → ℕ → List ℕ → Type 0
Stored f o k out = (x : ℕ) → 1 ≤ x → at out x ≡ gate (leb 1 (count x (take k o))) (f x)

pub stored_none : (f : ℕ → ℕ) (o : List ℕ) → Stored f o 0 (replicate 64 0)
stored_none f o x h = zero_entry (replicate 64 0) (x - 1) refl

module _ (t : Table) (o : List ℕ) (c : Checked t o) (long : length o ≡ 64) where
  few : t.n ≤ 64
  few = (facts t c.accepted).few

  -- place k, counted from 0
  module _ (k : ℕ) (h : k < t.n) where
    abbrev row : ℕ
    row = get_or o k 0

    parted : take t.n o ≡ take k o ++ (row ∷ drop (suc k) (take t.n o))
    parted =
        let l = length-take-le t.n o (omega (arith, few)) in
        rw (← take-take k t.n o (omega arith), ← get_or-take t.n o k 0 h) (split_at (take t.n o) k 0 (omega arith))

    within : Within (take k o ++ (row ∷ [])) (rows_of t)
    within x =
        let rest = drop (suc k) (take t.n o) in
        let c1 : count x (take t.n o) ≡ count x (take k o ++ (row ∷ rest)) = ap (count x) parted in
        omega (arith, order_rows t o c.order x, count_append x (take k o) (row ∷ []), count_append x (take k o) (row ∷ rest), count_append x (row ∷ []) rest)

    -- what its row and the rows above it follow is among these
    stand : Stand t (take k o) row
    stand = stand_at t (facts t c.accepted) o c.order row (take k o) (drop (suc k) (take t.n o)) parted

    -- its row is a row of the table, and stands nowhere above
    place_row : Row t row
    place_row = rows_in_lem t row (omega (arith, in_last (take k o) row, within row))

    pub place_range : (1 ≤ row) × (row ≤ 64)
    place_range = let r = place_row in (r.from, omega (arith, r.up_to, few))

    fresh : count row (take k o) ≡ 0
    fresh = omega (arith, within row, rows_once t.n row, count_append row (take k o) (row ∷ []), count_same row [])

    down_to : take (k + 1) o ≡ take k o ++ (row ∷ [])
    down_to = rw (add-one k) (take-suc o k 0 (omega (arith, few)))

    module _ (m : ℕ) (p : Holds m (take k o)) where
      pub place_free : bit m (row - 1) ≡ 0
      place_free = p.bits row place_row.from ∙ fresh

      -- the word of the rows down to the place
      pub place_down : Holds (m + 2 ^ (row - 1)) (take (k + 1) o)
      place_down = rw down_to (holds_with_last m (take k o) row place_range.0 place_range.1 p fresh)

    -- the sweeps over the rows down to the place find its row's worst finish, and the clock that its slack counts from
    module _ (m : ℕ) (p : Holds m (take (k + 1) o)) (queue normal part degraded : List ℕ) (ready : Ready t queue normal part degraded) where
      abbrev below : List ℕ
      below = drop (suc k) o

      down : Holds m (take k o ++ (row ∷ []))
      down = rw down_to at p

      whole : o ≡ take k o ++ (row ∷ below)
      whole = split_at o k 0 (omega (arith, few))

      pub place_finish : swept_by queue t.n t.release (cond (eqb (at t.level row) 0) normal degraded) m row ≡ worst_finish t o row
      place_finish = finish_is t queue normal part degraded ready (take k o) below m row within stand down ∙ ap (λ (l : List ℕ). worst_finish t l row) (sym whole)

      pub place_latest : (finish : ℕ) → finish ≡ worst_finish t o row
          → counted_from finish (promised_of t row) (swept_by queue t.n t.release (put degraded row (at part row)) m row) ≡ latest t o row
      place_latest finish f =
          latest_is t queue normal part degraded ready (take k o) below m row within stand down finish (f ∙ ap (λ (l : List ℕ). worst_finish t l row) whole)
          ∙ ap (λ (l : List ℕ). latest t l row) (sym whole)

    -- its row's figure is stored
    pub stored_more : (f : ℕ → ℕ) (out : List ℕ) (v : ℕ) → length out ≡ 64 → v ≡ f row → Stored f o k out → Stored f o (k + 1) (set out (row - 1) v)
    stored_more f out v lo e s x x1 =
        let r = place_range in
        let n = count_append x (take k o) (row ∷ []) in
        rw down_to (by_eqb x row
        (λ _ q. rw (q, get_or-set_same out (row - 1) v 0 (omega arith), le-leb 1 (count row (take k o ++ (row ∷ []))) (in_last (take k o) row)) e)
        (λ _ q. let z : count x (take k o ++ (row ∷ [])) ≡ count x (take k o) = omega (arith, count_other x row [] q) in
        rw (get_or-set_other out (row - 1) (x - 1) v 0 (λ w. q (omega arith)), z) (s x x1)))

  -- after n places the column is whole
  pub stored_all : (f : ℕ → ℕ) (out : List ℕ) → length out ≡ 64 → Stored f o t.n out → out ≡ padded (map f (rows_of t))
  stored_all f out lo s =
      let lr = padded_length (map f (rows_of t)) (omega (arith, rows_length f t.n, few)) in
      ext_get_or 0 out (padded (map f (rows_of t))) (omega arith) (λ j h.
      let w : suc j - 1 ≡ j = omega arith in
      let n = order_rows t o c.order (suc j) in
      let e : get_or out j 0 ≡ gate (leb 1 (count (suc j) (take t.n o))) (f (suc j)) = rw w at (s (suc j) (omega arith)) in
      by-ltb j t.n
      (λ _ q. e ∙ rw (le-leb 1 (count (suc j) (take t.n o)) (omega (arith, count_rows t.n (suc j) (omega arith) q)))
      (sym (rw w at (padded_at f t.n (suc j) (omega arith) q few))))
      (λ _ q. e ∙ rw (lt-leb 1 (count (suc j) (take t.n o)) (omega (arith, count_no_row t.n (suc j) (omega arith))))
      (sym (padded_past f t.n j few q))))
