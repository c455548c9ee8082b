-- The needs and caps of a table's rows as columns.
use Rattle.std.specs.Prelude.{ℕ, suc, ◌-◌, ◌≤◌, ◌<◌, max, cond, ◌≡◌, List, map, eqb, get_or}
use Rattle.std.proofs.Common.{sym, ap, ◌∙◌, arith}
use Rattle.rules.specs.declared.Table.{Table}
use Rattle.rules.specs.Need.{need}
use Rattle.rules.specs.Rows.{at, rows_of, work_of, promised_of, need_of, promise_need, is_low}
use Rattle.rules.specs.Tables.{Accepted}
use Rattle.rules.specs.Choice.{padded}
use Rattle.theory.specs.Agree.{map_agree}
use Rattle.theory.specs.Caps.{cap, cap_normal, cap_degraded, cap_high, slots_most}
use Rattle.theory.specs.Facts.{Row, TableFacts, facts, rows_in_lem}
use Rattle.theory.specs.Tests.{by_bool}
use Rattle.sweep.specs.Padded.{map_same, padded_at, padded_most}

-- the limits within which the code's numbers hold every need: rows, slots of loading, and work units
pub record Limited (n loading : ℕ) (work : List ℕ) : Type 0 where
  pub few : n ≤ 64
  pub loads : loading ≤ 16
  pub light : (k : ℕ) → k < n → get_or work k 0 ≤ 1000000

pub limited : (t : Table) → Accepted t → Limited t.n t.loading t.work
limited t h =
    let f = facts t h in
    record {
      few = f.few;
      loads = f.loads;
      light = λ k q. let e : suc k - 1 ≡ k = omega arith in
          let l : work_of t (suc k) ≤ 1000000 = (f.row (suc k) (record { from = omega arith; up_to = q })).light in
          rw e at l;
    }

-- the promised parts of an accepted table are within the same limits, since none is more than its row's work
pub limited_parts : (t : Table) → Accepted t → Limited t.n t.loading t.promised
limited_parts t h =
    let f = facts t h in
    record {
      few = f.few;
      loads = f.loads;
      light = λ k q. let e : suc k - 1 ≡ k = omega arith in
          let r : Row t (suc k) = record { from = omega arith; up_to = q } in
          let l : promised_of t (suc k) ≤ 1000000 = omega (arith, (f.row (suc k) r).light, (f.part (suc k) r).within) in
          rw e at l;
    }

-- the cap, in slots, at supplies of at least s work units per slot, of a row of this level with these needs of its work at N and of its promised part
-- at s
abbrev pub degraded_cap : ℕ → ℕ → ℕ → ℕ → ℕ → ℕ → ℕ
degraded_cap level normalNeed partNeed loading work s = cond (eqb level 0) (max normalNeed partNeed) (need loading work s)

-- the rows' needs of their promised parts at G as a column, in slots
abbrev pub part_needs : Table → List ℕ
part_needs t = padded (map (promise_need t) (rows_of t))

-- none is over 1,000,016 slots
pub parts_most : (t : Table) → Accepted t → (j : ℕ) → get_or (part_needs t) j 0 ≤ 1000016
parts_most t h =
    let f = facts t h in
    padded_most (promise_need t) t.n 1000016 f.few
    (λ i p q. let r : Row t i = record { from = p; up_to = q } in
    omega (arith, slots_most (promised_of t i) t.degraded f.crawls, f.loads, (f.row i r).light, (f.part i r).within))

-- the rows' needs at N as a column, in slots
abbrev pub normal_needs : Table → List ℕ
normal_needs t = padded (map (need_of t) (rows_of t))

-- at supplies of at least N they are the rows' caps, for LO rows as for HI rows
pub caps_normal : (t : Table) → normal_needs t ≡ padded (map (cap t t.normal) (rows_of t))
caps_normal t = ap padded (map_agree (need_of t) (cap t t.normal) (λ i. sym (cap_normal t i)) (rows_of t))

-- what `degraded_caps` makes of the columns of needs are the caps at supplies of at least G
pub caps_degraded : (t : Table) → Accepted t → (column parts caps : List ℕ) → column ≡ normal_needs t → parts ≡ part_needs t
    → caps ≡ padded (map (λ i. degraded_cap (at t.level i) (at column i) (at parts i) t.loading (work_of t i) t.degraded) (rows_of t))
    → caps ≡ padded (map (cap t t.degraded) (rows_of t))
caps_degraded t h column parts caps e p made =
    made ∙ ap padded
    (map_same (λ i. degraded_cap (at t.level i) (at column i) (at parts i) t.loading (work_of t i) t.degraded) (cap t t.degraded) (rows_of t)
    (λ i k. let r = rows_in_lem t i k in
    rw (e, p, padded_at (need_of t) t.n i r.from r.up_to f.few, padded_at (promise_need t) t.n i r.from r.up_to f.few) (is i r)))
  where
    f : TableFacts t
    f = facts t h

    is : (i : ℕ) → Row t i → degraded_cap (at t.level i) (need_of t i) (promise_need t i) t.loading (work_of t i) t.degraded ≡ cap t t.degraded i
    is i r =
        by_bool (is_low t i)
        (λ e. rw e (sym (cap_degraded t i f.crawls f.slower (f.part i r).within e)))
        (λ e. rw e (sym (cap_high t t.degraded i e)))
