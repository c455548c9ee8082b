-- The promised part of a LO row as a job of its own: the table in which the row is a HI job of just its promised work (rules 1.11, 20.4). Up to
-- the moment at which the row has got that part, a run of the table and a run of this one go the same way, whatever the slots supply from G on;
-- so what is known of HI rows holds of promised parts.
use Prim.Native.Nat.{ℕ}
use Rattle.std.specs.Prelude.{cond, List, map, eqb}
use Rattle.rules.specs.declared.Table.{Table}
use Rattle.rules.specs.Lists.{rows_to}
use Rattle.rules.specs.Rows.{at, work_of, promised_of}

-- one figure for each of sixty-four rows
abbrev pub figures_of : (ℕ → ℕ) → List ℕ
figures_of f = map f (rows_to 64)

-- the figure v in place of row i's
abbrev pub besides : ℕ → ℕ → (ℕ → ℕ) → ℕ → ℕ
besides i v f j = cond (eqb j i) v (f j)

-- the table in which row i is a HI job of its promised work
abbrev pub part_table : Table → ℕ → Table
part_table t i =
    record {
      n = t.n;
      normal = t.normal;
      degraded = t.degraded;
      loading = t.loading;
      release = t.release;
      work = figures_of (besides i (promised_of t i) (work_of t));
      deadline = t.deadline;
      level = figures_of (besides i 1 (at t.level));
      promised = figures_of (besides i 0 (promised_of t));
      follows = t.follows;
    }
