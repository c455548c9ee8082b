-- What waiting does to runs (section 21 of the rules). Under an order that passes check 6 it changes no slot: the first row from the top that is released and
-- open has every row that it follows closed, since that one stands above it and was released no later (rule 21.2). So such an order makes the runs of the
-- table that states no wait. In every run a follower has used no slot before the row that it follows is closed (rules 2.15, 9.19). And in a trial,
-- whose rows above may break waits among themselves, the finish is what it is without waits (rule 21.3).
use Prim.Native.Nat.{ℕ, ◌+◌, ◌≤◌}
use Rattle.std.specs.Prelude.{replicate}
use Rattle.rules.specs.declared.Table.{Table}
use Rattle.rules.specs.Rows.{at, follows_of}
use Rattle.rules.specs.Slots.{State}

-- the table with every w at 0
abbrev pub unbound : Table → Table
unbound t =
    record {
      n = t.n;
      normal = t.normal;
      degraded = t.degraded;
      loading = t.loading;
      release = t.release;
      work = t.work;
      deadline = t.deadline;
      level = t.level;
      promised = t.promised;
      follows = replicate 64 0;
    }

-- A follower that has used a slot: the row that it follows is closed, its closing slot is at least 1, and all slots of the follower came after it.
pub record Later (t : Table) (s : State) (i k : ℕ) : Type 0 where
  pub closed : 1 ≤ at s.closing (follows_of t i)
  pub after : at s.closing (follows_of t i) + at s.used i ≤ k
