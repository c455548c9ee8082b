-- The next record, apart: after an idle slot (rule 2.12), or with the chosen row served (rule 2.5), and then after the look at the clock
-- (rule 19.2), row by row.
use Rattle.std.specs.Prelude.{ℕ, ◌+◌, ◌≤◌, ◌<◌, min, Bool, cond, ◌≡◌, refl, length, drop}
use Rattle.std.proofs.Common.{sym}
use borrow.Author.Tests.{ne_eqb}
use Rattle.rules.specs.Rows.{at, put, work_of, promised_of}
use Rattle.rules.specs.Running.{close_late, run_slot}
use Rattle.rules.specs.Slots.{is_over, brought, serve, slot}
use Rattle.record.specs.declared.Run.{Run}
use Rattle.record.specs.Records.{chosen_row, next_run, worked_run, closed_run, due_of}
use Rattle.theory.specs.Late.{closed_length, closed_none}
use Rattle.columns.specs.Dues.{not_due}
use Rattle.columns.specs.Figures.{over, looked, due_at, due_beyond}
use Rattle.columns.specs.Late.{closed_drop, looked_row}

-- row i's work units after a slot that supplies v: at most its work (rules 2.5, 2.14)
abbrev pub got_next : Run → ℕ → ℕ → ℕ
got_next r v i = min (work_of r.table i) (at r.got i + brought r.table.loading (at r.used i) v)

-- its closing slot after that slot, 0 while it is open (rule 2.10)
abbrev pub closing_next : Run → ℕ → ℕ → ℕ
closing_next r v i =
    let t = r.table in
    cond (over (work_of t i) (at t.level i) (promised_of t i) t.normal t.degraded t.loading (got_next r v i) (at r.used i + 1)) (r.clock + 1) 0

-- the record after an idle slot
abbrev pub rested : Run → Run
rested r = record { table = r.table; order = r.order; clock = r.clock + 1; got = r.got; used = r.used; closing = r.closing }

-- the record after a slot in which row i runs with supply v
abbrev pub served : Run → ℕ → ℕ → Run
served r v i =
    record {
      table = r.table;
      order = r.order;
      clock = r.clock + 1;
      got = put r.got i (got_next r v i);
      used = put r.used i (at r.used i + 1);
      closing = put r.closing i (closing_next r v i);
    }

-- the same record by its figures: the row's work, level and promised part as they were read, and what was made of them
pub served_from : (r : Run) (v i work level promised got closing : ℕ) → work ≡ work_of r.table i → level ≡ at r.table.level i
    → promised ≡ promised_of r.table i
    → got ≡ min work (at r.got i + brought r.table.loading (at r.used i) v)
    → closing ≡ cond (over work level promised r.table.normal r.table.degraded r.table.loading got (at r.used i + 1)) (r.clock + 1) 0
    → ◌≡◌ {A = Run}
    (record {
      table = r.table;
      order = r.order;
      clock = r.clock + 1;
      got = put r.got i got;
      used = put r.used i (at r.used i + 1);
      closing = put r.closing i closing;
    })
    (served r v i)
served_from r v i work level promised got closing w l p g c = rw (c, g, w, l, p)

module _ (r : Run) (v i : ℕ) (e : i ≡ chosen_row r) where
  pub worked_idle : i ≡ 0 → worked_run r v ≡ rested r
  unfolding worked_run slot chosen_row
  worked_idle z = rw (sym e, z)

  pub worked_served : (i ≡ 0 → ⊥) → worked_run r v ≡ served r v i
  unfolding worked_run slot chosen_row serve is_over over
  worked_served z = rw (sym e, ne_eqb i 0 z)

-- a step is a slot and the look at the clock after it
pub next_looks : (r : Run) (v : ℕ) → next_run r v ≡ closed_run (worked_run r v)
unfolding next_run run_slot worked_run closed_run
next_looks r v = refl

-- what the look makes of a record: row i's closing slot, the columns' lengths, and the entries after row n
module _ (r : Run) where
  abbrev due : ℕ → Bool
  due = due_at r.table.n r.clock r.table.deadline r.table.level

  pub closed_row : (i : ℕ) → 1 ≤ i → i ≤ r.table.n → i ≤ length r.closing
      → at (closed_run r).closing i ≡ looked (at r.table.deadline i) (at r.table.level i) r.clock (at r.closing i)
  unfolding closed_run close_late
  closed_row i l h s = looked_row r.table.n r.clock r.table.deadline r.table.level r.closing i l h s

  pub closed_size : length (closed_run r).closing ≡ length r.closing
  unfolding closed_run close_late
  closed_size = closed_length due r.clock 1 r.closing

  pub closed_tail : drop r.table.n (closed_run r).closing ≡ drop r.table.n r.closing
  unfolding closed_run close_late
  closed_tail = closed_drop due r.clock r.table.n r.closing (λ j l. due_beyond r.table.n r.clock r.table.deadline r.table.level j l)

  -- before the first clock that may close a row it changes nothing (rule 19.7)
  pub closed_early : r.clock < due_of r → closed_run r ≡ r
  unfolding closed_run close_late
  closed_early early =
      rw (closed_none due r.clock r.closing (λ j l _ e. not_due r.table.deadline r.table.level r.table.n r.clock r.closing early j l e))

-- its other fields stay
pub closed_fields : (r : Run) → closed_run r ≡ record { table = r.table; order = r.order; clock = r.clock; got = r.got; used = r.used; closing = (closed_run r).closing }
unfolding closed_run close_late
closed_fields r = refl
