-- Run records (rule 8.1): which of them are sound (rules 8.3 to 8.8), the fresh record (rule 8.2), one slot (rule 8.9), forward (rule 8.10)
-- and the coming slot (rule 8.15). What a slot does is not said here once more: it is `run_slot` of the rules, on the state held (rules 9.16,
-- 19.2), and its two halves are `slot` and `close_late`.
use Rattle.std.specs.Prelude.{ℕ, ◌+◌, Bool, cond, not, ◌&&◌, ◌||◌, List, [], ◌∷◌, eqb, ltb, leb, drop, replicate, Ok, Err}
use Rattle.rules.specs.declared.Table.{Table}
use Rattle.record.specs.declared.Run.{Run}
use Rattle.rules.specs.declared.Refusal.TheVariants as Refusals
use Rattle.rules.specs.Checks.{Check, Passed, Refused}
use Rattle.record.specs.declared.FreshRun.{FreshRun}
use Rattle.record.specs.SlotAnswers.{SlotAnswer}
use Rattle.record.specs.SlotAnswers as Slots
use Rattle.record.specs.declared.Stepped.{Stepped}
use Rattle.record.specs.declared.ForwardAnswer.TheVariants as Forwards
use Rattle.record.specs.declared.Forwarded.{Forwarded}
use Rattle.rules.specs.Lists.{all, all_zero}
use Rattle.rules.specs.Rows.{at, is_low, rows_of, work_of, deadline_of}
use Rattle.rules.specs.Tables.{passed, zero_table}
use Rattle.rules.specs.Orders.{check_both}
use Rattle.rules.specs.Running.{is_due, close_late, run_slot}
use Rattle.rules.specs.Slots.{State, start_at, fresh, is_over, chosen, slot}
use Rattle.columns.specs.Dues.{first_due}
use Rattle.rules.specs.Calls.{last_clock}

-- the state that a record holds (rules 2.13, 8.1)
abbrev pub state_of : Run → State
state_of r = record { clock = r.clock; got = r.got; used = r.used; closing = r.closing }

-- the record of a table, an order and a state (rule 8.1)
abbrev pub record_of : Table → List ℕ → State → Run
record_of t o s = record { table = t; order = o; clock = s.clock; got = s.got; used = s.used; closing = s.closing }

-- Row i's figures are sound: its work got is at most c, its slots used and its closing slot are at most the clock (rule 8.6). If it is open, it
-- is not over, as `is_over` says, and the clock has not to close it, as `is_due` says. If it is closed, it is over, or it is LO and its closing
-- slot is its deadline (rules 8.7, 19.2).
unfoldable pub row_sound : Run → ℕ → Bool
row_sound r i =
    leb (at r.got i) (work_of r.table i)
    && leb (at r.used i) r.clock
    && leb (at r.closing i) r.clock
    && cond (eqb (at r.closing i) 0)
    (not (is_over r.table i (at r.got i) (at r.used i)) && not (is_due r.table r.clock i))
    (is_over r.table i (at r.got i) (at r.used i) || (is_low r.table i && eqb (at r.closing i) (deadline_of r.table i)))

-- after row n the columns of the state hold zeros only (rule 8.8)
unfoldable pub tail_sound : Run → Bool
tail_sound r = all_zero (drop r.table.n r.got) && all_zero (drop r.table.n r.used) && all_zero (drop r.table.n r.closing)

-- Check 9 lets the record through (rule 8.3): its table and order pass 3, 4, 11, 5, 12, 13 to 15 and 6 (rule 8.4), its clock is at most
-- 2,000,000 slots (rule 8.5), the figures of each row are sound (rules 8.6, 8.7), and zeros stand behind them (rule 8.8).
unfoldable pub is_sound : Run → Bool
is_sound r =
    passed (check_both r.table r.order)
    && leb r.clock last_clock
    && all (row_sound r) (rows_of r.table)
    && tail_sound r

-- a table and an order at clock u, in slots, with every row open and empty (rules 22.4, 22.7)
abbrev pub start_run : Table → List ℕ → ℕ → Run
start_run t o u = record_of t o (start_at u)

-- a table and an order before their first slot: the state is the one of zeros (rules 2.13, 8.2)
abbrev pub fresh_run : Table → List ℕ → Run
fresh_run t o = record_of t o fresh

-- by what the checks of table and order answer: that record, or on a refusal the record of zeros (rule 8.2)
abbrev pub fresh_checked : Check → Table → List ℕ → FreshRun
fresh_checked (Ok tt) t o = record { check = Passed; run = fresh_run t o }
fresh_checked (Err r) t o = record { check = Refused r; run = fresh_run zero_table (replicate 64 0) }

-- the fresh record of any table and any sixty-four numbers, with the answer of their checks (rules 8.2, 11.4)
unfoldable pub fresh_of : Table → List ℕ → FreshRun
fresh_of t o = fresh_checked (check_both t o) t o

-- the record with its coming slot worked, with supply v in work units; table and order stay (rules 8.9, 9.10)
unfoldable pub next_run : Run → ℕ → Run
next_run r v = record_of r.table r.order (run_slot r.table r.order v (state_of r))

-- the two halves of that step: the slot by the planning rule, and the look at the clock (rule 19.2)
unfoldable pub worked_run : Run → ℕ → Run
worked_run r v = record_of r.table r.order (slot r.table r.order v (state_of r))

unfoldable pub closed_run : Run → Run
closed_run r = record_of r.table r.order (close_late r.table (state_of r))

-- the first clock, in slots, at which the look may close a row of the record: the least deadline of its LO rows that are open (rule 19.7)
abbrev pub due_of : Run → ℕ
due_of r = first_due r.table.n r.table.deadline r.table.level r.closing

-- the row that the coming slot runs, 0 for an idle slot; it is the same for every supply, since none is asked for (rules 2.3, 2.4)
unfoldable pub chosen_row : Run → ℕ
chosen_row r = chosen r.table r.order (state_of r)

-- The answer for the coming slot, before its supply is known: 9 for an unsound record, 8 at clock 2,000,000, else the row (rules 8.15,
-- 11.5). Firmware may start that row and report the supply afterwards.
unfoldable pub coming_slot : Run → SlotAnswer
coming_slot r =
    cond (is_sound r)
    (cond (ltb r.clock last_clock) (Slots.Worked (chosen_row r)) (Slots.Refused Refusals.ClockOver))
    (Slots.Refused Refusals.Unsound)

-- One slot with supply v, in work units. Check 9 comes first and 8 after it, and with either of them the record stays (rules 8.9, 8.13,
-- 8.14, 11.5).
unfoldable pub one_slot : Run → ℕ → Stepped
one_slot r v =
    cond (is_sound r)
    (cond (ltb r.clock last_clock)
    (record { answer = Slots.Worked (chosen_row r); run = next_run r v })
    (record { answer = Slots.Refused Refusals.ClockOver; run = r }))
    (record { answer = Slots.Refused Refusals.Unsound; run = r })

-- One slot for each supply (work units), first to last, on a sound record; k are worked already (rule 8.10). No supply, no change (rule
-- 8.12). A supply at clock 2,000,000 ends it with the count up to there and the record as these slots left it (rule 8.13).
unfoldable pub work_on : ℕ → List ℕ → Run → Forwarded
work_on k [] r = record { answer = Forwards.Worked k; run = r }
work_on k (v ∷ vs) r = cond (ltb r.clock last_clock) (work_on (k + 1) vs (next_run r v)) (record { answer = Forwards.ClockOver k; run = r })

-- Forward, the second entry (rule 8.10). Check 9 is made once, before any supply is looked at; an unsound record stays as it was,
-- whatever the supplies (rules 8.14, 11.5).
unfoldable pub forward_over : Run → List ℕ → Forwarded
forward_over r vs = cond (is_sound r) (work_on 0 vs r) (record { answer = Forwards.Refused Refusals.Unsound; run = r })
