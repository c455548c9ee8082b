-- What the rules said of run records before w. As in Unwaited, w is not looked at, and the clock closes LO rows as in the rules' own definition (rule
-- 19.2).
use Rattle.std.specs.Prelude.{ℕ, ◌+◌, Bool, cond, not, ◌&&◌, ◌||◌, List, [], ◌∷◌, eqb, ltb, leb}
use Rattle.rules.specs.declared.Table.{Table}
use Rattle.rules.specs.declared.Refusal.TheVariants as Refusals
use Rattle.rules.specs.Calls.{last_clock}
use Rattle.rules.specs.Lists.{all}
use Rattle.rules.specs.Rows.{at, is_low, rows_of, work_of, deadline_of}
use Rattle.rules.specs.Running.{is_due}
use Rattle.rules.specs.Tables.{passed}
use Rattle.record.specs.declared.Run.{Run}
use Rattle.record.specs.declared.FreshRun.{FreshRun}
use Rattle.record.specs.SlotAnswers.{SlotAnswer}
use Rattle.record.specs.SlotAnswers as Slots
use Rattle.record.specs.declared.Stepped.{Stepped}
use Rattle.record.specs.declared.ForwardAnswer.TheVariants as Forwards
use Rattle.record.specs.declared.Forwarded.{Forwarded}
use Rattle.record.specs.Records.{state_of, record_of, tail_sound, fresh_checked}
use Rattle.unwaited.specs.Unwaited as Then
use Rattle.unwaited.specs.Unwaited.{Past}

-- check 9
unfoldable pub row_sound : Past → Run → ℕ → Bool
row_sound p r i =
    leb (at r.got i) (work_of r.table i)
    && leb (at r.used i) r.clock
    && leb (at r.closing i) r.clock
    && cond (eqb (at r.closing i) 0)
    (not (Then.is_over p r.table i (at r.got i) (at r.used i)) && not (is_due r.table r.clock i))
    (Then.is_over p r.table i (at r.got i) (at r.used i) || (is_low r.table i && eqb (at r.closing i) (deadline_of r.table i)))

unfoldable pub is_sound : Past → Run → Bool
is_sound p r =
    passed (Then.check_both p r.table r.order)
    && leb r.clock last_clock
    && all (row_sound p r) (rows_of r.table)
    && tail_sound r

-- the fresh record
unfoldable pub fresh_of : Past → Table → List ℕ → FreshRun
fresh_of p t o = fresh_checked (Then.check_both p t o) t o

-- the record after one slot of supply v, in work units
unfoldable pub next_run : Past → Run → ℕ → Run
next_run p r v = record_of r.table r.order (Then.run_slot p r.table r.order v (state_of r))

-- the row that the coming slot runs, the answer for it, one slot, and forward
unfoldable pub chosen_row : Run → ℕ
chosen_row r = Then.chosen r.table r.order (state_of r)

unfoldable pub coming_slot : Past → Run → SlotAnswer
coming_slot p r =
    cond (is_sound p r)
    (cond (ltb r.clock last_clock) (Slots.Worked (chosen_row r)) (Slots.Refused Refusals.ClockOver))
    (Slots.Refused Refusals.Unsound)

unfoldable pub one_slot : Past → Run → ℕ → Stepped
one_slot p r v =
    cond (is_sound p r)
    (cond (ltb r.clock last_clock)
    (record { answer = Slots.Worked (chosen_row r); run = next_run p r v })
    (record { answer = Slots.Refused Refusals.ClockOver; run = r }))
    (record { answer = Slots.Refused Refusals.Unsound; run = r })

unfoldable pub work_on : Past → ℕ → List ℕ → Run → Forwarded
work_on p k [] r = record { answer = Forwards.Worked k; run = r }
work_on p k (v ∷ vs) r = cond (ltb r.clock last_clock) (work_on p (k + 1) vs (next_run p r v)) (record { answer = Forwards.ClockOver k; run = r })

unfoldable pub forward_over : Past → Run → List ℕ → Forwarded
forward_over p r vs = cond (is_sound p r) (work_on p 0 vs r) (record { answer = Forwards.Refused Refusals.Unsound; run = r })
