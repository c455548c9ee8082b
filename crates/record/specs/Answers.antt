-- The number and the value of every case of the run calls' answers (rules 10.0, 10.8, 10.9).
use Rattle.std.specs.Prelude.{Ok, Err}
use Rattle.record.specs.SlotAnswers.{SlotAnswer}
use Rattle.record.specs.declared.ForwardAnswer.{ForwardAnswer}
use Rattle.record.specs.declared.ForwardAnswer.TheVariants as Forwards
use Rattle.rules.specs.Calls.{Said}
use Rattle.rules.specs.Numbers.{refusal_number}

-- One slot, and the coming slot: 0 with the row, which is 0 for an idle slot (rules 8.9, 8.15); a refusal's number with row 0 (rules 8.13, 8.14,
-- 10.8, 10.9).
unfoldable pub slot_said : SlotAnswer → Said
unfolding refusal_number
slot_said (Ok row) = record { number = 0; value = row }
slot_said (Err r) = record { number = refusal_number r; value = 0 }

-- Forward: 0 with the slots worked (rule 8.10); 8 with those worked up to the refused supply (rules 8.13, 10.8); 9 with none (rules 8.14,
-- 10.9).
unfoldable pub forward_said : ForwardAnswer → Said
unfolding refusal_number
forward_said (Forwards.Worked slots) = record { number = 0; value = slots }
forward_said (Forwards.ClockOver slots) = record { number = 8; value = slots }
forward_said (Forwards.Refused r) = record { number = refusal_number r; value = 0 }
