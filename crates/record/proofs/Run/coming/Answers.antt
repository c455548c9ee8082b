use Rattle.std.proofs.Common.{sym, ap, ◌∙◌, lt-ltb}
use Rattle.record.specs.SlotAnswers.{Worked}
use Rattle.record.specs.Records.{coming_slot}
use Rattle.record.proofs.Sound.{order_placed, chosen_first}
use Rattle.record.proofs.Run.coming.Goals as goal

pub chosen_row-requires : goal.chosen_row-requires
chosen_row-requires c = order_placed _ (sym c.is_sound.ensures ∙ c.if-not-is_sound.false)

pub returns : goal.returns
unfolding coming_slot
returns c =
    let e = sym c.is_sound.ensures ∙ c.if-not-is_sound.false in
    simp (e, lt-ltb _ _ c.if-self-ge-LAST_CLOCK.false) (ap Worked (c.chosen_row.ensures.0 ∙ sym (chosen_first _ e)))
