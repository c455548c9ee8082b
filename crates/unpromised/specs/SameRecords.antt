-- A record of a table whose r and w are all 0, sound or not, is answered as by the rules from before r (rule 20.2): check 9, fresh record, coming slot, one
-- slot, forward.
use Rattle.std.specs.Prelude.{ℕ, true, List, ◌≡◌}
use Rattle.rules.specs.declared.Table.{Table}
use Rattle.rules.specs.Lists.{all_zero}
use Rattle.record.specs.declared.Run.{Run}
use Rattle.record.specs.Records.{is_sound, fresh_of, next_run, coming_slot, one_slot, forward_over}
use Rattle.unwaited.specs.OldRecords as Then
use Rattle.unwaited.proofs.SameRecords as Since
use Rattle.unwaited.specs.Unwaited.{Before}
use Rattle.unpromised.specs.Same.{own}
use Rattle.unpromised.specs.Unpromised.{with_loading}

pub fresh_same : (t : Table) → all_zero t.promised ≡ true → all_zero t.follows ≡ true → (o : List ℕ) → fresh_of t o ≡ Then.fresh_of with_loading t o
fresh_same t none free = Since.fresh_same with_loading t (own t none free)

module _ (r : Run) (none : all_zero r.table.promised ≡ true) (free : all_zero r.table.follows ≡ true) where
  abbrev held : Before with_loading r.table
  held = own r.table none free

  pub sound_same : is_sound r ≡ Then.is_sound with_loading r
  sound_same = Since.sound_same with_loading r held

  pub next_same : (v : ℕ) → next_run r v ≡ Then.next_run with_loading r v
  next_same = Since.next_same with_loading r held

  pub coming_same : coming_slot r ≡ Then.coming_slot with_loading r
  coming_same = Since.coming_same with_loading r held

  pub one_same : (v : ℕ) → one_slot r v ≡ Then.one_slot with_loading r v
  one_same = Since.one_same with_loading r held

  pub forward_same : (vs : List ℕ) → forward_over r vs ≡ Then.forward_over with_loading r vs
  forward_same = Since.forward_same with_loading r held
