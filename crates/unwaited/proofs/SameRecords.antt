-- A record of a table whose w is all 0, sound or not, is answered as by the rules from before w (rule 21.5), and so of one whose r, or whose K, is 0 as
-- well by those from before that: check 9, fresh record, coming slot, one slot, forward.
use Rattle.std.specs.Prelude.{ℕ, ◌+◌, List, [], ◌∷◌, ◌≡◌, refl}
use Rattle.rules.specs.declared.Table.{Table}
use Rattle.rules.specs.Rows.{at, rows_of}
use Rattle.record.specs.declared.Run.{Run}
use Rattle.record.specs.Records.{state_of, row_sound, is_sound, fresh_of, next_run, chosen_row, coming_slot, one_slot, work_on, forward_over}
use Rattle.theory.specs.Agree.{all_agree}
use Rattle.unwaited.specs.OldRecords as Then
use Rattle.unwaited.specs.Unwaited.{Past, Before}
use Rattle.unwaited.proofs.Same.{chosen_same, over_same, step_same, both_same}

pub fresh_same : (p : Past) (t : Table) → Before p t → (o : List ℕ) → fresh_of t o ≡ Then.fresh_of p t o
unfolding fresh_of Then.fresh_of
fresh_same p t b o = rw (both_same p t b o)

module _ (p : Past) (r : Run) (b : Before p r.table) where
  row_same : (i : ℕ) → row_sound r i ≡ Then.row_sound p r i
  unfolding row_sound Then.row_sound
  row_same i = rw (over_same p r.table b i (at r.got i) (at r.used i))

  pub sound_same : is_sound r ≡ Then.is_sound p r
  unfolding is_sound Then.is_sound
  sound_same = rw (both_same p r.table b r.order, all_agree (row_sound r) (Then.row_sound p r) row_same (rows_of r.table))

  pub next_same : (v : ℕ) → next_run r v ≡ Then.next_run p r v
  unfolding next_run Then.next_run
  next_same v = rw (step_same p r.table b r.order v (state_of r))

  row_chosen : chosen_row r ≡ Then.chosen_row r
  unfolding chosen_row Then.chosen_row
  row_chosen = chosen_same p r.table b r.order (state_of r)

  pub coming_same : coming_slot r ≡ Then.coming_slot p r
  unfolding coming_slot Then.coming_slot
  coming_same = rw (sound_same, row_chosen)

  pub one_same : (v : ℕ) → one_slot r v ≡ Then.one_slot p r v
  unfolding one_slot Then.one_slot
  one_same v = rw (sound_same, row_chosen, next_same v)

work_same : (p : Past) (k : ℕ) (vs : List ℕ) (r : Run) → Before p r.table → work_on k vs r ≡ Then.work_on p k vs r
unfolding work_on Then.work_on Then.next_run
work_same p k [] r b = refl
work_same p k (v ∷ vs) r b = rw (next_same p r b v, work_same p (k + 1) vs (Then.next_run p r v) b)

pub forward_same : (p : Past) (r : Run) → Before p r.table → (vs : List ℕ) → forward_over r vs ≡ Then.forward_over p r vs
unfolding forward_over Then.forward_over
forward_same p r b vs = rw (sound_same p r b, work_same p 0 vs r b)
