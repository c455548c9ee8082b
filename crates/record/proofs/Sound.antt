-- What check 9 says of a sound record (rules 8.3 to 8.8), as facts, and the facts of the row that its coming slot runs (rule 2.3).
use Rattle.std.specs.Prelude.{ℕ, Bool, true, ◌&&◌, ◌≡◌, refl, leb}
use Rattle.std.proofs.Math.Path.{sym}
use Rattle.std.proofs.Common.{◌∙◌, arith}
use borrow.Author.Tests.{leb-true, le-leb}
use Rattle.rules.specs.Calls.{last_clock}
use Rattle.rules.specs.Lists.{all, first}
use Rattle.rules.specs.Rows.{rows_of}
use Rattle.rules.specs.Tables.{passed}
use Rattle.rules.specs.Orders.{check_both}
use Rattle.rules.specs.Slots.{is_pending, is_over}
use Rattle.record.specs.declared.Run.{Run}
use Rattle.record.specs.Records.{state_of, row_sound, tail_sound, is_sound, chosen_row}
use Rattle.theory.specs.Tests.{and_left, and_right}
use Rattle.columns.specs.AllRows.{all_each, all_of}
use Rattle.theory.specs.Cells.{chosen_ready}
use Rattle.theory.specs.Facts.{TableFacts, both_order}
use Rattle.theory.proofs.Waiting.{chosen_pending}
use Rattle.columns.specs.Figures.{over, sound_at, pending_at, sound_facts}
use Rattle.columns.specs.Places.{Placed}
use Rattle.record.specs.Checked.{passed_true, limits, places}
use Rattle.record.specs.Sound.{sound_row, IsSound, Runs, Serving}

row_figures : (r : Run) (i : ℕ) → row_sound r i ≡ sound_row r i
unfolding row_sound sound_at is_over over
row_figures r i = refl

module _ (r : Run) where
  abbrev one : Bool
  one = passed (check_both r.table r.order)

  abbrev two : Bool
  two = leb r.clock last_clock

  abbrev three : Bool
  three = all (row_sound r) (rows_of r.table)

  pub sound_so : is_sound r ≡ true → IsSound r
  unfolding is_sound
  sound_so e =
      let h = and_left (one && two && three) (tail_sound r) e in
      let g = and_left (one && two) three h in
      record {
        checked = passed_true (check_both r.table r.order) (and_left one two g);
        clock = leb-true r.clock last_clock (and_right one two g);
        rows = λ i l m. sym (row_figures r i) ∙ all_each (row_sound r) r.table.n (and_right (one && two) three h) i l m;
        tail = and_right (one && two && three) (tail_sound r) e;
      }

  pub is_sound_lem : IsSound r → is_sound r ≡ true
  unfolding is_sound
  is_sound_lem f =
      rw (f.checked, le-leb r.clock last_clock f.clock, all_of (row_sound r) r.table.n (λ i l m. row_figures r i ∙ f.rows i l m)) f.tail

-- the limits of a sound record's table
pub speeds : (r : Run) → is_sound r ≡ true → TableFacts r.table
speeds r e = limits r.table r.order (sound_so r e).checked

-- the order of a sound record holds rows in its first n places
pub order_placed : (r : Run) → is_sound r ≡ true → Placed r.table.n r.order
order_placed r e = places r.table r.order (sound_so r e).checked

pub runs : (r : Run) → (chosen_row r ≡ 0 → ⊥) → Runs r (chosen_row r)
unfolding chosen_row
runs r h =
    let f = chosen_ready r.table r.order (state_of r) (chosen_row r) (omega arith) refl in
    record { low = f.row.from; high = f.row.up_to; still = f.still }

-- It is the first from the top of the order that is released and open: the order of a sound record passes check 6, so that such a row never waits
-- (rule 21.2). So the code need not ask what a row follows.
pub chosen_first : (r : Run) → is_sound r ≡ true → chosen_row r ≡ first (pending_at r.table.n r.clock r.table.release r.closing) r.order
unfolding chosen_row is_pending
chosen_first r e =
    let c = (sound_so r e).checked in
    chosen_pending r.table (limits r.table r.order c) r.order (both_order r.table r.order c) (state_of r)

pub serving : (r : Run) (i : ℕ) → is_sound r ≡ true → i ≡ chosen_row r → (i ≡ 0 → ⊥) → Serving r i
serving r i e q h =
    let f = sound_so r e in
    let c : Runs r i = rw q (runs r (rw q at h)) in
    let s = sound_facts _ _ _ _ _ _ _ _ _ _ _ (f.rows i c.low c.high) in
    record {
      low = c.low;
      high = omega (arith, (limits r.table r.order f.checked).few, c.high);
      most = s.most;
      used_by = s.used_by;
    }
