-- One slot after another over a list of supplies (rule 8.10): the supplies left decide what comes out, so that a loop may state its turn by
-- what is left.
use Rattle.std.specs.Prelude.{ℕ, ◌+◌, ◌≤◌, ◌<◌, cond, ◌≡◌, refl, ltb, length, get_or, drop}
use mathlib.Core.List.{List, ◌∷◌}
use Rattle.std.proofs.Math.Path.{sym}
use Rattle.std.proofs.Common.{ap, ◌∙◌, add-one, arith, drop_of_length-le, drop-cons, lt-ltb, le-ltb}
use Rattle.rules.specs.Calls.{last_clock}
use Rattle.theory.specs.Tests.{by_eqb}
use Rattle.record.specs.declared.Run.{Run}
use Rattle.record.specs.declared.Forwarded.{Forwarded}
use Rattle.record.specs.declared.ForwardAnswer.TheVariants.{Worked, ClockOver}
use Rattle.record.specs.Records.{next_run, worked_run, closed_run, due_of, chosen_row, work_on}
use Rattle.record.proofs.Sound.{runs}
use Rattle.record.specs.Stepping.{closing_next, served, worked_idle, worked_served, next_looks, closed_fields, closed_early}
use Rattle.columns.specs.Dues.{due_later}
use Rattle.columns.specs.Entries.{put_other}

-- idle or not, a slot moves the clock by one (rule 2.12), and the look at the clock leaves it there (rule 19.2)
pub worked_clock : (r : Run) (v : ℕ) → (worked_run r v).clock ≡ r.clock + 1
worked_clock r v =
    by_eqb (chosen_row r) 0
    (λ _ e. rw (worked_idle r v (chosen_row r) refl e))
    (λ _ e. rw (worked_served r v (chosen_row r) refl e))

closed_clock : (r : Run) → (closed_run r).clock ≡ r.clock
closed_clock r = rw (closed_fields r)

pub next_clock : (r : Run) (v : ℕ) → (next_run r v).clock ≡ r.clock + 1
next_clock r v = rw (next_looks r v) (closed_clock (worked_run r v) ∙ worked_clock r v)

-- a slot closes rows and opens none, so that no clock at which one may be closed comes nearer
worked_due : (r : Run) (v : ℕ) → due_of r ≤ due_of (worked_run r v)
worked_due r v =
    by_eqb (chosen_row r) 0
    (λ _ e. rw (worked_idle r v (chosen_row r) refl e) (omega arith))
    (λ _ e.
    let i = chosen_row r in
    let c = runs r e in
    rw (worked_served r v i refl e)
    (due_later r.table.deadline r.table.level r.table.n r.closing (served r v i).closing
    (λ j l h z. by_eqb j i
    (λ _ q. rw q c.still)
    (λ _ q. sym (put_other r.closing i j (closing_next r v i) c.low l q) ∙ z))))

-- After slot v of record r: the record is the next one, and no open row is due before the clock `due`.
pub record Looked (r : Run) (v : ℕ) (next : Run) (due : ℕ) : Type 0 where
  pub is_next : next ≡ next_run r v
  pub early : due ≤ due_of next

-- the clock has reached `due`: the rows are looked through, and `due` is found anew
pub look_taken : (r : Run) (v : ℕ) (worked next : Run) (due : ℕ) → worked ≡ worked_run r v → next ≡ closed_run worked → due ≡ due_of next → Looked r v next due
look_taken r v worked next due w n d = record { is_next = n ∙ ap closed_run w ∙ sym (next_looks r v); early = omega (arith, d) }

-- it has not: nothing is due, and the record stays as the slot left it (rule 19.7)
pub look_left : (r : Run) (v : ℕ) (worked : Run) (due : ℕ) → worked ≡ worked_run r v → due ≤ due_of r → worked.clock < due → Looked r v worked due
look_left r v worked due w d h =
    let later : due ≤ due_of worked = rw w (omega (arith, d, worked_due r v)) in
    record { is_next = sym (closed_early worked (omega arith)) ∙ ap closed_run w ∙ sym (next_looks r v); early = later }

drop_one : (vs : List ℕ) (k : ℕ) → k < length vs → drop k vs ≡ get_or vs k 0 ∷ drop (k + 1) vs
drop_one vs k l = rw (add-one, drop-cons vs k 0)

-- k slots of the list are worked, the record is r, and what is left of the list gives w
module _ (vs : List ℕ) (k : ℕ) (r : Run) (w : Forwarded) (so : work_on k (drop k vs) r ≡ w) where
  -- no supply is left (rule 8.12)
  pub work_end : (slots : ℕ) → slots ≡ k → length vs ≤ k → ◌≡◌ {A = Forwarded} (record { answer = Worked slots; run = r }) w
  unfolding work_on
  work_end slots e l = rw e (sym (ap (λ (l : List ℕ). work_on k l r) (drop_of_length-le vs l)) ∙ so)

  turn : k < length vs
      → cond (ltb r.clock last_clock) (work_on (k + 1) (drop (k + 1) vs) (next_run r (get_or vs k 0))) (record { answer = ClockOver k; run = r }) ≡ w
  unfolding work_on
  turn l = sym (ap (λ (l : List ℕ). work_on k l r) (drop_one vs k l)) ∙ so

  -- a supply comes at clock 2,000,000 slots (rule 8.13)
  pub work_over : (slots : ℕ) → slots ≡ k → k < length vs → last_clock ≤ r.clock → ◌≡◌ {A = Forwarded} (record { answer = ClockOver slots; run = r }) w
  work_over slots e l h = rw e (rw (le-ltb r.clock last_clock h) at (turn l))

  -- a slot is worked
  pub work_next : k < length vs → r.clock < last_clock → work_on (k + 1) (drop (k + 1) vs) (next_run r (get_or vs k 0)) ≡ w
  work_next l h = rw (lt-ltb r.clock last_clock h) at (turn l)
