-- A row's figures apart from its table and record: what the code tests of one row and of the columns. That it is what
-- the definitions say of a record's row is shown above, in record/proofs/Sound and in the proofs of the record's functions.
use Rattle.std.specs.Prelude.{ℕ, ◌+◌, ◌-◌, ◌≤◌, ◌<◌, max, Bool, true, false, cond, not, ◌&&◌, ◌||◌, List, ◌≡◌, eqb, ltb, get_or}
use Rattle.std.proofs.Common.{◌∙◌, arith}
use Rattle.std.proofs.Math.Dec.{leb}
use borrow.Author.Tests.{lt-ltb, leb-true, leb-false, le-leb, lt-leb, eq-eqb, ne_eqb}
use Rattle.rules.specs.Need.{need}
use Rattle.rules.specs.Rows.{at}
use Rattle.theory.specs.Tests.{by_bool, by_eqb, and_left, and_right, and_false, not_is}

-- a row of this work, level, promised part, speeds N and G and loading is over with these work units got and slots used: done, or LO with its
-- allowance used up (rules 1.9, 2.6, 2.7)
unfoldable pub over : ℕ → ℕ → ℕ → ℕ → ℕ → ℕ → ℕ → ℕ → Bool
over work level promised normal degraded loading got used = eqb got work || (eqb level 0 && leb (max (need loading work normal) (need loading promised degraded)) used)

-- what is asked of a row's closing slot at this clock, of a row that is over or is not: an open row is neither over nor due, and a closed one
-- is over, or LO and closed at its deadline (rules 8.6, 8.7, 19.2)
abbrev pub closing_sound : Bool → ℕ → ℕ → ℕ → ℕ → Bool
closing_sound ended deadline level clock closing =
    cond (eqb closing 0) (not ended && not (eqb level 0 && leb deadline clock)) (ended || (eqb level 0 && eqb closing deadline))

-- its figures are sound at this clock (rules 8.6, 8.7)
unfoldable pub sound_at : ℕ → ℕ → ℕ → ℕ → ℕ → ℕ → ℕ → ℕ → ℕ → ℕ → ℕ → Bool
sound_at work deadline level promised normal degraded loading clock got used closing =
    leb got work
    && leb used clock
    && leb closing clock
    && closing_sound (over work level promised normal degraded loading got used) deadline level clock closing

-- the same, as facts
pub record Sound (work deadline level promised normal degraded loading clock got used closing : ℕ) : Type 0 where
  pub most : got ≤ work
  pub used_by : used ≤ clock
  pub closed_by : closing ≤ clock
  pub open_or_closed : closing_sound (over work level promised normal degraded loading got used) deadline level clock closing ≡ true

module _ (work deadline level promised normal degraded loading clock got used closing : ℕ) where
  abbrev first_three : Bool
  first_three = leb got work && leb used clock && leb closing clock

  abbrev fourth : Bool
  fourth = closing_sound (over work level promised normal degraded loading got used) deadline level clock closing

  pub sound_facts : sound_at work deadline level promised normal degraded loading clock got used closing ≡ true → Sound work deadline level promised normal degraded loading clock got used closing
  unfolding sound_at
  sound_facts e =
      let three = and_left first_three fourth e in
      let two = and_left (leb got work && leb used clock) (leb closing clock) three in
      record {
        most = leb-true got work (and_left (leb got work) (leb used clock) two);
        used_by = leb-true used clock (and_right (leb got work) (leb used clock) two);
        closed_by = leb-true closing clock (and_right (leb got work && leb used clock) (leb closing clock) three);
        open_or_closed = and_right first_three fourth e;
      }

  pub sound_test : Sound work deadline level promised normal degraded loading clock got used closing → sound_at work deadline level promised normal degraded loading clock got used closing ≡ true
  unfolding sound_at
  sound_test f = rw (le-leb got work f.most, le-leb used clock f.used_by, le-leb closing clock f.closed_by) f.open_or_closed

-- the closing slot that a row has once this clock has closed it if it is open and due (rule 19.2)
abbrev pub looked : ℕ → ℕ → ℕ → ℕ → ℕ
looked deadline level clock closing = cond (eqb closing 0 && (eqb level 0 && leb deadline clock)) clock closing

-- an open row that is sound is neither over nor due
pub open_so : (ended : Bool) (deadline level clock : ℕ) → closing_sound ended deadline level clock 0 ≡ true
    → (ended ≡ false) × (eqb level 0 && leb deadline clock ≡ false)
open_so ended deadline level clock e =
    let due = eqb level 0 && leb deadline clock in
    (not_is ended (and_left (not ended) (not due) e), not_is due (and_right (not ended) (not due) e))

-- and one that is not over, before its deadline, is sound
pub open_early : (deadline level clock : ℕ) → clock < deadline → closing_sound false deadline level clock 0 ≡ true
open_early deadline level clock h = rw (lt-leb deadline clock h, and_false (eqb level 0))

-- the clock after a slot looks at a row that is open, not over, and was not due before the slot: it closes it just at its deadline, or leaves
-- it open and not due (rules 19.2, 19.3)
module _ (deadline level clock : ℕ) (early : eqb level 0 && leb deadline clock ≡ false) where
  abbrev due : Bool
  due = eqb level 0 && leb deadline (clock + 1)

  at_deadline : due ≡ true → clock + 1 ≡ deadline
  at_deadline e =
      let low = and_left (eqb level 0) (leb deadline (clock + 1)) e in
      let reached = leb-true deadline (clock + 1) (and_right (eqb level 0) (leb deadline (clock + 1)) e) in
      let before = leb-false deadline clock (rw low at early) in
      omega arith

  open_looked : closing_sound false deadline level (clock + 1) (looked deadline level (clock + 1) 0) ≡ true
  open_looked =
      by_bool due
      (λ e.
      rw (
        e,
        ne_eqb (clock + 1) 0 (λ q. omega arith),
        and_left (eqb level 0) (leb deadline (clock + 1)) e,
        eq-eqb (clock + 1) deadline (at_deadline e),
      ))
      (λ e. rw e)

looked_by : (deadline level clock closing : ℕ) → closing ≤ clock → looked deadline level clock closing ≤ clock
looked_by deadline level clock closing l =
    by_bool (eqb closing 0 && (eqb level 0 && leb deadline clock)) (λ e. rw e (omega arith)) (λ e. rw e l)

-- a slot in which another row runs, or none, and the look at the clock after it leave the figures sound (rules 8.16, 19.2)
pub sound_later : (work deadline level promised normal degraded loading clock got used closing : ℕ)
    → sound_at work deadline level promised normal degraded loading clock got used closing ≡ true
    → Sound work deadline level promised normal degraded loading (clock + 1) got used (looked deadline level (clock + 1) closing)
sound_later work deadline level promised normal degraded loading clock got used closing e =
    let f = sound_facts work deadline level promised normal degraded loading clock got used closing e in
    let ended = over work level promised normal degraded loading got used in
    record {
      most = f.most;
      used_by = omega arith;
      closed_by = looked_by deadline level (clock + 1) closing (omega arith);
      open_or_closed =
          by_eqb closing 0
          (λ _ q.
          let o = open_so ended deadline level clock (rw q at f.open_or_closed) in
          rw (q, o.0) (open_looked deadline level clock o.1))
          (λ q _. rw (q, q) (rw q at f.open_or_closed));
    }

-- So do a slot in which the row runs and the look after it: the row, open and sound before, closes if it is over, and else if its deadline has
-- come (rules 2.10, 8.16, 19.2, 19.3). It has got g work units after the slot.
pub sound_run : (work deadline level promised normal degraded loading clock got used closing g : ℕ)
    → sound_at work deadline level promised normal degraded loading clock got used closing ≡ true → closing ≡ 0 → g ≤ work
    → Sound work deadline level promised normal degraded loading (clock + 1) g (used + 1)
    (looked deadline level (clock + 1) (cond (over work level promised normal degraded loading g (used + 1)) (clock + 1) 0))
sound_run work deadline level promised normal degraded loading clock got used closing g e q l =
    let f = sound_facts work deadline level promised normal degraded loading clock got used closing e in
    let o = open_so (over work level promised normal degraded loading got used) deadline level clock (rw q at f.open_or_closed) in
    let later = ne_eqb (clock + 1) 0 (λ z. omega arith) in
    by_bool (over work level promised normal degraded loading g (used + 1))
    (λ z. rw (z, later) (record { most = l; used_by = omega arith; closed_by = omega arith; open_or_closed = rw (z, later) }))
    (λ z.
    rw z
    (record {
      most = l;
      used_by = omega arith;
      closed_by = looked_by deadline level (clock + 1) 0 (omega arith);
      open_or_closed = rw z (open_looked deadline level clock o.1);
    }))

-- row i's figures in the columns are sound (rules 8.6, 8.7)
abbrev pub row_sound_at : ℕ → ℕ → ℕ → ℕ → List ℕ → List ℕ → List ℕ → List ℕ → List ℕ → List ℕ → List ℕ → ℕ → Bool
row_sound_at normal degraded loading clock work deadline level promised got used closing i =
    sound_at (at work i) (at deadline i) (at level i) (at promised i) normal degraded loading clock (at got i) (at used i) (at closing i)

-- row i + 1 stands at index i of each column
pub row_next : (normal degraded loading clock : ℕ) (work deadline level promised got used closing : List ℕ) (i : ℕ)
    → row_sound_at normal degraded loading clock work deadline level promised got used closing (i + 1)
    ≡ sound_at (get_or work i 0) (get_or deadline i 0) (get_or level i 0) (get_or promised i 0) normal degraded loading clock (get_or got i 0) (get_or used i 0) (get_or closing i 0)
row_next normal degraded loading clock work deadline level promised got used closing i = let e : i + 1 - 1 ≡ i = omega arith in rw e

-- row i of n is released at the clock, and open (rule 2.2)
abbrev pub pending_at : ℕ → ℕ → List ℕ → List ℕ → ℕ → Bool
pending_at n clock release closing i = (ltb 0 i && leb i n) && leb (at release i) clock && eqb (at closing i) 0

-- row i of n is due at this clock: LO, with its deadline reached (rule 19.2)
abbrev pub due_at : ℕ → ℕ → List ℕ → List ℕ → ℕ → Bool
due_at n clock deadline level i = (ltb 0 i && leb i n) && (eqb (at level i) 0 && leb (at deadline i) clock)

-- of a row, that is its release and its closing slot alone
pub pending_row : (n clock : ℕ) (release closing : List ℕ) (i : ℕ) → 1 ≤ i → i ≤ n
    → pending_at n clock release closing i ≡ (leb (at release i) clock && eqb (at closing i) 0)
pending_row n clock release closing i l h = rw (lt-ltb 0 i l, le-leb i n h)

-- and whether a row is due is its level and its deadline alone
pub due_row : (n clock : ℕ) (deadline level : List ℕ) (i : ℕ) → 1 ≤ i → i ≤ n
    → due_at n clock deadline level i ≡ (eqb (at level i) 0 && leb (at deadline i) clock)
due_row n clock deadline level i l h = rw (lt-ltb 0 i l, le-leb i n h)

-- the level and deadline of row i + 1 stand at index i of their columns
pub due_entry : (n clock : ℕ) (deadline level : List ℕ) (i : ℕ) → i < n
    → due_at n clock deadline level (i + 1) ≡ (eqb (get_or level i 0) 0 && leb (get_or deadline i 0) clock)
due_entry n clock deadline level i h =
    let e : i + 1 - 1 ≡ i = omega arith in
    due_row n clock deadline level (i + 1) (omega arith) (omega arith) ∙ rw e

-- no number above n is a row that is due
pub due_beyond : (n clock : ℕ) (deadline level : List ℕ) (i : ℕ) → n < i → due_at n clock deadline level i ≡ false
due_beyond n clock deadline level i h = rw (lt-leb i n h, and_false (ltb 0 i))
