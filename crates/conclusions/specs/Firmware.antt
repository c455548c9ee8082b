-- The firmware writer's conclusion, from the definition of one slot on a record and the words that hold one.
use Rattle.std.specs.Prelude.{ℕ, zero, suc, ◌+◌, ◌≤◌, ◌<◌, min, max, Bool, true, false, cond, ◌&&◌, List, ◌≡◌, ltb, eqb, length, get_or}
use Rattle.std.proofs.Common.{inl, inr, ◌∙◌, arith}
use Rattle.std.proofs.Math.Path.{refl, sym, ap}
use borrow.Author.Tests.{ltb-true, ltb-false, lt-ltb, le-leb, lt-leb, eq-eqb, ne_eqb}
use Rattle.rules.specs.Calls.{last_clock}
use Rattle.rules.specs.Lists.{first}
use Rattle.rules.specs.Need.{need}
use Rattle.rules.specs.Numbers.{refusal_number}
use Rattle.rules.specs.Orders.{is_order}
use Rattle.rules.specs.Rows.{at, follows_of}
use Rattle.rules.specs.Running.{close_late}
use Rattle.rules.specs.Slots.{is_pending}
use Rattle.theory.specs.Cells.{brought_none, brought_all, is_pending_lem, Ready, chosen_ready}
use Rattle.theory.specs.Facts.{Row, TableFacts, both_accepted, both_order, is_row_lem}
use Rattle.theory.specs.Late.{closed_at}
use Rattle.theory.proofs.Results.{first_pending}
use Rattle.theory.proofs.Runs.{none_pending}
use Rattle.theory.specs.Tests.{by_bool, by_eqb, by-leb, not_both}
use Rattle.columns.specs.Entries.{put_same, put_other}
use Rattle.columns.specs.Figures.{over, sound_facts, due_at}
use Rattle.record.specs.declared.Run.{Run}
use Rattle.record.specs.Answers.{slot_said}
use Rattle.record.specs.Checked.{limits}
use Rattle.record.proofs.Kept.{next_idle, sized_worked, sized_kept}
use Rattle.record.specs.Kept.{Sized}
use Rattle.record.specs.Records.{state_of, is_sound, chosen_row, next_run, worked_run, closed_run, coming_slot, one_slot}
use Rattle.record.proofs.Sound.{sound_so}
use Rattle.record.specs.Stepping.{got_next, closing_next, rested, served, worked_served, next_looks}
use Rattle.forward.specs.Forwarding.{worked_clock, next_clock}
use Rattle.rules.specs.Tables.{FullTable}
use Rattle.words.specs.Words.{table_in, words_of, run_in, state_words}
use Rattle.words.specs.Inverse.{words_of_table_in, state_words_of_run_in, run_in_words}
use Rattle.conclusions.specs.declared.Slots.{Slots}
use Rattle.conclusions.specs.Conclusions.{PendingIn, FreeIn, DueIn, RowRests, RowRuns, FirmwareWriter, allowed_slots}
use Rattle.conclusions.specs.Entries.{column_full, full_table, TableWords, table_words, StateWords, state_words_lem}
use Rattle.conclusions.specs.Places.{FirstAt, first_at}

-- ---- when a row is over, one way after another
module _ (work level promised normal degraded loading got used : ℕ) where
  -- the slots that the row may use if it is LO
  abbrev most : ℕ
  most = max (need loading work normal) (need loading promised degraded)

  pub over_done : got ≡ work → over work level promised normal degraded loading got used ≡ true
  unfolding over
  over_done e = rw (eq-eqb got work e)

  pub over_dropped : level ≡ 0 → most ≤ used → over work level promised normal degraded loading got used ≡ true
  unfolding over
  over_dropped z h = by_bool (eqb got work) (λ e. rw e) (λ e. rw (e, eq-eqb level 0 z, le-leb most used h))

  pub over_open : (got ≡ work → ⊥) → (level ≡ 0 → used < most) → over work level promised normal degraded loading got used ≡ false
  unfolding over
  over_open n h =
      by_eqb level 0
      (λ e z. rw (ne_eqb got work n, e, lt-leb most used (h z)))
      (λ e z. rw (ne_eqb got work n, e))

-- ---- the words lent: 388 of a table and 193 of a state
module _ (table order : List ℕ) (tables : length table ≡ 388) where
  -- a record of the same table and order with full columns is the one that its words hold
  pub held : (q : Run) → q.table ≡ table_in table → q.order ≡ order → Sized q → run_in table order (state_words q) ≡ q
  held q t o z =
      let full : FullTable q.table = rw t (full_table table tables) in
      let e = run_in_words q (record { table = full; got = z.got; used = z.used; closing = z.closing }) in
      let w : table ≡ words_of q.table = sym (words_of_table_in table tables) ∙ ap words_of (sym t) in
      ap (λ (x : List ℕ). run_in x order (state_words q)) w ∙ ap (λ (x : List ℕ). run_in (words_of q.table) x (state_words q)) (sym o) ∙ e

module _ (table order state : List ℕ) (tables : length table ≡ 388) (states : length state ≡ 193) where
  abbrev r : Run
  r = run_in table order state

  pub sized : Sized r
  unfolding run_in
  sized = record { got = column_full state 1 (omega arith); used = column_full state 65 (omega arith); closing = column_full state 129 (omega arith) }

  -- ---- a row that is released and open over the words is so in the record
  words_pending : (i : ℕ) → PendingIn table state i → i ≤ 64 → is_pending r.table (state_of r) i ≡ true
  unfolding run_in table_in
  words_pending i h few =
      let w = table_words table i h.0 few in
      let s = state_words_lem table order state i h.0 few in
      is_pending_lem r.table (state_of r) i (record { from = h.0; up_to = h.1 }) (omega (arith, w.release, h.2)) (sym s.closing ∙ h.3)

  row_of : (i : ℕ) → PendingIn table state i → Row r.table i
  unfolding run_in table_in
  row_of i h = record { from = h.0; up_to = h.1 }

  -- ---- a slot that is worked
  module _ (v : ℕ) (sound : is_sound r ≡ true) where
    abbrev next : List ℕ
    next = state_words (next_run r v)

    known : TableFacts r.table
    known = limits r.table r.order (sound_so r sound).checked

    few : r.table.n ≤ 64
    few = known.few

    ordered : is_order r.table r.order ≡ true
    ordered = both_order r.table r.order (sound_so r sound).checked

    open_row : (i : ℕ) → PendingIn table state i → is_pending r.table (state_of r) i ≡ true
    open_row i h = words_pending i h (omega (arith, few, (row_of i h).up_to))

    -- the record that the words after the slot hold
    pub next_held : run_in table order next ≡ next_run r v
    unfolding next_run run_in
    next_held = held table order tables (next_run r v) refl refl (sized_kept r v sized)

    after_words : (i : ℕ) → 1 ≤ i → i ≤ 64 → StateWords next (next_run r v) i
    after_words i l h = rw next_held at (state_words_lem table order next i l h)

    -- an idle slot
    none_open : chosen_row r ≡ 0 → (i : ℕ) → PendingIn table state i → ⊥
    unfolding chosen_row
    none_open z i h = none_pending r.table known r.order ordered (state_of r) z i (open_row i h)

    -- after the clock the words of the next record stand as they stood
    later : (k : ℕ) → get_or (state_words (rested r)) (suc k) 0 ≡ get_or (state_words r) (suc k) 0
    unfolding state_words
    later k = refl

    idle_words : chosen_row r ≡ 0 → (k : ℕ) → 1 ≤ k → get_or next k 0 ≡ get_or state k 0
    idle_words z zero l = absurd (omega arith)
    idle_words z (suc k) l =
        let e : state_words (next_run r v) ≡ state_words (rested r) = ap state_words (next_idle r v sound z) in
        let s = state_words_of_run_in table order state states in
        ap (λ (x : List ℕ). get_or x (suc k) 0) e ∙ later k ∙ ap (λ (x : List ℕ). get_or x (suc k) 0) s

    -- the record after the slot, before the look at the clock
    abbrev half : Run
    half = worked_run r v

    half_clock : half.clock ≡ get_or state 0 0 + 1
    unfolding run_in
    half_clock = worked_clock r v

    -- row j's work got and slots used are those that the slot left, and its closing slot the one that the look gives it
    got_looked : (j : ℕ) → 1 ≤ j → j ≤ 64 → get_or next j 0 ≡ at half.got j
    unfolding closed_run close_late
    got_looked j l h = (after_words j l h).got ∙ ap (λ (q : Run). at q.got j) (next_looks r v)

    used_looked : (j : ℕ) → 1 ≤ j → j ≤ 64 → get_or next (64 + j) 0 ≡ at half.used j
    unfolding closed_run close_late
    used_looked j l h = (after_words j l h).used ∙ ap (λ (q : Run). at q.used j) (next_looks r v)

    abbrev due : ℕ → Bool
    due = due_at half.table.n half.clock half.table.deadline half.table.level

    closing_looked : (j : ℕ) → 1 ≤ j → j ≤ 64 → get_or next (128 + j) 0 ≡ cond (eqb (at half.closing j) 0 && due j) half.clock (at half.closing j)
    unfolding closed_run close_late
    closing_looked j l h =
        (after_words j l h).closing
        ∙ ap (λ (q : Run). at q.closing j) (next_looks r v)
        ∙ closed_at due half.clock half.closing j l (omega (arith, h, (sized_worked r v sized).closing))

    -- a row is due over the words and over the record
    due_words : (j : ℕ) → j ≤ 64 → DueIn table (get_or state 0 0 + 1) j → due j ≡ true
    unfolding worked_run run_in table_in
    due_words j few d =
        let w = table_words table j d.0 few in
        rw (
          is_row_lem (table_in table) j (record { from = d.0; up_to = d.1 }),
          eq-eqb (at (table_in table).level j) 0 (sym w.level ∙ d.2),
          le-leb (at (table_in table).deadline j) half.clock (omega (arith, w.deadline, d.3, half_clock)),
        )

    words_due : (j : ℕ) → 1 ≤ j → j ≤ 64 → (DueIn table (get_or state 0 0 + 1) j → ⊥) → due j ≡ false
    unfolding worked_run run_in table_in
    words_due j l few n =
        let w = table_words table j l few in
        by-leb j (table_in table).n
        (λ _ h. by_eqb (at (table_in table).level j) 0
        (λ _ q. by-leb (at (table_in table).deadline j) half.clock
        (λ _ d. absurd (n (l, h, w.level ∙ q, omega (arith, w.deadline, d, half_clock))))
        (λ e _. rw (is_row_lem (table_in table) j (record { from = l; up_to = h }), eq-eqb (at (table_in table).level j) 0 q, e)))
        (λ e _. rw (is_row_lem (table_in table) j (record { from = l; up_to = h }), e)))
        (λ e _. rw (lt-ltb 0 j l, e))

    -- a row whose figures the slot left as they were
    rests : (j : ℕ) → 1 ≤ j → j ≤ 64 → at half.got j ≡ at r.got j → at half.used j ≡ at r.used j → at half.closing j ≡ at r.closing j
        → RowRests table state next j
    rests j l h g u c =
        let s = state_words_lem table order state j l h in
        let k = closing_looked j l h in
        let same = c ∙ sym s.closing in
        record {
          got = got_looked j l h ∙ g ∙ sym s.got;
          used = used_looked j l h ∙ u ∙ sym s.used;
          closed = λ n. k ∙ rw (ne_eqb (at half.closing j) 0 (λ z. n (sym same ∙ z))) same;
          late = λ z d. k ∙ rw (eq-eqb (at half.closing j) 0 (same ∙ z), due_words j h d) half_clock;
          still_open = λ z n. k ∙ rw (eq-eqb (at half.closing j) 0 (same ∙ z), words_due j l h n) (same ∙ z);
        }

    moved : get_or next 0 0 ≡ get_or state 0 0 + 1
    unfolding state_words run_in
    moved = next_clock r v

    -- a slot in which row i runs
    module _ (i : ℕ) (e : i ≡ chosen_row r) (some : i ≡ 0 → ⊥) where
      ready : Ready r.table (state_of r) i
      unfolding chosen_row
      ready = chosen_ready r.table r.order (state_of r) i (omega (arith, some_one)) (sym e)
        where
          some_one : 1 ≤ i
          some_one = by_eqb i 0 (λ _ q. absurd (some q)) (λ _ q. omega arith)

      low : 1 ≤ i
      low = ready.row.from

      high : i ≤ 64
      high = omega (arith, few, ready.row.up_to)

      tw : TableWords table r.table i
      unfolding run_in
      tw = table_words table i low high

      sw : StateWords state r i
      sw = state_words_lem table order state i low high

      served_is : half ≡ served r v i
      served_is = worked_served r v i e some

      got_is : get_or next i 0 ≡ got_next r v i
      got_is =
          got_looked i low high
          ∙ ap (λ (q : Run). at q.got i) served_is
          ∙ put_same r.got i (got_next r v i) low (omega (arith, high, sized.got))

      used_is : get_or next (64 + i) 0 ≡ at r.used i + 1
      used_is =
          used_looked i low high
          ∙ ap (λ (q : Run). at q.used i) served_is
          ∙ put_same r.used i (at r.used i + 1) low (omega (arith, high, sized.used))

      -- the closing slot that the slot left
      closing_half : at half.closing i ≡ closing_next r v i
      closing_half = ap (λ (q : Run). at q.closing i) served_is ∙ put_same r.closing i (closing_next r v i) low (omega (arith, high, sized.closing))

      abbrev is_over_now : Bool
      is_over_now =
          over (at r.table.work i) (at r.table.level i) (at r.table.promised i) r.table.normal r.table.degraded r.table.loading
          (got_next r v i) (at r.used i + 1)

      -- the closing slot, by whether the row is over, and due
      closed : is_over_now ≡ true → get_or next (128 + i) 0 ≡ get_or state 0 0 + 1
      unfolding run_in
      closed o =
          let c : at half.closing i ≡ r.clock + 1 = closing_half ∙ rw o in
          closing_looked i low high ∙ rw (ne_eqb (at half.closing i) 0 (λ z. omega arith)) c

      late_closed : is_over_now ≡ false → DueIn table (get_or state 0 0 + 1) i → get_or next (128 + i) 0 ≡ get_or state 0 0 + 1
      late_closed o d =
          let c : at half.closing i ≡ 0 = closing_half ∙ rw o in
          closing_looked i low high ∙ rw (eq-eqb (at half.closing i) 0 c, due_words i high d) half_clock

      not_closed : is_over_now ≡ false → (DueIn table (get_or state 0 0 + 1) i → ⊥) → get_or next (128 + i) 0 ≡ 0
      not_closed o n =
          let c : at half.closing i ≡ 0 = closing_half ∙ rw o in
          closing_looked i low high ∙ rw (eq-eqb (at half.closing i) 0 c, words_due i low high n) c

      other : (j : ℕ) → 1 ≤ j → j ≤ 64 → (j ≡ i → ⊥) → RowRests table state next j
      other j l h n =
          rests j l h
          (ap (λ (q : Run). at q.got j) served_is ∙ put_other r.got i j (got_next r v i) low l n)
          (ap (λ (q : Run). at q.used j) served_is ∙ put_other r.used i j (at r.used i + 1) low l n)
          (ap (λ (q : Run). at q.closing j) served_is ∙ put_other r.closing i j (closing_next r v i) low l n)

      -- the first row from the top that is released and open: waits change no slot
      first_place : FirstAt (is_pending r.table (state_of r)) order i
      unfolding chosen_row run_in
      first_place =
          let t = r.table in
          let s = state_of r in
          let first-open : i ≡ first (is_pending t s) order = e ∙ first_pending t (both_accepted t order (sound_so r sound).checked) order ordered s in
          rw first-open (first_at (is_pending t s) order (λ z. some (first-open ∙ z)))

      highest_open : (p : ℕ) → p < first_place.place → PendingIn table state (get_or order p 0) → ⊥
      highest_open p h f =
          not_both (is_pending r.table (state_of r) (get_or order p 0)) (open_row (get_or order p 0) f) (first_place.before p h)

      -- the row that it follows, if any, is closed
      free : FreeIn table state i
      free =
          let w = follows_of r.table i in
          by_eqb w 0
          (λ _ z. inl (tw.follows ∙ z))
          (λ _ n. let l : 1 ≤ w = omega arith in
          inr (rw tw.follows (omega (
            arith,
            ready.free l,
            (state_words_lem table order state w l (omega (arith, known.lower i ready.row l, high))).closing,
          ))))

      abbrev allowed : ℕ
      allowed = max (need r.table.loading (at r.table.work i) r.table.normal) (need r.table.loading (at r.table.promised i) r.table.degraded)

      least_need : allowed_slots table i ≤ get_or next (64 + i) 0 → allowed ≤ at r.used i + 1
      unfolding run_in table_in
      least_need h = rw (tw.work, tw.promised, used_is) at h

      below_need : get_or next (64 + i) 0 < allowed_slots table i → at r.used i + 1 < allowed
      unfolding run_in table_in
      below_need h = rw (tw.work, tw.promised, used_is) at h

      loads : get_or state (64 + i) 0 < get_or table 3 0 → get_or next i 0 ≡ get_or state i 0
      unfolding run_in table_in
      loads h =
          let most = (sound_facts _ _ _ _ _ _ _ _ _ _ _ ((sound_so r sound).rows i low ready.row.up_to)).most in
          let none = brought_none r.table.loading (at r.used i) v (omega (arith, sw.used, h)) in
          omega (arith, got_is, sw.got, most, none)

      gets : get_or table 3 0 ≤ get_or state (64 + i) 0 → get_or next i 0 ≡ min (get_or table (67 + i) 0) (get_or state i 0 + v)
      unfolding run_in table_in
      gets h =
          let all = brought_all r.table.loading (at r.used i) v (omega (arith, sw.used, h)) in
          omega (arith, got_is, sw.got, tw.work, all)

      row_runs : RowRuns table order state v i next
      unfolding run_in table_in
      row_runs =
          record {
            ready = ((low, ready.row.up_to, omega (arith, tw.release, ready.released), sw.closing ∙ ready.still), free);
            place = first_place.place;
            stands = first_place.stands;
            highest = λ p h f. highest_open p h f.0;
            highest_open = highest_open;
            loads = loads;
            got = gets;
            used = rw sw.used used_is;
            done = λ q. closed (over_done _ _ _ _ _ _ _ _ (sym got_is ∙ q ∙ tw.work));
            dropped = λ z h. closed (over_dropped _ _ _ _ _ _ _ _ (sym tw.level ∙ z) (least_need h));
            late = λ z d. by_bool is_over_now closed (λ o. late_closed o (low, ready.row.up_to, z, d));
            still_open = λ n h. not_closed (over_open _ _ _ _ _ _ _ _ (λ q. n (got_is ∙ q ∙ sym tw.work)) (λ z. below_need (h (tw.level ∙ z)).0))
                (λ d. omega (arith, (h d.2).1, d.3));
            others = other;
          }

  -- ---- the clock's word
  clock_below : ltb r.clock last_clock ≡ true → get_or state 0 0 < 2000000
  unfolding run_in
  clock_below e = ltb-true r.clock last_clock e

  clock_last : is_sound r ≡ true → ltb r.clock last_clock ≡ false → get_or state 0 0 ≡ 2000000
  unfolding run_in
  clock_last sound e = omega (arith, (sound_so r sound).clock, ltb-false r.clock last_clock e)

  -- ---- the coming slot and the slot, by the two checks
  module _ (v : ℕ) where
    abbrev said : Slots
    said =
        record {
          coming = (slot_said (coming_slot r)).number;
          coming_row = (slot_said (coming_slot r)).value;
          number = (slot_said (one_slot r v).answer).number;
          row = (slot_said (one_slot r v).answer).value;
          next = state_words (one_slot r v).run;
        }

    worked : is_sound r ≡ true → ltb r.clock last_clock ≡ true → FirmwareWriter table order state v said
    unfolding one_slot coming_slot slot_said
    worked sound early =
        rw (sound, early)
        (record {
          same_number = refl;
          same_row = refl;
          refused = λ n. absurd (n refl);
          eight = λ e. absurd (omega arith);
          nine = λ e. absurd (omega arith);
          unsound = λ s. absurd (not_both (is_sound r) sound s);
          sound_early = λ _ _. refl;
          sound_last = λ _ h. absurd (omega (arith, clock_below early));
          early = λ _. clock_below early;
          clock = λ _. moved v sound;
          idle = λ _ z. (λ i h. none_open v sound z i h.0, idle_words v sound z);
          none_open = λ _ z. none_open v sound z;
          runs = λ _ n. row_runs v sound (chosen_row r) refl n;
        })

    over_last : is_sound r ≡ true → ltb r.clock last_clock ≡ false → FirmwareWriter table order state v said
    unfolding one_slot coming_slot slot_said refusal_number
    over_last sound late =
        rw (sound, late)
        (record {
          same_number = refl;
          same_row = refl;
          refused = λ n. (inl refl, refl, state_words_of_run_in table order state states);
          eight = λ _. clock_last sound late;
          nine = λ e. absurd (omega arith);
          unsound = λ s. absurd (not_both (is_sound r) sound s);
          sound_early = λ _ h. absurd (omega (arith, clock_last sound late));
          sound_last = λ _ _. refl;
          early = λ e. absurd (omega arith);
          clock = λ e. absurd (omega arith);
          idle = λ e z. absurd (omega arith);
          none_open = λ e z. absurd (omega arith);
          runs = λ e n. absurd (omega arith);
        })

    unsound : is_sound r ≡ false → FirmwareWriter table order state v said
    unfolding one_slot coming_slot slot_said refusal_number
    unsound damaged =
        rw damaged
        (record {
          same_number = refl;
          same_row = refl;
          refused = λ n. (inr refl, refl, state_words_of_run_in table order state states);
          eight = λ e. absurd (omega arith);
          nine = λ _. damaged;
          unsound = λ _. refl;
          sound_early = λ s _. absurd (not_both (is_sound r) s damaged);
          sound_last = λ s _. absurd (not_both (is_sound r) s damaged);
          early = λ e. absurd (omega arith);
          clock = λ e. absurd (omega arith);
          idle = λ e z. absurd (omega arith);
          none_open = λ e z. absurd (omega arith);
          runs = λ e n. absurd (omega arith);
        })

    pub slotted : FirmwareWriter table order state v said
    slotted =
        by_bool (is_sound r)
        (λ sound. by_bool (ltb r.clock last_clock) (worked sound) (over_last sound))
        unsound
