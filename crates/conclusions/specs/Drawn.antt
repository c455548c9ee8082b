-- A list of calls over the words is the list of calls on records that the claim speaks of, and so the pen engineer's conclusion follows from it.
use Rattle.std.specs.Prelude.{ℕ, ◌+◌, ◌≤◌, ◌<◌, true, ◌≡◌, ltb, length, get_or}
use Rattle.std.proofs.Common.{inl, sym, ◌∙◌, arith, eq-eqb, ne_eqb}
use mathlib.Core.List.{List, [], ◌∷◌}
use Rattle.std.proofs.Math.Path.{refl, ap}
use Rattle.rules.specs.declared.Table.{Table}
use Rattle.rules.specs.Checks.{Passed}
use Rattle.rules.specs.Calls.{last_clock, Call, one, forward, supply_from}
use Rattle.rules.specs.Correct.{earliest}
use Rattle.proposal.specs.Days.{just_runs}
use Rattle.rules.specs.Meaning.{Serves}
use Rattle.rules.specs.Orders.{is_order}
use Rattle.rules.specs.Rows.{at}
use Rattle.rules.specs.Running.{run_after}
use Rattle.rules.specs.Slots.{State, chosen}
use Rattle.rules.specs.Tables.{Accepted}
use Rattle.theory.specs.Facts.{Row, facts, is_row_lem, followed_row_lem}
use Rattle.theory.proofs.Results.{running_low, running_high}
use Rattle.theory.specs.Tests.{by_bool, by_eqb}
use Rattle.rules.specs.Choice.{plan_of}
use Rattle.rules.specs.Numbers.{check_number, planned_number}
use Rattle.record.specs.Answers.{forward_said}
use Rattle.record.specs.declared.Run.{Run}
use Rattle.record.proofs.FreshRuns.{start_sized}
use Rattle.record.proofs.Kept.{sized_kept}
use Rattle.record.specs.Kept.{Sized}
use Rattle.record.specs.Records.{start_run, fresh_of, is_sound, next_run, one_slot, work_on, forward_over}
use Rattle.guarantee.proofs.Concluded as Concluded
use Rattle.guarantee.proofs.Concluded.{in_time_lem, closings_are}
use Rattle.guarantee.specs.Concluded.{Supplied, SuppliedTo, Done, Deadlines, Closings, Waited}
use Rattle.guarantee.proofs.Listed.{list_right}
use Rattle.guarantee.specs.Listed.{run_paper, ListRight}
use Rattle.guarantee.specs.Playing.{make, make_all}
use Rattle.guarantee.proofs.Proved.{demand_3}
use Rattle.words.specs.Inverse.{words_of_table_in}
use Rattle.words.specs.Words.{table_in, words_of, run_in, state_words}
use Rattle.conclusions.specs.declared.Drawing.{Drawing}
use Rattle.conclusions.specs.Conclusions.{call_words, ListTold, list_words, SuppliedIn, SuppliedTill, KeptWords, WaitedWords, start_of, PenEngineer, told, Drawn}
use Rattle.conclusions.specs.Entries.{table_words, StateWords, state_words_lem}
use Rattle.conclusions.specs.Firmware.{held}
use Rattle.conclusions.specs.Forwarded.{clock_word}
use Rattle.conclusions.specs.Planned.{planned}

-- a record of the same table and order, with full columns
pub record Alike (t : Table) (o : List ℕ) (q : Run) : Type 0 where
  pub table : q.table ≡ t
  pub order : q.order ≡ o
  pub sized : Sized q

module _ (t : Table) (o : List ℕ) where
  alike_next : (q : Run) (v : ℕ) → Alike t o q → Alike t o (next_run q v)
  unfolding next_run
  alike_next q v a = record { table = a.table; order = a.order; sized = sized_kept q v a.sized }

  alike_work : (k : ℕ) (vs : List ℕ) (q : Run) → Alike t o q → Alike t o (work_on k vs q).run
  unfolding work_on
  alike_work k [] q a = a
  alike_work k (v ∷ vs) q a = by_bool (ltb q.clock last_clock) (λ e. rw e (alike_work (k + 1) vs (next_run q v) (alike_next q v a))) (λ e. rw e a)

  alike_made : (c : Call) (q : Run) → Alike t o q → Alike t o (make c q).run
  unfolding one_slot forward_over
  alike_made (one v) q a =
      by_bool (is_sound q)
      (λ s. by_bool (ltb q.clock last_clock) (λ e. rw (s, e) (alike_next q v a)) (λ e. rw (s, e) a))
      (λ s. rw s a)
  alike_made (forward vs) q a = by_bool (is_sound q) (λ s. rw s (alike_work 0 vs q a)) (λ s. rw s a)

  alike_all : (cs : List Call) (q : Run) → Alike t o q → Alike t o (make_all cs q).run
  unfolding make_all
  alike_all [] q a = a
  alike_all (c ∷ cs) q a = alike_all cs (make c q).run (alike_made c q a)

module _ (table order : List ℕ) (tables : length table ≡ 388) where
  abbrev t : Table
  t = table_in table

  is_held : (q : Run) → Alike t order q → run_in table order (state_words q) ≡ q
  is_held q a = held table order tables q a.table a.order a.sized

  -- a call over the words of a record is the call on the record
  call_words_lem : (c : Call) (q : Run) → Alike t order q
      → call_words table order c (state_words q) ≡ record { said = (make c q).said; state = state_words (make c q).run }
  call_words_lem (one v) q a = rw (is_held q a)
  call_words_lem (forward vs) q a = rw (is_held q a)

  -- and so is a list of them
  pub list_words_lem : (cs : List Call) (q : Run) → Alike t order q
      → list_words table order cs (state_words q) ≡ record { said = (make_all cs q).said; state = state_words (make_all cs q).run }
  unfolding list_words make_all
  list_words_lem [] q a = refl
  list_words_lem (c ∷ cs) q a = simp (call_words_lem c q a, list_words_lem cs (make c q).run (alike_made t order c q a))

  alike_start : (k : ℕ) → Alike t order (start_run t order k)
  alike_start k = record { table = refl; order = refl; sized = start_sized t order k }

  -- from the record at a clock that is not after the earliest release, every row open and empty
  module _ (accepted : Accepted t) (passes : is_order t order ≡ true) (k : ℕ) (early : k ≤ earliest t) (cs : List Call) where
    abbrev start : List ℕ
    start = start_of table order k

    abbrev end : Run
    end = (make_all cs (start_run t order k)).run

    listed : list_words table order cs start ≡ record { said = (make_all cs (start_run t order k)).said; state = state_words end }
    listed = list_words_lem cs (start_run t order k) (alike_start k)

    abbrev on_paper : State
    on_paper = (run_paper t order k cs).state

    right : ListRight t order k cs (make_all cs (start_run t order k))
    right = list_right t cs (demand_3 t accepted (just_runs cs)) order passes k early

    deadlines : Deadlines t order (supply_from k cs) end
    deadlines = in_time_lem t accepted order on_paper (supply_from k cs) end right.hand

    closings : Closings t order (supply_from k cs) end
    closings = closings_are t accepted order on_paper (supply_from k cs) end right.hand

    -- the record at the end is the one that its words hold
    end_words : (i : ℕ) → 1 ≤ i → i ≤ 64 → StateWords (state_words end) end i
    end_words i l h = rw (is_held end (alike_all t order cs (start_run t order k) (alike_start k))) at (state_words_lem table order (state_words end) i l h)

    few : (i : ℕ) → i ≤ t.n → i ≤ 64
    few i h = omega (arith, (facts t accepted).few)

    supplied : (i s : ℕ) → 1 ≤ i → i ≤ t.n → SuppliedIn table k cs i s → Supplied t (supply_from k cs) i s
    unfolding table_in
    supplied i s l h w u j lj hj a d = w u j lj hj (rw (table_words table j lj (few j hj)).release a) (rw (table_words table i l (few i h)).deadline d)

    till : (i s : ℕ) → 1 ≤ i → i ≤ t.n → SuppliedTill table k cs (get_or (list_words table order cs start).state (128 + i) 0) i s → SuppliedTo t (supply_from k cs) (at end.closing i) i s
    unfolding table_in
    till i s l h w u j lj hj a d b =
        w u j lj hj (rw (table_words table j lj (few j hj)).release a) (rw (table_words table i l (few i h)).deadline d) (rw (listed, (end_words i l (few i h)).closing) b)

    shut : (i : ℕ) → 1 ≤ i → i ≤ t.n → 1 ≤ get_or (list_words table order cs start).state (128 + i) 0 → 1 ≤ at end.closing i
    shut i l h c = omega (arith, rw listed at c, (end_words i l (few i h)).closing)

    kept_words : (i : ℕ) → 1 ≤ i → i ≤ t.n → Done t end i → KeptWords table (state_words end) i
    kept_words i l h k =
        let w = table_words table i l (few i h) in
        let e = end_words i l (few i h) in
        record { got = e.got ∙ k.got ∙ sym w.work; from = rw e.closing k.from; up_to = rw (e.closing, w.deadline) k.up_to }

    part_words : (i : ℕ) → 1 ≤ i → i ≤ t.n → at t.promised i ≤ at end.got i → get_or table (259 + i) 0 ≤ get_or (state_words end) i 0
    part_words i l h k = omega (arith, (table_words table i l (few i h)).promised, (end_words i l (few i h)).got)

    reached : (i : ℕ) → 1 ≤ i → i ≤ t.n → get_or table (131 + i) 0 ≤ get_or (list_words table order cs start).state 0 0 → at t.deadline i ≤ end.clock
    reached i l h d = omega (arith, rw listed at d, clock_word end, (table_words table i l (few i h)).deadline)

    -- the record at the end holds the state of the run by the running rule
    abbrev run_end : State
    run_end = run_after t order (supply_from k cs) on_paper.clock

    closing_end : (i : ℕ) → at end.closing i ≡ at run_end.closing i
    closing_end i = ap (λ (x : List ℕ). at x i) right.hand.closing ∙ ap (λ (s : State). at s.closing i) right.hand.taken

    got_end : (i : ℕ) → at end.got i ≡ at run_end.got i
    got_end i = ap (λ (x : List ℕ). at x i) right.hand.got ∙ ap (λ (s : State). at s.got i) right.hand.taken

    previewed : (i : ℕ) → 1 ≤ i → i ≤ t.n → at t.level i ≡ 0
        → (get_or (state_words end) (128 + i) 0 ≡ 0 → get_or (state_words end) 0 0 < get_or table (131 + i) 0) × (get_or (state_words end) (128 + i) 0 ≤ get_or table (131 + i) 0)
    previewed i l h z =
        let w = table_words table i l (few i h) in
        let e = end_words i l (few i h) in
        let timely = running_low t accepted order passes i (is_row_lem t i (record { from = l; up_to = h })) (rw (eq-eqb (at t.level i) 0 z)) (supply_from k cs)
        on_paper.clock in (
          λ q. omega (arith, w.deadline, clock_word end, right.hand.clock, timely.early (sym (closing_end i) ∙ sym e.closing ∙ q)),
          omega (arith, w.deadline, e.closing, closing_end i, timely.by),
        )

    pens : (i : ℕ) → 1 ≤ i → i ≤ t.n → (at t.level i ≡ 0 → ⊥) → 1 ≤ get_or (state_words end) (128 + i) 0 → get_or (state_words end) i 0 ≡ get_or table (67 + i) 0
    pens i l h n c =
        let w = table_words table i l (few i h) in
        let e = end_words i l (few i h) in
        let done = running_high t accepted order passes i (is_row_lem t i (record { from = l; up_to = h })) (rw (ne_eqb (at t.level i) 0 n)) (supply_from k cs)
        on_paper.clock (omega (arith, c, e.closing, closing_end i)) in
        e.got ∙ got_end i ∙ done ∙ sym w.work

    -- ---- what any order of the table keeps of waits, whether it serves or not
    waited : Waited t order (supply_from k cs) end
    waited = Concluded.waited t accepted order on_paper (supply_from k cs) end right.hand

    -- a follower, and the row that it follows
    module _ (i : ℕ) (l : 1 ≤ i) (h : i ≤ t.n) (n : get_or table (323 + i) 0 ≡ 0 → ⊥) where
      abbrev w : ℕ
      w = at t.follows i

      w_is : get_or table (323 + i) 0 ≡ w
      w_is = (table_words table i l (few i h)).follows

      some : 1 ≤ w
      some = by_eqb w 0 (λ _ z. absurd (n (w_is ∙ z))) (λ _ z. omega arith)

      row : Row t w
      row = followed_row_lem t (facts t accepted) i (record { from = l; up_to = h }) some

      closing_word : get_or (state_words end) (128 + w) 0 ≡ at end.closing w
      closing_word = (end_words w some (few w row.up_to)).closing

      -- a slot that goes to it
      followed_by : (u : ℕ) → u ≤ get_or (state_words end) 0 0 → chosen t order (run_after t order (supply_from k cs) u) ≡ i
          → (1 ≤ get_or (state_words end) (128 + get_or table (323 + i) 0) 0) × (get_or (state_words end) (128 + get_or table (323 + i) 0) 0 ≤ u)
      followed_by u c q =
          let s = waited.slots i u l h (λ z. n (w_is ∙ z)) (omega (arith, c, clock_word end)) q in
          rw w_is (omega (arith, closing_word, s.0), omega (arith, closing_word, s.1))

      -- and one that has used a slot
      module _ (used : 1 ≤ get_or (state_words end) (64 + i) 0) where
        used_end : 1 ≤ at end.used i
        used_end = omega (arith, used, (end_words i l (few i h)).used)

        followed_closed : 1 ≤ get_or (state_words end) (128 + get_or table (323 + i) 0) 0
        followed_closed = rw w_is (omega (arith, closing_word, waited.closed i l h (λ z. n (w_is ∙ z)) used_end))

        followed_before : get_or (state_words end) (128 + get_or table (323 + i) 0) 0 + get_or (state_words end) (64 + i) 0 ≤ get_or (state_words end) 0 0
        followed_before =
            rw w_is (omega (arith, closing_word, (end_words i l (few i h)).used, clock_word end, waited.after i l h (λ z. n (w_is ∙ z)) used_end))

        followed_done : (get_or table (195 + i) 0 ≡ 0 → ⊥) → get_or (state_words end) (get_or table (323 + i) 0) 0 ≡ get_or table (67 + get_or table (323 + i) 0) 0
        followed_done high =
            let v = table_words table w some (few w row.up_to) in
            rw w_is
            ((end_words w some (few w row.up_to)).got
            ∙ waited.done i l h (λ z. n (w_is ∙ z)) (λ z. high ((table_words table i l (few i h)).level ∙ z)) used_end
            ∙ sym v.work)

    -- so it is through every list of calls, by a planned order or any other
    pub waited_words : WaitedWords table (list_words table order cs start).state
    unfolding table_in
    waited_words =
        rw listed
        (record {
          closed = λ i l h n used. followed_closed i l h n used;
          after = λ i l h n used. followed_before i l h n used;
          done = λ i l h n high used. followed_done i l h n used high;
        })

    pub penned : Serves t order → PenEngineer table order k cs
    unfolding table_in
    penned serves =
        record {
          said = ap (λ (x : ListTold). x.said) listed ∙ right.said;
          clock = rw listed (clock_word end ∙ right.hand.clock);
          high = λ i l h n d w. rw listed
              (kept_words i l h (deadlines.high serves i l h (λ z. n ((table_words table i l (few i h)).level ∙ z)) (reached i l h d) (supplied i _ l h w)));
          low = λ i l h n d w. rw listed
              (kept_words i l h (deadlines.low serves i l h (sym (table_words table i l (few i h)).level ∙ n) (reached i l h d) (supplied i _ l h w)));
          part = λ i l h n d w. rw listed (part_words i l h (deadlines.part serves i l h (sym (table_words table i l (few i h)).level ∙ n) (reached i l h d) (supplied i _ l h w)));
          closed_high = λ i l h n c w. rw listed
              (kept_words i l h (closings.high serves i l h (λ z. n ((table_words table i l (few i h)).level ∙ z)) (shut i l h c) (till i _ l h w)));
          closed_low = λ i l h n c w. rw listed
              (kept_words i l h (closings.low serves i l h (sym (table_words table i l (few i h)).level ∙ n) (shut i l h c) (till i _ l h w)));
          closed_part = λ i l h n c w. rw listed
              (part_words i l h (closings.part serves i l h (sym (table_words table i l (few i h)).level ∙ n) (shut i l h c) (till i _ l h w)));
          preview = λ i l h n. rw listed (previewed i l h (sym (table_words table i l (few i h)).level ∙ n));
          pen = λ i l h n. rw listed (pens i l h (λ z. n ((table_words table i l (few i h)).level ∙ z)));
          slots = λ i u l h n. rw listed (followed_by i l h n u);
          waits = waited_words;
        }

-- ---- planned, started afresh and worked forward through the exported functions

-- what the three calls said and left: the plan, the words of the fresh record, and those after it was worked forward
pub record Drew (table supplies runTable runOrder runState : List ℕ) (said : Drawing) : Type 0 where
  pub planned : said.planned ≡ planned_number (plan_of (table_in table)).answer
  pub order : said.order ≡ (plan_of (table_in table)).order
  pub fresh : said.fresh ≡ check_number (fresh_of (table_in table) said.order).check
  pub run_table : runTable ≡ words_of (fresh_of (table_in table) said.order).run.table
  pub run_order : runOrder ≡ (fresh_of (table_in table) said.order).run.order
  pub start : runState ≡ state_words (fresh_of (table_in table) said.order).run
  pub forward : said.forward ≡ (forward_said (forward_over (run_in runTable runOrder runState) supplies).answer).number
  pub worked : said.worked ≡ (forward_said (forward_over (run_in runTable runOrder runState) supplies).answer).value
  pub state : said.state ≡ state_words (forward_over (run_in runTable runOrder runState) supplies).run

module _ (table supplies runTable runOrder runState : List ℕ) (tables : length table ≡ 388) (said : Drawing)
    (d : Drew table supplies runTable runOrder runState said) where
  module _ (n : said.planned ≡ 0) where
    made : planned_number (plan_of (table_in table)).answer ≡ 0
    made = sym d.planned ∙ n

    accepted : Accepted (table_in table)
    accepted = (planned (table_in table)).accepted (inl made)

    passes : is_order (table_in table) said.order ≡ true
    passes = rw d.order ((planned (table_in table)).made made).1

    serves : Serves (table_in table) said.order
    serves = rw d.order ((planned (table_in table)).made made).2

    begun_is : fresh_of (table_in table) said.order ≡ record { check = Passed; run = start_run (table_in table) said.order 0 }
    begun_is = (demand_3 (table_in table) accepted []).started said.order passes

    left_is : said.state ≡ (list_words table said.order (forward supplies ∷ []) (start_of table said.order 0)).state
    unfolding list_words
    left_is = d.state ∙ rw (d.run_table, d.run_order, d.start, begun_is, words_of_table_in table tables)

    answer_is : (list_words table said.order (forward supplies ∷ []) (start_of table said.order 0)).said ≡ told said.forward said.worked ∷ []
    unfolding list_words
    answer_is = rw (d.forward, d.worked, d.run_table, d.run_order, d.start, begun_is, words_of_table_in table tables)

  pub drawn : Drawn table supplies said
  unfolding check_number
  drawn =
      record {
        fresh = λ n. d.fresh ∙ rw (begun_is n);
        answer = answer_is;
        kept = λ n. penned table said.order tables (accepted n) (passes n) 0 (omega arith) (forward supplies ∷ []) (serves n);
        left = left_is;
      }
