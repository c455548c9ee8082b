-- The conclusions about asking and committing, from their definitions and from demand 3.
use Rattle.std.specs.Prelude.{ℕ, ◌+◌, ◌≤◌, ◌<◌, true, List, ◌≡◌, length, get_or, replicate}
use Rattle.std.proofs.Math.Path.{refl, sym, ap}
use Rattle.std.proofs.Common.{subst, ◌∙◌}
use native.Mathlib.Omega.{arith}
use Rattle.rules.specs.declared.Table.{Table}
use Rattle.rules.specs.declared.Refusal.{Refusal}
use Rattle.rules.specs.declared.Refusal.TheVariants.{Unsound, NotCorrect, RowOpen, ReleasedBefore}
use Rattle.rules.specs.Checks.{Passed, Refused}
use Rattle.record.specs.declared.Run.{Run}
use Rattle.proposal.specs.declared.Asking.{Asking}
use Rattle.proposal.specs.declared.Committed.{Committed}
use Rattle.rules.specs.Calls.{Call}
use Rattle.rules.proofs.Meaning.{correct_serves, serves_correct}
use Rattle.rules.specs.Meaning.{Serves}
use Rattle.rules.specs.Numbers.{refusal_number, check_number, planned_number, rows_left}
use Rattle.rules.specs.Orders.{is_order, check_both}
use Rattle.rules.specs.Rows.{at, is_row}
use Rattle.rules.specs.Tables.{Accepted, zero_table}
use Rattle.texts.specs.Sheets.{read_of}
use Rattle.theory.specs.Facts.{both_pass, facts, is_row_lem}
use Rattle.theory.proofs.Finishes.{earliest_first}
use Rattle.theory.specs.Tests.{by_bool}
use Rattle.planner.specs.Promise.{refusal_number_lem}
use Rattle.judge.specs.Checked.{checked}
use Rattle.record.specs.Records.{is_sound, state_of, start_run}
use Rattle.record.proofs.Sound.{speeds}
use Rattle.proposal.proofs.Asked as Asked
use Rattle.proposal.proofs.Asked.{asked_good, good_commits}
use Rattle.proposal.specs.Asked.{ForTheRecord}
use Rattle.proposal.specs.Commits.{check_commit, commit_of}
use Rattle.proposal.specs.Proposals.{ask_of, check_proposal}
use Rattle.proposal.proofs.Passing.{by_check, turns, refused_not, own_refusal, not_correct, row_open, released_before}
use Rattle.proposal.specs.Passing.{Turned}
use Rattle.proposal.proofs.Renewing.{check_renews}
use Rattle.words.specs.Words.{table_in, words_of, run_in, state_words}
use Rattle.words.specs.Inverse.{words_of_table_in, table_in_words_of, state_words_of_run_in}
use Rattle.conclusions.specs.declared.Begun.{Begun}
use Rattle.conclusions.specs.declared.Proposed.{Proposed}
use Rattle.conclusions.specs.Back.{read_full}
use Rattle.conclusions.specs.Conclusions.{PenEngineer, Proposing, Committing}
use Rattle.conclusions.specs.Drawn.{penned}
use Rattle.conclusions.specs.Entries.{table_words, state_words_lem}
use Rattle.conclusions.specs.Forwarded.{clock_word}

-- the answer of asking over the words
abbrev said_asking : Asking → Proposed
said_asking a = record { number = planned_number a.answer; left = rows_left a.answer; table = words_of a.table; order = a.order }

module _ (sheet : List ℕ) where
  -- the table proposed is that which was read, and is held by its words
  proposed_words : planned_number (ask_of sheet).answer ≡ 0 → table_in (words_of (ask_of sheet).table) ≡ (ask_of sheet).table
  proposed_words z = rw ((Asked.answered sheet).read z) (table_in_words_of (read_of sheet).table (read_full sheet))

  zero_words : words_of zero_table ≡ replicate 388 0
  unfolding words_of
  zero_words = refl

  pub proposing : Proposing sheet (said_asking (ask_of sheet))
  proposing =
      record {
        reader = (Asked.answered sheet).reader;
        planner = λ z. ap planned_number ((Asked.answered sheet).planner z);
        rows = λ z. ap rows_left ((Asked.answered sheet).planner z);
        made = (Asked.answered sheet).made;
        read = λ z. ap words_of ((Asked.answered sheet).read z);
        good = λ z. let g = asked_good sheet z in rw (proposed_words z) (g.accepted, g.passes, correct_serves (ask_of sheet).table (ask_of sheet).order g.correct);
        own = λ z r n e. subst ForTheRecord (sym e) (rw (proposed_words z) (good_commits (ask_of sheet).table (ask_of sheet).order (asked_good sheet z) r));
        none = λ n. let e = (Asked.answered sheet).none n in (ap words_of e.0 ∙ zero_words, e.1);
        left = (Asked.answered sheet).left;
      }

-- the answer of a commit over the words
abbrev said_commit : Committed → Begun
said_commit c = record { number = check_number c.check; table = words_of c.run.table; order = c.run.order; state = state_words c.run }

module _ (table order runTable runOrder runState : List ℕ) (tables : length table ≡ 388) (runs : length runTable ≡ 388) (states : length runState ≡ 193) where
  abbrev t : Table
  t = table_in table

  abbrev r : Run
  r = run_in runTable runOrder runState

  abbrev After : Type 0
  After = Committing table order runTable runOrder runState (said_commit (commit_of r t order))

  -- a check that passed, over the words
  module _ (sound : is_sound r ≡ true) (w : Turned r.table (state_of r) t order) where
    few : (i : ℕ) → i ≤ r.table.n → i ≤ 64
    few i h = omega (arith, h, (speeds r sound).few)

    accepted : Accepted t
    accepted = (checked t order w.checked).accepted

    passes : is_order t order ≡ true
    passes = (checked t order w.checked).order

    serves : Serves t order
    serves = correct_serves t order w.correct

    clock_is : get_or runState 0 0 ≡ r.clock
    unfolding run_in
    clock_is = refl

    closed_word : (i : ℕ) → 1 ≤ i → i ≤ get_or runTable 0 0 → 1 ≤ get_or runState (128 + i) 0
    unfolding run_in table_in
    closed_word i l h =
        omega (arith, w.closed i (is_row_lem r.table i (record { from = l; up_to = h })), (state_words_lem runTable runOrder runState i l (few i h)).closing)

    later_word : (j : ℕ) → 1 ≤ j → j ≤ get_or table 0 0 → get_or runState 0 0 ≤ get_or table (3 + j) 0
    unfolding table_in
    later_word j l h =
        omega (
          arith,
          w.early,
          earliest_first t j (record { from = l; up_to = h }),
          clock_is,
          (table_words table j l (omega (arith, h, (facts t accepted).few))).release,
        )

    pen_words : (cs : List Call) → PenEngineer table order (get_or runState 0 0) cs
    pen_words cs = rw clock_is (penned table order tables accepted passes r.clock w.early cs serves)

    committed : commit_of r t order ≡ record { check = Passed; run = start_run t order r.clock } → After
    unfolding check_number
    committed e =
        rw e
        (record {
          refused = λ n. absurd (n refl);
          taken = λ _. (words_of_table_in table tables, refl, rw clock_is);
          clock = λ _. clock_word (start_run t order r.clock) ∙ sym clock_is;
          sound = λ _. sound;
          closed = λ _. closed_word;
          later = λ _. later_word;
          good = λ _. (accepted, passes, serves);
          nine = λ n. absurd (n sound);
          own = λ _ n. absurd (n (ap check_number w.checked));
          sixteen = λ _ _ _ n. absurd (n serves);
          seventeen = λ _ _ _ _ i l h z. absurd (omega (arith, z, closed_word i l h));
          eighteen = λ _ _ _ _ _ j l h z. absurd (omega (arith, z, later_word j l h));
          passes = λ _ _ _ _ _ _. refl;
          pens = λ _. pen_words;
        })

  -- a check that refused
  not_passed : (w : Refusal) → check_commit r t order ≡ Refused w → is_sound r ≡ true → check_proposal r.table (state_of r) t order ≡ Passed → ⊥
  unfolding check_commit
  not_passed w e sound p = refused_not w (sym e ∙ rw (sound, p))

  closed_of : is_sound r ≡ true → ((i : ℕ) → 1 ≤ i → i ≤ get_or runTable 0 0 → 1 ≤ get_or runState (128 + i) 0) → (i : ℕ) → 1 ≤ i → i ≤ r.table.n → 1 ≤ at r.closing i
  unfolding run_in table_in
  closed_of sound h i l m =
      let f : i ≤ 64 = omega (arith, m, (speeds r sound).few) in
      omega (arith, h i l m, (state_words_lem runTable runOrder runState i l f).closing)

  later_of : Accepted t → ((j : ℕ) → 1 ≤ j → j ≤ get_or table 0 0 → get_or runState 0 0 ≤ get_or table (3 + j) 0) → (j : ℕ) → 1 ≤ j → j ≤ t.n → r.clock ≤ at t.release j
  unfolding run_in table_in
  later_of a h j l m =
      let f : j ≤ 64 = omega (arith, m, (facts t a).few) in
      omega (arith, h j l m, (table_words table j l f).release)

  -- which number it is
  number_of : (w v : Refusal) → check_commit r t order ≡ Refused w → is_sound r ≡ true → check_proposal r.table (state_of r) t order ≡ Refused v → check_number (Refused w) ≡ check_number (Refused v)
  unfolding check_commit
  number_of w v e sound p = ap check_number (sym e ∙ rw (sound, p))

  own_number : (w : Refusal) → check_commit r t order ≡ Refused w → is_sound r ≡ true → (check_number (check_both t order) ≡ 0 → ⊥) → check_number (Refused w) ≡ check_number (check_both t order)
  unfolding check_number
  own_number w e sound n =
      by_check (check_both t order)
      (λ b. absurd (n (rw b)))
      (λ v b. number_of w v e sound (own_refusal r.table (state_of r) t order v b) ∙ ap check_number (sym b))

  unsound_number : (w : Refusal) → check_commit r t order ≡ Refused w → (is_sound r ≡ true → ⊥) → check_number (Refused w) ≡ 9
  unfolding check_commit check_number refusal_number
  unsound_number w e n =
      by_bool (is_sound r) (λ s. absurd (n s)) (λ s. let q : Refused w ≡ Refused Unsound = sym e ∙ rw s in ap check_number q)

  later_clock : (j : ℕ) → 1 ≤ j → j ≤ 64 → get_or table (3 + j) 0 < get_or runState 0 0 → at t.release j < r.clock
  unfolding run_in
  later_clock j l h q = omega (arith, q, (table_words table j l h).release)

  open_row : is_sound r ≡ true → (i : ℕ) → 1 ≤ i → i ≤ get_or runTable 0 0 → get_or runState (128 + i) 0 ≡ 0 → (is_row r.table i ≡ true) × (at r.closing i ≡ 0)
  unfolding run_in table_in
  open_row sound i l h z = (
    is_row_lem r.table i (record { from = l; up_to = h }),
    omega (arith, z, (state_words_lem runTable runOrder runState i l (omega (arith, h, (speeds r sound).few))).closing),
  )

  refused_commit : (w : Refusal) → check_commit r t order ≡ Refused w → commit_of r t order ≡ record { check = Refused w; run = r } → After
  unfolding check_number refusal_number run_in table_in
  refused_commit w c e =
      let n = (refusal_number_lem w).0 in
      rw e
      (record {
        refused = λ _. (words_of_table_in runTable runs, refl, state_words_of_run_in runTable runOrder runState states);
        taken = λ z. absurd (n z);
        clock = λ z. absurd (n z);
        sound = λ z. absurd (n z);
        closed = λ z. absurd (n z);
        later = λ z. absurd (n z);
        good = λ z. absurd (n z);
        nine = unsound_number w c;
        own = own_number w c;
        sixteen = λ sound a o n'. number_of w NotCorrect c sound (not_correct r.table (state_of r) t order (both_pass t order a o) (λ k. n' (correct_serves t order k)));
        seventeen = λ sound a o s i l h z. let q = open_row sound i l h z in
            number_of w RowOpen c sound (row_open r.table (state_of r) t order (both_pass t order a o) (serves_correct t order s) i q.0 q.1);
        eighteen = λ sound a o s closed j l h z.
            number_of w ReleasedBefore c sound (released_before r.table (state_of r) t order (both_pass t order a o) (serves_correct t order s)
            (closed_of sound closed) j (is_row_lem t j (record { from = l; up_to = h })) (later_clock j l (omega (arith, h, (facts t a).few)) z));
        passes = λ sound a o s closed later. absurd (not_passed w c sound
            (turns r.table (state_of r) t order (both_pass t order a o) (serves_correct t order s) (closed_of sound closed) (later_of a later)));
        pens = λ z. absurd (n z);
      })

  pub committing : After
  unfolding commit_of
  committing =
      by_check (check_commit r t order)
      (λ e. let q = check_renews r t order e in committed q.sound q.turn (rw e))
      (λ w e. refused_commit w e (rw e))
