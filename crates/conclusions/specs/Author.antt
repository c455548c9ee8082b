-- The table author's conclusion, from the reader's definition, check by check.
use Rattle.std.specs.Prelude.{ℕ, ◌+◌, ◌-◌, ◌*◌, ◌≤◌, ◌<◌, Bool, false, cond, ◌&&◌, List, ◌⊎◌, ◌≡◌, ltb, leb, eqb, drop, replicate, Ok, Err}
use Rattle.std.proofs.Math.Bool.{true}
use Rattle.std.proofs.Math.Logic.{inl, inr, ⊎_elim}
use Rattle.std.proofs.Math.Path.{refl}
use Rattle.std.proofs.Common.{sym, ap, ◌∙◌}
use native.Mathlib.Omega.{arith}
use borrow.Author.Tests.{le-ltb, eq-eqb, ne_eqb, le-leb, leb-true, eqb-true}
use Rattle.std.proofs.Math.ListN.{length}
use Rattle.rules.specs.declared.Table.{Table}
use Rattle.rules.specs.Checks.{Check, Passed}
use Rattle.rules.specs.Lists.{all, all_zero, rows_to}
use Rattle.rules.specs.Numbers.{refusal_number, check_number}
use Rattle.rules.specs.Rows.{at, follows_of, is_high}
use Rattle.rules.specs.Tables.{count_ok, speeds_ok, loading_ok, row_ok, promise_ok, check_wait, tail_ok, check_table, Accepted, FullTable}
use Rattle.texts.specs.Sheets as Sheets
use Rattle.texts.specs.Sheets.{is_line, number_at, line_of, column_of, check_sheet, read_checked, read_of}
use Rattle.theory.specs.Facts.{facts, Follows, follows}
use Rattle.theory.specs.Tests.{not_both, and_left, and_right, and_both}
use Rattle.checks.specs.Limits.{limits_ok, part_ok}
use Rattle.columns.specs.AllRows.{all_each, all_of}
use Rattle.planner.specs.Promise.{refusal_number_lem}
use Rattle.sheet.specs.Lines.{lines_line}
use Rattle.sheet.specs.SheetsDiffer.{Accepts, accepts, column_long, column_at_lem, column_zero}
use Rattle.words.specs.Words.{words_of}
use Rattle.words.specs.Words as Words
use Rattle.words.specs.Inverse.{table_in_words_of}
use Rattle.conclusions.specs.Conclusions.{figure_at, RowFits, PartFits, WaitFits, FirstWait, NotLower, ReleasedLater, FollowsLow, WaitTaken, RowTaken, RowEmpty, Taken, TableAuthor}
use Rattle.conclusions.specs.Entries.{TableWords, table_words}
use Rattle.conclusions.specs.Limits.{limits_within, within_limits, part_within, within_part}
use Rattle.conclusions.specs.Places.{each_tail}
use Rattle.conclusions.specs.Refusals.{number_cond, WaitSays, row_says, Refusing, of_waits, first_refused, says_waits, TableSays, table_says}

-- ---- the numbers of the checks, one test after another

-- what a reader may answer
abbrev Known : ℕ → Type 0
Known k = (k ≤ 5) ⊎ ((11 ≤ k) × (k ≤ 15))

-- a sheet's: under 33 bytes, the first line, the row count, the length, the row lines, and the table's
abbrev sheet_number : Bool → Bool → Bool → Bool → Bool → ℕ → ℕ
sheet_number short first count long lines table = cond short 1 (cond first (cond count (cond long (cond lines table 2) 1) 3) 2)

module _ (k : ℕ) where
  not_one : (first count lines : Bool) → (k ≡ 1 → ⊥) → sheet_number false first count true lines k ≡ 1 → ⊥
  not_one false count lines n e = omega arith
  not_one true false lines n e = omega arith
  not_one true true false n e = omega arith
  not_one true true true n e = n e

  not_two : (short count long : Bool) → (k ≡ 2 → ⊥) → sheet_number short true count long true k ≡ 2 → ⊥
  not_two true count long n e = omega arith
  not_two false false long n e = omega arith
  not_two false true false n e = omega arith
  not_two false true true n e = n e

  not_three : (short first long lines : Bool) → (k ≡ 3 → ⊥) → sheet_number short first true long lines k ≡ 3 → ⊥
  not_three true first long lines n e = omega arith
  not_three false false long lines n e = omega arith
  not_three false true false lines n e = omega arith
  not_three false true true false n e = omega arith
  not_three false true true true n e = n e

  -- numbers from 4 on come from the table
  of_table_lem : (short first count long lines : Bool) → 4 ≤ sheet_number short first count long lines k → sheet_number short first count long lines k ≡ k
  of_table_lem true first count long lines h = absurd (omega arith)
  of_table_lem false false count long lines h = absurd (omega arith)
  of_table_lem false true false long lines h = absurd (omega arith)
  of_table_lem false true true false lines h = absurd (omega arith)
  of_table_lem false true true true false h = absurd (omega arith)
  of_table_lem false true true true true h = refl

  known : (short first count long lines : Bool) → Known k → Known (sheet_number short first count long lines k)
  known true first count long lines h = inl (omega arith)
  known false false count long lines h = inl (omega arith)
  known false true false long lines h = inl (omega arith)
  known false true true false lines h = inl (omega arith)
  known false true true true false h = inl (omega arith)
  known false true true true true h = h

-- ---- the columns that are read

column_tail : (sheet : List ℕ) (j n : ℕ) → all_zero (drop n (column_of sheet n j)) ≡ true
column_tail sheet j n = each_tail (column_of sheet n j) n (column_long sheet n j) (λ i h few. column_zero sheet n j (i - 1) (omega arith) (omega arith))

-- ---- a sheet, and the table that it states

-- only a check that passed has the number 0
pub passed_check : (c : Check) → check_number c ≡ 0 → c ≡ Passed
unfolding check_number refusal_number
passed_check (Ok tt) e = refl
passed_check (Err r) e = absurd ((refusal_number_lem r).0 e)

module _ (sheet : List ℕ) where
  abbrev n : ℕ
  n = number_at sheet 0 1

  abbrev t : Table
  t = Sheets.table_in sheet

  abbrev rows : Bool
  rows = all (row_ok t) (rows_to n) && tail_ok t

  abbrev parts : Bool
  parts = all (promise_ok t) (rows_to n)

  abbrev short : Bool
  short = ltb (length sheet) 33

  abbrev first : Bool
  first = is_line sheet 0 4

  abbrev long : Bool
  long = eqb (length sheet) (33 + 49 * n)

  abbrev lines : Bool
  lines = all (λ i. is_line sheet (line_of i) 6) (rows_to n)

  abbrev of_table : ℕ
  of_table = check_number (check_table t)

  numbered : check_number (check_sheet sheet) ≡ sheet_number short first (count_ok n) long lines of_table
  unfolding check_sheet check_number refusal_number
  numbered = simp number_cond

  -- what the table's number says
  says : TableSays t of_table
  says = table_says t

  -- the j-th figure of row i
  figure : (j i : ℕ) → n ≤ 64 → 1 ≤ i → i ≤ n → at (column_of sheet n j) i ≡ figure_at sheet i j
  figure j i few l h = column_at_lem sheet n j (i - 1) few (omega arith)

  tail : tail_ok t ≡ true
  unfolding tail_ok Sheets.table_in
  tail = rw (column_tail sheet 1 n, column_tail sheet 2 n, column_tail sheet 3 n, column_tail sheet 4 n, column_tail sheet 5 n, column_tail sheet 6 n)

  -- checks 5 and 12 of row i, over the figures of its line
  limits_are : n ≤ 64 → (i : ℕ) → 1 ≤ i → i ≤ n → row_ok t i ≡ limits_ok (figure_at sheet i 1) (figure_at sheet i 2) (figure_at sheet i 3) (figure_at sheet i 4)
  unfolding row_ok Sheets.table_in
  limits_are few i l h = rw (figure 1 i few l h, figure 2 i few l h, figure 3 i few l h, figure 4 i few l h)

  part_is : n ≤ 64 → (i : ℕ) → 1 ≤ i → i ≤ n → promise_ok t i ≡ part_ok (figure_at sheet i 2) (figure_at sheet i 4) (figure_at sheet i 5)
  unfolding promise_ok Sheets.table_in
  part_is few i l h = rw (figure 2 i few l h, figure 4 i few l h, figure 5 i few l h)

  pub full : FullTable t
  unfolding Sheets.table_in
  full =
      record {
        release = column_long sheet n 1;
        work = column_long sheet n 2;
        deadline = column_long sheet n 3;
        level = column_long sheet n 4;
        promised = column_long sheet n 5;
        follows = column_long sheet n 6;
      }

  -- row i of the table's words
  words : (i : ℕ) → 1 ≤ i → i ≤ 64 → TableWords (words_of t) t i
  words i l h = rw (table_in_words_of t full) at (table_words (words_of t) i l h)

  wait_taken : Accepts sheet → (i : ℕ) → 1 ≤ i → i ≤ n → WaitTaken (words_of t) i
  unfolding Sheets.table_in
  wait_taken a i l h =
      let few = a.few in
      let w = words i l (omega arith) in
      let k = follows_of t i in
      let f : 1 ≤ k → Follows t i = λ some. follows t a.accepted i (record { from = l; up_to = h }) some in
      let v : 1 ≤ k → TableWords (words_of t) t k = λ some. words k some (omega (arith, (f some).lower)) in
      rw w.follows
      (record {
        lower = λ some. (f some).lower;
        no_later = λ some. omega (arith, w.release, (v some).release, (f some).earlier);
        high = λ some n z. not_both (is_high t k) ((f some).level (rw (ne_eqb (at t.level i) 0 (λ y. n (w.level ∙ y)))))
            (rw (eq-eqb (at t.level k) 0 (sym (v some).level ∙ z)));
      })

  row_taken : Accepts sheet → (i : ℕ) → 1 ≤ i → i ≤ n → RowTaken sheet (words_of t) i
  unfolding Sheets.table_in
  row_taken a i l h =
      let few = a.few in
      let w = words i l (omega arith) in
      let f = (facts t a.accepted).row i (record { from = l; up_to = h }) in
      let p = (facts t a.accepted).part i (record { from = l; up_to = h }) in
      let e : i - 1 + 1 ≡ i = omega arith in
      record {
        release = w.release ∙ figure 1 i few l h;
        work = w.work ∙ figure 2 i few l h;
        deadline = w.deadline ∙ figure 3 i few l h;
        level = w.level ∙ figure 4 i few l h;
        promised = w.promised ∙ figure 5 i few l h;
        follows = w.follows ∙ figure 6 i few l h;
        formed = lines_line sheet (i - 1) n a.lines (omega arith);
        within = record {
          some = omega (arith, w.work, f.works);
          most = omega (arith, w.work, f.light);
          latest = omega (arith, w.deadline, f.soon);
          before = omega (arith, w.release, w.deadline, f.before);
          low_or_high = omega (arith, w.level, f.level);
        };
        part = record {
          most = omega (arith, w.work, w.promised, p.within);
          low = λ some. w.level ∙ eqb-true (at t.level i) 0 (p.low (omega (arith, w.promised)));
        };
        wait = wait_taken a i l h;
      }

  row_empty : (i : ℕ) → n < i → i ≤ 64 → RowEmpty (words_of t) i
  unfolding Sheets.table_in
  row_empty i h few =
      let w = words i (omega arith) few in
      let none : (j : ℕ) → at (column_of sheet n j) i ≡ 0 = λ j. column_zero sheet n j (i - 1) (omega arith) (omega arith) in
      record {
        release = w.release ∙ none 1;
        work = w.work ∙ none 2;
        deadline = w.deadline ∙ none 3;
        level = w.level ∙ none 4;
        promised = w.promised ∙ none 5;
        follows = w.follows ∙ none 6;
      }

  words_accepted : Accepts sheet → Accepted (Words.table_in (words_of t))
  words_accepted a = rw (table_in_words_of t full) a.accepted

  taken : check_sheet sheet ≡ Passed → Taken sheet (words_of t)
  unfolding words_of Sheets.table_in
  taken e =
      let a = accepts sheet e in
      let f = facts t a.accepted in
      record {
        some = f.some;
        few = f.few;
        length = a.long;
        formed = a.first;
        count = refl;
        normal = refl;
        degraded = refl;
        runs = f.crawls;
        slower = f.slower;
        most = f.fast;
        loading = refl;
        loads = f.loads;
        row = λ i l h. row_taken a i l h;
        none_after = row_empty;
        accepted = words_accepted a;
      }

  refused_words : (c : Check) → (check_number c ≡ 0 → ⊥) → words_of (read_checked c t).table ≡ replicate 388 0
  unfolding words_of check_number
  refused_words (Ok tt) m = absurd (m refl)
  refused_words (Err r) m = refl

  read_number : check_number (read_of sheet).check ≡ check_number (check_sheet sheet)
  unfolding read_of
  read_number = same (check_sheet sheet)
    where
      same : (c : Check) → check_number (read_checked c t).check ≡ check_number c
      same (Ok tt) = refl
      same (Err r) = refl

  -- the reader's number as the chain of its tests
  chain : check_number (read_of sheet).check ≡ sheet_number short first (count_ok n) long lines of_table
  chain = read_number ∙ numbered

  from_table : (k : ℕ) → 4 ≤ k → check_number (read_of sheet).check ≡ k → of_table ≡ k
  from_table k h e =
      let s = sheet_number short first (count_ok n) long lines of_table in
      sym (of_table_lem of_table short first (count_ok n) long lines (omega (arith, chain))) ∙ sym chain ∙ e

  read_as : check_sheet sheet ≡ Passed → Taken sheet (words_of (read_of sheet).table)
  unfolding read_of
  read_as p = rw p (taken p)

  all_zero_lem : (check_number (read_of sheet).check ≡ 0 → ⊥) → words_of (read_of sheet).table ≡ replicate 388 0
  unfolding read_of
  all_zero_lem m = refused_words (check_sheet sheet) (λ z. m (read_number ∙ z))

  few_rows : count_ok n ≡ true → n ≤ 64
  few_rows e = leb-true n 64 (and_right (leb 1 n) (leb n 64) e)

  some_row_out : ((i : ℕ) → 1 ≤ i → i ≤ n → RowFits sheet i) → (count_ok n ≡ true) × (rows ≡ false) → ⊥
  some_row_out f g =
      let few = few_rows g.0 in
      let each = all_of (row_ok t) n (λ i l h. limits_are few i l h ∙ within_limits _ _ _ _ (f i l h)) in
      not_both rows (and_both (all (row_ok t) (rows_to n)) (tail_ok t) each tail) g.1

  some_part_out : ((i : ℕ) → 1 ≤ i → i ≤ n → PartFits sheet i) → (count_ok n ≡ true) × (parts ≡ false) → ⊥
  some_part_out f g =
      let few = few_rows g.0 in
      not_both parts (all_of (promise_ok t) n (λ i l h. part_is few i l h ∙ within_part _ _ _ (f i l h))) g.1

  every_row_in : count_ok n ≡ true → rows ≡ true → (i : ℕ) → 1 ≤ i → i ≤ n → RowFits sheet i
  every_row_in c r i l h =
      let e = all_each (row_ok t) n (and_left (all (row_ok t) (rows_to n)) (tail_ok t) r) i l h in
      limits_within _ _ _ _ (sym (limits_are (few_rows c) i l h) ∙ e)

  every_part_in : count_ok n ≡ true → parts ≡ true → (i : ℕ) → 1 ≤ i → i ≤ n → PartFits sheet i
  every_part_in c r i l h = part_within _ _ _ (sym (part_is (few_rows c) i l h) ∙ all_each (promise_ok t) n r i l h)

  -- ---- the first row whose wait is refused

  -- a wait that passes, over the figures of its line
  wait_fits : n ≤ 64 → (i : ℕ) → 1 ≤ i → i ≤ n → check_wait t i ≡ Passed → WaitFits sheet i
  unfolding Sheets.table_in check_number
  wait_fits few i l h e =
      let w = figure_at sheet i 6 in
      let p = rw (figure 6 i few l h) at ((row_says t i).within (ap check_number e)) in
      record {
        lower = p.lower;
        no_later = λ some. omega (arith, p.no_later some, figure 1 i few l h, figure 1 w few some (omega (arith, p.lower some)));
        high = λ some n z. p.high some (λ y. n (sym (figure 4 i few l h) ∙ y)) (figure 4 w few some (omega (arith, p.lower some)) ∙ z);
      }

  module _ (h : 13 ≤ of_table) where
    reached : (count_ok n ≡ true) × (rows ≡ true) × (parts ≡ true) × (of_table ≡ of_waits t)
    unfolding Sheets.table_in
    reached = says.waits h

    few : n ≤ 64
    few = few_rows reached.0

    stop : Refusing t n
    unfolding Sheets.table_in
    stop = first_refused t (omega (arith, reached.3))

    abbrev i : ℕ
    i = stop.row

    abbrev w : ℕ
    w = figure_at sheet i 6

    -- the figures of the row and of the one that it follows
    own : (j : ℕ) → at (column_of sheet n j) i ≡ figure_at sheet i j
    own j = figure j i few stop.from stop.up_to

    followed : (j : ℕ) → 1 ≤ w → w < i → at (column_of sheet n j) w ≡ figure_at sheet w j
    followed j some lower = figure j w few some (omega (arith, stop.up_to))

    told : WaitSays i w (at (column_of sheet n 1) i) (at (column_of sheet n 1) w) (at (column_of sheet n 4) i) (at (column_of sheet n 4) w) of_table
    unfolding Sheets.table_in
    told = rw reached.3 (rw (own 6) at (says_waits t stop))

    first_wait : 1 ≤ w → FirstWait sheet i
    first_wait some =
        record {
          from = stop.from;
          up_to = stop.up_to;
          follows = some;
          before = λ j l b. wait_fits few j l (omega (arith, stop.up_to)) (stop.before j l b);
        }

    not_lower : of_table ≡ 13 → NotLower sheet i
    not_lower e = let q = told.thirteen e in (first_wait q.0, q.1)

    released_later : of_table ≡ 14 → ReleasedLater sheet i
    released_later e = let q = told.fourteen e in (first_wait q.0, q.1, omega (arith, q.2, own 1, followed 1 q.0 q.1))

    follows_low : of_table ≡ 15 → FollowsLow sheet i
    follows_low e =
        let q = told.fifteen e in (
          first_wait q.0,
          q.1,
          omega (arith, q.2, own 1, followed 1 q.0 q.1),
          λ z. q.3 (own 4 ∙ z),
          sym (followed 4 q.0 q.1) ∙ q.4,
        )

  pub authored : TableAuthor sheet (check_number (read_of sheet).check) (words_of (read_of sheet).table)
  unfolding Sheets.table_in
  authored =
      record {
        taken = λ e. let p = passed_check (check_sheet sheet) (sym read_number ∙ e) in read_as p;
        refused = λ m. all_zero_lem m;
        known = rw chain (known of_table short first (count_ok n) long lines (of_known says.known));
        one = λ e l h. not_one of_table first (count_ok n) lines (λ z. not_reader 1 (omega arith) (omega arith) z)
            (rw (le-ltb (length sheet) 33 h, eq-eqb (length sheet) (33 + 49 * n) l) at (sym chain ∙ e));
        three = λ e l h. let ok : count_ok n ≡ true = rw (le-leb 1 n l, le-leb n 64 h) in
            not_three of_table short first long lines (λ z. not_both (count_ok n) ok (says.three z)) (rw ok at (sym chain ∙ e));
        four = λ e l h m. let ok : speeds_ok (number_at sheet 0 2) (number_at sheet 0 3) ≡ true =
            rw (
              le-leb 1 (number_at sheet 0 2) (omega arith),
              le-leb (number_at sheet 0 2) 1000 m,
              le-leb 1 (number_at sheet 0 3) l,
              le-leb (number_at sheet 0 3) (number_at sheet 0 2) h,
            ) in
            not_both (speeds_ok (number_at sheet 0 2) (number_at sheet 0 3)) ok (says.four (from_table 4 (omega arith) e));
        two = λ e l f. not_two of_table short (count_ok n) long (λ z. not_reader 2 (omega arith) (omega arith) z)
            (rw (l, all_of (λ i. is_line sheet (line_of i) 6) n f) at (sym chain ∙ e));
        eleven = λ e l. not_both (loading_ok (number_at sheet 0 4)) (le-leb (number_at sheet 0 4) 16 l) (says.eleven (from_table 11 (omega arith) e));
        five = λ e f. some_row_out f (says.five (from_table 5 (omega arith) e));
        twelve = λ e f. let g = says.twelve (from_table 12 (omega arith) e) in some_part_out f (g.0, g.2);
        after_five = λ e. let g = says.twelve (from_table 12 (omega arith) e) in every_row_in g.0 g.1;
        thirteen = λ e. let z = from_table 13 (omega arith) e in let h : 13 ≤ of_table = omega arith in (i h, not_lower h z);
        fourteen = λ e. let z = from_table 14 (omega arith) e in let h : 13 ≤ of_table = omega arith in (i h, released_later h z);
        fifteen = λ e. let z = from_table 15 (omega arith) e in let h : 13 ≤ of_table = omega arith in (i h, follows_low h z);
        after_twelve = λ h j l b.
            let r = reached (omega (arith, from_table (check_number (read_of sheet).check) (omega arith) refl)) in
            (every_row_in r.0 r.1 j l b, every_part_in r.0 r.2 j l b);
      }
    where
      -- of the table's numbers
      of_known : (of_table ≡ 0) ⊎ ((3 ≤ of_table) × (of_table ≤ 5)) ⊎ ((11 ≤ of_table) × (of_table ≤ 15)) → Known of_table
      of_known = ⊎_elim (λ z. inl (omega arith)) (⊎_elim (λ w. inl w.1) (λ w. inr w))

      not_reader : (k : ℕ) → 1 ≤ k → k ≤ 2 → of_table ≡ k → ⊥
      not_reader k l h z = ⊎_elim (λ w. omega arith) (⊎_elim (λ w. omega (arith, w.0)) (λ w. omega (arith, w.0))) says.known
