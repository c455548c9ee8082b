-- The conclusion about least workable speeds, from what a search promises.
use Rattle.std.specs.Prelude.{ℕ, ◌<◌, true, ◌⊎◌, ◌≡◌, refl, List, ◌++◌, length, get_or, set, replicate, Ok, Err}
use Rattle.std.proofs.Common.{inl, inr, ⊎_elim, sym, ap, subst, ◌∙◌, arith, length-append, get_or-set_same, get_or-set_other, drop-set-lt}
use Rattle.rules.specs.declared.Table.{Table}
use Rattle.rules.specs.declared.Sought.{Sought}
use Rattle.rules.specs.declared.Sought.TheVariants.{Degraded, Normal}
use Rattle.rules.specs.declared.Searching.{Searching}
use Rattle.rules.specs.Checks.{Check, Passed}
use Rattle.rules.specs.Choice.{choice, padded, plan_of}
use Rattle.rules.specs.Correct.{CorrectOrder}
use Rattle.rules.proofs.Meaning.{correct_serves, serves_correct}
use Rattle.rules.specs.Meaning.{Serves}
use Rattle.rules.specs.Numbers.{check_number, searched_number, searched_speed}
use Rattle.rules.specs.Orders.{is_order}
use Rattle.rules.specs.Tables.{check_table, Accepted, FullTable}
use Rattle.texts.specs.Sheets.{read_of}
use Rattle.searches.specs.Speeds.{at_speed, slowest, fastest, least_speed, search_checked, search_of, search_read, search_sheet}
use Rattle.theory.proofs.Faster.{accepted_at, order_at_lem}
use Rattle.theory.specs.Tests.{by_eqb}
use Rattle.planner.specs.Promise.{refusal_number_lem, promised}
use Rattle.speeds.specs.Promise.{Promise, promised_search, promised_sheet}
use Rattle.words.specs.Words.{table_in, words_of}
use Rattle.words.specs.Inverse.{table_in_words_of}
use Rattle.conclusions.specs.Author.{passed_check}
use Rattle.conclusions.specs.Back.{read_full}
use Rattle.conclusions.specs.Planned.{planned}
use Rattle.conclusions.specs.Conclusions.{speed_at, LeastFound, LeastRead}

-- the word of the speed sought
abbrev pub index_of : Sought → ℕ
index_of Degraded = 2
index_of Normal = 1

-- no word among the first four is one of a column
words_at_lem : (table : List ℕ) (index s : ℕ) → index < 4
    → speed_at table index s
    ≡ record {
      n = get_or (set table index s) 0 0;
      normal = get_or (set table index s) 1 0;
      degraded = get_or (set table index s) 2 0;
      loading = get_or (set table index s) 3 0;
      release = (table_in table).release;
      work = (table_in table).work;
      deadline = (table_in table).deadline;
      level = (table_in table).level;
      promised = (table_in table).promised;
      follows = (table_in table).follows;
    }
unfolding table_in
words_at_lem table index s h =
    rw (
      drop-set-lt 4 table index s h,
      drop-set-lt 68 table index s (omega arith),
      drop-set-lt 132 table index s (omega arith),
      drop-set-lt 196 table index s (omega arith),
      drop-set-lt 260 table index s (omega arith),
      drop-set-lt 324 table index s (omega arith),
    )

-- the words with another speed hold the table at that speed
pub at_word : (f : Sought) (table : List ℕ) (s : ℕ) → length table ≡ 388 → speed_at table (index_of f) s ≡ at_speed f (table_in table) s
unfolding table_in
at_word Degraded table s long =
    words_at_lem table 2 s (omega arith)
    ∙ rw (
      get_or-set_other table 2 0 s 0 (λ e. omega arith),
      get_or-set_other table 2 1 s 0 (λ e. omega arith),
      get_or-set_same table 2 s 0 (omega arith),
      get_or-set_other table 2 3 s 0 (λ e. omega arith),
    )
at_word Normal table s long =
    words_at_lem table 1 s (omega arith)
    ∙ rw (
      get_or-set_other table 1 0 s 0 (λ e. omega arith),
      get_or-set_same table 1 s 0 (omega arith),
      get_or-set_other table 1 2 s 0 (λ e. omega arith),
      get_or-set_other table 1 3 s 0 (λ e. omega arith),
    )

-- what a search answers, as numbers

number_either : (f : Sought) (t : Table) → Accepted t → (searched_number (search_of f t).answer ≡ 0) ⊎ (searched_number (search_of f t).answer ≡ 7)
unfolding search_of searched_number
number_either f t accepted = rw accepted (by_eqb (least_speed f t) 0 (λ e _. rw e (inr refl)) (λ e _. rw e (inl refl)))

-- every refusal, and 7, has a speed of 0 and an order of zeros
number_zeros : (f : Sought) (t : Table) → (searched_number (search_of f t).answer ≡ 0 → ⊥)
    → (searched_speed (search_of f t).answer ≡ 0) × ((search_of f t).order ≡ replicate 64 0)
unfolding search_of searched_number searched_speed
number_zeros f t = go (check_table t)
  where
    go : (c : Check) → (searched_number (search_checked c f t).answer ≡ 0 → ⊥)
        → (searched_speed (search_checked c f t).answer ≡ 0) × ((search_checked c f t).order ≡ replicate 64 0)
    go (Ok tt) = by_eqb (least_speed f t) 0 (λ e _. rw e (λ n. (refl, refl))) (λ e _. rw e (λ n. absurd (n refl)))
    go (Err why) = λ n. (refl, refl)

-- any other number is that of the table's check, and the table was refused
number_own : (f : Sought) (t : Table) → (searched_number (search_of f t).answer ≡ 0 → ⊥) → (searched_number (search_of f t).answer ≡ 7 → ⊥)
    → searched_number (search_of f t).answer ≡ check_number (check_table t)
unfolding search_of searched_number check_number
number_own f t = go (check_table t)
  where
    go : (c : Check) → (searched_number (search_checked c f t).answer ≡ 0 → ⊥) → (searched_number (search_checked c f t).answer ≡ 7 → ⊥)
        → searched_number (search_checked c f t).answer ≡ check_number c
    go (Ok tt) = by_eqb (least_speed f t) 0 (λ e _. rw e (λ n m. absurd (m refl))) (λ e _. rw e (λ n m. absurd (n refl)))
    go (Err why) = λ n m. refl

number_accepted : (f : Sought) (t : Table) → (searched_number (search_of f t).answer ≡ 0) ⊎ (searched_number (search_of f t).answer ≡ 7) → Accepted t
unfolding search_of searched_number
number_accepted f t = go (check_table t)
  where
    go : (c : Check) → (searched_number (search_checked c f t).answer ≡ 0) ⊎ (searched_number (search_checked c f t).answer ≡ 7) → c ≡ Passed
    go (Ok tt) h = refl
    go (Err why) h = absurd (⊎_elim (λ n. (refusal_number_lem why).0 n) (λ n. (refusal_number_lem why).1 n) h)

-- whatever a search promises of its answer, as numbers over the words
module _ (f : Sought) (table : List ℕ) (long : length table ≡ 388) (r : Searching) (p : Promise f (table_in table) r) where
  abbrev t : Table
  t = table_in table

  abbrev number : ℕ
  number = searched_number r.answer

  same : searched_number r.answer ≡ searched_number (search_of f t).answer
  same = ap (λ (x : Searching). searched_number x.answer) p.answer

  passed : (number ≡ 0) ⊎ (number ≡ 7) → Accepted t
  passed h = number_accepted f t (⊎_elim (λ z. inl (sym same ∙ z)) (λ z. inr (sym same ∙ z)) h)

  -- an order that serves over the words is a correct order of the table at that speed
  has : (s : ℕ) (o : List ℕ) → is_order (speed_at table (index_of f) s) o ≡ true → Serves (speed_at table (index_of f) s) o → CorrectOrder (at_speed f t s)
  has s o e w =
      subst CorrectOrder (at_word f table s long)
      (record { order = o; passes = e; correct = serves_correct (speed_at table (index_of f) s) o w })

  pub cooled : LeastFound table (index_of f) (slowest f t) (fastest f t) number (searched_speed r.answer) r.order
  cooled =
      record {
        either = λ a. ⊎_elim (λ z. inl (same ∙ z)) (λ z. inr (same ∙ z)) (number_either f t a);
        accepted = passed;
        own = λ n m. same ∙ number_own f t (λ z. n (same ∙ z)) (λ z. m (same ∙ z));
        within = λ z. let q = (p.least z).in_range in (q.from, q.up_to);
        smaller = λ z s from below o e w.
            let q = (p.least z).in_range in
            let above = (p.parts z s (record { from = from; up_to = omega (arith, q.up_to) })).0 (has s o e w) in
            absurd (omega arith);
        made = λ z.
            let s = searched_speed r.answer in
            let a = accepted_at f t (passed (inl z)) s (p.least z).in_range in
            p.order z
            ∙ ((planned (at_speed f t s)).made (((promised (at_speed f t s) (plan_of (at_speed f t s)) refl).exists a).1 (p.least z).works)).0
            ∙ ap (λ (u : Table). padded (choice u).placed) (sym (at_word f table s long));
        serves = λ z s more up_to.
            subst (λ (u : Table). (is_order u r.order ≡ true) × Serves u r.order) (sym (at_word f table s long))
            (order_at_lem f t s r.order ∙ p.passes z, correct_serves (at_speed f t s) r.order (p.right z s more up_to));
        exists = λ a s from up_to o e w. p.exists a s (record { from = from; up_to = up_to }) (has s o e w);
        none = λ z s from up_to o e w. p.none z s (record { from = from; up_to = up_to }) (has s o e w);
        zeros = λ n.
            let z = number_zeros f t (λ q. n (same ∙ q)) in
            (ap (λ (x : Searching). searched_speed x.answer) p.answer ∙ z.0, ap (λ (x : Searching). x.order) p.answer ∙ z.1);
      }

-- the two searches over the words, and the range of each
pub cooled_degraded : (table : List ℕ) → length table ≡ 388 → let r = search_of Degraded (table_in table) in
    LeastFound table 2 1 (get_or table 1 0) (searched_number r.answer) (searched_speed r.answer) r.order
unfolding table_in
cooled_degraded table long = cooled Degraded table long (search_of Degraded (table_in table)) (promised_search Degraded (table_in table) _ refl)

pub cooled_normal : (table : List ℕ) → length table ≡ 388 → let r = search_of Normal (table_in table) in
    LeastFound table 1 (get_or table 2 0) 1000 (searched_number r.answer) (searched_speed r.answer) r.order
unfolding table_in
cooled_normal table long = cooled Normal table long (search_of Normal (table_in table)) (promised_search Normal (table_in table) _ refl)

-- ---- from a sheet: the words that the reader leaves are those of the table searched

-- the reader's refusal is the search's, with zeros
read_refused : (f : Sought) (bytes : List ℕ) → (check_number (read_of bytes).check ≡ 0 → ⊥)
    → let r = search_sheet f bytes in
    (searched_number r.answer ≡ check_number (read_of bytes).check) × (searched_speed r.answer ≡ 0) × (r.order ≡ replicate 64 0)
unfolding search_sheet searched_number searched_speed check_number
read_refused f bytes = go (read_of bytes).check
  where
    go : (c : Check) → (check_number c ≡ 0 → ⊥)
        → let r = search_read c f (read_of bytes).table in
        (searched_number r.answer ≡ check_number c) × (searched_speed r.answer ≡ 0) × (r.order ≡ replicate 64 0)
    go (Ok tt) n = absurd (n refl)
    go (Err why) n = (refl, refl, refl)

-- a sheet that was read is searched as its table in words
read_promise : (f : Sought) (bytes : List ℕ) → check_number (read_of bytes).check ≡ 0 → Promise f (table_in (words_of (read_of bytes).table)) (search_sheet f bytes)
read_promise f bytes z =
    subst (λ (t : Table). Promise f t (search_sheet f bytes)) (sym (table_in_words_of (read_of bytes).table (read_full bytes)))
    ((promised_sheet f bytes (search_sheet f bytes) refl).table (passed_check (read_of bytes).check z))

words_long : (t : Table) → FullTable t → length (words_of t) ≡ 388
unfolding words_of
words_long t f =
    omega (
      arith,
      length-append t.release (t.work ++ (t.deadline ++ (t.level ++ (t.promised ++ t.follows)))),
      length-append t.work (t.deadline ++ (t.level ++ (t.promised ++ t.follows))),
      length-append t.deadline (t.level ++ (t.promised ++ t.follows)),
      length-append t.level (t.promised ++ t.follows),
      length-append t.promised t.follows,
      f.release,
      f.work,
      f.deadline,
      f.level,
      f.promised,
      f.follows,
    )

-- what the two calls answer
read_least : (f : Sought) (bytes : List ℕ)
    → let table = words_of (read_of bytes).table in
    let r = search_sheet f bytes in
    LeastRead bytes (check_number (read_of bytes).check) table (index_of f) (slowest f (table_in table)) (fastest f (table_in table))
    (searched_number r.answer) (searched_speed r.answer) r.order
read_least f bytes =
    record {
      reads = (refl, refl);
      refused = read_refused f bytes;
      taken = λ z.
          cooled f (words_of (read_of bytes).table) (words_long (read_of bytes).table (read_full bytes)) (search_sheet f bytes) (read_promise f bytes z);
    }

pub read_degraded : (bytes table : List ℕ) → table ≡ words_of (read_of bytes).table
    → let r = search_sheet Degraded bytes in
    LeastRead bytes (check_number (read_of bytes).check) table 2 1 (get_or table 1 0) (searched_number r.answer) (searched_speed r.answer) r.order
unfolding table_in
read_degraded bytes table e = rw e (read_least Degraded bytes)

pub read_normal : (bytes table : List ℕ) → table ≡ words_of (read_of bytes).table
    → let r = search_sheet Normal bytes in
    LeastRead bytes (check_number (read_of bytes).check) table 1 (get_or table 2 0) 1000 (searched_number r.answer) (searched_speed r.answer) r.order
unfolding table_in
read_normal bytes table e = rw e (read_least Normal bytes)
