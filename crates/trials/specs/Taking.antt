-- A place of the choice over a table's columns: the trials at both speeds find the row that takes it, and what is known goes on without that row.
use Prim.Native.Nat.{ℕ, ◌+◌, ◌-◌, ◌^◌, ◌≤◌, ◌<◌, max}
use Rattle.std.specs.Prelude.{Bool, cond, ◌&&◌, eqb, length, get_or, take}
use Rattle.std.proofs.Math.Bool.{true, false, not}
use Rattle.std.proofs.Math.Path.{◌≡◌, refl, sym, ap, ap₂}
use Rattle.std.proofs.Common.{subst, ◌∙◌, pow_pos}
use mathlib.Core.List.{List, [], ◌∷◌, ◌++◌, append-nil}
use native.Mathlib.Omega.{arith}
use Rattle.std.specs.Int.Bits.{bit_and, bit_or}
use Rattle.std.proofs.Math.Dec.{ltb, leb}
use borrow.Author.Tests.{eq-eqb, ne_eqb, eqb-true, le-leb, lt-leb, le-ltb, lt-ltb}
use Rattle.rules.specs.declared.Table.{Table}
use Rattle.rules.specs.Lists.{all_zero, first, keep, erase}
use Rattle.rules.specs.Rows.{at, put, rows_of, release_of, deadline_of, promised_of, follows_of, promise_need, is_low, is_high, is_promised}
use Rattle.rules.specs.Tables.{Accepted}
use Rattle.rules.specs.Worst.{worst_speed, worst_finish, promised_moment}
use Rattle.rules.specs.Choice.{sequence, lowest, unfollowed, tried, passes, taker, falling, padded}
use Rattle.theory.specs.Tests.{by_bool, by_eqb, by-ltb, by-leb, not_is, and_left, and_right, and_both, and_true}
use Rattle.theory.specs.Counts.{In, Once, Within, Same, in_entry, erase_last, keep_append}
use Rattle.theory.specs.Sorting.{sorted_sort, same_sort}
use Rattle.theory.specs.Sweep.{sweep}
use Rattle.theory.specs.Caps.{cap, cap_positive}
use Rattle.theory.specs.Facts.{Row, TableFacts, facts, rows_in_lem, in_rows, followed_row_lem, count_zero}
use Rattle.theory.specs.Places.{rows_once}
use Rattle.theory.specs.Waits.{Closed, Stand}
use Rattle.theory.proofs.Choosing.{same_sequence, none_follow, follow_none, lowest_stands, keep_in, in_keep}
use Rattle.theory.proofs.Promised.{meets_is}
use Rattle.theory.specs.Promised.{latest}
use Rattle.theory.proofs.Results.{worst_sweep}
use Rattle.checks.specs.RowLists.{zero_at}
use Rattle.sweep.specs.Masks.{bit, is_left, bit_lt, left_bit, bit_left, bit_not_left, cleared_same, cleared_other, full_bit, above}
use Rattle.sweep.specs.CapColumn.{part_needs, parts_most}
use Rattle.sweep.specs.Holds.{Holds, holds_same, count_keep_le, count_kept, keep_same}
use Rattle.sweep.specs.Padded.{zeros, padded_at, padded_entry}
use Rattle.sweep.specs.Trials.{trial}
use Rattle.sweep.specs.Finds.{by_release, queued, queued_sorted, queued_same, columns, finds, finds_part}
use Rattle.periods.specs.Marks.{marks_bit, bit_and_lem}
use Rattle.periods.specs.Busy.{row, LeftAt}
use Rattle.periods.specs.Periods.{Queue, Known, known_start, known_placed}
use Rattle.periods.specs.Entries.{entries_to, entry_is, entries_below}
use Rattle.periods.specs.Trying.{Speed, Parts, KnownAt, Stands, Open, in_time, part_in_time, low_in_time, FirstIn}
use Rattle.trials.specs.Lines.{At, place_of, apart, sorted_rising, first_parts, first_kept, first_fails, keep_both, keep_keep, keep_twice, keep_neither, parted}
use Rattle.trials.specs.Prepared.{caps_at, at_level, left_of, every_take, every_length}
use Rattle.trials.specs.Opening.{open_to, open_inside, open_clear, open_whole}
use Rattle.trials.specs.Allowed.{FirstOf, first_below, first_within, first_inside}

-- the later of two clocks is in time if both are
pub later_both : (a b d : ℕ) → leb a d && leb b d ≡ leb (max a b) d
later_both a b d =
    by-leb a d
    (λ e p. by-leb b d
    (λ g q. rw (e, g, le-leb (max a b) d (omega arith)))
    (λ g q. rw (e, g, lt-leb (max a b) d (omega arith))))
    (λ e p. rw (e, lt-leb (max a b) d (omega arith)))

-- entry i of the trial sequence is unplaced exactly if its row is left
pub record Unplaced (t : Table) (left unplaced : ℕ) : Type 0 where
  pub within : unplaced < 2 ^ t.n
  pub bits : (i : ℕ) → i < t.n → bit unplaced i ≡ cond (is_left left (get_or (sequence t) i 0)) 1 0

-- entry i of the trial sequence is tried exactly if it is unplaced and no row left follows its row
pub record Opened (t : Table) (left unplaced tries : ℕ) : Type 0 where
  pub inside : (x : ℕ) → bit tries x ≡ 1 → bit unplaced x ≡ 1
  pub free : (x : ℕ) → x < t.n → bit tries x ≡ 1 → unfollowed t (left_of t left) (get_or (sequence t) x 0) ≡ true
  pub whole : (x : ℕ) → x < t.n → bit unplaced x ≡ 1 → unfollowed t (left_of t left) (get_or (sequence t) x 0) ≡ true → bit tries x ≡ 1

-- entry e, from 1, of the trial sequence has the row that takes the place; 0 where no row does
pub record Taken (t : Table) (left unplaced e : ℕ) : Type 0 where
  pub none : e ≡ 0 → taker t (left_of t left) ≡ 0
  pub found : (e ≡ 0 → ⊥) → (1 ≤ e) × (e ≤ t.n) × (bit unplaced (e - 1) ≡ 1) × (get_or (padded (sequence t)) (e - 1) 0 ≡ taker t (left_of t left))

module _ (t : Table) (accepted : Accepted t) where
  f : TableFacts t
  f = facts t accepted

  same_release : Same (by_release t) (rows_of t)
  same_release = same_sort (release_of t) (rows_of t)

  once : (l : List ℕ) → Same l (rows_of t) → Once l
  once l s x = omega (arith, s x, rows_once t.n x)

  entry_in : (l : List ℕ) → Same l (rows_of t) → (k : ℕ) → k < length l → In (get_or l k 0) (rows_of t)
  entry_in l s k h = omega (arith, s (get_or l k 0), in_entry l k h)

  -- the entries of the rows in the trial sequence

  pub sequence_length : length (sequence t) ≡ t.n
  sequence_length = every_length t f (sequence t) (same_sequence t)

  pub sequence_entry : (i : ℕ) → i < t.n → get_or (padded (sequence t)) i 0 ≡ get_or (sequence t) i 0
  sequence_entry i h = let e = sequence_length in padded_entry (sequence t) (omega (arith, f.few)) i (omega arith)

  sequence_row : (i : ℕ) → i < t.n → Row t (get_or (sequence t) i 0)
  sequence_row i h = let e = sequence_length in rows_in_lem t (get_or (sequence t) i 0) (entry_in (sequence t) (same_sequence t) i (omega arith))

  abbrev pub entry_of : List ℕ
  entry_of = entries_to (padded (sequence t)) t.n

  entry_of_lem : (i : ℕ) → i < t.n → at entry_of (get_or (sequence t) i 0) ≡ i
  entry_of_lem i h =
      ap (at entry_of) (sym (sequence_entry i h))
      ∙ entry_is (padded (sequence t)) t.n
      (λ k q. let r = sequence_row k q in omega (arith, ap (λ (x : ℕ). x - 1) (sequence_entry k q), r.up_to, f.few))
      (λ k j q l n z.
      let e = sequence_length in
      let a = sequence_row k q in
      let b = sequence_row j l in
      apart (sequence t) (once (sequence t) (same_sequence t)) k j (omega arith) (omega arith) n
      (omega (arith, a.from, b.from, ap (λ (x : ℕ). x - 1) (sequence_entry k q), ap (λ (x : ℕ). x - 1) (sequence_entry j l))))
      i h

  -- a row of the table has an entry
  pub entry_at : (x : ℕ) → In x (rows_of t) → At (sequence t) x
  entry_at x i = place_of (sequence t) x (omega (arith, same_sequence t x))

  pub entry_place : (x : ℕ) (i : In x (rows_of t)) → at entry_of x ≡ (entry_at x i).place
  entry_place x i =
      let a = entry_at x i in
      let e = sequence_length in
      ap (at entry_of) (sym a.is) ∙ entry_of_lem a.place (omega (arith, a.within))

  -- the columns of a speed

  pub cap_entry : (s x : ℕ) → In x (rows_of t) → at (caps_at t s) x ≡ cap t s x
  cap_entry s x i = let r = rows_in_lem t x i in padded_at (cap t s) t.n x r.from r.up_to f.few

  pub queue_is : take t.n (padded (by_release t)) ≡ by_release t
  queue_is = every_take t f (by_release t) same_release

  queue_of : (s : ℕ) → 1 ≤ s → Queue (λ j. at t.release j) (λ j. at (caps_at t s) j) (λ j. at entry_of j) (by_release t)
  queue_of s s1 =
      let l = by_release t in
      let e = every_length t f l same_release in
      let known : (k : ℕ) → k < length l → In (row l k) (rows_of t) = entry_in l same_release in
      record {
        few = omega (arith, f.few);
        rising = sorted_rising (release_of t) 0 l (sorted_sort (release_of t) (rows_of t));
        runs = λ k h. let r = rows_in_lem t (row l k) (known k h) in
            omega (arith, cap_entry s (row l k) (known k h), cap_positive t s (row l k) f.runs s1 (f.row (row l k) r).works);
        range = λ k h. let r = rows_in_lem t (row l k) (known k h) in omega (arith, r.up_to, f.few);
        apart = λ i j h k n z. let a = rows_in_lem t (row l i) (known i h) in
            let b = rows_in_lem t (row l j) (known j k) in
            apart l (once l same_release) i j h k n (omega (arith, a.from, b.from));
        single = λ i j h k z. by_eqb i j (λ _ y. y) (λ _ y.
            let a = entry_at (row l i) (known i h) in
            let b = entry_at (row l j) (known j k) in
            let m : a.place ≡ b.place = sym (entry_place (row l i) (known i h)) ∙ z ∙ entry_place (row l j) (known j k) in
            absurd (apart l (once l same_release) i j h k y (sym a.is ∙ ap (λ (x : ℕ). get_or (sequence t) x 0) m ∙ b.is)));
      }

  pub speed_of : (s : ℕ) → 1 ≤ s → Speed (padded (by_release t)) t.n t.release (caps_at t s) entry_of
  speed_of s s1 =
      record {
        columns = columns t accepted s (padded (by_release t)) (caps_at t s) s1 refl refl;
        queued = rw queue_is (queue_of s s1);
        entries = entries_below (padded (sequence t)) t.n f.few;
      }

  -- what the trials of promised parts ask for
  pub parts_of : Parts (padded (by_release t)) t.n t.release (caps_at t t.degraded) (part_needs t) (padded (sequence t)) entry_of
  parts_of =
      record {
        columns = columns t accepted t.degraded (padded (by_release t)) (caps_at t t.degraded) f.crawls refl refl;
        small = parts_most t accepted;
        seats = rw queue_is (λ k h. let i = entry_in (by_release t) same_release k h in
            let a = entry_at (row (by_release t) k) i in
            let n = sequence_length in
            ap (λ (x : ℕ). get_or (padded (sequence t)) x 0) (entry_place (row (by_release t) k) i)
            ∙ sequence_entry a.place (omega (arith, a.within))
            ∙ a.is);
      }

  -- at first all entries are unplaced
  pub unplaced_start : (left : ℕ) → left ≡ 2 ^ t.n - 1 → Unplaced t left left
  unplaced_start left e =
      let n = every_length t f (sequence t) (same_sequence t) in
      record {
        within = omega (arith, pow_pos t.n);
        bits = λ i h. let r = rows_in_lem t (get_or (sequence t) i 0) (entry_in (sequence t) (same_sequence t) i (omega arith)) in
            ap (λ (m : ℕ). bit m i) e ∙ full_bit t.n i h
            ∙ sym (ap {B = ℕ} (λ (a : Bool). cond a 1 0) (bit_left left (get_or (sequence t) i 0)
            (ap (λ (m : ℕ). bit m (get_or (sequence t) i 0 - 1)) e ∙ full_bit t.n (get_or (sequence t) i 0 - 1) (omega (arith, r.from, r.up_to)))));
      }

  -- a row left of the table stands in the queue with its entry
  stands_row : (left x : ℕ) → x < t.n → is_left left (get_or (sequence t) x 0) ≡ true → Stands (padded (by_release t)) entry_of t.n left x
  stands_row left x h e =
      let n = sequence_length in
      let a = place_of (by_release t) (get_or (sequence t) x 0) (omega (
        arith,
        same_release (get_or (sequence t) x 0),
        same_sequence t (get_or (sequence t) x 0),
        in_entry (sequence t) x (omega arith),
      )) in
      record {
        place = a.place;
        left_at = rw queue_is (a.within, ap (is_left left) a.is ∙ e);
        is = rw queue_is (ap (at entry_of) a.is ∙ entry_of_lem x h);
      }

  module _ (left unplaced : ℕ) (w : Unplaced t left unplaced) where
    -- an unplaced entry is of a row left
    unplaced_left : (x : ℕ) → bit unplaced x ≡ 1 → (x < t.n) × (is_left left (get_or (sequence t) x 0) ≡ true)
    unplaced_left x b =
        let h : x < t.n = by-ltb x t.n (λ _ l. l) (λ _ l. absurd (omega (arith, above t.n x unplaced w.within l))) in (
          h,
          by_bool (is_left left (get_or (sequence t) x 0)) (λ z. z)
              (λ z. absurd (omega (arith, w.bits x h, ap {B = ℕ} (λ (c : Bool). cond c 1 0) z))),
        )

    -- the entries that are searched are those of rows left
    pub opened : (tries : ℕ) → Opened t left unplaced tries → (most v : ℕ) → FirstOf tries most v → (m : ℕ) → Open (padded (by_release t)) entry_of t.n left (bit_and v m)
    opened tries o most v a m x b =
        let r = unplaced_left x (o.inside x (first_inside tries most v a x (omega (arith, bit_and_lem v m x, b, bit_lt v x)))) in
        stands_row left x r.0 r.1

    -- the word that the code makes of the unplaced entries, with the table free of waits or not
    pub opening : (free : Bool) → free ≡ all_zero t.follows → (tries : ℕ) → tries ≡ cond free unplaced (open_to t.follows entry_of left unplaced t.n)
        → Opened t left unplaced tries
    opening free e tries q = by_bool (all_zero t.follows)
        (λ z. subst (Opened t left unplaced) (sym (q ∙ ap (λ (b : Bool). cond b unplaced (open_to t.follows entry_of left unplaced t.n)) (e ∙ z))) (all_free z))
        (λ z. subst (Opened t left unplaced) (sym (q ∙ ap (λ (b : Bool). cond b unplaced (open_to t.follows entry_of left unplaced t.n)) (e ∙ z))) some_bound)
      where
        -- no row follows another
        all_free : all_zero t.follows ≡ true → Opened t left unplaced unplaced
        all_free z =
            record {
              inside = λ x b. b;
              free = λ x h b. follow_none t (left_of t left) (get_or (sequence t) x 0)
                  (λ y _ k. omega (arith, zero_at t.follows 0 (y - 1) z (omega arith), (sequence_row x h).from));
              whole = λ x h b u. b;
            }

        some_bound : Opened t left unplaced (open_to t.follows entry_of left unplaced t.n)
        some_bound =
            record {
              inside = open_inside t.follows entry_of left unplaced t.n;
              free = λ x h b. follow_none t (left_of t left) (get_or (sequence t) x 0) (λ y k p. followed x h b y k p);
              whole = λ x h b u. open_whole t.follows entry_of left unplaced t.n x b (λ j l some e s. seated x h u j l some e s);
            }
          where
            -- a follower that is left has its row's entry cleared
            followed : (x : ℕ) → x < t.n → bit (open_to t.follows entry_of left unplaced t.n) x ≡ 1 → (y : ℕ) → In y (left_of t left) → follows_of t y ≡ get_or (sequence t) x 0 → ⊥
            followed x h b y k p =
                let l = keep_in (is_left left) (sequence t) y k in
                let r = rows_in_lem t y (omega (arith, same_sequence t y, l.0)) in
                let z : y - 1 + 1 ≡ y = omega (arith, r.from) in
                open_clear t.follows entry_of left unplaced t.n (y - 1) (omega (arith, r.from, r.up_to)) (omega (arith, p, (sequence_row x h).from)) (rw z l.1)
                (ap (bit (open_to t.follows entry_of left unplaced t.n)) (ap (at entry_of) p ∙ entry_of_lem x h) ∙ b)

            -- an entry that is cleared is of a row that a row left follows
            seated : (x : ℕ) → x < t.n → unfollowed t (left_of t left) (get_or (sequence t) x 0) ≡ true → (j : ℕ) → j < t.n → 1 ≤ get_or t.follows j 0 → is_left left (j + 1) ≡ true
                → at entry_of (get_or t.follows j 0) ≡ x → ⊥
            seated x h u j l some e s =
                let z : j + 1 - 1 ≡ j = omega arith in
                let own : Row t (j + 1) = record { from = omega arith; up_to = omega arith } in
                let w : follows_of t (j + 1) ≡ get_or t.follows j 0 = rw z in
                let row : Row t (get_or t.follows j 0) = rw w at (followed_row_lem t f (j + 1) own (omega (arith, w))) in
                let i = in_rows t (get_or t.follows j 0) row in
                let a = entry_at (get_or t.follows j 0) i in
                let k : In (j + 1) (left_of t left) = in_keep (is_left left) (sequence t) (j + 1) (omega (arith, same_sequence t (j + 1), in_rows t (j + 1) own)) e in
                none_follow t (left_of t left) (get_or (sequence t) x 0) u (j + 1) k
                (w ∙ sym a.is ∙ ap (λ (y : ℕ). get_or (sequence t) y 0) (sym (entry_place (get_or t.follows j 0) i) ∙ s))

    -- the row at entry e is placed
    pub unplaced_turn : (e i : ℕ) → 1 ≤ e → e ≤ t.n → i ≡ get_or (padded (sequence t)) (e - 1) 0 → bit unplaced (e - 1) ≡ 1 → bit left (i - 1) ≡ 1
        → Unplaced t (left - 2 ^ (i - 1)) (unplaced - 2 ^ (e - 1))
    unplaced_turn e i h k z b c =
        let n = sequence_length in
        let x : get_or (sequence t) (e - 1) 0 ≡ i = sym (z ∙ sequence_entry (e - 1) (omega arith)) in
        record {
          within = omega (arith, w.within);
          bits = λ j l. by_eqb j (e - 1)
              (λ _ q. let y : get_or (sequence t) j 0 ≡ i = ap (λ (k : ℕ). get_or (sequence t) k 0) q ∙ x in
              ap (bit (unplaced - 2 ^ (e - 1))) q ∙ cleared_same (e - 1) unplaced b
              ∙ sym (ap (λ (a : Bool). cond a 1 0) (bit_not_left (left - 2 ^ (i - 1)) (get_or (sequence t) j 0)
              (ap (λ (k : ℕ). bit (left - 2 ^ (i - 1)) (k - 1)) y ∙ cleared_same (i - 1) left c))))
              (λ _ q. let r = rows_in_lem t (get_or (sequence t) j 0) (entry_in (sequence t) (same_sequence t) j (omega arith)) in
              let s = rows_in_lem t (get_or (sequence t) (e - 1) 0) (entry_in (sequence t) (same_sequence t) (e - 1) (omega arith)) in
              let d : get_or (sequence t) j 0 - 1 ≡ i - 1 → ⊥ = λ y.
              apart (sequence t) (once (sequence t) (same_sequence t)) j (e - 1) (omega arith) (omega arith) q (omega (arith, r.from, s.from)) in
              cleared_other (e - 1) j unplaced b q ∙ w.bits j l
              ∙ ap (λ (m : ℕ). cond (eqb m 1) 1 0) (sym (cleared_other (i - 1) (get_or (sequence t) j 0 - 1) left c d)));
        }

  -- an entry has a row of the table
  pub taken_row : (e : ℕ) → 1 ≤ e → e ≤ t.n → In (get_or (padded (sequence t)) (e - 1) 0) (rows_of t)
  taken_row e h k =
      let n = sequence_length in
      subst (λ (x : ℕ). In x (rows_of t)) (sym (sequence_entry (e - 1) (omega arith))) (entry_in (sequence t) (same_sequence t) (e - 1) (omega arith))

  -- the entries of LO rows come before those of HI rows

  low_before : (y x : ℕ) → y ≤ x → x < length (sequence t) → is_low t (get_or (sequence t) x 0) ≡ true → is_low t (get_or (sequence t) y 0) ≡ true
  unfolding sequence
  low_before y x l h e =
      let fall = falling t (rows_of t) in
      parted (is_low t) (keep (is_low t) fall) (keep (is_high t) fall)
      (λ i j. (keep_in (is_low t) fall i j).1)
      (λ i j g. let z = not_is (is_low t i) (keep_in (is_high t) fall i j).1 in let w : ◌≡◌ {A = ℕ} 0 1 = cc in absurd (omega arith))
      y x l h e

  level_entry : (level x : ℕ) → x < t.n → bit (at_level t level) x ≡ 1 → at t.level (get_or (sequence t) x 0) ≡ level
  level_entry level x h b =
      let n = sequence_length in
      by_eqb (at t.level (get_or (sequence t) x 0)) level (λ _ z. z)
      (λ e _. absurd (omega (arith, marks_bit (λ j. eqb (at t.level j) level) (sequence t) x (omega arith), ap {B = ℕ} (λ (c : Bool). cond c 1 0) e)))

  levels_apart : (x y : ℕ) → x < t.n → bit (at_level t 0) x ≡ 1 → bit (at_level t 1) y ≡ 1 → x < y
  levels_apart x y h b c =
      let n = sequence_length in
      by-ltb x y (λ _ q. q)
      (λ _ q. let low = low_before y x q (omega arith) (eq-eqb (at t.level (get_or (sequence t) x 0)) 0 (level_entry 0 x h b)) in
      absurd (omega (arith, eqb-true (at t.level (get_or (sequence t) y 0)) 0 low, level_entry 1 y (omega arith) c)))

  -- a trial at a row's own worst speed says whether it passes
  module _ (left : ℕ) (holds : Holds left (left_of t left)) (closed : Closed t (left_of t left)) where
    left_within : Within (left_of t left) (rows_of t)
    left_within x = omega (arith, count_keep_le (is_left left) x (sequence t), same_sequence t x)

    swept_same : Same (queued t left) (left_of t left)
    swept_same = queued_same t left (left_of t left) holds left_within

    -- a row that none of them follows may stand lowest
    stands : (i : ℕ) → In i (left_of t left) → unfollowed t (left_of t left) i ≡ true → Stand t (erase i (left_of t left)) i
    stands i k u = lowest_stands t f (left_of t left) (λ x j. rows_in_lem t x (omega (arith, left_within x))) closed i k u

    trial_time : (s i : ℕ) → In i (left_of t left) → unfollowed t (left_of t left) i ≡ true → worst_speed t i ≡ s
        → in_time (padded (by_release t)) t.n t.release t.deadline (caps_at t s) left i
        ≡ leb (worst_finish t (lowest (left_of t left) i) i) (deadline_of t i)
    unfolding in_time
    trial_time s i k u e =
        let last = erase_last i (left_of t left) k in
        ap (λ (n : ℕ). leb n (deadline_of t i))
        (finds t accepted left s (release_of t i) (padded (by_release t)) (caps_at t s) refl refl
        ∙ ap (λ (v : ℕ). sweep (release_of t) (cap t v) (release_of t i) 0 (queued t left)) (sym e)
        ∙ sym (worst_sweep t accepted (erase i (left_of t left)) [] i (λ x. omega (arith, last x, left_within x)) (stands i k u) (queued t left)
        (queued_sorted t left)
        (λ x. omega (arith, last x, swept_same x))))

    -- and a trial of its promised part whether that is in time
    trial_part : (i : ℕ) → In i (left_of t left) → unfollowed t (left_of t left) i ≡ true → is_promised t i ≡ true
        → trial t.release (put (caps_at t t.degraded) i (at (part_needs t) i)) left (release_of t i) 0 (take t.n (padded (by_release t)))
        ≡ promised_moment t (lowest (left_of t left) i) i
    trial_part i k u e =
        let last = erase_last i (left_of t left) k in
        let r = rows_in_lem t i (omega (arith, left_within i)) in
        finds_part t accepted (erase i (left_of t left)) [] left i (at (part_needs t) i) (padded (by_release t)) (caps_at t t.degraded)
        (λ x. omega (arith, last x, left_within x)) (stands i k u) (holds_same left (left_of t left) (erase i (left_of t left) ++ (i ∷ [])) (λ x. omega (arith, last x)) holds) e refl refl
        (padded_at (promise_need t) t.n i r.from r.up_to f.few)

    -- what `passes` asks of a row: the later of the two clocks is not after its deadline
    passes_latest : (i : ℕ) → passes t (left_of t left) i
        ≡ leb (max (worst_finish t (lowest (left_of t left) i) i) (cond (is_promised t i) (promised_moment t (lowest (left_of t left) i) i) 0)) (deadline_of t i)
    unfolding passes latest
    passes_latest i = meets_is t (lowest (left_of t left) i) i

    -- HI rows are promised nothing
    high_passes : (i : ℕ) → In i (left_of t left) → unfollowed t (left_of t left) i ≡ true → is_low t i ≡ false
        → in_time (padded (by_release t)) t.n t.release t.deadline (caps_at t t.degraded) left i ≡ passes t (left_of t left) i
    high_passes i k u h =
        let d = worst_finish t (lowest (left_of t left) i) i in
        let e : max d 0 ≡ d = omega arith in
        trial_time t.degraded i k u (rw h) ∙ sym (passes_latest i ∙ rw (h, e))

    -- of LO rows both are asked
    low_passes : (i : ℕ) → In i (left_of t left) → unfollowed t (left_of t left) i ≡ true → is_low t i ≡ true
        → low_in_time (padded (by_release t)) t.n t.release t.deadline (caps_at t t.normal) (caps_at t t.degraded) t.promised (part_needs t) left i
        ≡ passes t (left_of t left) i
    unfolding part_in_time
    low_passes i k u h =
        let d = worst_finish t (lowest (left_of t left) i) i in
        rw (trial_time t.normal i k u (rw h), passes_latest i, h)
        (by_eqb (promised_of t i) 0
        (λ e z. let n : ltb 0 (promised_of t i) ≡ false = le-ltb 0 (promised_of t i) (omega arith) in
        let m : max d 0 ≡ d = omega arith in
        rw (e, n, m, and_true))
        (λ e z. let n : ltb 0 (promised_of t i) ≡ true = lt-ltb 0 (promised_of t i) (omega arith) in
        rw (e, n, trial_part i k u (rw (h, n))) (later_both d (promised_moment t (lowest (left_of t left) i) i) (deadline_of t i))))

    -- the rows tried of a level, and the first of them that passes
    module _ (unplaced : ℕ) (w : Unplaced t left unplaced) (tries : ℕ) (o : Opened t left unplaced tries) where
      -- left, and followed by no row left
      abbrev live : ℕ → Bool
      live x = is_left left x && unfollowed t (left_of t left) x

      abbrev rows : List ℕ
      rows = keep live (sequence t)

      -- these are the rows tried
      tried_are : tried t (left_of t left) ≡ rows
      tried_are = keep_both (unfollowed t (left_of t left)) (is_left left) (sequence t)

      abbrev chosen : ℕ → ℕ → Bool
      chosen level x = live x && eqb (at t.level x) level

      -- an entry is in the word of a level exactly if its row is tried and of this level
      word_of : (level x : ℕ) → x < t.n → chosen level (get_or (sequence t) x 0) ≡ true → bit (bit_and tries (at_level t level)) x ≡ 1
      word_of level x h e =
          let n = sequence_length in
          let i = get_or (sequence t) x 0 in
          let l = and_left (live i) (eqb (at t.level i) level) e in
          let b = and_right (live i) (eqb (at t.level i) level) e in
          let a = and_left (is_left left i) (unfollowed t (left_of t left) i) l in
          let here : bit unplaced x ≡ 1 = w.bits x h ∙ ap {B = ℕ} (λ (c : Bool). cond c 1 0) a in
          omega (
            arith,
            bit_and_lem tries (at_level t level) x,
            o.whole x h here (and_right (is_left left i) (unfollowed t (left_of t left) i) l),
            marks_bit (λ j. eqb (at t.level j) level) (sequence t) x (omega arith),
            ap {B = ℕ} (λ (c : Bool). cond c 1 0) b,
          )

      of_word : (level x : ℕ) → bit (bit_and tries (at_level t level)) x ≡ 1 → (x < t.n) × (bit unplaced x ≡ 1) × (chosen level (get_or (sequence t) x 0) ≡ true)
      of_word level x b =
          let n = sequence_length in
          let i = get_or (sequence t) x 0 in
          let both = bit_and_lem tries (at_level t level) x in
          let in-open : bit tries x ≡ 1 = omega (arith, bit_lt tries x) in
          let one = o.inside x in-open in
          let r = unplaced_left left unplaced w x one in
          let u = o.free x r.0 in-open in
          let l : eqb (at t.level i) level ≡ true = by_bool (eqb (at t.level i) level) (λ z. z)
          (λ z. absurd (omega (arith, marks_bit (λ j. eqb (at t.level j) level) (sequence t) x (omega (arith, r.0)), ap {B = ℕ} (λ (c : Bool). cond c 1 0) z))) in
          (r.0, one, and_both (live i) (eqb (at t.level i) level) (and_both (is_left left i) (unfollowed t (left_of t left) i) r.1 u) l)

      -- what the search at a speed says of the rows of a level
      record Tested (level e : ℕ) : Type 0 where
        none : e ≡ 0 → first (passes t (left_of t left)) (keep (λ i. eqb (at t.level i) level) rows) ≡ 0
        found : (e ≡ 0 → ⊥) → (1 ≤ e) × (e ≤ t.n) × (bit unplaced (e - 1) ≡ 1)
            × (get_or (padded (sequence t)) (e - 1) 0 ≡ first (passes t (left_of t left)) (keep (λ i. eqb (at t.level i) level) rows))

      module _ (level : ℕ) (tested : ℕ → Bool) (right : (i : ℕ) → eqb (at t.level i) level ≡ true → In i (left_of t left) → unfollowed t (left_of t left) i ≡ true → tested i ≡ passes t (left_of t left) i) where
        kept : keep (λ i. eqb (at t.level i) level) rows ≡ keep (chosen level) (sequence t)
        kept = keep_both (λ i. eqb (at t.level i) level) live (sequence t)

        -- the trial of a row of the level says whether it passes
        says : (x : ℕ) → x < t.n → chosen level (get_or (sequence t) x 0) ≡ true → tested (get_or (sequence t) x 0) ≡ passes t (left_of t left) (get_or (sequence t) x 0)
        says x h c =
            let n = sequence_length in
            let i = get_or (sequence t) x 0 in
            let l = and_left (live i) (eqb (at t.level i) level) c in
            let b = and_right (live i) (eqb (at t.level i) level) c in
            let a = and_left (is_left left i) (unfollowed t (left_of t left) i) l in
            let m : In i (left_of t left) = omega (arith, count_kept (is_left left) i (sequence t) a, in_entry (sequence t) x (omega arith)) in
            right i b m (and_right (is_left left i) (unfollowed t (left_of t left) i) l)

        is_left_lem : (i : ℕ) → chosen level i ≡ true → is_left left i ≡ true
        is_left_lem i c = and_left (is_left left i) (unfollowed t (left_of t left) i) (and_left (live i) (eqb (at t.level i) level) c)

        -- what is so of the place in the queue is so of the row
        at_place : (x : ℕ) (h : x < t.n) (c : chosen level (get_or (sequence t) x 0) ≡ true)
            → row (take t.n (padded (by_release t))) (stands_row left x h (is_left_lem (get_or (sequence t) x 0) c)).place
            ≡ get_or (sequence t) x 0
        unfolding stands_row
        at_place x h c =
            let n = sequence_length in
            let a = place_of (by_release t) (get_or (sequence t) x 0) (omega (
              arith,
              same_release (get_or (sequence t) x 0),
              same_sequence t (get_or (sequence t) x 0),
              in_entry (sequence t) x (omega arith),
            )) in
            rw queue_is a.is

        -- where a search among other entries finds none, a row of the level with one of these fails
        missed : (v : ℕ) → FirstIn tested (padded (by_release t)) entry_of t.n left (bit_and v (at_level t level)) 0 → (x : ℕ) → x < t.n → bit v x ≡ 1
            → chosen level (get_or (sequence t) x 0) ≡ true → passes t (left_of t left) (get_or (sequence t) x 0) ≡ false
        missed v k x h b c =
            let n = sequence_length in
            let i = get_or (sequence t) x 0 in
            let st = stands_row left x h (is_left_lem i c) in
            let l = and_right (live i) (eqb (at t.level i) level) c in
            let both : bit (bit_and v (at_level t level)) x ≡ 1 = omega (
              arith,
              bit_and_lem v (at_level t level) x,
              marks_bit (λ j. eqb (at t.level j) level) (sequence t) x (omega arith),
              ap {B = ℕ} (λ (c : Bool). cond c 1 0) l,
            ) in
            sym (says x h c) ∙ ap tested (sym (at_place x h c)) ∙ k.none refl st.place st.left_at (ap (bit (bit_and v (at_level t level))) st.is ∙ both)

        module _ (e : ℕ) (k : FirstIn tested (padded (by_release t)) entry_of t.n left (bit_and tries (at_level t level)) e) where
          -- a row that the search passed over fails
          over : (x : ℕ) → x < t.n → (c : chosen level (get_or (sequence t) x 0) ≡ true)
              → ((j : ℕ) → LeftAt (is_left left) (take t.n (padded (by_release t))) j → bit (bit_and tries (at_level t level)) (at entry_of (row (take t.n (padded (by_release t))) j)) ≡ 1
              → at entry_of (row (take t.n (padded (by_release t))) j) ≡ x → tested (row (take t.n (padded (by_release t))) j) ≡ false)
              → passes t (left_of t left) (get_or (sequence t) x 0) ≡ false
          over x h c g =
              let st = stands_row left x h (is_left_lem (get_or (sequence t) x 0) c) in
              sym (says x h c) ∙ ap tested (sym (at_place x h c))
              ∙ g st.place st.left_at (ap (bit (bit_and tries (at_level t level))) st.is ∙ word_of level x h c) st.is

          -- the row found
          row_found : (z : e ≡ 0 → ⊥) (m : e - 1 < t.n) → row (take t.n (padded (by_release t))) (k.found z).stands.place ≡ get_or (sequence t) (e - 1) 0
          row_found z m =
              let r = k.found z in
              let st = r.stands in
              let w : LeftAt (is_left left) (by_release t) st.place = rw queue_is at st.left_at in
              let x : In (row (by_release t) st.place) (rows_of t) = entry_in (by_release t) same_release st.place w.0 in
              let a = entry_at (row (by_release t) st.place) x in
              let y : at entry_of (row (by_release t) st.place) ≡ e - 1 = rw queue_is at st.is in
              rw queue_is (sym a.is ∙ ap (λ (j : ℕ). get_or (sequence t) j 0) (sym (entry_place (row (by_release t) st.place) x) ∙ y))

          test_of : Tested level e
          test_of =
              let n = sequence_length in
              record {
                none = λ z. ap (first (passes t (left_of t left))) kept
                    ∙ first_fails (passes t (left_of t left)) (chosen level) (sequence t)
                    (λ x h c. over x (omega arith) c (λ j v b _. k.none z j v b));
                found = λ z.
                    let r = k.found z in
                    let o = of_word level (e - 1) r.inside in
                    let some = r.some in
                    let y = row_found z o.0 in
                    let good : passes t (left_of t left) (get_or (sequence t) (e - 1) 0) ≡ true = sym (says (e - 1) o.0 o.2) ∙ ap tested (sym y) ∙ r.meets in (
                      some,
                      omega (arith, o.0),
                      o.1,
                      sequence_entry (e - 1) o.0 ∙ sym (ap (first (passes t (left_of t left))) kept
                          ∙ first_kept (passes t (left_of t left)) (chosen level) (sequence t) (e - 1) (omega (arith, o.0)) o.2 good
                          (λ x h c. over x (omega (arith, o.0)) c (λ j v b q. r.before j v b (omega (arith, q))))),
                    );
              }

      abbrev lows : List ℕ
      lows = keep (is_low t) rows

      abbrev highs : List ℕ
      highs = keep (λ i. eqb (at t.level i) 1) rows

      -- the LO rows of the sequence come first
      parts : rows ≡ lows ++ keep (is_high t) rows
      unfolding sequence
      parts =
          let fall = falling t (rows_of t) in
          let low = keep (is_low t) fall in
          let high = keep (is_high t) fall in
          let one : keep (is_low t) (low ++ high) ≡ low =
          keep_append (is_low t) low high ∙ ap₂ (λ (a b : List ℕ). a ++ b) (keep_twice (is_low t) fall)
          (keep_neither (is_low t) (is_high t) fall (λ x e. not_is (is_low t x) e)) ∙ append-nil low in
          let two : keep (is_high t) (low ++ high) ≡ high =
          keep_append (is_high t) low high ∙ ap₂ (λ (a b : List ℕ). a ++ b)
          (keep_neither (is_high t) (is_low t) fall (λ x e. ap not e)) (keep_twice (is_high t) fall) in
          keep_append live low high
          ∙ ap₂ (λ (a b : List ℕ). keep live a ++ keep live b) (sym one) (sym two)
          ∙ ap₂ (λ (a b : List ℕ). a ++ b) (keep_keep live (is_low t) (low ++ high)) (keep_keep live (is_high t) (low ++ high))

      -- in an accepted table a row that is not LO is of level 1
      other_level : keep (is_high t) rows ≡ highs
      other_level =
          keep_same (is_high t) (λ i. eqb (at t.level i) 1) rows
          (λ x i. let l = (f.row x (rows_in_lem t x (omega (arith, count_keep_le live x (sequence t), same_sequence t x)))).level in
          by_eqb (at t.level x) 0
          (λ e q. rw (e, ne_eqb (at t.level x) 1 (λ z. omega arith)))
          (λ e q. rw (e, eq-eqb (at t.level x) 1 (omega (arith, q)))))

      taker_parts : taker t (left_of t left) ≡ cond (eqb (first (passes t (left_of t left)) lows) 0) (first (passes t (left_of t left)) highs)
          (first (passes t (left_of t left)) lows)
      unfolding taker
      taker_parts =
          let p = passes t (left_of t left) in
          ap (first p) (tried_are ∙ parts ∙ ap (λ (l : List ℕ). lows ++ l) other_level)
          ∙ first_parts p lows highs (λ i. omega (arith, count_keep_le (is_low t) 0 rows, count_keep_le live 0 (sequence t), same_sequence t 0, count_zero t.n))

      abbrev pub low_test : ℕ → Bool
      low_test = low_in_time (padded (by_release t)) t.n t.release t.deadline (caps_at t t.normal) (caps_at t t.degraded) t.promised (part_needs t) left

      abbrev pub high_test : ℕ → Bool
      high_test = in_time (padded (by_release t)) t.n t.release t.deadline (caps_at t t.degraded) left

      abbrev FirstFound : ℕ → (ℕ → Bool) → ℕ → Type 0
      FirstFound level tested e = FirstIn tested (padded (by_release t)) entry_of t.n left (bit_and tries (at_level t level)) e

      low_tested : (e : ℕ) → FirstFound 0 low_test e → Tested 0 e
      low_tested e k = test_of 0 low_test (λ i z m u. low_passes i m u z) e k

      high_tested : (e : ℕ) → FirstFound 1 high_test e → Tested 1 e
      high_tested e k = test_of 1 high_test (λ i z m u. high_passes i m u (ne_eqb (at t.level i) 0 (λ y. omega (arith, eqb-true (at t.level i) 1 z)))) e k

      -- the first LO row that passes takes the place
      pub taken_low : (e : ℕ) → FirstFound 0 low_test e → (e ≡ 0 → ⊥) → Taken t left unplaced e
      taken_low e k n =
          let r = (low_tested e k).found n in
          record {
            none = λ z. absurd (n z);
            found = λ _. (
              r.0,
              r.1,
              r.2,
              sym (taker_parts
                  ∙ ap (λ (j : ℕ). cond (eqb j 0) (first (passes t (left_of t left)) highs) j) (sym r.3)
                  ∙ rw (ne_eqb (get_or (padded (sequence t)) (e - 1) 0) 0 (λ z. omega (arith, (rows_in_lem t (get_or (padded (sequence t)) (e - 1) 0) (taken_row e r.0 r.1)).from)))),
            );
          }

      -- where none does, the first HI row that passes does
      pub taken_high : (d e : ℕ) → FirstFound 0 low_test d → d ≡ 0 → FirstFound 1 high_test e → Taken t left unplaced e
      taken_high d e k z l =
          let x : taker t (left_of t left) ≡ first (passes t (left_of t left)) highs = taker_parts
          ∙ ap (λ (j : ℕ). cond (eqb j 0) (first (passes t (left_of t left)) highs) (first (passes t (left_of t left)) lows)) ((low_tested d k).none z) in
          let h = high_tested e l in
          record {
            none = λ y. x ∙ h.none y;
            found = λ n. let r = h.found n in (r.0, r.1, r.2, sym (x ∙ sym r.3));
          }

      -- an entry is tried exactly if its row is

      pub tries_bit : (x : ℕ) → x < t.n → bit tries x ≡ cond (live (get_or (sequence t) x 0)) 1 0
      tries_bit x h =
          let i = get_or (sequence t) x 0 in
          by_bool (live i)
          (λ e. rw e (o.whole x h (w.bits x h ∙ ap {B = ℕ} (λ (c : Bool). cond c 1 0) (and_left (is_left left i) (unfollowed t (left_of t left) i) e))
          (and_right (is_left left i) (unfollowed t (left_of t left) i) e)))
          (λ e. rw e (by_eqb (bit tries x) 1
          (λ _ b. let z : live i ≡ true = and_both (is_left left i) (unfollowed t (left_of t left) i) (unplaced_left left unplaced w x (o.inside x b)).1 (o.free x h b) in
          let y : ◌≡◌ {A = ℕ} 0 1 = cc in absurd (omega arith))
          (λ _ n. omega (arith, bit_lt tries x))))

      pub tries_end : (x : ℕ) → t.n ≤ x → bit tries x ≡ 0
      tries_end x h =
          by_eqb (bit tries x) 1
          (λ _ b. absurd (omega (arith, (unplaced_left left unplaced w x (o.inside x b)).0)))
          (λ _ n. omega (arith, bit_lt tries x))

      -- the first entries alone are searched, as many as the ceiling allows
      module _ (most v : ℕ) (a : FirstOf tries most v) where
        abbrev pub Allowed : ℕ → (ℕ → Bool) → ℕ → Type 0
        Allowed level tested e = FirstIn tested (padded (by_release t)) entry_of t.n left (bit_and v (at_level t level)) e

        pub of_allowed : (m x : ℕ) → bit (bit_and v m) x ≡ 1 → (bit v x ≡ 1) × (bit m x ≡ 1)
        of_allowed m x b = (omega (arith, bit_and_lem v m x, bit_lt v x), omega (arith, bit_and_lem v m x, bit_lt m x))

        -- an entry found is the first of all that are tried
        widened : (level : ℕ) (tested : ℕ → Bool) (e : ℕ) → Allowed level tested e → (e ≡ 0 → ⊥) → FirstFound level tested e
        widened level tested e k n =
            let r = k.found n in
            let m = at_level t level in
            let q = of_allowed m (e - 1) r.inside in
            let l = first_within tries most v a (e - 1) q.0 in
            record {
              none = λ z. absurd (n z);
              found = λ _. record {
                some = r.some;
                stands = r.stands;
                inside = omega (arith, bit_and_lem tries m (e - 1), first_inside tries most v a (e - 1) q.0, q.1);
                meets = r.meets;
                before = λ j left_at b h.
                    let x = at entry_of (row (take t.n (padded (by_release t))) j) in
                    r.before j left_at (omega (arith, bit_and_lem tries m x, bit_and_lem v m x, first_below tries most v a x (omega arith))) h;
              };
            }

        -- no LO row passes, where none has an allowed entry that does and a HI row's entry is allowed
        widened_none : (e y : ℕ) → Allowed 0 low_test e → e ≡ 0 → bit (bit_and v (at_level t 1)) y ≡ 1 → FirstFound 0 low_test e
        widened_none e y k z b =
            let q = of_allowed (at_level t 1) y b in
            let l = first_within tries most v a y q.0 in
            record {
              none = λ _ j left_at c.
                  let x = at entry_of (row (take t.n (padded (by_release t))) j) in
                  let m = of_word 0 x c in
                  let both = bit_and_lem tries (at_level t 0) x in
                  let early = levels_apart x y m.0 (omega (arith, bit_lt tries x, bit_lt (at_level t 0) x)) q.1 in
                  k.none z j left_at (omega (arith, bit_and_lem v (at_level t 0) x, first_below tries most v a x (omega arith)));
              found = λ n. absurd (n z);
            }

        pub allowed_low : (e : ℕ) → Allowed 0 low_test e → (e ≡ 0 → ⊥) → Taken t left unplaced e
        allowed_low e k n = taken_low e (widened 0 low_test e k n) n

        pub allowed_high : (d e : ℕ) → Allowed 0 low_test d → d ≡ 0 → Allowed 1 high_test e → (e ≡ 0 → ⊥) → Taken t left unplaced e
        allowed_high d e k z l n = taken_high d e (widened_none d (e - 1) k z (l.found n).inside) z (widened 1 high_test e l n)

        -- no row with an allowed entry passes, where neither search finds one
        pub allowed_none : Allowed 0 low_test 0 → Allowed 1 high_test 0 → (x : ℕ) → x < t.n → bit v x ≡ 1 → passes t (left_of t left) (get_or (sequence t) x 0) ≡ false
        allowed_none k l x h b =
            let i = get_or (sequence t) x 0 in
            let m = unplaced_left left unplaced w x (o.inside x (first_inside tries most v a x b)) in
            let here : live i ≡ true = and_both (is_left left i) (unfollowed t (left_of t left) i) m.1 (o.free x h (first_inside tries most v a x b)) in
            by_eqb (at t.level i) 0
            (λ e _. missed 0 low_test (λ i z m u. low_passes i m u z) v k x h b (and_both (live i) (eqb (at t.level i) 0) here e))
            (λ e n. missed 1 high_test (λ i z m u. high_passes i m u (ne_eqb (at t.level i) 0 (λ y. omega (arith, eqb-true (at t.level i) 1 z)))) v l x h b
            (and_both (live i) (eqb (at t.level i) 1) here (eq-eqb (at t.level i) 1 (omega (arith, (f.row i (sequence_row x h)).level)))))

  -- what is known of a speed's busy periods

  module _ (s : ℕ) (s1 : 1 ≤ s) where
    abbrev caps : ℕ → ℕ
    caps j = at (caps_at t s) j

    -- before the first sweep
    pub known_first : (left : ℕ) → KnownAt (padded (by_release t)) t.n t.release t.deadline (caps_at t s) entry_of left (zeros 64) 1 0
    known_first left =
        rw queue_is (known_start (release_of t) caps (deadline_of t) (λ j. at entry_of j) (is_left left) (by_release t) (queue_of s s1)
        (omega (arith, every_length t f (by_release t) same_release, f.some)))

    -- row i is placed
    pub known_turn : (left i : ℕ) (period : List ℕ) (changed passing : ℕ)
        → KnownAt (padded (by_release t)) t.n t.release t.deadline (caps_at t s) entry_of left period changed passing → In i (rows_of t) → bit left (i - 1) ≡ 1
        → KnownAt (padded (by_release t)) t.n t.release t.deadline (caps_at t s) entry_of (left - 2 ^ (i - 1)) period (bit_or changed (2 ^ at period i)) passing
    known_turn left i period changed passing known k b =
        let q = by_release t in
        let less = left - 2 ^ (i - 1) in
        let a = place_of q i (omega (arith, same_release i)) in
        let within : (x : ℕ) → is_left less x ≡ true → is_left left x ≡ true = λ x e.
        by_eqb (x - 1) (i - 1)
        (λ _ z. absurd (omega (arith, left_bit less x e, ap (bit less) z, cleared_same (i - 1) left b)))
        (λ _ z. bit_left left x (sym (cleared_other (i - 1) (x - 1) left b z) ∙ left_bit less x e)) in
        let others : (j : ℕ) → j < length q → (j ≡ a.place → ⊥) → is_left less (row q j) ≡ is_left left (row q j) = λ j h n.
        ap (λ (m : ℕ). eqb m 1) (cleared_other (i - 1) (row q j - 1) left b
        (λ z. (queue_of s s1).apart j a.place h a.within n (z ∙ ap (λ (m : ℕ). m - 1) (sym a.is)))) in
        let taken : LeftAt (is_left left) q a.place = (a.within, bit_left left (row q a.place) (ap (λ (m : ℕ). bit left (m - 1)) a.is ∙ b)) in
        rw queue_is (subst (λ (x : ℕ). Known (release_of t) caps (deadline_of t) (λ j. at entry_of j) (is_left less) q period (bit_or changed (2 ^ at period x)) passing) a.is
        (known_placed (release_of t) caps (deadline_of t) (λ j. at entry_of j) (is_left left) q (queue_of s s1) (is_left less) a.place within others taken
        period changed passing (rw queue_is at known)))

    -- its busy period begins at a place of the queue
    pub period_place : (left i : ℕ) (period : List ℕ) (changed passing : ℕ)
        → KnownAt (padded (by_release t)) t.n t.release t.deadline (caps_at t s) entry_of left period changed passing → In i (rows_of t) → bit left (i - 1) ≡ 1
        → at period i < 64
    period_place left i period changed passing known k b =
        let q = by_release t in
        let a = place_of q i (omega (arith, same_release i)) in
        let taken : LeftAt (is_left left) q a.place = (a.within, bit_left left (row q a.place) (ap (λ (m : ℕ). bit left (m - 1)) a.is ∙ b)) in
        let g : Known (release_of t) caps (deadline_of t) (λ j. at entry_of j) (is_left left) q period changed passing = rw queue_is at known in
        omega (arith, g.groups.low a.place taken, ap (at period) a.is, a.within, (queue_of s s1).few)
