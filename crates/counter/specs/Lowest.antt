-- What the sweeps over a table's columns say of the rows of a word: which of them may stand lowest (rule 25.7).
use Prim.Native.Nat.{ℕ, ◌+◌, ◌-◌, ◌^◌, ◌≤◌, ◌<◌, max, min}
use Rattle.std.specs.Prelude.{Bool, cond, ◌&&◌, ◌≡◌, eqb, get_or, take}
use Rattle.std.proofs.Math.Bool.{true, false}
use mathlib.Core.List.{List, []}
use Rattle.std.proofs.Math.Path.{refl, sym, ap}
use Rattle.std.proofs.Common.{subst, ◌∙◌}
use native.Mathlib.Omega.{arith}
use Rattle.std.specs.Int.Bits.{bit_and, bit_or}
use Rattle.std.proofs.Math.Dec.{ltb, leb}
use borrow.Author.Tests.{eq-eqb, ne_eqb, eqb-true, eqb-false, le-ltb, lt-ltb}
use Rattle.rules.specs.declared.Table.{Table}
use Rattle.rules.specs.Choice.{padded, sequence, lowest, unfollowed, passes}
use Rattle.rules.specs.Lists.{all_zero, erase}
use Rattle.rules.specs.Rows.{at, put, rows_of, release_of, deadline_of, promised_of, follows_of, promise_need, is_low, is_promised}
use Rattle.rules.specs.Tables.{Accepted}
use Rattle.rules.specs.Worst.{worst_speed, worst_finish, promised_moment}
use Rattle.theory.specs.Caps.{cap}
use Rattle.theory.specs.Cells.{at_put_same, at_put_other}
use Rattle.theory.proofs.Choosing.{none_follow, follow_none, keep_in, in_keep}
use Rattle.theory.specs.Counts.{In, Within, Same, erase_last}
use Rattle.theory.specs.Facts.{Row, TableFacts, facts, rows_in_lem, in_rows, followed_row_lem}
use Rattle.theory.proofs.Finishes.{rows_of_lem, once_of, worst_sweep}
use Rattle.theory.proofs.Promised.{part_of, moment_sweep, meets_is}
use Rattle.theory.specs.Promised.{latest}
use Rattle.theory.specs.Sorting.{same_sort}
use Rattle.theory.specs.Sweep.{sweep}
use Rattle.theory.specs.Tests.{by_bool, by_eqb, and_true, and_assoc, both_ways}
use Rattle.theory.proofs.Waiting.{unbound_table}
use Rattle.theory.specs.Waiting.{unbound}
use Rattle.sweep.specs.CapColumn.{part_needs}
use Rattle.sweep.specs.Finds.{by_release, queued, queued_sorted, finds, zero_entry}
use Rattle.sweep.specs.Holds.{count_keep_le, count_kept, count_dropped}
use Rattle.sweep.specs.Masks.{bit, bit_lt, is_left, full_bit}
use Rattle.sweep.specs.Padded.{padded_at, padded_length, rows_length}
use Rattle.sweep.specs.Trials.{trial}
use Rattle.periods.specs.Busy.{row, LeftAt}
use Rattle.periods.specs.Marks.{marks_bit, bit_and_lem, bit_or_lem}
use Rattle.periods.specs.Trying.{in_time, part_in_time}
use Rattle.trials.specs.Lines.{place_of}
use Rattle.trials.specs.Opening.{open_to, open_clear, open_whole}
use Rattle.trials.specs.Prepared.{caps_at, at_level}
use Rattle.trials.specs.Taking.{entry_of, entry_at, entry_place, cap_entry, queue_is, later_both, sequence_length}
use Rattle.choices.specs.Choices.{rows_in}
use Rattle.lowest.specs.Standing.{may_stand}
use Rattle.lowest.proofs.Standing.{free_stand}
use Rattle.counter.specs.Testing.{AllIn, stands_in}

module _ (t : Table) (accepted : Accepted t) where
  f : TableFacts t
  f = facts t accepted

  free : TableFacts (unbound t)
  free = unbound_table t f

  -- the entry of a row tells which it is
  entry_row : (i : ℕ) → In i (rows_of t) → (at (entry_of t accepted) i < t.n) × (get_or (sequence t) (at (entry_of t accepted) i) 0 ≡ i)
  entry_row i j =
      let a = entry_at t accepted i j in
      let e = entry_place t accepted i j in
      (omega (arith, e, a.within, sequence_length t accepted), ap (λ (k : ℕ). get_or (sequence t) k 0) e ∙ a.is)

  module _ (m : ℕ) where
    abbrev s : List ℕ
    s = rows_in t m

    within : Within s (rows_of t)
    within x = count_keep_le (is_left m) x (rows_of t)

    row_of : (i : ℕ) → In i s → Row t i
    row_of i j = rows_in_lem t i (omega (arith, j, within i))

    -- the rows of the word by rising release
    swept : Same (queued t m) s
    swept x =
        let e = same_sort (release_of t) (rows_of t) x in
        by_bool (is_left m x)
        (λ b. omega (arith, e, count_kept (is_left m) x (by_release t) b, count_kept (is_left m) x (rows_of t) b))
        (λ b. omega (arith, count_dropped (is_left m) x (by_release t) b, count_dropped (is_left m) x (rows_of t) b))

    -- row i below all the others of the word, no row waiting
    module _ (i : ℕ) (j : In i s) where
      last : Same (lowest s i) s
      last = erase_last i s j

      inside : Within (lowest s i) (rows_of (unbound t))
      inside x = omega (arith, last x, within x)

      own : Row (unbound t) i
      own = let r = row_of i j in record { from = r.from; up_to = r.up_to }

      queue_same : Same (queued t m) (lowest s i)
      queue_same x = omega (arith, swept x, last x)

      finish_found : (v : ℕ) → worst_speed t i ≡ v
          → in_time (padded (by_release t)) t.n t.release t.deadline (caps_at t v) m i ≡ leb (worst_finish (unbound t) (lowest s i) i) (deadline_of t i)
      unfolding in_time cap
      finish_found v e =
          ap (λ (c : ℕ). leb c (deadline_of t i))
          (finds t accepted m v (release_of t i) (padded (by_release t)) (caps_at t v) refl refl
          ∙ ap (λ (c : ℕ). sweep (release_of t) (cap t c) (release_of t i) 0 (queued t m)) (sym e)
          ∙ sym (worst_sweep (unbound t) free (erase i s) [] i (rows_of_lem (unbound t) (lowest s i) inside) (once_of (unbound t) (lowest s i) inside)
          (free_stand t (erase i s) i) (queued t m) (queued_sorted t m) queue_same))

      part_found : is_promised t i ≡ true
          → trial t.release (put (caps_at t t.degraded) i (at (part_needs t) i)) m (release_of t i) 0 (take t.n (padded (by_release t)))
          ≡ promised_moment (unbound t) (lowest s i) i
      unfolding cap
      part_found e =
          let r = row_of i j in
          let own_cap : at (put (caps_at t t.degraded) i (at (part_needs t) i)) i ≡ promise_need t i =
          at_put_same (caps_at t t.degraded) i (at (part_needs t) i) (padded_length _ (omega (arith, rows_length (cap t t.degraded) t.n, f.few))) r.from (omega (arith, r.up_to, f.few))
          ∙ padded_at (promise_need t) t.n i r.from r.up_to f.few in
          ap (trial t.release (put (caps_at t t.degraded) i (at (part_needs t) i)) m (release_of t i) 0) (queue_is t accepted)
          ∙ sym (moment_sweep (unbound t) free i own (part_of (unbound t) i e) (erase i s) [] (rows_of_lem (unbound t) (lowest s i) inside) (once_of (unbound t) (lowest s i) inside)
          (free_stand t (erase i s) i) (queued t m) (queued_sorted t m) queue_same (λ y. at (put (caps_at t t.degraded) i (at (part_needs t) i)) y) own_cap
          (λ y k n. let v = row_of y (omega (arith, k, swept y)) in
          at_put_other (caps_at t t.degraded) i y (at (part_needs t) i) r.from v.from n ∙ cap_entry t accepted t.degraded y (in_rows t y v)))

      -- a row passes if it finishes in time at its own worst speed and has its promised part in time
      abbrev ends : Bool
      ends = in_time (padded (by_release t)) t.n t.release t.deadline (caps_at t (worst_speed t i)) m i

      abbrev parted : Bool
      parted = part_in_time (padded (by_release t)) t.n t.release t.deadline (caps_at t t.degraded) t.promised (part_needs t) m i

      passes_found : passes (unbound t) s i ≡ ends && parted
      unfolding passes part_in_time latest
      passes_found =
          let d = worst_finish (unbound t) (lowest s i) i in
          let none : max d 0 ≡ d = omega arith in
          meets_is (unbound t) (lowest s i) i
          ∙ by_eqb (promised_of t i) 0
          (λ e z. let n : ltb 0 (promised_of t i) ≡ false = le-ltb 0 (promised_of t i) (omega arith) in
          let no : is_promised t i ≡ false = by_bool (is_low t i) (λ l. rw (l, n)) (λ l. rw l) in
          rw (no, e, none, finish_found (worst_speed t i) refl, and_true (leb d (deadline_of t i))))
          (λ e z. let n : ltb 0 (promised_of t i) ≡ true = lt-ltb 0 (promised_of t i) (omega arith) in
          let some : is_promised t i ≡ true = rw ((f.part i (row_of i j)).low (omega arith), n) in
          rw (some, e, finish_found (worst_speed t i) refl, part_found some) (sym (later_both d (promised_moment (unbound t) (lowest s i) i) (deadline_of t i))))

    -- the entries that no row of the word waits for

    module _ (all : ℕ) (every : all ≡ 2 ^ t.n - 1) (tries : ℕ) (waitless : Bool) (e : waitless ≡ all_zero t.follows)
        (z : tries ≡ cond waitless all (open_to t.follows (entry_of t accepted) m all t.n)) where
      full : (x : ℕ) → x < t.n → bit all x ≡ 1
      full x h = ap (λ (k : ℕ). bit k x) every ∙ full_bit t.n x h

      open_is : (i : ℕ) → In i s → eqb (bit tries (at (entry_of t accepted) i)) 1 ≡ unfollowed t s i
      open_is i j =
          let r = in_rows t i (row_of i j) in
          let x = entry_row i r in
          by_bool (all_zero t.follows)
          (λ a. ap (λ (k : ℕ). eqb (bit k (at (entry_of t accepted) i)) 1) (z ∙ ap (λ (b : Bool). cond b all (open_to t.follows (entry_of t accepted) m all t.n)) (e ∙ a))
          ∙ eq-eqb (bit all (at (entry_of t accepted) i)) 1 (full (at (entry_of t accepted) i) x.0)
          ∙ sym (follow_none t s i (λ y k q. omega (arith, q, zero_entry t.follows (y - 1) a, (row_of i j).from))))
          (λ a. ap (λ (k : ℕ). eqb (bit k (at (entry_of t accepted) i)) 1) (z ∙ ap (λ (b : Bool). cond b all (open_to t.follows (entry_of t accepted) m all t.n)) (e ∙ a))
          ∙ both_ways (eqb (bit (open_to t.follows (entry_of t accepted) m all t.n) (at (entry_of t accepted) i)) 1) (unfollowed t s i)
          (λ b. follow_none t s i (λ y k q. waited i j y k q (eqb-true (bit (open_to t.follows (entry_of t accepted) m all t.n) (at (entry_of t accepted) i)) 1 b)))
          (λ u. eq-eqb (bit (open_to t.follows (entry_of t accepted) m all t.n) (at (entry_of t accepted) i)) 1
          (open_whole t.follows (entry_of t accepted) m all t.n (at (entry_of t accepted) i) (full (at (entry_of t accepted) i) x.0) (λ k l some b q. seated i j u k l some b q))))
        where
          waited : (i : ℕ) → In i s → (y : ℕ) → In y s → follows_of t y ≡ i → bit (open_to t.follows (entry_of t accepted) m all t.n) (at (entry_of t accepted) i) ≡ 1 → ⊥
          waited i j y k q b =
              let r = row_of y k in
              let h : y - 1 + 1 ≡ y = omega (arith, r.from) in
              open_clear t.follows (entry_of t accepted) m all t.n (y - 1) (omega (arith, r.from, r.up_to)) (omega (arith, q, (row_of i j).from))
              (rw h (keep_in (is_left m) (rows_of t) y k).1) (ap (λ (w : ℕ). bit (open_to t.follows (entry_of t accepted) m all t.n) (at (entry_of t accepted) w)) q ∙ b)

          seated : (i : ℕ) → In i s → unfollowed t s i ≡ true → (k : ℕ) → k < t.n → 1 ≤ get_or t.follows k 0 → is_left m (k + 1) ≡ true
              → at (entry_of t accepted) (get_or t.follows k 0) ≡ at (entry_of t accepted) i → ⊥
          seated i j u k l some b q =
              let h : k + 1 - 1 ≡ k = omega arith in
              let mine : Row t (k + 1) = record { from = omega arith; up_to = omega arith } in
              let w : follows_of t (k + 1) ≡ get_or t.follows k 0 = ap (λ (c : ℕ). get_or t.follows c 0) h in
              let high = in_rows t (follows_of t (k + 1)) (followed_row_lem t f (k + 1) mine (omega (arith, w))) in
              let a = entry_row (follows_of t (k + 1)) high in
              let c = entry_row i (in_rows t i (row_of i j)) in
              none_follow t s i u (k + 1) (in_keep (is_left m) (rows_of t) (k + 1) (in_rows t (k + 1) mine) b)
              (sym a.1 ∙ ap (λ (y : ℕ). get_or (sequence t) y 0) (ap (at (entry_of t accepted)) w ∙ q) ∙ c.1)

      -- and whose rows finish in time, at N for LO and at G for HI rows

      module _ (normal slow : ℕ)
          (at-normal : AllIn (padded (by_release t)) t.n t.release t.deadline (caps_at t t.normal) (entry_of t accepted) m normal)
          (at-slow : AllIn (padded (by_release t)) t.n t.release t.deadline (caps_at t t.degraded) (entry_of t accepted) m slow) where
        abbrev timely : ℕ
        timely = bit_and tries (bit_or (bit_and normal (at_level t 0)) (bit_and slow (at_level t 1)))

        -- a row of the word stands in the queue
        told : (v word : ℕ) → AllIn (padded (by_release t)) t.n t.release t.deadline (caps_at t v) (entry_of t accepted) m word → (i : ℕ) → In i s
            → bit word (at (entry_of t accepted) i) ≡ cond (in_time (padded (by_release t)) t.n t.release t.deadline (caps_at t v) m i) 1 0
        told v word h i j =
            let a = place_of (by_release t) i (omega (arith, j, within i, same_sort (release_of t) (rows_of t) i)) in
            let q = queue_is t accepted in
            let r = subst (λ (l : List ℕ). (k : ℕ) → LeftAt (is_left m) l k
            → bit word (at (entry_of t accepted) (row l k)) ≡ cond (in_time (padded (by_release t)) t.n t.release t.deadline (caps_at t v) m (row l k)) 1 0) q h
            a.place (a.within, ap (is_left m) a.is ∙ (keep_in (is_left m) (rows_of t) i j).1) in
            ap (λ (x : ℕ). bit word (at (entry_of t accepted) x)) (sym a.is) ∙ r
            ∙ ap (λ (x : ℕ). cond (in_time (padded (by_release t)) t.n t.release t.deadline (caps_at t v) m x) 1 0) a.is

        level_bit : (level i : ℕ) → In i s → bit (at_level t level) (at (entry_of t accepted) i) ≡ cond (eqb (at t.level i) level) 1 0
        level_bit level i j =
            let x = entry_row i (in_rows t i (row_of i j)) in
            marks_bit (λ k. eqb (at t.level k) level) (sequence t) (at (entry_of t accepted) i) (omega (arith, x.0, sequence_length t accepted))
            ∙ ap (λ (k : ℕ). cond (eqb (at t.level k) level) 1 0) x.1

        -- two bits, each told by a test
        both_bits : (a b c : ℕ) (p q : Bool) → eqb a 1 ≡ p → a < 2 → b ≡ cond q 1 0 → c ≡ min a b → eqb c 1 ≡ p && q
        both_bits a b c true true e l g h = let z = eqb-true a 1 e in eq-eqb c 1 (omega arith)
        both_bits a b c true false e l g h = ne_eqb c 1 (λ z. omega arith)
        both_bits a b c false q e l g h = let z = eqb-false a 1 e in ne_eqb c 1 (λ y. z (omega (arith, y, l, h)))

        timely_is : (i : ℕ) (j : In i s) → is_left timely (at (entry_of t accepted) i + 1) ≡ unfollowed t s i && ends i j
        timely_is i j =
            let e = at (entry_of t accepted) i in
            let z : e + 1 - 1 ≡ e = omega arith in
            let one = bit_and_lem tries (bit_or (bit_and normal (at_level t 0)) (bit_and slow (at_level t 1))) e in
            let two = bit_or_lem (bit_and normal (at_level t 0)) (bit_and slow (at_level t 1)) e in
            let three = bit_and_lem normal (at_level t 0) e in
            let four = bit_and_lem slow (at_level t 1) e in
            let r = row_of i j in
            ap (λ (x : ℕ). eqb (bit timely x) 1) z
            ∙ by_eqb (at t.level i) 0
            (λ d l. let high : bit (at_level t 1) e ≡ 0 = level_bit 1 i j ∙ ap (λ (b : Bool). cond b 1 0) (ne_eqb (at t.level i) 1 (λ y. omega (arith, y, l))) in
            let low : bit (at_level t 0) e ≡ 1 = level_bit 0 i j ∙ ap (λ (b : Bool). cond b 1 0) d in
            let v : worst_speed t i ≡ t.normal = rw d in
            both_bits (bit tries e) (bit normal e) (bit timely e) (unfollowed t s i) (ends i j) (open_is i j) (bit_lt tries e)
            (told t.normal normal at-normal i j ∙ ap (λ (c : ℕ). cond (in_time (padded (by_release t)) t.n t.release t.deadline (caps_at t c) m i) 1 0) (sym v))
            (omega (arith, one, two, three, four, high, low, bit_lt normal e)))
            (λ d l. let low : bit (at_level t 0) e ≡ 0 = level_bit 0 i j ∙ ap (λ (b : Bool). cond b 1 0) d in
            let lv : at t.level i ≡ 1 = omega (arith, l, (f.row i r).level) in
            let high : bit (at_level t 1) e ≡ 1 = level_bit 1 i j ∙ ap (λ (b : Bool). cond b 1 0) (eq-eqb (at t.level i) 1 lv) in
            let v : worst_speed t i ≡ t.degraded = rw d in
            both_bits (bit tries e) (bit slow e) (bit timely e) (unfollowed t s i) (ends i j) (open_is i j) (bit_lt tries e)
            (told t.degraded slow at-slow i j ∙ ap (λ (c : ℕ). cond (in_time (padded (by_release t)) t.n t.release t.deadline (caps_at t c) m i) 1 0) (sym v))
            (omega (arith, one, two, three, four, high, low, bit_lt slow e)))

        -- what the code asks of a row: it is in the word and may stand lowest in it
        pub stands_is : (i : ℕ) → Row t i
            → stands_in (padded (by_release t)) t.n t.release t.deadline (caps_at t t.degraded) t.promised (part_needs t) (entry_of t accepted) m timely i
            ≡ is_left m i && may_stand t s i
        unfolding may_stand
        stands_is i r =
            by_bool (is_left m i)
            (λ e. let j = in_keep (is_left m) (rows_of t) i (in_rows t i r) e in
            rw (e, timely_is i j, passes_found i j) (and_assoc (unfollowed t s i) (ends i j) (parted i j)))
            (λ e. rw e)
