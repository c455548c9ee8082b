-- What is known of the busy periods at one speed: where each row's begins in the queue, which have changed, and which rows are in time.
use Rattle.std.specs.Prelude.{ℕ, ◌-◌, ◌^◌, ◌≤◌, ◌<◌, Bool, true, ◌≡◌, refl, List, length}
use Rattle.std.proofs.Common.{sym, ap, ◌∙◌, arith}
use Rattle.std.specs.Int.Bits.{bit_or}
use Rattle.rules.specs.Rows.{at}
use Rattle.theory.specs.Tests.{by-ltb, by_eqb}
use Rattle.sweep.specs.Masks.{bit, bit_lt, zero_bit}
use Rattle.sweep.specs.Padded.{zeros, zeros_entry}
use Rattle.periods.specs.Marks.{bit_or_lem, or_neither, one_same, one_other}
use Rattle.periods.specs.Busy.{row, LeftAt, Rising, busy_to, finish}
use Rattle.periods.specs.Fewer.{busy_fewer, finish_fewer, finish_after, finish_before}

-- the queue has different rows of a table, by rising release, each with a cap of a slot at least and an entry of its own
pub record Queue (rel cap entry : ℕ → ℕ) (q : List ℕ) : Type 0 where
  pub few : length q ≤ 64
  pub rising : Rising rel q
  pub runs : (k : ℕ) → k < length q → 1 ≤ cap (row q k)
  pub range : (k : ℕ) → k < length q → row q k - 1 < 64
  pub apart : (i j : ℕ) → i < length q → j < length q → (i ≡ j → ⊥) → row q i - 1 ≡ row q j - 1 → ⊥
  pub single : (i j : ℕ) → i < length q → j < length q → entry (row q i) ≡ entry (row q j) → i ≡ j

-- for each row left the place of the queue from which its busy period's rows stand together, the processor being free before them
pub record Groups (rel cap : ℕ → ℕ) (live : ℕ → Bool) (q period : List ℕ) : Type 0 where
  pub low : (k : ℕ) → LeftAt live q k → at period (row q k) ≤ k
  pub one : (k j : ℕ) → LeftAt live q k → LeftAt live q j → at period (row q k) ≤ j → j ≤ k → at period (row q j) ≡ at period (row q k)
  pub free : (k : ℕ) → LeftAt live q k → busy_to rel cap live q (at period (row q k)) ≤ rel (row q k)
  pub wide : length period ≡ 64

-- the words of busy periods that have changed since they were swept, by the places where they begin, and of entries known to be in time: a row whose
-- entry is there is in time, and of the busy periods that have not changed every row in time has its entry there
pub record Known (rel cap due entry : ℕ → ℕ) (live : ℕ → Bool) (q period : List ℕ) (changed passing : ℕ) : Type 0 where
  pub groups : Groups rel cap live q period
  pub sound : (k : ℕ) → LeftAt live q k → bit passing (entry (row q k)) ≡ 1 → finish rel cap live q k ≤ due (row q k)
  pub whole : (k : ℕ) → LeftAt live q k → bit changed (at period (row q k)) ≡ 0 → finish rel cap live q k ≤ due (row q k) → bit passing (entry (row q k)) ≡ 1
  pub places : (x : ℕ) → bit changed x ≡ 1 → x < length q

module _ (rel cap due entry : ℕ → ℕ) (live : ℕ → Bool) (q : List ℕ) (queue : Queue rel cap entry q) where
  -- before the first sweep all rows are taken for one busy period, which has changed
  pub known_start : 1 ≤ length q → Known rel cap due entry live q (zeros 64) 1 0
  known_start some =
      let z : (k : ℕ) → at (zeros 64) (row q k) ≡ 0 = λ k. zeros_entry 64 (row q k - 1) in
      record {
        groups = record {
          low = λ k w. omega (arith, z k);
          one = λ k j v w e f. z j ∙ sym (z k);
          free = λ k w. omega (arith, ap (busy_to rel cap live q) (z k));
          wide = refl;
        };
        sound = λ k w b. absurd (omega (arith, zero_bit (entry (row q k))));
        whole = λ k w b f. absurd (omega (arith, ap (bit 1) (z k), one_same 0));
        places = λ x b. omega (arith, one_other 0 x b);
      }

  -- the row at place m is placed: its busy period changes
  module _ (less : ℕ → Bool) (m : ℕ) (within : (x : ℕ) → less x ≡ true → live x ≡ true)
      (others : (k : ℕ) → k < length q → (k ≡ m → ⊥) → less (row q k) ≡ live (row q k))
      (taken : LeftAt live q m)
      (period : List ℕ) (changed passing : ℕ) (known : Known rel cap due entry live q period changed passing) where
    abbrev g : Groups rel cap live q period
    g = known.groups

    was : (k : ℕ) → LeftAt less q k → LeftAt live q k
    was k w = (w.0, within (row q k) w.1)

    -- rows of other busy periods finish when they did
    finish_kept : (k : ℕ) → LeftAt less q k → (at period (row q k) ≡ at period (row q m) → ⊥) → finish rel cap less q k ≡ finish rel cap live q k
    finish_kept k w n =
        let v = was k w in
        by-ltb k m
        (λ _ l. let p = at period (row q m) in
        by-ltb k p
        (λ _ b. finish_before rel cap live less q queue.rising within m others k p v (queue.runs k w.0) b (g.low m taken) taken.0
        (λ i s x. by-ltb m i
        (λ _ y. omega (arith, g.free m taken, queue.rising m i (omega arith) x.0))
        (λ _ y. let e = g.one m i taken x s y in omega (arith, g.free i x, ap (busy_to rel cap live q) e))))
        (λ _ b. absurd (n (g.one m k taken v b (omega arith)))))
        (λ _ l. let p = at period (row q k) in
        by-ltb m p
        (λ _ b. finish_after rel cap live less q queue.rising within m others k p v (g.low k v) b
        (λ i s t x. let e = g.one k i v x s t in omega (arith, g.free i x, ap (busy_to rel cap live q) e)))
        (λ _ b. absurd (n (sym (g.one k m v taken b l)))))

    pub known_placed : Known rel cap due entry less q period (bit_or changed (2 ^ at period (row q m))) passing
    known_placed =
        let p = at period (row q m) in
        record {
          groups = record {
            low = λ k w. g.low k (was k w);
            one = λ k j v w e f. g.one k j (was k v) (was j w) e f;
            free = λ k w. omega (arith, g.free k (was k w), busy_fewer rel cap live less q queue.rising within (at period (row q k)));
            wide = g.wide;
          };
          sound = λ k w b. omega (arith, known.sound k (was k w) b, finish_fewer rel cap live less q queue.rising within k);
          whole = λ k w b f.
              let r = or_neither changed (2 ^ p) (at period (row q k)) b in
              let n : at period (row q k) ≡ p → ⊥ = λ z. omega (arith, r.1, ap (bit (2 ^ p)) z, one_same p) in
              known.whole k (was k w) r.0 (omega (arith, finish_kept k w n));
          places = λ x b. by_eqb (bit changed x) 1
              (λ _ z. known.places x z)
              (λ _ z. omega (arith, one_other p x (omega (arith, b, bit_or_lem changed (2 ^ p) x, bit_lt changed x, bit_lt (2 ^ p) x, z)), g.low m taken, taken.0));
        }
