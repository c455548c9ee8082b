-- The loop that fills the places from the lowest up: what stands between two turns, and what each turn does.
use Rattle.std.specs.Prelude.{ℕ, zero, suc, ◌+◌, ◌-◌, ◌^◌, ◌≤◌, ◌<◌, true, ◌≡◌, refl, List, ◌∷◌, ◌++◌, length, take, drop, set, Bool, []}
use Rattle.std.proofs.Common.{sym, ap, ◌∙◌, length-set, take-append-drop, drop-cons, drop-set-lt, get_or-set_same, length-take-le, eq-eqb, ne_eqb, le-ltb, lt-ltb}
use native.Mathlib.Omega.{arith}
use Rattle.std.specs.Int.Count.{ones}
use Rattle.rules.specs.declared.Table.{Table}
use Rattle.rules.specs.Plans.{Ordered, NoOrder, Refused}
use Rattle.rules.specs.declared.Planning.{Planning}
use Rattle.rules.specs.declared.Refusal.{Refusal}
use Rattle.ceiling.specs.declared.Counted.{Counted}
use Rattle.ceiling.specs.Ceiling.{trials_at, trials_from, trial_count, over_ceiling, counted_from}
use Rattle.ceiling.proofs.Bounds.{trials_none, trials_stuck, trials_turn}
use Rattle.rules.specs.Lists.{count, erase, keep}
use Rattle.rules.specs.Rows.{rows_of}
use Rattle.rules.specs.Tables.{Accepted}
use Rattle.rules.specs.Choice.{sequence, unfollowed, tried, passes, taker, fill, choice, padded, plan_from}
use Rattle.theory.specs.Tests.{by_eqb}
use Rattle.theory.specs.Counts.{In, first_in, same_size, in_head, in_tail}
use Rattle.theory.specs.Facts.{Row, TableFacts, facts, rows_in_lem}
use Rattle.theory.specs.Waits.{Closed, rows_closed}
use Rattle.theory.specs.Places.{length_rows}
use Rattle.theory.proofs.Choosing.{same_sequence, lowest_stands, keep_in}
use Rattle.sweep.specs.Masks.{bit, is_left, cleared_ones}
use Rattle.sweep.specs.Holds.{Holds, count_keep_le, holds_start, holds_without, holds_once, holds_row, holds_in, keep_without}
use Rattle.sweep.specs.Padded.{zeros, padded_zeros}
use Rattle.trials.specs.Prepared.{left_of, sequence_once, sequence_zero}

keep_all : (p : ℕ → Bool) (l : List ℕ) → ((x : ℕ) → In x l → p x ≡ true) → keep p l ≡ l
keep_all p [] h = refl
keep_all p (x ∷ l) h = rw (h x (in_head x l), keep_all p l (λ y i. h y (in_tail y x l i)))

-- the rows placed so far, highest first, where the places above, as many as `place` says, are open
abbrev pub placed_below : Table → List ℕ → ℕ → List ℕ
placed_below t order place = take (t.n - place) (drop place order)

-- before a turn: the word holds the rows left, whatever one of them follows among them, the order has the rows placed below them, and the choice goes
-- on from here
pub record Placing (t : Table) (order : List ℕ) (left place : ℕ) : Type 0 where
  pub counted : place ≡ ones left
  pub few : place ≤ t.n
  pub holds : Holds left (left_of t left)
  pub closed : Closed t (left_of t left)
  pub long : length order ≡ 64
  pub tail : drop t.n order ≡ zeros (64 - t.n)
  pub filled : fill t place (left_of t left) (placed_below t order place) ≡ choice t

-- a refusal, and the trials made (rules 23.5, 23.7)
abbrev pub refused_after : Refusal → ℕ → Counted
refused_after why trials = record { planning = record { answer = Refused why; order = zeros 64 }; trials = trials }

-- the trials made at the places below, and those to come make the table's count, and none is above the ceiling
pub record Tally (t : Table) (ceiling left place made : ℕ) : Type 0 where
  pub sum : made + trials_from t place (left_of t left) ≡ trial_count t
  pub within : made ≤ ceiling

drop_zeros : (n m : ℕ) → n ≤ m → drop n (zeros m) ≡ zeros (m - n)
drop_zeros zero m h = let e : m - 0 ≡ m = omega arith in rw e
drop_zeros (suc n) zero h = absurd (omega arith)
drop_zeros (suc n) (suc m) h = let e : suc m - suc n ≡ m - n = omega arith in rw e (drop_zeros n m (omega arith))

-- one place of the choice

fill_none : (t : Table) (l placed : List ℕ) → fill t 0 l placed ≡ record { placed = placed; left = l }
unfolding fill
fill_none t l placed = refl

fill_stuck : (t : Table) (k : ℕ) (l placed : List ℕ) → 1 ≤ k → taker t l ≡ 0 → fill t k l placed ≡ record { placed = placed; left = l }
unfolding fill
fill_stuck t zero l placed h e = refl
fill_stuck t (suc k) l placed h e = rw (eq-eqb (taker t l) 0 e)

fill_turn : (t : Table) (k : ℕ) (l placed : List ℕ) → (taker t l ≡ 0 → ⊥) → fill t (suc k) l placed ≡ fill t k (erase (taker t l) l) (taker t l ∷ placed)
unfolding fill
fill_turn t k l placed e = rw (ne_eqb (taker t l) 0 e)

-- the row that takes a place is put above those placed
placed_more : (t : Table) (order : List ℕ) (k row : ℕ) → length order ≡ 64 → k < t.n → t.n ≤ 64
    → placed_below t (set order k row) k ≡ row ∷ placed_below t order (suc k)
placed_more t order k row e h few =
    let m = length-set order k row in
    let z : t.n - k ≡ suc (t.n - suc k) = omega arith in
    rw (z, drop-cons (set order k row) k 0 (omega arith), get_or-set_same order k row 0 (omega arith), drop-set-lt (suc k) order k row (omega arith))

module _ (t : Table) (accepted : Accepted t) where
  f : TableFacts t
  f = facts t accepted

  -- at first all rows are left, and no place is filled
  pub placing_start : (order : List ℕ) (left place : ℕ) → order ≡ zeros 64 → left ≡ 2 ^ t.n - 1 → place ≡ ones left → Placing t order left place
  unfolding choice
  placing_start order left place o e c =
      let h : Holds left (sequence t) = rw e (holds_start t.n (sequence t) f.few (same_sequence t)) in
      let every : left_of t left ≡ sequence t = keep_all (is_left left) (sequence t) (holds_in left (sequence t) h) in
      let n : place ≡ t.n = omega (arith, h.size, same_size (sequence t) (rows_of t) (same_sequence t), length_rows t.n) in
      let z : t.n - t.n ≡ 0 = omega arith in
      record {
        counted = c;
        few = omega arith;
        holds = rw every h;
        closed = rw every (rows_closed t f (sequence t) (same_sequence t));
        long = rw o;
        tail = rw o (drop_zeros t.n 64 f.few);
        filled = rw (every, n, z);
      }

  -- and no trial is made
  pub tally_start : (ceiling left place : ℕ) → left ≡ 2 ^ t.n - 1 → place ≡ ones left → Tally t ceiling left place 0
  unfolding trial_count
  tally_start ceiling left place e c =
      let h : Holds left (sequence t) = rw e (holds_start t.n (sequence t) f.few (same_sequence t)) in
      let every : left_of t left ≡ sequence t = keep_all (is_left left) (sequence t) (holds_in left (sequence t) h) in
      let n : place ≡ t.n = omega (arith, h.size, same_size (sequence t) (rows_of t) (same_sequence t), length_rows t.n) in
      record { sum = rw (every, n) (omega arith); within = omega arith }

  module _ (order : List ℕ) (left place : ℕ) (p : Placing t order left place) where
    -- no row is left: the order is whole
    pub placing_done : place ≡ 0 → ◌≡◌ {A = Planning} (record { answer = Ordered; order = order }) (plan_from (choice t))
    placing_done e =
        let n = length-take-le t.n order (omega (arith, p.long, f.few)) in
        let whole : padded (take t.n order) ≡ order =
        padded_zeros (take t.n order) (omega (arith, f.few)) ∙ ap (λ (k : ℕ). take t.n order ++ zeros (64 - k)) n
        ∙ ap (λ (l : List ℕ). take t.n order ++ l) (sym p.tail) ∙ take-append-drop t.n order in
        let none : length (left_of t left) ≡ 0 = omega (arith, p.holds.size, p.counted) in
        let z : t.n - 0 ≡ t.n = omega arith in
        let last : choice t ≡ record { placed = take (t.n - 0) order; left = left_of t left } =
        sym p.filled ∙ ap (λ (k : ℕ). fill t k (left_of t left) (placed_below t order k)) e ∙ fill_none t (left_of t left) (placed_below t order 0) in
        rw (last, eq-eqb (length (left_of t left)) 0 none, z, whole)

    -- what is planned is the answer at the ceiling, after trials that are the count
    answered : (ceiling made : ℕ) (planning : Planning) → made ≡ trial_count t → made ≤ ceiling → planning ≡ plan_from (choice t)
        → ◌≡◌ {A = Counted} (record { planning = planning; trials = made }) (counted_from ceiling t)
    answered ceiling made planning e h q = rw (q, e, le-ltb ceiling (trial_count t) (omega arith))

    pub counted_done : (ceiling made : ℕ) → Tally t ceiling left place made → place ≡ 0
        → ◌≡◌ {A = Counted} (record { planning = record { answer = Ordered; order = order }; trials = made }) (counted_from ceiling t)
    counted_done ceiling made c e =
        let none : trials_from t place (left_of t left) ≡ 0 = ap (λ (k : ℕ). trials_from t k (left_of t left)) e ∙ trials_none t (left_of t left) in
        answered ceiling made (record { answer = Ordered; order = order }) (omega (arith, c.sum)) c.within (placing_done e)

    module _ (some : 1 ≤ place) where
      -- no row may take the place: the answer is the rows left
      pub placing_stuck : taker t (left_of t left) ≡ 0 → ◌≡◌ {A = Planning} (record { answer = NoOrder left; order = zeros 64 }) (plan_from (choice t))
      placing_stuck e =
          let last : choice t ≡ record { placed = placed_below t order place; left = left_of t left } =
          sym p.filled ∙ fill_stuck t place (left_of t left) (placed_below t order place) some e in
          rw (last, ne_eqb (length (left_of t left)) 0 (λ z. omega (arith, p.holds.size, p.counted)), ← p.holds.sums)

      pub counted_stuck : (ceiling made last : ℕ) → Tally t ceiling left place made → taker t (left_of t left) ≡ 0 → trials_at t (left_of t left) ≡ last → made + last ≤ ceiling
          → ◌≡◌ {A = Counted} (record { planning = record { answer = NoOrder left; order = zeros 64 }; trials = made + last }) (counted_from ceiling t)
      counted_stuck ceiling made last c e l h =
          answered ceiling (made + last) (record { answer = NoOrder left; order = zeros 64 })
          (omega (arith, c.sum, trials_stuck t place (left_of t left) some e)) h (placing_stuck e)

      -- the place takes more trials than the ceiling has left
      pub counted_over : (ceiling made : ℕ) → Tally t ceiling left place made → ceiling - made < trials_at t (left_of t left) → over_ceiling ceiling ≡ counted_from ceiling t
      counted_over ceiling made c h =
          let more : trials_at t (left_of t left) ≤ trials_from t place (left_of t left) = at_least place some in
          rw (lt-ltb ceiling (trial_count t) (omega (arith, c.sum, c.within)))
        where
          at_least : (k : ℕ) → 1 ≤ k → trials_at t (left_of t left) ≤ trials_from t k (left_of t left)
          at_least zero l = absurd (omega arith)
          at_least (suc k) l =
              by_eqb (taker t (left_of t left)) 0
              (λ _ z. omega (arith, trials_stuck t (suc k) (left_of t left) l z))
              (λ _ z. omega (arith, trials_turn t k (left_of t left) z))

      -- row i takes the place
      module _ (i : ℕ) (e : i ≡ taker t (left_of t left)) (n : i ≡ 0 → ⊥) where
        -- it is one of the rows tried: left, and followed by no row left
        taker_tried : In i (left_of t left) × (unfollowed t (left_of t left) i ≡ true)
        unfolding taker
        taker_tried =
            rw e (keep_in (unfollowed t (left_of t left)) (left_of t left) (taker t (left_of t left))
            (first_in (passes t (left_of t left)) (tried t (left_of t left)) (λ z. n (e ∙ z))))

        taker_in : In i (left_of t left)
        taker_in = taker_tried.0

        pub taker_range : (1 ≤ i) × (i ≤ 64)
        taker_range = holds_row left (left_of t left) p.holds i taker_in

        taker_once : count i (left_of t left) ≡ 1
        taker_once = omega (arith, taker_in, holds_once left (left_of t left) p.holds i)

        pub taker_bit : bit left (i - 1) ≡ 1
        taker_bit = p.holds.bits i taker_range.0 ∙ taker_once

        left_less : left_of t (left - 2 ^ (i - 1)) ≡ erase i (left_of t left)
        left_less = keep_without left i taker_range.0 taker_bit (sequence t) (sequence_once t) (sequence_zero t)

        -- the trials of the place are made
        pub tally_turn : (ceiling made last after less : ℕ) → Tally t ceiling left place made → trials_at t (left_of t left) ≡ last → made + last ≤ ceiling
            → after ≡ left - 2 ^ (i - 1) → less ≡ ones after → Tally t ceiling after less (made + last)
        tally_turn ceiling made last after less c l h a z =
            let k = place - 1 in
            let s : place ≡ suc k = omega arith in
            let rows : left_of t after ≡ erase (taker t (left_of t left)) (left_of t left) = ap (left_of t) a ∙ left_less ∙ ap (λ (j : ℕ). erase j (left_of t left)) e in
            let w : less ≡ k = omega (arith, cleared_ones (i - 1) left taker_bit, ap ones a, p.counted) in
            record {
              sum = rw (rows, w) (omega (
                arith,
                c.sum,
                ap (λ (j : ℕ). trials_from t j (left_of t left)) s,
                trials_turn t k (left_of t left) (λ y. n (e ∙ y)),
              ));
              within = h;
            }

        pub placing_turn : (after less : ℕ) → after ≡ left - 2 ^ (i - 1) → less ≡ ones after → Placing t (set order (place - 1) i) after less
        placing_turn after less a c =
            let k = place - 1 in
            let s : place ≡ suc k = omega arith in
            let h : Holds after (erase i (left_of t left)) =
            rw a (holds_without left (left_of t left) i taker_range.0 taker_range.1 p.holds taker_once) in
            let rows : left_of t after ≡ erase i (left_of t left) = rw a left_less in
            let w : less ≡ k = omega (arith, cleared_ones (i - 1) left taker_bit, ap ones a, p.counted) in
            record {
              counted = c;
              few = omega (arith, p.few);
              holds = rw rows h;
              closed = rw rows (lowest_stands t f (left_of t left) known p.closed i taker_in taker_tried.1).0;
              long = length-set order k i ∙ p.long;
              tail = drop-set-lt t.n order k i (omega (arith, p.few)) ∙ p.tail;
              filled = rw (rows, w, placed_more t order k i p.long (omega (arith, p.few)) f.few) (turned k s);
            }
          where
            known : (x : ℕ) → In x (left_of t left) → Row t x
            known x j = rows_in_lem t x (omega (arith, count_keep_le (is_left left) x (sequence t), same_sequence t x))

            turned : (k : ℕ) → place ≡ suc k → fill t k (erase i (left_of t left)) (i ∷ placed_below t order (suc k)) ≡ choice t
            turned k s =
                ap (λ (j : ℕ). fill t k (erase j (left_of t left)) (j ∷ placed_below t order (suc k))) e
                ∙ sym (fill_turn t k (left_of t left) (placed_below t order (suc k)) (λ z. n (e ∙ z)))
                ∙ ap (λ (j : ℕ). fill t j (left_of t left) (placed_below t order j)) (sym s) ∙ p.filled
