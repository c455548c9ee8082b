-- The entry of each row in the trial sequence, from 0, by row; and the entries of rows that finish together in time, as a word.
use Rattle.std.specs.Prelude.{ℕ, zero, suc, ◌-◌, ◌^◌, ◌≤◌, ◌<◌, Bool, true, false, cond, ◌&&◌, ◌≡◌, refl, List, leb, length, get_or, set}
use Rattle.std.proofs.Common.{sym, ap, ◌∙◌, arith, length-set, get_or-set_same, get_or-set_other, le-leb, leb-true, leb-false}
use Rattle.std.specs.Int.Bits.{bit_or}
use Rattle.std.proofs.Math.ListN.{get_or-eq_default}
use Rattle.std.proofs.lemmas.Bool.{lt-leb}
use Rattle.rules.specs.Rows.{at}
use Rattle.theory.specs.Tests.{by_bool, by-leb, by_eqb}
use Rattle.sweep.specs.Masks.{bit, zero_bit}
use Rattle.sweep.specs.Padded.{zeros, zeros_entry}
use Rattle.periods.specs.Marks.{or_left, or_right, by-or, one_same, one_other}

-- the rows at the first k entries of a sequence know their entry
abbrev pub entries_to : List ℕ → ℕ → List ℕ
entries_to l zero = zeros 64
entries_to l (suc k) = set (entries_to l k) (get_or l k 0 - 1) k

-- every entry is below 64
abbrev pub Entries : List ℕ → Type 0
Entries entry = (j : ℕ) → get_or entry j 0 < 64

module _ (l : List ℕ) where
  pub entries_length : (k : ℕ) → length (entries_to l k) ≡ 64
  entries_length zero = refl
  entries_length (suc k) = length-set (entries_to l k) (get_or l k 0 - 1) k ∙ entries_length k

  pub entries_below : (k : ℕ) → k ≤ 64 → Entries (entries_to l k)
  entries_below zero h j = omega (arith, zeros_entry 64 j)
  entries_below (suc k) h j =
      by_eqb j (get_or l k 0 - 1)
      (λ _ q. by_bool (leb 64 j)
      (λ e. omega (arith, entries_far (suc k) j (leb-true 64 j e)))
      (λ e. omega (
        arith,
        ap (λ (i : ℕ). get_or (set (entries_to l k) (get_or l k 0 - 1) k) i 0) q,
        get_or-set_same (entries_to l k) (get_or l k 0 - 1) k 0 (omega (arith, leb-false 64 j e, entries_length k)),
      )))
      (λ _ q. omega (arith, get_or-set_other (entries_to l k) (get_or l k 0 - 1) j k 0 q, entries_below k (omega arith) j))
    where
      entries_far : (k j : ℕ) → 64 ≤ j → get_or (entries_to l k) j 0 ≡ 0
      entries_far k j h = get_or-eq_default (entries_to l k) 0 {n = j} (omega (arith, entries_length k))

  -- different rows, each from 1 to 64
  module _ (n : ℕ) (range : (k : ℕ) → k < n → get_or l k 0 - 1 < 64) (apart : (i j : ℕ) → i < n → j < n → (i ≡ j → ⊥) → get_or l i 0 - 1 ≡ get_or l j 0 - 1 → ⊥) where
    entries_upto : (k i : ℕ) → k ≤ n → i < k → at (entries_to l k) (get_or l i 0) ≡ i
    entries_upto zero i h q = absurd (omega arith)
    entries_upto (suc k) i h q =
        by_eqb i k
        (λ _ e. rw e (get_or-set_same (entries_to l k) (get_or l k 0 - 1) k 0 (omega (arith, range k (omega arith), entries_length k))))
        (λ _ e. get_or-set_other (entries_to l k) (get_or l k 0 - 1) (get_or l i 0 - 1) k 0 (apart i k (omega arith) (omega arith) e)
        ∙ entries_upto k i (omega arith) (omega arith))

    pub entry_is : (i : ℕ) → i < n → at (entries_to l n) (get_or l i 0) ≡ i
    entry_is i h = entries_upto n i (omega arith) h

module _ (live : ℕ → Bool) (due entry : ℕ → ℕ) (clock : ℕ) (q : List ℕ) where
  -- of the rows left at places first up to end, without the last, those whose deadlines are not before the clock
  abbrev pub timely : ℕ → ℕ → ℕ
  timely first zero = 0
  timely first (suc k) =
      cond (leb first k && (live (get_or q k 0) && leb clock (due (get_or q k 0)))) (bit_or (timely first k) (2 ^ entry (get_or q k 0))) (timely first k)

  -- no place
  pub timely_none : (first k : ℕ) → k ≤ first → timely first k ≡ 0
  timely_none first zero h = refl
  timely_none first (suc k) h = rw (lt-leb first k (omega arith)) (timely_none first k (omega arith))

  -- one place more
  module _ (first k : ℕ) (h : first ≤ k) where
    pub timely_row : live (get_or q k 0) ≡ true → clock ≤ due (get_or q k 0) → timely first (suc k) ≡ bit_or (timely first k) (2 ^ entry (get_or q k 0))
    timely_row e d = rw (le-leb first k h, e, le-leb clock (due (get_or q k 0)) d)

    pub timely_late : due (get_or q k 0) < clock → timely first (suc k) ≡ timely first k
    timely_late d = by_bool (live (get_or q k 0)) (λ e. rw (le-leb first k h, e, lt-leb clock (due (get_or q k 0)) d)) (λ e. rw (le-leb first k h, e))

    pub timely_skip : live (get_or q k 0) ≡ false → timely first (suc k) ≡ timely first k
    timely_skip e = rw (le-leb first k h, e)

  -- an entry of the word is a row's that is in time
  pub record Timely (first end e : ℕ) : Type 0 where
    pub place : ℕ
    pub range : (first ≤ place) × (place < end)
    pub left : live (get_or q place 0) ≡ true
    pub is : entry (get_or q place 0) ≡ e
    pub meets : clock ≤ due (get_or q place 0)

  more : (first k e : ℕ) → Timely first k e → Timely first (suc k) e
  more first k e t = record { place = t.place; range = (t.range.0, omega (arith, t.range.1)); left = t.left; is = t.is; meets = t.meets }

  pub timely_sound : (first end e : ℕ) → bit (timely first end) e ≡ 1 → Timely first end e
  timely_sound first zero e b = absurd (omega (arith, zero_bit e))
  timely_sound first (suc k) e b =
      by-leb first k
      (λ f h. by_bool (live (get_or q k 0))
      (λ g. by-leb clock (due (get_or q k 0))
      (λ i d. by-or (timely first k) (2 ^ entry (get_or q k 0)) e (ap (λ (m : ℕ). bit m e) (sym (timely_row first k h g d)) ∙ b)
      (λ c. more first k e (timely_sound first k e c))
      (λ c. record { place = k; range = (h, omega arith); left = g; is = sym (one_other (entry (get_or q k 0)) e c); meets = d }))
      (λ i d. more first k e (timely_sound first k e (ap (λ (m : ℕ). bit m e) (sym (timely_late first k h d)) ∙ b))))
      (λ g. more first k e (timely_sound first k e (ap (λ (m : ℕ). bit m e) (sym (timely_skip first k h g)) ∙ b))))
      (λ f h. absurd (omega (arith, ap (λ (m : ℕ). bit m e) (timely_none first (suc k) (omega arith)), zero_bit e)))

  -- a row in time has its entry in the word
  pub timely_whole : (first end i : ℕ) → first ≤ i → i < end → live (get_or q i 0) ≡ true → clock ≤ due (get_or q i 0) → bit (timely first end) (entry (get_or q i 0)) ≡ 1
  timely_whole first zero i h l e d = absurd (omega arith)
  timely_whole first (suc k) i h l e d =
      by_eqb i k
      (λ _ z. let g : live (get_or q k 0) ≡ true = rw z at e in
      let c : clock ≤ due (get_or q k 0) = rw z at d in
      rw z (ap (λ (m : ℕ). bit m (entry (get_or q k 0))) (timely_row first k (omega arith) g c)
      ∙ or_right (timely first k) (2 ^ entry (get_or q k 0)) (entry (get_or q k 0)) (one_same (entry (get_or q k 0)))))
      (λ _ z. let r = timely_whole first k i h (omega arith) e d in
      by_bool (live (get_or q k 0))
      (λ g. by-leb clock (due (get_or q k 0))
      (λ _ c. ap (λ (m : ℕ). bit m (entry (get_or q i 0))) (timely_row first k (omega arith) g c)
      ∙ or_left (timely first k) (2 ^ entry (get_or q k 0)) (entry (get_or q i 0)) r)
      (λ _ c. ap (λ (m : ℕ). bit m (entry (get_or q i 0))) (timely_late first k (omega arith) c) ∙ r))
      (λ g. ap (λ (m : ℕ). bit m (entry (get_or q i 0))) (timely_skip first k (omega arith) g) ∙ r))
