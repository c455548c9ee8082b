-- The search for the first entry whose row passes, as the code makes it.
use Rattle.std.specs.Prelude.{ℕ, ◌-◌, ◌^◌, ◌≤◌, ◌<◌, Bool, true, false, ◌≡◌, refl, List, take}
use Rattle.std.proofs.Common.{sym, ap, ◌∙◌, ⊎_elim, arith}
use Rattle.std.specs.Int.Bits.{bit_and, bit_or}
use Rattle.std.proofs.lemmas.Nat.{and_le_l}
use borrow.Author.Tests.{le-leb}
use Rattle.rules.specs.Rows.{at}
use Rattle.theory.specs.Tests.{by-leb, by_eqb}
use Rattle.sweep.specs.Lowest.{lowest_of, lowest_set, lowest_from, lowest_clear}
use Rattle.sweep.specs.Masks.{bit, bit_lt, is_left, left_bit, zero_bit, cleared_same, cleared_other}
use Rattle.periods.specs.Marks.{bit_and_lem, or_left, or_right, by-or}
use Rattle.periods.specs.Busy.{row, LeftAt, finish}
use Rattle.periods.specs.Renewing.{Meets}
use Rattle.periods.specs.Trying.{KnownAt, Renewed, Open, FirstIn, in_time}

module _ (queue : List ℕ) (n : ℕ) (release deadline cap entry : List ℕ) (left : ℕ) where
  abbrev q : List ℕ
  q = take n queue

  abbrev In-time : ℕ → Type 0
  In-time k = Meets (λ j. at release j) (λ j. at cap j) (λ j. at deadline j) (λ j. at entry j) (is_left left) q k

  abbrev passes : ℕ → Bool
  passes i = in_time queue n release deadline cap left i

  abbrev ends : ℕ → ℕ
  ends k = finish (λ j. at release j) (λ j. at cap j) (is_left left) q k

  pub pass : (k : ℕ) → In-time k → passes (row q k) ≡ true
  unfolding in_time
  pass k m = le-leb (ends k) (at deadline (row q k)) m

  pub fail : (k : ℕ) → (In-time k → ⊥) → passes (row q k) ≡ false
  unfolding in_time
  fail k n = by-leb (ends k) (at deadline (row q k)) (λ _ m. absurd (n m)) (λ e _. e)

  -- a busy period that had changed is swept
  pub known_renewed : (old : List ℕ) (changed passing begin : ℕ) → KnownAt queue n release deadline cap entry left old changed passing → bit changed begin ≡ 1
      → (period : List ℕ) (word : ℕ) → Renewed queue n release deadline cap entry left begin old period word
      → KnownAt queue n release deadline cap entry left period (changed - 2 ^ begin) (bit_or passing word)
  known_renewed old changed passing begin known b period word r =
      record {
        groups = r.groups;
        sound = λ k w e. by-or passing word (at entry (row q k)) e (λ x. known.sound k w x) (λ x. r.sound k w x);
        whole = λ k w e m. ⊎_elim
            (λ f. or_right passing word (at entry (row q k)) (f m))
            (λ f. or_left passing word (at entry (row q k)) (known.whole k w
            (sym (cleared_other begin (at old (row q k)) changed b f.1) ∙ ap (bit (changed - 2 ^ begin)) (sym f.0) ∙ e) m))
            (r.whole k w);
        places = λ x e. by_eqb x begin
            (λ _ z. absurd (omega (arith, ap (bit (changed - 2 ^ begin)) z, cleared_same begin changed b)))
            (λ _ z. known.places x (sym (cleared_other begin x changed b z) ∙ e));
      }

  module _ (word : ℕ) (small : word < 2 ^ 64) (stands : Open queue entry n left word) (period : List ℕ) (passing : ℕ) where
    -- no entry
    pub search_none : word ≡ 0 → FirstIn passes queue entry n left word 0
    search_none z =
        record {
          none = λ _ k w b. absurd (omega (arith, ap (λ (m : ℕ). bit m (at entry (row q k))) z, zero_bit (at entry (row q k))));
          found = λ n. absurd (n refl);
        }

    -- an entry of the word whose row is in time, where no earlier one is
    first_found : (e : ℕ) → 1 ≤ e → bit word (e - 1) ≡ 1 → ((k : ℕ) → LeftAt (is_left left) q k → at entry (row q k) ≡ e - 1 → In-time k)
        → ((k : ℕ) → LeftAt (is_left left) q k → bit word (at entry (row q k)) ≡ 1 → at entry (row q k) < e - 1 → In-time k → ⊥)
        → FirstIn passes queue entry n left word e
    first_found e some b this earlier =
        let s = stands (e - 1) b in
        record {
          none = λ z. absurd (omega arith);
          found = λ _. record {
            some = some;
            stands = s;
            inside = b;
            meets = pass s.place (this s.place s.left_at s.is);
            before = λ k w c l. fail k (earlier k w c l);
          };
        }

    -- the first entry is known to pass
    pub search_known : (changed : ℕ) → KnownAt queue n release deadline cap entry left period changed passing → (e : ℕ) → 1 ≤ word → e ≡ lowest_of word
        → is_left passing e ≡ true → FirstIn passes queue entry n left word e
    search_known changed known e some z p =
        let c : lowest_of word - 1 ≡ e - 1 = omega arith in
        first_found e (omega (arith, lowest_from word some small)) (ap (bit word) (sym c) ∙ lowest_set word some small)
        (λ k w x. known.sound k w (ap (bit passing) x ∙ left_bit passing e p))
        (λ k w b l m. omega (arith, b, lowest_clear word some small (at entry (row q k)) (omega arith)))

    -- no busy period has changed: all that pass are known
    module _ (known : KnownAt queue n release deadline cap entry left period 0 passing) where
      passed : (k : ℕ) → LeftAt (is_left left) q k → bit word (at entry (row q k)) ≡ 1 → In-time k → bit (bit_and word passing) (at entry (row q k)) ≡ 1
      passed k w b m =
          omega (arith, bit_and_lem word passing (at entry (row q k)), b, known.whole k w (zero_bit (at period (row q k))) m)

      pub search_failed : bit_and word passing ≡ 0 → FirstIn passes queue entry n left word 0
      search_failed z =
          record {
            none = λ _ k w b. fail k (λ m. omega (arith, passed k w b m, ap (λ (x : ℕ). bit x (at entry (row q k))) z, zero_bit (at entry (row q k))));
            found = λ n. absurd (n refl);
          }

      pub search_found : (e : ℕ) → 1 ≤ bit_and word passing → e ≡ lowest_of (bit_and word passing) → FirstIn passes queue entry n left word e
      search_found e some z =
          let x = bit_and word passing in
          let tiny : x < 2 ^ 64 = omega (arith, and_le_l word passing) in
          let c : lowest_of x - 1 ≡ e - 1 = omega arith in
          let b : bit x (e - 1) ≡ 1 = ap (bit x) (sym c) ∙ lowest_set x some tiny in
          let both = bit_and_lem word passing (e - 1) in
          first_found e (omega (arith, lowest_from x some tiny)) (omega (arith, bit_lt word (e - 1)))
          (λ k w y. known.sound k w (ap (bit passing) y ∙ omega (arith, bit_lt passing (e - 1))))
          (λ k w d l m. omega (arith, passed k w d m, lowest_clear x some tiny (at entry (row q k)) (omega arith)))
