-- The search among LO entries: those in time at the normal speed are asked for their promised parts one after the other.
use Rattle.std.specs.Prelude.{ℕ, ◌-◌, ◌^◌, ◌≤◌, ◌<◌, Bool, true, false, ◌&&◌, ◌≡◌, refl, List, take, get_or, length}
use Rattle.std.proofs.Common.{sym, ap, ◌∙◌, arith, get_or-take, length-take-le}
use Rattle.rules.specs.Rows.{at}
use Rattle.theory.specs.Tests.{by_eqb, and_both, and_false}
use Rattle.sweep.specs.Masks.{bit, bit_lt, zero_bit, is_left, cleared_same, cleared_other}
use Rattle.sweep.specs.Padded.{Rows, rows_within}
use Rattle.periods.specs.Busy.{row, LeftAt}
use Rattle.periods.specs.Trying.{Speed, Parts, Stands, Open, Found, FirstIn}

module _ (first second : ℕ → Bool) (queue entry : List ℕ) (n left : ℕ) where
  abbrev both : ℕ → Bool
  both i = first i && second i

  abbrev q : List ℕ
  q = take n queue

  abbrev seat : ℕ → ℕ
  seat k = at entry (row q k)

  -- of the entries of a word, those still to be asked are in `asked`, and the rows of all others fail
  pub record Asking (word asked : ℕ) : Type 0 where
    pub among : (x : ℕ) → bit asked x ≡ 1 → bit word x ≡ 1
    pub failed : (k : ℕ) → LeftAt (is_left left) q k → bit word (seat k) ≡ 1 → bit asked (seat k) ≡ 0 → both (row q k) ≡ false

  fails_first : (i : ℕ) → first i ≡ false → both i ≡ false
  fails_first i e = rw e

  fails_second : (i : ℕ) → second i ≡ false → both i ≡ false
  fails_second i e = rw (e, and_false)

  -- an entry is asked or not
  by-asked {ℓ} : {P : Type ℓ} (asked x : ℕ) → (bit asked x ≡ 1 → P) → (bit asked x ≡ 0 → P) → P
  by-asked asked x f g = by_eqb (bit asked x) 0 (λ _ z. g z) (λ _ z. f (omega (arith, bit_lt asked x)))

  pub asking_start : (word : ℕ) → Asking word word
  asking_start word = record { among = λ x b. b; failed = λ k w b z. absurd (omega (arith, b, z)) }

  pub asked_open : (word asked : ℕ) → Asking word asked → Open queue entry n left word → Open queue entry n left asked
  asked_open word asked a o x b = o x (a.among x b)

  module _ (word asked : ℕ) (a : Asking word asked) where
    -- none of those asked is in time
    pub none_first : FirstIn first queue entry n left asked 0 → FirstIn both queue entry n left word 0
    none_first f =
        record {
          none = λ z k w b. by-asked asked (seat k)
              (λ c. fails_first (row q k) (f.none refl k w c))
              (λ c. a.failed k w b c);
          found = λ z. absurd (z refl);
        }

    -- none is left to ask
    pub none_asked : asked ≡ 0 → FirstIn both queue entry n left word 0
    none_asked z =
        record {
          none = λ _ k w b. a.failed k w b (ap (λ (m : ℕ). bit m (seat k)) z ∙ zero_bit (seat k));
          found = λ z. absurd (z refl);
        }

    module _ (e : ℕ) (some : e ≡ 0 → ⊥) (f : FirstIn first queue entry n left asked e) where
      abbrev there : Found first queue entry n left asked e
      there = f.found some

      -- the entry found has its part
      pub part_found : second (row q there.stands.place) ≡ true → FirstIn both queue entry n left word e
      part_found p =
          record {
            none = λ z. absurd (some z);
            found = λ _. record {
              some = there.some;
              stands = there.stands;
              inside = a.among (e - 1) there.inside;
              meets = and_both (first (row q there.stands.place)) (second (row q there.stands.place)) there.meets p;
              before = λ k w b l. by-asked asked (seat k)
                  (λ c. fails_first (row q k) (there.before k w c l))
                  (λ c. a.failed k w b c);
            };
          }

      -- it has not, and is asked no more
      pub part_failed : ((i j : ℕ) → i < length q → j < length q → seat i ≡ seat j → i ≡ j) → second (row q there.stands.place) ≡ false
          → Asking word (asked - 2 ^ (e - 1))
      part_failed single p =
          let s = there.stands in
          let b = there.inside in
          record {
            among = λ x c. by_eqb x (e - 1)
                (λ _ y. absurd (omega (arith, ap (bit (asked - 2 ^ (e - 1))) y, cleared_same (e - 1) asked b)))
                (λ _ y. a.among x (sym (cleared_other (e - 1) x asked b y) ∙ c));
            failed = λ k w c z. by_eqb (seat k) (e - 1)
                (λ _ y. let i = single k s.place w.0 s.left_at.0 (y ∙ sym s.is) in
                fails_second (row q k) (ap (λ (j : ℕ). second (row q j)) i ∙ p))
                (λ _ y. a.failed k w c (sym (cleared_other (e - 1) (seat k) asked b y) ∙ z));
          }

-- a place of the queue has a row number
pub row_range : (queue : List ℕ) (n : ℕ) → Rows queue n → (k : ℕ) → k < length (take n queue) → (1 ≤ row (take n queue) k) × (row (take n queue) k ≤ 64)
row_range queue n rows k h =
    let l = length-take-le n queue (rows_within queue n rows) in
    let r = rows k (omega arith) in
    let e : row (take n queue) k ≡ get_or queue k 0 = get_or-take n queue k 0 (omega arith) in
    (omega (arith, e, r.0), omega (arith, e, r.1))

-- the row at the entry found, as the trial sequence has it
module _ (queue : List ℕ) (n : ℕ) (release cap degraded part sequence entry : List ℕ) (left : ℕ) (s : Speed queue n release cap entry)
    (p : Parts queue n release degraded part sequence entry) (e : ℕ) (st : Stands queue entry n left (e - 1)) where
  pub seat_row : get_or sequence (e - 1) 0 ≡ row (take n queue) st.place
  seat_row = ap (λ (x : ℕ). get_or sequence x 0) (sym st.is) ∙ p.seats st.place st.left_at.0

  pub seat_range : 1 ≤ e → e - 1 < 64
  seat_range h = omega (arith, st.is, s.entries (row (take n queue) st.place - 1))
