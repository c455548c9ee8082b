-- How many entries of a word stand below one, and the first entries of a word, no more than a ceiling has left (rule 23.6).
use Rattle.std.specs.Prelude.{ℕ, zero, suc, ◌+◌, ◌-◌, ◌/◌, ◌%◌, ◌^◌, ◌≤◌, ◌<◌, Bool, cond, List, [], ◌∷◌, ◌⊎◌, ◌≡◌, refl, length, get_or, take}
use Rattle.std.proofs.Common.{inl, inr, sym, ap, ◌∙◌, pow-suc, mod-eq_of_lt, arith, pow_pos}
use Rattle.std.specs.Int.Bits.{bit_and, and_step, and_zero_r}
use Rattle.std.proofs.lemmas.Nat.{and_mask}
use Rattle.std.specs.Int.Count.{ones, ones_step}
use Rattle.rules.specs.Lists.{keep}
use Rattle.theory.specs.Tests.{by_bool, by-ltb}
use Rattle.sweep.specs.Masks.{bit, bit_zero, bit_suc, bit_lt, full_bit, full_above}
use Rattle.periods.specs.Marks.{bit_and_lem}

-- how many of the entries in a word are below entry k, from 0
abbrev pub below : ℕ → ℕ → ℕ
below w k = ones (bit_and w (2 ^ k - 1))

below_step : (w k : ℕ) → below w (suc k) ≡ w % 2 + below (w / 2) k
below_step w k =
    let m = 2 ^ suc k - 1 in
    let half : m / 2 ≡ 2 ^ k - 1 = omega (arith, pow-suc 2 k, pow_pos k) in
    let odd : m % 2 ≡ 1 = omega (arith, pow-suc 2 k, pow_pos k) in
    let s = and_step w m in
    let h : bit_and w m / 2 ≡ bit_and (w / 2) (2 ^ k - 1) = omega (arith, s, ap (bit_and (w / 2)) half) in
    let o : bit_and w m % 2 ≡ w % 2 = omega (arith, s) in
    omega (arith, ones_step (bit_and w m), ap ones h)

pub below_none : (w : ℕ) → below w 0 ≡ 0
unfolding ones
below_none w = let e : bit_and w (2 ^ 0 - 1) ≡ 0 = and_zero_r w in rw e

-- the entry at k is one more
pub below_more : (w k : ℕ) → below w (suc k) ≡ below w k + bit w k
below_more w zero = omega (arith, below_step w 0, below_none w, below_none (w / 2), bit_zero w)
below_more w (suc k) = omega (arith, below_step w (suc k), below_step w k, below_more (w / 2) k, bit_suc w k)

pub below_rises : (w k m : ℕ) → below w k ≤ below w (k + m)
below_rises w k zero = let e : k + 0 ≡ k = omega arith in omega (arith, ap (below w) e)
below_rises w k (suc m) = let e : k + suc m ≡ suc (k + m) = omega arith in omega (arith, ap (below w) e, below_more w (k + m), below_rises w k m)

-- where no entry is from k on
pub below_ends : (w k m : ℕ) → ((x : ℕ) → k ≤ x → bit w x ≡ 0) → below w (k + m) ≡ below w k
below_ends w k zero h = let e : k + 0 ≡ k = omega arith in ap (below w) e
below_ends w k (suc m) h =
    let e : k + suc m ≡ suc (k + m) = omega arith in
    omega (arith, ap (below w) e, below_more w (k + m), h (k + m) (omega arith), below_ends w k m h)

pub below_all : (w k : ℕ) → w < 2 ^ k → below w k ≡ ones w
below_all w k h = ap ones (and_mask w k ∙ mod-eq_of_lt h)

pub below_most : (k w : ℕ) → below w k ≤ ones w
below_most zero w = omega (arith, below_none w)
below_most (suc k) w = omega (arith, below_step w k, ones_step w, below_most k (w / 2))

-- the entries of a list whose row passes a test, in the word

keep_more : (q : ℕ → Bool) (l : List ℕ) (k : ℕ) → k < length l → length (keep q (take (suc k) l)) ≡ length (keep q (take k l)) + cond (q (get_or l k 0)) 1 0
keep_more q [] k h = absurd (omega arith)
keep_more q (x ∷ l) zero h = by_bool (q x) (λ e. rw e) (λ e. rw e)
keep_more q (x ∷ l) (suc k) h =
    let r = keep_more q l k (omega arith) in
    by_bool (q x) (λ e. rw e (omega (arith, r))) (λ e. rw e r)

pub below_keep : (q : ℕ → Bool) (l : List ℕ) (w k : ℕ) → k ≤ length l → ((x : ℕ) → x < k → bit w x ≡ cond (q (get_or l x 0)) 1 0)
    → below w k ≡ length (keep q (take k l))
below_keep q l w zero h b = below_none w
below_keep q l w (suc k) h b =
    omega (arith, below_more w k, b k (omega arith), keep_more q l k h, below_keep q l w k (omega arith) (λ x g. b x (omega arith)))

-- the first entries of a word: all of them, or as many as are allowed, where they are more
pub record FirstOf (word most r : ℕ) : Type 0 where
  pub bound : ℕ
  pub part : r ≡ bit_and word (2 ^ bound - 1)
  pub few : ones r ≤ most
  pub whole : (r ≡ word) ⊎ ((ones r ≡ most) × (most < ones word))

module _ (word most r : ℕ) (f : FirstOf word most r) where
  pub first_below : (x : ℕ) → x < f.bound → bit r x ≡ bit word x
  first_below x h =
      omega (arith, ap (λ (m : ℕ). bit m x) f.part, bit_and_lem word (2 ^ f.bound - 1) x, full_bit f.bound x h, bit_lt word x)

  pub first_above : (x : ℕ) → f.bound ≤ x → bit r x ≡ 0
  first_above x h = omega (arith, ap (λ (m : ℕ). bit m x) f.part, bit_and_lem word (2 ^ f.bound - 1) x, full_above f.bound x h)

  pub first_within : (x : ℕ) → bit r x ≡ 1 → x < f.bound
  first_within x b = by-ltb x f.bound (λ _ h. h) (λ _ h. absurd (omega (arith, first_above x h)))

  -- an entry that is allowed is one of the word's
  pub first_inside : (x : ℕ) → bit r x ≡ 1 → bit word x ≡ 1
  first_inside x b = sym (first_below x (first_within x b)) ∙ b

-- all of them
pub first_all : (word most : ℕ) → word < 2 ^ 64 → ones word ≤ most → FirstOf word most word
first_all word most h l = record { bound = 64; part = sym (and_mask word 64 ∙ mod-eq_of_lt h); few = l; whole = inl refl }

-- as many as are allowed
pub first_some : (word most seat : ℕ) → most < ones word → below word seat ≡ most → FirstOf word most (bit_and word (2 ^ seat - 1))
first_some word most seat h e = record { bound = seat; part = refl; few = omega (arith, e); whole = inr (e, h) }
