-- The entries that are tried at a place, as a word: those of the rows left, without those of rows that a row left follows (rule 4.11).
use Rattle.std.specs.Prelude.{ℕ, zero, suc, ◌+◌, ◌-◌, ◌^◌, ◌≤◌, ◌<◌, Bool, true, false, cond, ◌&&◌, List, ◌≡◌, eqb, ltb, get_or}
use Rattle.std.proofs.Common.{sym, ap, ◌∙◌, add-one, arith, lt-ltb, le-ltb}
use Rattle.rules.specs.Rows.{at}
use Rattle.theory.specs.Tests.{by_bool, by_eqb, by-ltb}
use Rattle.sweep.specs.Masks.{bit, bit_lt, is_left, cleared_same, cleared_other}

-- a word without this bit
abbrev pub cleared : ℕ → ℕ → ℕ
cleared m x = cond (eqb (bit m x) 1) (m - 2 ^ x) m

pub clear_same : (m x : ℕ) → bit (cleared m x) x ≡ 0
clear_same m x = by_eqb (bit m x) 1 (λ e q. rw e (cleared_same x m q)) (λ e q. rw e (omega (arith, bit_lt m x)))

pub clear_other : (m x y : ℕ) → (y ≡ x → ⊥) → bit (cleared m x) y ≡ bit m y
clear_other m x y n = by_eqb (bit m x) 1 (λ e q. rw e (cleared_other x y m q n)) (λ e q. rw e)

-- as code finds it, with its entry from 1
pub cleared_set : (m seat : ℕ) → is_left m seat ≡ true → cleared m (seat - 1) ≡ m - 2 ^ (seat - 1)
cleared_set m seat e = rw e

pub cleared_unset : (m seat : ℕ) → is_left m seat ≡ false → cleared m (seat - 1) ≡ m
cleared_unset m seat e = rw e

module _ (follows entry : List ℕ) (left unplaced : ℕ) where
  -- the row at index k is left and follows a row
  abbrev follower : ℕ → Bool
  follower k = ltb 0 (get_or follows k 0) && is_left left (k + 1)

  -- the entry of the row that it follows
  abbrev seat : ℕ → ℕ
  seat k = at entry (get_or follows k 0)

  -- the unplaced entries, without those of rows that one of the first k rows follows
  abbrev pub open_to : ℕ → ℕ
  open_to zero = unplaced
  open_to (suc k) = cond (follower k) (cleared (open_to k) (seat k)) (open_to k)

  -- one row more
  pub open_follower : (k : ℕ) → 1 ≤ get_or follows k 0 → is_left left (k + 1) ≡ true → open_to (k + 1) ≡ cleared (open_to k) (seat k)
  open_follower k h e = rw (add-one k) (let z : follower k ≡ true = rw (lt-ltb 0 (get_or follows k 0) h, e) in rw z)

  pub open_other : (k : ℕ) → get_or follows k 0 ≡ 0 → open_to (k + 1) ≡ open_to k
  open_other k h = rw (add-one k) (let z : follower k ≡ false = rw (le-ltb 0 (get_or follows k 0) (omega arith)) in rw z)

  pub open_placed : (k : ℕ) → is_left left (k + 1) ≡ false → open_to (k + 1) ≡ open_to k
  open_placed k e = rw (add-one k) (let z : follower k ≡ false = by_bool (ltb 0 (get_or follows k 0)) (λ d. rw (d, e)) (λ d. rw d) in rw z)

  -- no more than the unplaced ones
  pub open_most : (k : ℕ) → open_to k ≤ unplaced
  open_most zero = omega arith
  open_most (suc k) =
      let m = open_most k in
      by_bool (follower k)
      (λ e. rw e (by_eqb (bit (open_to k) (seat k)) 1 (λ f _. rw f (omega arith)) (λ f _. rw f m)))
      (λ e. rw e m)

  -- which entries it holds
  pub open_inside : (k x : ℕ) → bit (open_to k) x ≡ 1 → bit unplaced x ≡ 1
  open_inside zero x b = b
  open_inside (suc k) x b =
      by_bool (follower k)
      (λ e. by_eqb x (seat k)
      (λ _ q. let z : bit (cleared (open_to k) (seat k)) x ≡ 1 = rw e at b in absurd (omega (arith, z, ap (bit (cleared (open_to k) (seat k))) q, clear_same (open_to k) (seat k))))
      (λ _ q. let z : bit (cleared (open_to k) (seat k)) x ≡ 1 = rw e at b in open_inside k x (sym (clear_other (open_to k) (seat k) x q) ∙ z)))
      (λ e. open_inside k x (rw e at b))

  pub open_clear : (k j : ℕ) → j < k → 1 ≤ get_or follows j 0 → is_left left (j + 1) ≡ true → bit (open_to k) (seat j) ≡ 1 → ⊥
  open_clear zero j h w l b = omega arith
  open_clear (suc k) j h w l b =
      by_eqb j k
      (λ _ q. let f : follower k ≡ true = rw (← q, lt-ltb 0 (get_or follows j 0) w, l) in
      let z : bit (cleared (open_to k) (seat k)) (seat j) ≡ 1 = rw f at b in
      omega (arith, z, ap (λ (x : ℕ). bit (cleared (open_to k) (seat k)) (seat x)) q, clear_same (open_to k) (seat k)))
      (λ _ q. by_bool (follower k)
      (λ e. by_eqb (seat j) (seat k)
      (λ _ p. let z : bit (cleared (open_to k) (seat k)) (seat j) ≡ 1 = rw e at b in omega (arith, z, ap (bit (cleared (open_to k) (seat k))) p, clear_same (open_to k) (seat k)))
      (λ _ p. let z : bit (cleared (open_to k) (seat k)) (seat j) ≡ 1 = rw e at b in open_clear k j (omega arith) w l (sym (clear_other (open_to k) (seat k) (seat j) p) ∙ z)))
      (λ e. open_clear k j (omega arith) w l (rw e at b)))

  pub open_whole : (k x : ℕ) → bit unplaced x ≡ 1 → ((j : ℕ) → j < k → 1 ≤ get_or follows j 0 → is_left left (j + 1) ≡ true → seat j ≡ x → ⊥) → bit (open_to k) x ≡ 1
  open_whole zero x b h = b
  open_whole (suc k) x b h =
      let r = open_whole k x b (λ j l. h j (omega arith)) in
      by-ltb 0 (get_or follows k 0)
      (λ e w. by_bool (is_left left (k + 1))
      (λ d. rw (e, d) (clear_other (open_to k) (seat k) x (λ q. h k (omega arith) w d (sym q)) ∙ r))
      (λ d. rw (e, d) r))
      (λ e w. rw e r)
