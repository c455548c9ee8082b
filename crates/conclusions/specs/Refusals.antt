-- What each number that a table's checks answer says of the table, one check after another, and the first row whose wait is refused (rules 5.10, 11.3).
use Rattle.std.specs.Prelude.{ℕ, zero, suc, ◌≤◌, ◌<◌, Bool, true, false, cond, not, ◌&&◌, List, [], ◌∷◌, ◌++◌, ◌⊎◌, ◌≡◌, refl, ltb, leb, eqb, Ok, Err}
use Rattle.std.proofs.Math.Logic.{inl, inr, ⊎_elim}
use Rattle.std.proofs.Math.Path.{ap}
use Rattle.std.proofs.Common.{◌∙◌}
use native.Mathlib.Omega.{arith}
use Rattle.rules.specs.declared.Table.{Table}
use Rattle.rules.specs.declared.Refusal.{Refusal}
use Rattle.rules.specs.Checks.{Check, Passed, Refused}
use Rattle.rules.specs.Lists.{all, rows_to}
use Rattle.rules.specs.Numbers.{refusal_number, check_number}
use Rattle.rules.specs.Rows.{at, rows_of, release_of, follows_of}
use Rattle.rules.specs.Tables.{count_ok, speeds_ok, loading_ok, row_ok, promise_ok, and_then, check_wait, check_waits, tail_ok, check_table}
use Rattle.theory.specs.Tests.{by_bool, by_eqb, by-leb, by-ltb}
use Rattle.conclusions.specs.Conclusions.{WaitWithin}

pub number_cond : (b : Bool) (x y : Check) → check_number (cond b x y) ≡ cond b (check_number x) (check_number y)
number_cond true x y = refl
number_cond false x y = refl

-- the numbers of waits
abbrev pub WaitNumber : ℕ → Type 0
WaitNumber k = (k ≡ 0) ⊎ ((13 ≤ k) × (k ≤ 15))

-- ---- one row's wait: what its number says of the row's figures and of those of the row that it follows
pub record WaitSays (i w a b level followed k : ℕ) : Type 0 where
  pub known : WaitNumber k
  pub within : k ≡ 0 → WaitWithin i w a b level followed
  pub thirteen : k ≡ 13 → (1 ≤ w) × (i ≤ w)
  pub fourteen : k ≡ 14 → (1 ≤ w) × (w < i) × (a < b)
  pub fifteen : k ≡ 15 → (1 ≤ w) × (w < i) × (b ≤ a) × (level ≡ 0 → ⊥) × (followed ≡ 0)

module _ (i w a b level followed : ℕ) where
  abbrev wait_number : ℕ
  wait_number = cond (ltb 0 w) (cond (ltb w i) (cond (leb b a) (cond (not (eqb level 0) && eqb followed 0) 15 0) 14) 13) 0

  abbrev Says : ℕ → Type 0
  Says = WaitSays i w a b level followed

  passes : WaitWithin i w a b level followed → Says 0
  passes p =
      record {
        known = inl refl;
        within = λ _. p;
        thirteen = λ e. absurd (omega arith);
        fourteen = λ e. absurd (omega arith);
        fifteen = λ e. absurd (omega arith);
      }

  wait_says : Says wait_number
  wait_says =
      by-ltb 0 w
      (λ c1 some. by-ltb w i
      (λ c2 lower. by-leb b a
      (λ c3 early. by_eqb level 0
      (λ c4 low. rw (c1, c2, c3, c4) (passes (record { lower = λ _. lower; no_later = λ _. early; high = λ _ n. absurd (n low) })))
      (λ c4 high. by_eqb followed 0
      (λ c5 low. rw (c1, c2, c3, c4, c5) (record {
        known = inr (omega arith, omega arith);
        within = λ e. absurd (omega arith);
        thirteen = λ e. absurd (omega arith);
        fourteen = λ e. absurd (omega arith);
        fifteen = λ _. (some, lower, early, high, low);
      }))
      (λ c5 both. rw (c1, c2, c3, c4, c5) (passes (record { lower = λ _. lower; no_later = λ _. early; high = λ _ _ z. both z })))))
      (λ c3 late. rw (c1, c2, c3) (record {
        known = inr (omega arith, omega arith);
        within = λ e. absurd (omega arith);
        thirteen = λ e. absurd (omega arith);
        fourteen = λ _. (some, lower, late);
        fifteen = λ e. absurd (omega arith);
      })))
      (λ c2 not_lower. rw (c1, c2) (record {
        known = inr (omega arith, omega arith);
        within = λ e. absurd (omega arith);
        thirteen = λ _. (some, not_lower);
        fourteen = λ e. absurd (omega arith);
        fifteen = λ e. absurd (omega arith);
      })))
      (λ c1 none. rw c1 (passes (record {
        lower = λ some. absurd (omega arith);
        no_later = λ some. absurd (omega arith);
        high = λ some. absurd (omega arith);
      })))

module _ (t : Table) where
  -- row i's wait
  abbrev pub RowSays : ℕ → ℕ → Type 0
  RowSays i = let w = follows_of t i in WaitSays i w (release_of t i) (release_of t w) (at t.level i) (at t.level w)

  pub row_says : (i : ℕ) → RowSays i (check_number (check_wait t i))
  unfolding check_wait check_number refusal_number
  row_says i =
      let w = follows_of t i in
      simp number_cond (wait_says i w (release_of t i) (release_of t w) (at t.level i) (at t.level w))

  -- ---- the waits of rows 1 to n: all pass, or there is a first row whose wait is refused
  pub record Refusing (n : ℕ) : Type 0 where
    pub row : ℕ
    pub why : Refusal
    pub from : 1 ≤ row
    pub up_to : row ≤ n
    pub before : (j : ℕ) → 1 ≤ j → j < row → check_wait t j ≡ Passed
    pub here : check_wait t row ≡ Refused why
    pub whole : check_waits t (rows_to n) ≡ Refused why

  pub record Passing (n : ℕ) : Type 0 where
    pub each : (j : ℕ) → 1 ≤ j → j ≤ n → check_wait t j ≡ Passed
    pub whole : check_waits t (rows_to n) ≡ Passed

  -- one row more after those of a list
  waits_last : (a : List ℕ) (i : ℕ) → check_waits t (a ++ (i ∷ [])) ≡ and_then (check_waits t a) (check_wait t i)
  waits_last [] i = go (check_wait t i)
    where
      go : (c : Check) → and_then c Passed ≡ c
      go (Ok tt) = refl
      go (Err r) = refl
  waits_last (j ∷ a) i = go (check_wait t j) (waits_last a i)
    where
      go : (c : Check) → check_waits t (a ++ (i ∷ [])) ≡ and_then (check_waits t a) (check_wait t i)
          → and_then c (check_waits t (a ++ (i ∷ []))) ≡ and_then (and_then c (check_waits t a)) (check_wait t i)
      go (Ok tt) e = e
      go (Err r) e = refl

  waits_say : (n : ℕ) → Passing n ⊎ Refusing n
  waits_say zero = inl (record { each = λ j l h. absurd (omega arith); whole = refl })
  waits_say (suc n) = ⊎_elim (λ p. one_more p (check_wait t (suc n)) refl) (λ r. inr (refused r)) (waits_say n)
    where
      more : Passing n → check_waits t (rows_to (suc n)) ≡ check_wait t (suc n)
      more p = waits_last (rows_to n) (suc n) ∙ ap (λ (c : Check). and_then c (check_wait t (suc n))) p.whole

      one_more : Passing n → (c : Check) → check_wait t (suc n) ≡ c → Passing (suc n) ⊎ Refusing (suc n)
      one_more p (Ok tt) e =
          inl (record {
            each = λ j l h. by_eqb j (suc n) (λ _ q. rw q e) (λ _ q. p.each j l (omega arith));
            whole = more p ∙ e;
          })
      one_more p (Err r) e =
          inr (record {
            row = suc n;
            why = r;
            from = omega arith;
            up_to = omega arith;
            before = λ j l h. p.each j l (omega arith);
            here = e;
            whole = more p ∙ e;
          })

      refused : Refusing n → Refusing (suc n)
      refused r =
          record {
            row = r.row;
            why = r.why;
            from = r.from;
            up_to = omega (arith, r.up_to);
            before = r.before;
            here = r.here;
            whole = waits_last (rows_to n) (suc n) ∙ ap (λ (c : Check). and_then c (check_wait t (suc n))) r.whole;
          }

  abbrev pub of_waits : ℕ
  of_waits = check_number (check_waits t (rows_of t))

  waits_known : WaitNumber of_waits
  unfolding check_number
  waits_known =
      ⊎_elim
      (λ p. inl (ap check_number p.whole))
      (λ r. rw r.whole (rw r.here at (row_says r.row).known))
      (waits_say t.n)

  -- the first row that is refused gives the number
  pub first_refused : 13 ≤ of_waits → Refusing t.n
  unfolding check_number
  first_refused h = ⊎_elim (λ p. absurd (omega (arith, ap check_number p.whole))) (λ r. r) (waits_say t.n)

  pub says_waits : (r : Refusing t.n) → RowSays r.row of_waits
  says_waits r = rw r.whole (rw r.here at (row_says r.row))

  -- ---- the whole table
  abbrev pub rows : Bool
  rows = all (row_ok t) (rows_of t) && tail_ok t

  abbrev pub parts : Bool
  parts = all (promise_ok t) (rows_of t)

  -- what a number says of the tests before it and of its own
  pub record TableSays (k : ℕ) : Type 0 where
    pub known : (k ≡ 0) ⊎ ((3 ≤ k) × (k ≤ 5)) ⊎ ((11 ≤ k) × (k ≤ 15))
    pub three : k ≡ 3 → count_ok t.n ≡ false
    pub four : k ≡ 4 → speeds_ok t.normal t.degraded ≡ false
    pub eleven : k ≡ 11 → loading_ok t.loading ≡ false
    pub five : k ≡ 5 → (count_ok t.n ≡ true) × (rows ≡ false)
    pub twelve : k ≡ 12 → (count_ok t.n ≡ true) × (rows ≡ true) × (parts ≡ false)
    pub waits : 13 ≤ k → (count_ok t.n ≡ true) × (rows ≡ true) × (parts ≡ true) × (k ≡ of_waits)

  -- the waits, once all else passed
  waits_told : count_ok t.n ≡ true → rows ≡ true → parts ≡ true → TableSays of_waits
  waits_told count all_rows all-parts =
      record {
        known = ⊎_elim (λ z. inl z) (λ h. inr (inr (omega (arith, h.0), h.1))) waits_known;
        three = λ e. absurd (none 3 (omega arith) (omega arith) e);
        four = λ e. absurd (none 4 (omega arith) (omega arith) e);
        eleven = λ e. absurd (none 11 (omega arith) (omega arith) e);
        five = λ e. absurd (none 5 (omega arith) (omega arith) e);
        twelve = λ e. absurd (none 12 (omega arith) (omega arith) e);
        waits = λ _. (count, all_rows, all-parts, refl);
      }
    where
      none : (k : ℕ) → 1 ≤ k → k ≤ 12 → of_waits ≡ k → ⊥
      none k l h e = ⊎_elim (λ z. omega arith) (λ w. omega (arith, w.0)) waits_known

  pub table_says : TableSays (check_number (check_table t))
  unfolding check_table check_number refusal_number
  table_says =
      by_bool (count_ok t.n)
      (λ e1. by_bool (speeds_ok t.normal t.degraded)
      (λ e2. by_bool (loading_ok t.loading)
      (λ e3. by_bool rows
      (λ e4. by_bool parts
      (λ e5. rw (e1, e2, e3, e4, e5) (waits_told e1 e4 e5))
      (λ e5. rw (e1, e2, e3, e4, e5) (record {
        known = inr (inr (omega arith, omega arith));
        three = λ e. absurd (omega arith);
        four = λ e. absurd (omega arith);
        eleven = λ e. absurd (omega arith);
        five = λ e. absurd (omega arith);
        twelve = λ _. (e1, e4, e5);
        waits = λ h. absurd (omega arith);
      })))
      (λ e4. rw (e1, e2, e3, e4) (record {
        known = inr (inl (omega arith, omega arith));
        three = λ e. absurd (omega arith);
        four = λ e. absurd (omega arith);
        eleven = λ e. absurd (omega arith);
        five = λ _. (e1, e4);
        twelve = λ e. absurd (omega arith);
        waits = λ h. absurd (omega arith);
      })))
      (λ e3. rw (e1, e2, e3) (record {
        known = inr (inr (omega arith, omega arith));
        three = λ e. absurd (omega arith);
        four = λ e. absurd (omega arith);
        eleven = λ _. e3;
        five = λ e. absurd (omega arith);
        twelve = λ e. absurd (omega arith);
        waits = λ h. absurd (omega arith);
      })))
      (λ e2. rw (e1, e2) (record {
        known = inr (inl (omega arith, omega arith));
        three = λ e. absurd (omega arith);
        four = λ _. e2;
        eleven = λ e. absurd (omega arith);
        five = λ e. absurd (omega arith);
        twelve = λ e. absurd (omega arith);
        waits = λ h. absurd (omega arith);
      })))
      (λ e1. rw e1 (record {
        known = inr (inl (omega arith, omega arith));
        three = λ _. e1;
        four = λ e. absurd (omega arith);
        eleven = λ e. absurd (omega arith);
        five = λ e. absurd (omega arith);
        twelve = λ e. absurd (omega arith);
        waits = λ h. absurd (omega arith);
      }))

  -- no number of a table's checks is one that another check says later
  pub not_later : (k : ℕ) → 6 ≤ k → k ≤ 10 → check_number (check_table t) ≡ k → ⊥
  not_later k l h e = ⊎_elim (λ z. omega arith) (⊎_elim (λ w. omega (arith, w.1)) (λ w. omega (arith, w.0))) table_says.known
