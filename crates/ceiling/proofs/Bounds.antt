-- What is so of the count of trials and of every ceiling (rules 23.3 to 23.10).
use Rattle.std.specs.Prelude.{ℕ, zero, suc, ◌+◌, ◌*◌, ◌≤◌, ◌<◌, Bool, ◌≡◌, refl, List, [], ◌∷◌, length, Ok, Err}
use Rattle.std.proofs.Common.{sym, ap, ◌∙◌, suc-mul, mul-suc, arith}
use borrow.Author.Tests.{eq-eqb, ne_eqb, le-ltb, lt-ltb}
use Rattle.rules.specs.declared.Table.{Table}
use Rattle.rules.specs.Checks.{Check, Passed}
use Rattle.rules.specs.Lists.{keep, erase}
use Rattle.rules.specs.Rows.{rows_of}
use Rattle.rules.specs.Numbers.{refusal_number, planned_number}
use Rattle.rules.specs.Tables.{check_table, Accepted}
use Rattle.rules.specs.Choice.{sequence, unfollowed, tried, passes, taker, choice, plan_from, plan_checked, plan_of}
use Rattle.theory.specs.Tests.{by_bool, by_eqb, by-ltb}
use Rattle.theory.specs.Counts.{In, first_in, length_erase, same_size}
use Rattle.theory.specs.Places.{length_rows}
use Rattle.theory.proofs.Choosing.{same_sequence, keep_in}
use Rattle.ceiling.specs.declared.Counted.{Counted}
use Rattle.ceiling.specs.Ceiling.{up_to_first, trials_at, trials_from, trial_count, most_trials, over_ceiling, counted_checked, plan_within}

-- the count

pub up_to_length : (p : ℕ → Bool) (l : List ℕ) → up_to_first p l ≤ length l
up_to_length p [] = omega arith
up_to_length p (x ∷ l) = by_bool (p x) (λ e. rw e (omega arith)) (λ e. rw e (omega (arith, up_to_length p l)))

keep_length : (p : ℕ → Bool) (l : List ℕ) → length (keep p l) ≤ length l
keep_length p [] = omega arith
keep_length p (x ∷ l) = by_bool (p x) (λ e. rw e (omega (arith, keep_length p l))) (λ e. rw e (omega (arith, keep_length p l)))

-- a place takes no more trials than rows are left
trials_left : (t : Table) (left : List ℕ) → trials_at t left ≤ length left
unfolding trials_at
trials_left t left = omega (arith, up_to_length (passes t left) (tried t left), keep_length (unfollowed t left) left)

-- the row that takes a place is one of those left
taker_left : (t : Table) (left : List ℕ) → (taker t left ≡ 0 → ⊥) → In (taker t left) left
unfolding taker
taker_left t left n = (keep_in (unfollowed t left) left (taker t left) (first_in (passes t left) (tried t left) n)).0

-- one place of the count

pub trials_none : (t : Table) (left : List ℕ) → trials_from t 0 left ≡ 0
unfolding trials_from
trials_none t left = refl

pub trials_stuck : (t : Table) (k : ℕ) (left : List ℕ) → 1 ≤ k → taker t left ≡ 0 → trials_from t k left ≡ trials_at t left
unfolding trials_from
trials_stuck t zero left h e = absurd (omega arith)
trials_stuck t (suc k) left h e = rw (eq-eqb (taker t left) 0 e) (omega arith)

pub trials_turn : (t : Table) (k : ℕ) (left : List ℕ) → (taker t left ≡ 0 → ⊥) → trials_from t (suc k) left ≡ trials_at t left + trials_from t k (erase (taker t left) left)
unfolding trials_from
trials_turn t k left n = rw (ne_eqb (taker t left) 0 n)

-- twice the sum of the numbers up to k
abbrev twice : ℕ → ℕ
twice k = k * (k + 1)

twice_more : (k : ℕ) → twice (suc k) ≡ twice k + 2 * suc k
twice_more k =
    let e : suc k + 1 ≡ suc (k + 1) = omega arith in
    omega (arith, suc-mul k (suc k + 1), ap (λ (j : ℕ). k * j) e, mul-suc k (k + 1))

most_from : (t : Table) (k : ℕ) (left : List ℕ) → length left ≡ k → 2 * trials_from t k left ≤ twice k
most_from t zero left h = omega (arith, trials_none t left)
most_from t (suc k) left h =
    by_eqb (taker t left) 0
    (λ _ e. omega (arith, trials_stuck t (suc k) left (omega arith) e, trials_left t left, twice_more k))
    (λ _ n.
    let less = length_erase (taker t left) left (taker_left t left n) in
    omega (arith, trials_turn t k left n, trials_left t left, twice_more k, most_from t k (erase (taker t left) left) (omega arith)))

-- rule 23.3
pub count_most : (t : Table) → trial_count t ≤ most_trials t.n
unfolding trial_count
count_most t =
    let n = same_size (sequence t) (rows_of t) (same_sequence t) ∙ length_rows t.n in
    omega (arith, most_from t t.n (sequence t) n)

-- a ceiling

-- a table is accepted or not
pub by_accepted : {P : Type 0} (t : Table) → (Accepted t → P) → ((Accepted t → ⊥) → P) → P
by_accepted {P} t f g = go (check_table t) refl
  where
    go : (c : Check) → check_table t ≡ c → P
    go (Ok tt) e = f e
    go (Err r) e = g (λ z. let w : ◌≡◌ {A = ℕ} 0 1 = cc in absurd (omega arith))

module _ (t : Table) (accepted : Accepted t) where
  -- what is planned without a ceiling
  plan_accepted : plan_of t ≡ plan_from (choice t)
  unfolding plan_of
  plan_accepted = rw accepted

  -- a count that is not above the ceiling: the answer without a ceiling, with the count (rules 23.4, 23.10)
  pub within_count : (c : ℕ) → trial_count t ≤ c → plan_within c t ≡ record { planning = plan_of t; trials = trial_count t }
  unfolding plan_within
  within_count c h = rw (plan_accepted, accepted, le-ltb c (trial_count t) h)

  -- one that is: 19 (rule 23.5)
  pub over_count : (c : ℕ) → c < trial_count t → plan_within c t ≡ over_ceiling c
  unfolding plan_within
  over_count c h = rw (accepted, lt-ltb c (trial_count t) h)

-- a refused table: the answer without a ceiling, with no trial (rule 23.7)
pub refused_count_lem : (t : Table) → (Accepted t → ⊥) → (c : ℕ) → plan_within c t ≡ record { planning = plan_of t; trials = 0 }
unfolding plan_within plan_of
refused_count_lem t n c = checked (check_table t) n
  where
    checked : (k : Check) → (k ≡ Passed → ⊥) → counted_checked k c t ≡ record { planning = plan_checked k t; trials = 0 }
    checked (Ok tt) m = absurd (m refl)
    checked (Err r) m = refl

-- a ceiling that is not below the count of an accepted table changes nothing of what is planned (rules 23.9, 23.10)
pub planned_within : (t : Table) (c : ℕ) → (Accepted t → trial_count t ≤ c) → (plan_within c t).planning ≡ plan_of t
planned_within t c h =
    by_accepted t
    (λ a. ap (λ (r : Counted). r.planning) (within_count t a c (h a)))
    (λ n. ap (λ (r : Counted). r.planning) (refused_count_lem t n c))

-- at the most that its rows can take every table is answered as without a ceiling (rule 23.9)
pub planned_most : (t : Table) → (plan_within (most_trials t.n) t).planning ≡ plan_of t
planned_most t = planned_within t (most_trials t.n) (λ _. count_most t)

-- no more trials are told than the ceiling allows (rules 23.4, 23.5, 23.7)
pub trials_ceiling : (t : Table) (c : ℕ) → (plan_within c t).trials ≤ c
trials_ceiling t c =
    by_accepted t
    (λ a. by-ltb c (trial_count t)
    (λ _ h. omega (arith, ap (λ (r : Counted). r.trials) (over_count t a c h)))
    (λ _ h. omega (arith, ap (λ (r : Counted). r.trials) (within_count t a c h))))
    (λ n. omega (arith, ap (λ (r : Counted). r.trials) (refused_count_lem t n c)))

-- nor ever more than n rows can take (rule 23.3)
pub trials_most : (t : Table) (c : ℕ) → (plan_within c t).trials ≤ most_trials t.n
trials_most t c =
    by_accepted t
    (λ a. by-ltb c (trial_count t)
    (λ _ h. omega (arith, ap (λ (r : Counted). r.trials) (over_count t a c h), count_most t))
    (λ _ h. omega (arith, ap (λ (r : Counted). r.trials) (within_count t a c h), count_most t)))
    (λ n. omega (arith, ap (λ (r : Counted). r.trials) (refused_count_lem t n c)))

-- whatever is not 19 is the same, order, rows left and trials, at every higher ceiling (rule 23.8)
pub higher_ceiling : (t : Table) (c d : ℕ) → c ≤ d → (planned_number (plan_within c t).planning.answer ≡ 19 → ⊥) → plan_within d t ≡ plan_within c t
unfolding planned_number refusal_number
higher_ceiling t c d l n =
    by_accepted t
    (λ a. by-ltb c (trial_count t)
    (λ _ h. absurd (n (ap (λ (r : Counted). planned_number r.planning.answer) (over_count t a c h))))
    (λ _ h. within_count t a d (omega arith) ∙ sym (within_count t a c h)))
    (λ m. refused_count_lem t m d ∙ sym (refused_count_lem t m c))
