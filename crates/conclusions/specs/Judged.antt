-- The sales desk's conclusion, from what the judge promises and the worst runs that last.
use Rattle.std.specs.Prelude.{ℕ, zero, suc, ◌≤◌, ◌<◌, max, Bool, false, cond, ◌⊎◌, List, [], ◌∷◌, ◌++◌, ℤ, pos, negsuc, Ok, Err}
use Rattle.std.proofs.Math.Bool.{true}
use Rattle.std.proofs.Math.Logic.{inl}
use Rattle.std.proofs.Common.{inr, sym, ◌∙◌, ltb-true, ltb-false, lt-ltb, le-ltb}
use Rattle.std.proofs.Math.Path.{◌≡◌, refl, ap}
use native.Mathlib.Omega.{arith}
use Rattle.std.specs.Int.Signed.{lt_z}
use Rattle.rules.specs.declared.Table.{Table}
use Rattle.rules.specs.declared.Refusal.{Refusal}
use Rattle.rules.specs.Checks.{Check, Passed, Refused}
use Rattle.rules.specs.Lists.{rows_to}
use Rattle.rules.specs.Judge.{least_slack, tightest, judge_of}
use Rattle.rules.proofs.Meaning.{correct_serves, serves_correct}
use Rattle.rules.specs.Numbers.{check_number, verdict_number, verdict_yes, verdict_row, verdict_slack}
use Rattle.rules.specs.Orders.{is_order, check_both}
use Rattle.rules.specs.Rows.{at, rows_of}
use Rattle.rules.specs.Tables.{Accepted}
use Rattle.rules.specs.Worst.{worst_speed, horizon, worst_finish, slack}
use Rattle.theory.specs.Counts.{In}
use Rattle.theory.specs.Facts.{Row, facts, is_row_lem, in_rows, count_rows, both_pass}
use Rattle.theory.proofs.Results.{lasting}
use Rattle.theory.specs.Tests.{by_bool, by_eqb, by-leb}
use Rattle.judge.specs.Checked.{checked}
use Rattle.judge.specs.Late.{tightest_row}
use Rattle.judge.specs.Promise.{judge_passed, judge_refused, promised}
use Rattle.planner.specs.Promise.{refusal_number_lem}
use Rattle.sweep.specs.Padded.{padded_at}
use Rattle.jasminebrace.specs.Finishes.{finishes_of, yes_word, finishes_passed, finishes_refused}
use Rattle.conclusions.specs.declared.Opinion.{Opinion}
use Rattle.conclusions.specs.Conclusions.{WorstRun, SalesDesk, PartRun, slack_of}
use Rattle.conclusions.specs.Moments.{moment_of, part_run, moment_slack}
use Rattle.conclusions.specs.Ordered.{order_plain, six_said, say_six}

-- ---- the least slack

-- what is not below what lies below b is not below b's lesser
less_first : (a b c : ℤ) → lt_z a b ≡ true → lt_z a c ≡ false → lt_z b c ≡ false
less_first (pos a) (pos b) (pos c) e f = le-ltb b c (omega (arith, ltb-true a b e, ltb-false a c f))
less_first (pos a) (pos b) (negsuc c) e f = refl
less_first (pos a) (negsuc b) c e f = let z : ◌≡◌ {A = ℕ} 0 1 = cc in absurd (omega arith)
less_first (negsuc a) (pos b) (pos c) e f = let z : ◌≡◌ {A = ℕ} 0 1 = cc in absurd (omega arith)
less_first (negsuc a) (pos b) (negsuc c) e f = refl
less_first (negsuc a) (negsuc b) (pos c) e f = let z : ◌≡◌ {A = ℕ} 0 1 = cc in absurd (omega arith)
less_first (negsuc a) (negsuc b) (negsuc c) e f = le-ltb c b (omega (arith, ltb-true b a e, ltb-false c a f))

not_less : (a b c : ℤ) → lt_z a b ≡ false → lt_z b c ≡ false → lt_z a c ≡ false
not_less (pos a) (pos b) (pos c) e f = le-ltb a c (omega (arith, ltb-false a b e, ltb-false b c f))
not_less (pos a) b (negsuc c) e f = refl
not_less (pos a) (negsuc b) (pos c) e f = let z : ◌≡◌ {A = ℕ} 0 1 = cc in absurd (omega arith)
not_less (negsuc a) (pos b) c e f = let z : ◌≡◌ {A = ℕ} 0 1 = cc in absurd (omega arith)
not_less (negsuc a) (negsuc b) (pos c) e f = let z : ◌≡◌ {A = ℕ} 0 1 = cc in absurd (omega arith)
not_less (negsuc a) (negsuc b) (negsuc c) e f = le-ltb c a (omega (arith, ltb-false b a e, ltb-false c b f))

module _ (t : Table) (o : List ℕ) where
  -- no row of the list, nor the one it starts with, has a slack below the least
  least_first : (b : ℕ) (l : List ℕ) → lt_z (slack t o b) (slack t o (least_slack t o b l)) ≡ false
  least_first b [] = never_less (slack t o b)
    where
      never_less : (a : ℤ) → lt_z a a ≡ false
      never_less (pos a) = le-ltb a a (omega arith)
      never_less (negsuc a) = le-ltb a a (omega arith)
  least_first b (i ∷ l) =
      by_bool (lt_z (slack t o i) (slack t o b))
      (λ e. rw e (less_first (slack t o i) (slack t o b) (slack t o (least_slack t o i l)) e (least_first i l)))
      (λ e. rw e (least_first b l))

  least_among : (b : ℕ) (l : List ℕ) (x : ℕ) → In x l → lt_z (slack t o x) (slack t o (least_slack t o b l)) ≡ false
  least_among b [] x j = absurd (omega arith)
  least_among b (i ∷ l) x j =
      by_bool (lt_z (slack t o i) (slack t o b))
      (λ e. rw e (by_eqb x i (λ _ q. rw q (least_first i l)) (λ f q. least_among i l x (rw f at j))))
      (λ e. rw e (by_eqb x i
      (λ _ q. rw q (not_less (slack t o i) (slack t o b) (slack t o (least_slack t o b l)) e (least_first b l)))
      (λ f q. least_among b l x (rw f at j))))

  pub least_slack_lem : (x : ℕ) → In x (rows_of t) → lt_z (slack t o x) (slack t o (tightest t o)) ≡ false
  unfolding tightest
  least_slack_lem x j = least_among 1 (rows_of t) x j

-- ---- of several rows with the least slack, the lowest

-- what lies below b lies below whatever is not below b
below_all : (a b c : ℤ) → lt_z a b ≡ true → lt_z c b ≡ false → lt_z a c ≡ true
below_all (pos a) (pos b) (pos c) e f = lt-ltb a c (omega (arith, ltb-true a b e, ltb-false c b f))
below_all (pos a) (pos b) (negsuc c) e f = let z : ◌≡◌ {A = ℕ} 0 1 = cc in absurd (omega arith)
below_all (pos a) (negsuc b) c e f = let z : ◌≡◌ {A = ℕ} 0 1 = cc in absurd (omega arith)
below_all (negsuc a) b (pos c) e f = refl
below_all (negsuc a) (pos b) (negsuc c) e f = let z : ◌≡◌ {A = ℕ} 0 1 = cc in absurd (omega arith)
below_all (negsuc a) (negsuc b) (negsuc c) e f = lt-ltb c a (omega (arith, ltb-true b a e, ltb-false b c f))

module _ (t : Table) (o : List ℕ) where
  least_last : (b : ℕ) (l : List ℕ) (y : ℕ)
      → least_slack t o b (l ++ (y ∷ [])) ≡ cond (lt_z (slack t o y) (slack t o (least_slack t o b l))) y (least_slack t o b l)
  least_last b [] y = refl
  least_last b (i ∷ l) y = least_last (cond (lt_z (slack t o i) (slack t o b)) i b) l y

  -- over the rows 1 to n
  lowest_first : (n : ℕ) → (i : ℕ) → 1 ≤ i → i ≤ n → i < least_slack t o 1 (rows_to n) → lt_z (slack t o (least_slack t o 1 (rows_to n))) (slack t o i) ≡ true
  lowest_first zero i l h w = absurd (omega arith)
  lowest_first (suc k) i l h w =
      let r = least_slack t o 1 (rows_to k) in
      by_bool (lt_z (slack t o (suc k)) (slack t o r))
      (λ e.
      let s : least_slack t o 1 (rows_to (suc k)) ≡ suc k = least_last 1 (rows_to k) (suc k) ∙ rw e in
      rw s
      (below_all (slack t o (suc k)) (slack t o r) (slack t o i) e
      (least_among t o 1 (rows_to k) i (omega (arith, count_rows k i l (omega (arith, rw s at w)))))))
      (λ e.
      let s : least_slack t o 1 (rows_to (suc k)) ≡ r = least_last 1 (rows_to k) (suc k) ∙ rw e in
      let w' : i < r = rw s at w in
      rw s (by-leb i k (λ _ q. lowest_first k i l q w') (λ _ q. absurd (omega (arith, w', least_most k)))))
    where
      least_most : (k : ℕ) → least_slack t o 1 (rows_to k) ≤ max 1 k
      least_most zero = omega arith
      least_most (suc k) =
          let r = least_slack t o 1 (rows_to k) in
          rw (least_last 1 (rows_to k) (suc k))
          (by_bool (lt_z (slack t o (suc k)) (slack t o r)) (λ e. rw e (omega arith)) (λ e. rw e (omega (arith, least_most k))))

-- ---- yes as a word
yes_true : (b : Bool) → yes_word b ≡ 1 → b ≡ true
yes_true true e = refl
yes_true false e = absurd (omega arith)

yes_either : (b : Bool) → (yes_word b ≡ 0) ⊎ (yes_word b ≡ 1)
yes_either true = inr refl
yes_either false = inl refl

-- ---- the verdict
module _ (t : Table) (o : List ℕ) where
  abbrev said : Opinion
  said =
      record {
        number = verdict_number (judge_of t o);
        yes = yes_word (verdict_yes (judge_of t o));
        row = verdict_row (judge_of t o);
        finishes = check_number (check_both t o);
      }

  -- the checks passed
  module _ (e : check_both t o ≡ Passed) where
    abbrev tight : ℕ
    tight = tightest t o

    number_is : verdict_number (judge_of t o) ≡ 0
    unfolding verdict_number
    number_is = rw (judge_passed t o e) (by_bool (lt_z (slack t o tight) (pos 0)) (λ l. rw l) (λ l. rw l))

    pub row_is : verdict_row (judge_of t o) ≡ tight
    unfolding verdict_row
    row_is = rw (judge_passed t o e) (by_bool (lt_z (slack t o tight) (pos 0)) (λ l. rw l) (λ l. rw l))

    pub slack_is : verdict_slack (judge_of t o) ≡ slack t o tight
    unfolding verdict_slack
    slack_is = rw (judge_passed t o e) (by_bool (lt_z (slack t o tight) (pos 0)) (λ l. rw l) (λ l. rw l))

    pub tight_row : Row t tight
    tight_row = tightest_row t o (facts t (checked t o e).accepted).some

    finish_is : (i : ℕ) → 1 ≤ i → i ≤ t.n → at (finishes_of t o) i ≡ worst_finish t o i
    finish_is i l h = rw (finishes_passed t o e) (padded_at (worst_finish t o) t.n i l h (facts t (checked t o e).accepted).few)

    -- a row's moment, and the slack with it
    pub moment_run : (i : ℕ) → 1 ≤ i → i ≤ t.n → PartRun t o i (moment_of t o i)
    moment_run i l h = part_run t (checked t o e).accepted o (checked t o e).order i (record { from = l; up_to = h })

    slack_at : (i : ℕ) → 1 ≤ i → i ≤ t.n → (m : ℕ) → PartRun t o i m → slack_of t i (at (finishes_of t o) i) m ≡ slack t o i
    slack_at i l h m p = rw (finish_is i l h) (moment_slack t (checked t o e).accepted o (checked t o e).order i (record { from = l; up_to = h }) m p)

    -- a row's worst finish is that of its worst run
    pub worst_run : (i : ℕ) → 1 ≤ i → i ≤ t.n → WorstRun t o i (worst_finish t o i)
    worst_run i l h =
        let c = checked t o e in
        let f = lasting t c.accepted o c.order i (is_row_lem t i (record { from = l; up_to = h })) in
        record {
          some = (f (horizon t (worst_speed t i)) (omega arith)).from;
          closing = λ k m. (f k m).closing;
          got = λ k m. (f k m).got;
        }

    lower : (i : ℕ) → 1 ≤ i → i < tight → (m : ℕ) → PartRun t o i m → lt_z (slack t o tight) (slack_of t i (at (finishes_of t o) i) m) ≡ true
    unfolding tightest
    lower i l w m p =
        let h : i ≤ t.n = omega (arith, w, tight_row.up_to) in
        rw (slack_at i l h m p) (lowest_first t o t.n i l h w)

    judged : SalesDesk t o said (verdict_slack (judge_of t o)) (finishes_of t o)
    unfolding check_number
    judged =
        record {
          same_number = rw (e, number_is);
          passed = λ _. ((checked t o e).accepted, (checked t o e).order);
          passes = λ _ _. number_is;
          six = λ z. absurd (omega (arith, number_is));
          no_order = λ a n. absurd (n (order_plain t a o (at t.follows) (λ i r. refl) (checked t o e).order));
          refused = λ n. absurd (n number_is);
          yes_serves = λ y. correct_serves t o (((promised t o (judge_of t o) refl).exact e).0 (yes_true (verdict_yes (judge_of t o)) y));
          serves_yes = λ _ s. rw (((promised t o (judge_of t o) refl).exact e).1 (serves_correct t o s));
          yes_or_no = yes_either (verdict_yes (judge_of t o));
          finish = λ _ i l h. rw (finish_is i l h) (worst_run i l h);
          row = λ _. rw row_is (tight_row.from, tight_row.up_to);
          moment = λ _ i l h. (moment_of t o i, moment_run i l h);
          slack = λ _ m p. rw (row_is, slack_is) (sym (slack_at tight tight_row.from tight_row.up_to m (rw row_is at p)));
          lowest = λ _ i l w m p. rw slack_is (lower i l (rw row_is at w) m p);
          no_less = λ _ i l h m p. rw (slack_is, slack_at i l h m p) (least_slack_lem t o i (in_rows t i (record { from = l; up_to = h })));
        }

  -- they refused
  turned_away : (r : Refusal) → check_both t o ≡ Refused r → SalesDesk t o said (verdict_slack (judge_of t o)) (finishes_of t o)
  unfolding check_number verdict_number verdict_yes verdict_row verdict_slack
  turned_away r e =
      let n = (refusal_number_lem r).0 in
      rw (judge_refused t o r e, finishes_refused t o r e, e)
      (record {
        same_number = refl;
        passed = λ z. absurd (n z);
        passes = λ a k. absurd (not_refused a k);
        six = λ z. six_said t o (at t.follows) (λ _ i r. refl) (ap check_number e ∙ z);
        no_order = λ a k. ap check_number (sym e) ∙ say_six t o (at t.follows) (λ _ i r. refl) a k;
        refused = λ _. (refl, refl, refl, refl);
        yes_serves = λ y. absurd (omega arith);
        serves_yes = λ z _. absurd (n z);
        yes_or_no = inl refl;
        finish = λ z. absurd (n z);
        row = λ z. absurd (n z);
        moment = λ z. absurd (n z);
        slack = λ z. absurd (n z);
        lowest = λ z. absurd (n z);
        no_less = λ z. absurd (n z);
      })
    where
      not_refused : Accepted t → is_order t o ≡ true → ⊥
      not_refused a k = let p : check_both t o ≡ Passed = both_pass t o a k in let z : ◌≡◌ {A = ℕ} 0 1 = cc in omega arith

  pub opinion : SalesDesk t o said (verdict_slack (judge_of t o)) (finishes_of t o)
  opinion = by_check (check_both t o) refl
    where
      by_check : (c : Check) → check_both t o ≡ c → SalesDesk t o said (verdict_slack (judge_of t o)) (finishes_of t o)
      by_check (Ok tt) e = judged e
      by_check (Err r) e = turned_away r e
