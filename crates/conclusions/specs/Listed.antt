-- The sales desk's conclusion about the report, from its definition.
use Prim.Native.Nat.{ℕ, zero, suc, ◌+◌, ◌-◌, ◌*◌, ◌≤◌, ◌<◌}
use Rattle.std.specs.Prelude.{true, false, ◌≡◌, ℤ, pos, nat_abs, length, get_or, take, Ok, Err}
use mathlib.Core.List.{List, [], ◌∷◌, ◌++◌, append_assoc, append-nil}
use Rattle.std.proofs.Math.Path.{refl, sym, ap}
use Rattle.std.proofs.Common.{subst, ◌∙◌, add-one, drop-drop, get_or-drop, get_or-take}
use native.Mathlib.Omega.{arith}
use Rattle.std.proofs.Math.ListN.{drop, length-append, length-drop}
use Rattle.std.proofs.Math.Seq.{drop_at}
use Rattle.std.specs.Int.Signed.{lt_z}
use Rattle.rules.specs.declared.Table.{Table}
use Rattle.rules.specs.Checks.{Check, Passed}
use Rattle.rules.specs.Judge.{tightest, judge_of}
use Rattle.rules.specs.Lists.{rows_to, joined}
use Rattle.rules.proofs.Meaning.{correct_serves, serves_correct}
use Rattle.rules.specs.Numbers.{refusal_number, check_number, verdict_row, verdict_slack}
use Rattle.rules.specs.Orders.{is_order, check_order, check_both}
use Rattle.rules.specs.Rows.{at, need_of}
use Rattle.rules.specs.Tables.{and_then, check_table}
use Rattle.rules.specs.Worst.{horizon, worst_speed, worst_finish, slack}
use Rattle.texts.specs.Lent.{WrittenBack, write_checked}
use Rattle.texts.specs.Fields.{value_of}
use Rattle.texts.specs.Reports.{figure, figures, job_line, needs_of, late_rows, last_line, report_text, check_report, report_of}
use Rattle.theory.specs.Facts.{Row, in_rows, both_pass, both_accepted, both_order}
use Rattle.theory.specs.Places.{order_rows, order_long, place_row}
use Rattle.theory.specs.Tests.{by_bool, by_eqb}
use Rattle.fields.specs.Figures.{figure_value, figure_once}
use Rattle.fields.specs.Lengths.{joined_more}
use Rattle.planner.specs.Promise.{refusal_number_lem}
use Rattle.report.specs.Lines.{jobs_long, report_long, fits, passes}
use Rattle.report.specs.Jobs.{slack_small}
use Rattle.report.specs.Totals.{late_most, late_none}
use Rattle.conclusions.specs.Back.{table_not_ten}
use Rattle.conclusions.specs.Judged.{worst_run, least_slack_lem, row_is, slack_is, tight_row}
use Rattle.conclusions.specs.Rooms.{ten_is, own_is}
use Rattle.conclusions.specs.Conclusions.{ten_at, JobListed, Listing, WorstRun, slack_of}
use Rattle.conclusions.specs.Moments.{moment_of, part_run, moment_slack}
use Rattle.conclusions.specs.Places.{entry_of_lem}

-- ---- figures of a line
-- the five figures of a place's line, and its end
five : (a b c d e : ℤ) (rest : List ℕ) → let l = figures (a ∷ b ∷ c ∷ d ∷ e ∷ []) ++ rest in
    (take 10 l ≡ figure a) × (take 10 (drop 10 l) ≡ figure b) × (take 10 (drop 20 l) ≡ figure c) × (take 10 (drop 30 l) ≡ figure d) × (take 10 (drop 40 l) ≡ figure e) × (get_or l 50 0 ≡ 10)
unfolding figure
five a b c d e rest = (refl, refl, refl, refl, refl, refl)

-- the two figures of the last line, and its end
two : (a b : ℤ) (rest : List ℕ) → let l = figures (a ∷ b ∷ []) ++ rest in (take 10 l ≡ figure a) × (take 10 (drop 10 l) ≡ figure b) × (get_or l 20 0 ≡ 10)
unfolding figure
two a b rest = (refl, refl, refl)

-- ---- where lines begin
-- the lines of a text before place k + 1, that line, and what follows
record Around (f : ℕ → List ℕ) (n k : ℕ) : Type 0 where
  pub rest : List ℕ
  pub whole : joined f (rows_to n) ≡ joined f (rows_to k) ++ (f (suc k) ++ rest)

around : (f : ℕ → List ℕ) (n k : ℕ) → k < n → Around f n k
around f zero k h = absurd (omega arith)
around f (suc n) k h =
    let more : joined f (rows_to (suc n)) ≡ joined f (rows_to n) ++ f (suc n) = rw (add-one n) at (joined_more f n) in
    by_eqb k n
    (λ _ q. record { rest = []; whole = rw q (more ∙ ap (λ (l : List ℕ). joined f (rows_to n) ++ l) (sym (append-nil (f (suc n))))) })
    (λ _ q.
    let a = around f n k (omega (arith, q)) in
    record {
      rest = a.rest ++ f (suc n);
      whole = more ∙ ap (λ (l : List ℕ). l ++ f (suc n)) a.whole
          ∙ append_assoc (joined f (rows_to k)) (f (suc k) ++ a.rest) (f (suc n))
          ∙ ap (λ (l : List ℕ). joined f (rows_to k) ++ l) (append_assoc (f (suc k)) a.rest (f (suc n)));
    })

-- a figure by the line that it stands in
ten_in : (text line : List ℕ) (start j : ℕ) → drop start text ≡ line → ten_at text start j ≡ take 10 (drop (10 * (j - 1)) line)
ten_in text line start j e = ap (take 10) (sym (drop-drop (10 * (j - 1)) start text) ∙ ap (drop (10 * (j - 1))) e)

end_in : (text line : List ℕ) (start k : ℕ) → drop start text ≡ line → get_or text (start + k) 0 ≡ get_or line k 0
end_in text line start k e = sym (get_or-drop start text k 0) ∙ ap (λ (l : List ℕ). get_or l k 0) e

module _ (t : Table) (o rest : List ℕ) where
  abbrev text : List ℕ
  text = report_text t o ++ rest

  -- from the line of place k + 1 on
  from_job : (k : ℕ) → k < t.n → (behind : List ℕ) × (drop (51 * k) text ≡ job_line t o (suc k) ++ behind)
  unfolding report_text
  from_job k h =
      let a = around (job_line t o) t.n k h in
      let lines = joined (job_line t o) (rows_to k) in
      let tail = a.rest ++ (last_line t o ++ rest) in
      let e : text ≡ lines ++ (job_line t o (suc k) ++ tail) =
      append_assoc (joined (job_line t o) (rows_to t.n)) (last_line t o) rest
      ∙ ap (λ (l : List ℕ). l ++ (last_line t o ++ rest)) a.whole
      ∙ append_assoc lines (job_line t o (suc k) ++ a.rest) (last_line t o ++ rest)
      ∙ ap (λ (l : List ℕ). lines ++ l) (append_assoc (job_line t o (suc k)) a.rest (last_line t o ++ rest)) in
      (tail, ap (drop (51 * k)) e ∙ drop_at lines (job_line t o (suc k) ++ tail) (51 * k) (jobs_long t o k))

  -- from the last line on
  from_last : drop (51 * t.n) text ≡ last_line t o ++ rest
  unfolding report_text
  from_last =
      let lines = joined (job_line t o) (rows_to t.n) in
      ap (drop (51 * t.n)) (append_assoc lines (last_line t o) rest) ∙ drop_at lines (last_line t o ++ rest) (51 * t.n) (jobs_long t o t.n)

  -- the line of place k + 1
  job_listed : (k : ℕ) → k < t.n → (m : ℕ) → slack_of t (at o (suc k)) (worst_finish t o (at o (suc k))) m ≡ slack t o (at o (suc k))
      → JobListed t text (suc k) (at o (suc k)) (worst_finish t o (at o (suc k))) m
  unfolding job_line
  job_listed k h m w =
      let i = at o (suc k) in
      let b = from_job k h in
      let q : suc k - 1 ≡ k = omega arith in
      let at-k : drop (51 * (suc k - 1)) text ≡ job_line t o (suc k) ++ b.0 = ap (λ (j : ℕ). drop (51 * j) text) q ∙ b.1 in
      let f = five (pos (suc k)) (pos i) (pos (need_of t i)) (pos (worst_finish t o i)) (slack t o i) b.0 in
      let line = job_line t o (suc k) ++ b.0 in
      let s = 51 * (suc k - 1) in
      record {
        place = ten_in text line s 1 at-k ∙ f.0;
        row = ten_in text line s 2 at-k ∙ f.1;
        need = ten_in text line s 3 at-k ∙ f.2;
        finish = ten_in text line s 4 at-k ∙ f.3;
        slack = ten_in text line s 5 at-k ∙ f.4 ∙ ap figure (sym w);
        ends = end_in text line s 50 at-k ∙ f.5;
      }

  -- the last line
  needs_listed : ten_at text (51 * t.n) 1 ≡ figure (pos (needs_of t))
  unfolding last_line
  needs_listed = ten_in text (last_line t o ++ rest) (51 * t.n) 1 from_last ∙ (two (pos (needs_of t)) (pos (late_rows t o)) rest).0

  late_listed : ten_at text (51 * t.n) 2 ≡ figure (pos (late_rows t o))
  unfolding last_line
  late_listed = ten_in text (last_line t o ++ rest) (51 * t.n) 2 from_last ∙ (two (pos (needs_of t)) (pos (late_rows t o)) rest).1

  last_ends : get_or text (51 * t.n + 20) 0 ≡ 10
  unfolding last_line
  last_ends = end_in text (last_line t o ++ rest) (51 * t.n) 20 from_last ∙ (two (pos (needs_of t)) (pos (late_rows t o)) rest).2

  -- the line of place k, from 1
  at_place : (k : ℕ) → 1 ≤ k → k ≤ t.n → (f m : ℕ) → worst_finish t o (at o k) ≡ f → slack_of t (at o k) (worst_finish t o (at o k)) m ≡ slack t o (at o k)
      → JobListed t text k (at o k) f m
  at_place zero l h f m e w = absurd (omega arith)
  at_place (suc k) l h f m e w = subst (λ (g : ℕ). JobListed t text (suc k) (at o (suc k)) g m) e (job_listed k (omega arith) m w)

-- ---- 0 as a figure is 0
none_back : (v : ℕ) → v < 100000000 → figure (pos v) ≡ figure (pos 0) → v ≡ 0
none_back v h e = sym (figure_value (pos v) h) ∙ ap (λ (l : List ℕ). value_of (drop 2 l)) e ∙ figure_value (pos 0) (omega arith)

-- ---- one finish for each worst run
one_finish : (t : Table) (o : List ℕ) (i f g : ℕ) → WorstRun t o i f → WorstRun t o i g → f ≡ g
one_finish t o i f g a b = sym (a.closing (horizon t (worst_speed t i)) (omega arith)) ∙ b.closing (horizon t (worst_speed t i)) (omega arith)

-- ---- the numbers of the report's checks
both_not_ten : (t : Table) (o : List ℕ) → check_number (check_both t o) ≡ 10 → ⊥
unfolding check_both check_order check_number refusal_number
both_not_ten t o e = go (check_table t) refl e
  where
    go : (c : Check) → check_table t ≡ c → check_number (and_then c (check_order t o)) ≡ 10 → ⊥
    go (Ok tt) q h = by_bool (is_order t o) (λ d. let z : ◌≡◌ {A = ℕ} 0 10 = rw d at h in omega arith) (λ d. let z : ◌≡◌ {A = ℕ} 6 10 = rw d at h in omega arith)
    go (Err r) q h = table_not_ten t (ap check_number q ∙ h)

module _ (t : Table) (o lent : List ℕ) where
  abbrev Listed : WrittenBack → Type 0
  Listed b = Listing t o lent (check_number b.said.check) b.said.size b.bytes

  by_check : (c : Check) → check_report t o (length lent) ≡ c → Listed (write_checked c (report_text t o) lent)
  unfolding check_number check_report needs_of late_rows
  by_check (Ok tt) e =
      let f = fits t o (length lent) e in
      let ok = f.0 in
      let report = report_text t o in
      let behind = drop (length report) lent in
      let late = late_none t o ok in
      let run : (k : ℕ) → 1 ≤ k → k ≤ t.n → WorstRun t o (at o k) (worst_finish t o (at o k)) =
      λ k l h. worst_run t o ok (at o k) (place_row t o (both_order t o ok) k l h).from (place_row t o (both_order t o ok) k l h).up_to in
      record {
        passed = λ _. (both_accepted t o ok, both_order t o ok);
        fits = λ _. f.1;
        passes = λ _ _ _. refl;
        long = λ _. report_long t o;
        job = λ _ k l h f m w p. at_place t o behind k l h f m (one_finish t o (at o k) (worst_finish t o (at o k)) f (run k l h) w)
            (moment_slack t (both_accepted t o ok) o (both_order t o ok) (at o k) (place_row t o (both_order t o ok) k l h) m p);
        run = λ _ k l h. (
          (worst_finish t o (at o k), run k l h),
          (moment_of t o (at o k), part_run t (both_accepted t o ok) o (both_order t o ok) (at o k) (place_row t o (both_order t o ok) k l h)),
        );
        needs = λ _. needs_listed t o behind;
        late = λ _. late_listed t o behind;
        ends = λ _. last_ends t o behind;
        serves = λ _ z. correct_serves t o (late.0 (none_back (late_rows t o) (omega (arith, late_most t o ok)) (sym (late_listed t o behind) ∙ z)));
        none_late = λ _ s. late_listed t o behind ∙ ap (λ (v : ℕ). figure (pos v)) (late.1 (serves_correct t o s));
        rest = λ _. drop_at report behind (length report) refl;
        whole = omega (arith, f.1, report_long t o, length-append report behind, length-drop (length report) lent);
        refused = λ n. absurd (n refl);
        ten = λ z. absurd (omega arith);
        own = λ _. sym (ap check_number ok);
      }
  by_check (Err r) e =
      let n = (refusal_number_lem r).0 in
      record {
        passed = λ z. absurd (n z);
        fits = λ z. absurd (n z);
        passes = λ a k h. ap check_number (sym e ∙ passes t o (length lent) (both_pass t o a k) h);
        long = λ z. absurd (n z);
        job = λ z. absurd (n z);
        run = λ z. absurd (n z);
        needs = λ z. absurd (n z);
        late = λ z. absurd (n z);
        ends = λ z. absurd (n z);
        serves = λ z. absurd (n z);
        none_late = λ z. absurd (n z);
        rest = λ z. absurd (n z);
        whole = refl;
        refused = λ _. (refl, refl);
        ten = λ z.
            let p = ten_is (check_both t o) (length (report_text t o)) (length lent) (both_not_ten t o) (ap check_number e ∙ z) in
            (both_accepted t o p.0, both_order t o p.0, omega (arith, p.1, report_long t o));
        own = λ z. ap check_number (sym e) ∙ own_is (check_both t o) (length (report_text t o)) (length lent) (λ w. z (ap check_number (sym e) ∙ w));
      }

  pub listing : let b = report_of t o lent in Listing t o lent (check_number b.said.check) b.said.size b.bytes
  unfolding report_of
  listing = by_check (check_report t o (length lent)) refl

-- ---- the judge's row and slack are in the report (rule 16.10)
-- a row's place
place_of : (t : Table) (o : List ℕ) → is_order t o ≡ true → (i : ℕ) → Row t i → (k : ℕ) × (1 ≤ k) × (k ≤ t.n) × (at o k ≡ i)
place_of t o e i r =
    let p = entry_of_lem (take t.n o) i (omega (arith, order_rows t o e i, in_rows t i r)) in
    let l = order_long t o e in
    let z : p.0 + 1 - 1 ≡ p.0 = omega arith in
    (p.0 + 1, omega arith, omega (arith, l, p.1), rw z (sym (get_or-take t.n o p.0 0 (omega (arith, l, p.1))) ∙ p.2))

-- in a text that begins with the report: no line has a slack below the one that the judge answers, and one line has the judge's row and
-- just that slack
pub record JudgeListed (t : Table) (o text : List ℕ) : Type 0 where
  pub none_below : (k : ℕ) → 1 ≤ k → k ≤ t.n → (z : ℤ) → nat_abs z < 100000000 → ten_at text (51 * (k - 1)) 5 ≡ figure z → lt_z z (verdict_slack (judge_of t o)) ≡ false
  pub place : ℕ
  pub from : 1 ≤ place
  pub up_to : place ≤ t.n
  pub row : ten_at text (51 * (place - 1)) 2 ≡ figure (pos (verdict_row (judge_of t o)))
  pub least : ten_at text (51 * (place - 1)) 5 ≡ figure (verdict_slack (judge_of t o))

pub judge_listed : (t : Table) (o rest : List ℕ) → check_both t o ≡ Passed → JudgeListed t o (report_text t o ++ rest)
judge_listed t o rest ok =
    let order = both_order t o ok in
    let p = place_of t o order (tightest t o) (tight_row t o ok) in
    let same_slack_lem : (k : ℕ) → 1 ≤ k → k ≤ t.n → slack_of t (at o k) (worst_finish t o (at o k)) (moment_of t o (at o k)) ≡ slack t o (at o k) =
    λ k a b. let r = place_row t o order k a b in
    moment_slack t (both_accepted t o ok) o order (at o k) r (moment_of t o (at o k)) (part_run t (both_accepted t o ok) o order (at o k) r) in
    let l = at_place t o rest p.0 p.1 p.2 (worst_finish t o (at o p.0)) (moment_of t o (at o p.0)) refl (same_slack_lem p.0 p.1 p.2) in
    record {
      none_below = λ k a b z h e.
          let j = at_place t o rest k a b (worst_finish t o (at o k)) (moment_of t o (at o k)) refl (same_slack_lem k a b) in
          let r = place_row t o order k a b in
          let same : z ≡ slack t o (at o k) = figure_once z (slack t o (at o k)) h (slack_small t o ok (at o k) r) (sym e ∙ j.slack ∙ ap figure (same_slack_lem k a b)) in
          rw (same, slack_is t o ok) (least_slack_lem t o (at o k) (in_rows t (at o k) r));
      place = p.0;
      from = p.1;
      up_to = p.2;
      row = l.row ∙ ap (λ (i : ℕ). figure (pos i)) (p.3 ∙ sym (row_is t o ok));
      least = l.slack ∙ ap figure (same_slack_lem p.0 p.1 p.2 ∙ ap (slack t o) p.3 ∙ sym (slack_is t o ok));
    }
