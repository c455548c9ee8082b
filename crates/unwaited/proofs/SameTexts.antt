-- A table whose w is all 0 has the report, and the program's text, of the rules from before w (rule 21.5), and if its r or its K is 0 as well those from
-- before that.
use Rattle.std.specs.Prelude.{ℕ, ◌-◌, ◌≤◌, true, ◌≡◌, List, [], ◌∷◌, eqb, nat_abs, length, take, Ok, Err}
use Rattle.std.proofs.Math.Path.{refl, ap}
use Rattle.std.proofs.Common.{sym, ◌∙◌, eqb-true, arith}
use Rattle.rules.specs.declared.Table.{Table}
use Rattle.rules.specs.Plans.{Ordered}
use Rattle.rules.specs.declared.Planning.{Planning}
use Rattle.rules.specs.Checks.{Check}
use Rattle.rules.specs.Choice.{padded, choice, plan_checked, plan_of}
use Rattle.rules.specs.Lists.{rows_to}
use Rattle.rules.specs.Rows.{at, rows_of, deadline_of, need_of}
use Rattle.rules.specs.Tables.{Accepted, check_table}
use Rattle.rules.specs.Worst.{slack, meets}
use Rattle.texts.specs.Fields.{line}
use Rattle.texts.specs.Program.{place_line, plan_text, read_text, program_text}
use Rattle.texts.specs.Reports.{is_late, job_line, needs_of, late_rows, last_line, report_text, check_report, report_of}
use Rattle.texts.specs.Sheets.{read_of}
use Rattle.theory.specs.Agree.{joined_agree}
use Rattle.theory.specs.Counts.{sum_eq}
use Rattle.theory.specs.Facts.{facts}
use Rattle.theory.specs.Places.{place_row}
use Rattle.theory.proofs.Promised.{natural, all_meet}
use Rattle.theory.proofs.Results.{choice_order, choice_correct}
use Rattle.theory.specs.Tests.{by_bool}
use Rattle.unwaited.specs.OldSheets.{line_size, kept_of, widen}
use Rattle.unwaited.specs.OldSheets as Old
use Rattle.unwaited.specs.OldTexts as Texts
use Rattle.unwaited.proofs.Same.{by_cond, need_same, finish_same, slack_same, latest_same, check_same, both_same}
use Rattle.unwaited.proofs.SameAnswers.{plan_same}
use Rattle.unwaited.proofs.SameSheets.{today, read_alike, stated_before, read_before}
use Rattle.unwaited.specs.Unwaited as Then
use Rattle.unwaited.specs.Unwaited.{Past, with_promises, Before}
use Rattle.unwaited.proofs.Widened.{rows_joined}
use Rattle.unwaited.proofs.WidenedSheets.{kept_wider}

empty : (l : List ℕ) → length l ≡ 0 → l ≡ []
empty [] e = refl
empty (x ∷ l) e = absurd (omega arith)

module _ (p : Past) (t : Table) (b : Before p t) where
  -- the report (section 16 of the rules)
  job_same : (o : List ℕ) (k : ℕ) → job_line t o k ≡ Texts.job_line p t o k
  unfolding job_line Texts.job_line
  job_same o k = rw (need_same p t b t.normal (at o k), finish_same p t b o (at o k), slack_same p t b o (at o k))

  last_same : (o : List ℕ) → last_line t o ≡ Texts.last_line p t o
  unfolding last_line needs_of late_rows Texts.last_line
  last_same o =
      rw (
        sum_eq (need_of t) (Then.need_of p t) (rows_of t) (λ i _. need_same p t b t.normal i),
        sum_eq (λ i. is_late (slack t o i)) (λ i. is_late (Then.slack p t o i)) (rows_of t) (λ i _. ap is_late (slack_same p t b o i)),
      )

  text_same : (o : List ℕ) → report_text t o ≡ Texts.report_text p t o
  unfolding report_text Texts.report_text
  text_same o = rw (joined_agree (job_line t o) (Texts.job_line p t o) (job_same o) (rows_to t.n), last_same o)

  pub report_same : (o lent : List ℕ) → report_of t o lent ≡ Texts.report_of p t o lent
  unfolding report_of check_report Texts.report_of
  report_same o lent = rw (text_same o, both_same p t b o)

  -- The program's text (section 12 of the rules). The line of a place of an order that the planner made: no slack of it is below zero.
  module _ (accepted : Accepted t) (all : (choice t).left ≡ []) where
    abbrev o : List ℕ
    o = padded (choice t).placed

    slack_shown_lem : (i : ℕ) → meets t o i ≡ true → nat_abs (slack t o i) ≡ Texts.slack_shown p t o i
    slack_shown_lem i meet =
        by_cond p.promises (nat_abs (slack t o i)) (nat_abs (Then.slack p t o i)) (deadline_of t i - Then.worst_finish p t o i)
        (λ _. ap nat_abs (slack_same p t b o i))
        (λ e. natural t o i meet ∙ ap (λ (k : ℕ). deadline_of t i - k) (latest_same p t b e o i))

    place_same : (k : ℕ) → 1 ≤ k → k ≤ t.n → place_line t o k ≡ Texts.place_line p t o k
    unfolding place_line Texts.place_line
    place_same k first last =
        let order = choice_order t accepted all in
        let row = place_row t o order k first last in
        let meet = all_meet t (facts t accepted) o order (choice_correct t accepted all) (at o k) row in
        ap (λ (v : ℕ). line (k ∷ at o k ∷ v ∷ [])) (slack_shown_lem (at o k) meet)

    ordered_same : plan_text t o Ordered ≡ Texts.plan_text p t o Ordered
    ordered_same = rw (rows_joined (place_line t o) (Texts.place_line p t o) t.n place_same)

  planned_same : (c : Check) → check_table t ≡ c
      → plan_text t (plan_checked c t).order (plan_checked c t).answer ≡ Texts.plan_text p t (plan_checked c t).order (plan_checked c t).answer
  planned_same (Ok tt) e =
      by_bool (eqb (length (choice t).left) 0)
      (λ z. rw z (ordered_same e (empty (choice t).left (eqb-true (length (choice t).left) 0 z))))
      (λ z. rw z)
  planned_same (Err r) e = refl

  pub read_text_same : (c : Check) → read_text c t ≡ Texts.read_text p c t
  unfolding plan_of
  read_text_same (Ok tt) =
      planned_same (check_table t) refl ∙ ap (λ (x : Planning). Texts.plan_text p t x.order x.answer) (plan_same p t b)
  read_text_same (Err r) = refl

-- the text for a table of two times is the same by the rules of both
pub text_between : (p q : Past) (t : Table) → Before p t → Before q t → (c : Check) → Texts.read_text p c t ≡ Texts.read_text q c t
text_between p q t b d c = sym (read_text_same p t b c) ∙ read_text_same q t d c

-- what today's reader makes of the bytes that the program keeps of a widened input is what the old one made of those that it kept
kept_same : (bytes : List ℕ) → read_of (take 3170 (widen 5 bytes)) ≡ Old.read_of with_promises (take (kept_of 5) bytes)
unfolding line_size
kept_same bytes =
    let kept = take (kept_of 5) bytes in
    today (take 3170 (widen 5 bytes))
    ∙ kept_wider 5 check_table bytes
    ∙ read_alike 5 check_table (Then.check_table with_promises) kept (check_same with_promises (Old.table_in 5 kept) (stated_before true kept))

-- what the program writes for any input with the field of w = 0 put in at each row is what it wrote for it without (rules 12.1, 12.2)
pub program_same : (bytes : List ℕ) → program_text (widen 5 bytes) ≡ Texts.program_text with_promises bytes
unfolding program_text Texts.program_text
program_same bytes =
    let kept = take (kept_of 5) bytes in
    let r = Old.read_of with_promises kept in
    rw (kept_same bytes) (read_text_same with_promises r.table (read_before true kept) r.check)
