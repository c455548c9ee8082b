-- The conclusion about the report leaves nothing open: whatever meets it is what the archive answers. So if it loses a clause which does
-- not follow from its others, this is noticed here.
use Prim.Native.Nat.{ℕ, zero, suc, ◌+◌, ◌-◌, ◌*◌, ◌≤◌, ◌<◌}
use mathlib.Core.List.{List, [], ◌∷◌, ◌++◌}
use Rattle.std.specs.Prelude.{◌≡◌, ℤ, pos, get_or, Ok, Err}
use Rattle.std.proofs.Math.Path.{refl, sym, ap, ap₂}
use Rattle.std.proofs.Common.{◌∙◌, add-one, mul-suc, take-append-drop, drop-drop, drop-cons}
use native.Mathlib.Omega.{arith}
use Rattle.std.proofs.Math.ListN.{length, take, drop}
use Rattle.std.proofs.Math.Seq.{take-add}
use Rattle.rules.specs.declared.Table.{Table}
use Rattle.rules.specs.declared.Refusal.{Refusal}
use Rattle.rules.specs.declared.Refusal.TheVariants.{NoRoom}
use Rattle.rules.specs.Checks.{Check, Passed, Refused}
use Rattle.rules.specs.Lists.{rows_to, joined}
use Rattle.rules.specs.Numbers.{refusal_number, check_number}
use Rattle.rules.specs.Orders.{check_both}
use Rattle.rules.specs.Rows.{at, need_of}
use Rattle.rules.specs.Worst.{worst_finish, slack}
use Rattle.texts.specs.Lent.{WrittenBack}
use Rattle.texts.specs.Reports.{figure, figures, job_line, needs_of, late_rows, last_line, report_text, check_report, report_of}
use Rattle.theory.specs.Facts.{both_pass, both_accepted, both_order}
use Rattle.theory.specs.Places.{place_row}
use Rattle.theory.specs.Room.{too_short}
use Rattle.theory.specs.Tests.{by_eqb}
use Rattle.fields.specs.Lengths.{joined_more}
use Rattle.report.specs.Lines.{report_long, passes, report_refused, report_passed}
use Rattle.conclusions.specs.Conclusions.{ten_at, Listing}
use Rattle.conclusions.specs.Judged.{worst_run}
use Rattle.conclusions.specs.Moments.{moment_of, part_run, moment_slack}

-- ---- a line put together from its figures
-- m bytes and then ten more, or one more
ten_more : (l : List ℕ) (m k : ℕ) → take (10 + k) (drop m l) ≡ take 10 (drop m l) ++ take k (drop (m + 10) l)
ten_more l m k = take-add 10 k (drop m l) ∙ ap (λ (x : List ℕ). take 10 (drop m l) ++ take k x) (drop-drop 10 m l)

one_more : (l : List ℕ) (m : ℕ) → m < length l → take 1 (drop m l) ≡ get_or l m 0 ∷ []
one_more l m h = rw (drop-cons l m 0 h)

-- the figures that stand from byte m on, each ten bytes after the one before, and a line end
five_more : (l : List ℕ) (m : ℕ) (a b c d e : ℤ) → m + 51 ≤ length l
    → take 10 (drop m l) ≡ figure a → take 10 (drop (m + 10) l) ≡ figure b → take 10 (drop (m + 20) l) ≡ figure c → take 10 (drop (m + 30) l) ≡ figure d
    → take 10 (drop (m + 40) l) ≡ figure e → get_or l (m + 50) 0 ≡ 10
    → take 51 (drop m l) ≡ figures (a ∷ b ∷ c ∷ d ∷ e ∷ [])
five_more l m a b c d e h p q r s t u =
    let f2 : m + 10 + 10 ≡ m + 20 = omega arith in
    let f3 : m + 20 + 10 ≡ m + 30 = omega arith in
    let f4 : m + 30 + 10 ≡ m + 40 = omega arith in
    let f5 : m + 40 + 10 ≡ m + 50 = omega arith in
    ten_more l m 41
    ∙ ap₂ join p
    (ten_more l (m + 10) 31 ∙ ap₂ join q
    (ap (λ (x : ℕ). take 31 (drop x l)) f2 ∙ ten_more l (m + 20) 21 ∙ ap₂ join r
    (ap (λ (x : ℕ). take 21 (drop x l)) f3 ∙ ten_more l (m + 30) 11 ∙ ap₂ join s
    (ap (λ (x : ℕ). take 11 (drop x l)) f4 ∙ ten_more l (m + 40) 1 ∙ ap₂ join t
    (ap (λ (x : ℕ). take 1 (drop x l)) f5 ∙ one_more l (m + 50) (omega arith) ∙ ap (λ (x : ℕ). x ∷ []) u)))))
  where
    join : List ℕ → List ℕ → List ℕ
    join x y = x ++ y

two_more : (l : List ℕ) (m : ℕ) (a b : ℤ) → m + 21 ≤ length l → take 10 (drop m l) ≡ figure a → take 10 (drop (m + 10) l) ≡ figure b → get_or l (m + 20) 0 ≡ 10
    → take 21 (drop m l) ≡ figures (a ∷ b ∷ [])
two_more l m a b h p q u =
    let f2 : m + 10 + 10 ≡ m + 20 = omega arith in
    ten_more l m 11
    ∙ ap₂ join p
    (ten_more l (m + 10) 1 ∙ ap₂ join q
    (ap (λ (x : ℕ). take 1 (drop x l)) f2 ∙ one_more l (m + 20) (omega arith) ∙ ap (λ (x : ℕ). x ∷ []) u))
  where
    join : List ℕ → List ℕ → List ℕ
    join x y = x ++ y

-- the first figure of a line stands where the line does
first_ten : (text : List ℕ) (start : ℕ) → ten_at text start 1 ≡ take 10 (drop start text)
first_ten text start = let e : start + 10 * (1 - 1) ≡ start = omega arith in ap (λ (x : ℕ). take 10 (drop x text)) e

module _ (t : Table) (o lent : List ℕ) (number size : ℕ) (after : List ℕ) (s : Listing t o lent number size after) where
  abbrev Same : WrittenBack → Type 0
  Same b = (number ≡ check_number b.said.check) × (size ≡ b.said.size) × (after ≡ b.bytes)

  module _ (z : number ≡ 0) where
    ok : check_both t o ≡ Passed
    ok = both_pass t o (s.passed z).0 (s.passed z).1

    -- the line of place k + 1
    line_is : (k : ℕ) → k < t.n → take 51 (drop (51 * k) after) ≡ job_line t o (suc k)
    unfolding job_line
    line_is k h =
        let i = at o (suc k) in
        let r = place_row t o (both_order t o ok) (suc k) (omega arith) (omega arith) in
        let j = s.job z (suc k) (omega arith) (omega arith) (worst_finish t o i) (moment_of t o i) (worst_run t o ok i r.from r.up_to)
        (part_run t (both_accepted t o ok) o (both_order t o ok) i r) in
        let w = moment_slack t (both_accepted t o ok) o (both_order t o ok) i r (moment_of t o i) (part_run t (both_accepted t o ok) o (both_order t o ok) i r) in
        let q : suc k - 1 ≡ k = omega arith in
        let m : 51 * (suc k - 1) ≡ 51 * k = ap (λ (x : ℕ). 51 * x) q in
        five_more after (51 * k) (pos (suc k)) (pos i) (pos (need_of t i)) (pos (worst_finish t o i)) (slack t o i) (omega (arith, s.fits z, s.whole))
        (sym (first_ten after (51 * k)) ∙ rw m at j.place) (rw m at j.row) (rw m at j.need) (rw m at j.finish) (rw m at j.slack ∙ ap figure w) (rw m at j.ends)

    lines_are : (k : ℕ) → k ≤ t.n → take (51 * k) after ≡ joined (job_line t o) (rows_to k)
    lines_are zero h = refl
    lines_are (suc k) h =
        let e : 51 * suc k ≡ 51 * k + 51 = omega (arith, mul-suc 51 k) in
        let more : joined (job_line t o) (rows_to (suc k)) ≡ joined (job_line t o) (rows_to k) ++ job_line t o (suc k) = rw (add-one k) at (joined_more (job_line t o) k) in
        ap (λ (x : ℕ). take x after) e ∙ take-add (51 * k) 51 after
        ∙ ap₂ (λ (x y : List ℕ). x ++ y) (lines_are k (omega arith)) (line_is k (omega arith)) ∙ sym more

    last_is : take 21 (drop (51 * t.n) after) ≡ last_line t o
    unfolding last_line needs_of late_rows
    last_is =
        two_more after (51 * t.n) (pos (needs_of t)) (pos (late_rows t o)) (omega (arith, s.fits z, s.whole))
        (sym (first_ten after (51 * t.n)) ∙ s.needs z) (s.late z) (s.ends z)

    text_is : take size after ≡ report_text t o
    unfolding report_text
    text_is =
        ap (λ (x : ℕ). take x after) (s.long z) ∙ take-add (51 * t.n) 21 after
        ∙ ap₂ (λ (x y : List ℕ). x ++ y) (lines_are t.n (omega arith)) last_is

    done : Same (report_of t o lent)
    unfolding check_number
    done =
        let e = report_passed t o lent (passes t o (length lent) ok (s.fits z)) in
        let long : size ≡ length (report_text t o) = s.long z ∙ sym (report_long t o) in
        let all : after ≡ report_text t o ++ drop size lent = sym (take-append-drop size after) ∙ ap₂ (λ (x y : List ℕ). x ++ y) text_is (s.rest z) in (
          z ∙ sym (ap (λ (b : WrittenBack). check_number b.said.check) e),
          long ∙ sym (ap (λ (b : WrittenBack). b.said.size) e),
          all ∙ ap (λ (k : ℕ). report_text t o ++ drop k lent) long ∙ sym (ap (λ (b : WrittenBack). b.bytes) e),
        )

  turned_away : (r : Refusal) → check_report t o (length lent) ≡ Refused r → number ≡ refusal_number r → (number ≡ 0 → ⊥) → Same (report_of t o lent)
  unfolding check_number
  turned_away r p q n =
      let e = report_refused t o lent r p in (
        q ∙ sym (ap (λ (b : WrittenBack). check_number b.said.check) e),
        (s.refused n).0 ∙ sym (ap (λ (b : WrittenBack). b.said.size) e),
        (s.refused n).1 ∙ sym (ap (λ (b : WrittenBack). b.bytes) e),
      )

  full : number ≡ 10 → check_report t o (length lent) ≡ Refused NoRoom
  unfolding check_report
  full z = let u = s.ten z in rw (both_pass t o u.0 u.1, too_short (length (report_text t o)) (length lent) (omega (arith, u.2, report_long t o)))

  own_check : (c : Check) → check_both t o ≡ c → number ≡ check_number c → (number ≡ 0 → ⊥) → Same (report_of t o lent)
  unfolding check_number check_report
  own_check (Ok tt) e q n = absurd (n q)
  own_check (Err r) e q n = turned_away r (rw e) q n

  pub listing_exact : let b = report_of t o lent in (number ≡ check_number b.said.check) × (size ≡ b.said.size) × (after ≡ b.bytes)
  unfolding refusal_number
  listing_exact =
      by_eqb number 0
      (λ _ z. done z)
      (λ _ n. by_eqb number 10 (λ _ z. turned_away NoRoom (full z) z n) (λ _ m. own_check (check_both t o) refl (s.own m) n))
