-- There and back: reading the sentence of an answer gives that answer and whose it is; and back and there: what the reader takes is the sentence of what
-- it read. So no two answers have one sentence (rules 24.12 to 24.14).
use Rattle.std.specs.Prelude.{ℕ, zero, suc, min, ◌+◌, ◌-◌, ◌*◌, ◌/◌, ◌%◌, ◌^◌, ◌≤◌, ◌<◌, Bool, true, false, not, List, [], ◌∷◌, ◌++◌, map, ◌≡◌, refl, eqb, leb, ℤ, pos, negsuc, nat_abs, length, get_or, drop}
use Rattle.std.proofs.Common.{true≢false, append-nil, sym, ap, ap₂, ◌∙◌, mod-eq_of_lt, mod-lt, one-add, arith, length-append, pow_pos, get_or-append-add, le-leb, leb-true, ne_eqb, eqb-true}
use Rattle.std.proofs.Math.Nat.{min-eq_left, div-eq_of_lt}
use Rattle.std.proofs.lemmas.Nat.{mod-pow-add}
use Rattle.std.proofs.Math.Seq.{take-length, take-append_seam, drop-append-add, get_or-append_seam}
use Rattle.std.proofs.lemmas.Bool.{eqb-false}
use Rattle.rules.specs.Lists.{all, all_zero, keep, rows_to, same, count}
use Rattle.rules.specs.Choice.{padded}
use Rattle.theory.specs.Counts.{keep_append}
use Rattle.checks.specs.RowLists.{all_append}
use Rattle.theory.specs.Tests.{by_bool, by_eqb, and_left, and_right, and_both}
use Rattle.fields.specs.Values.{same_same}
use Rattle.sweep.specs.Padded.{zeros, padded_zeros}
use Rattle.sentences.specs.declared.PlanAnswer.{PlanAnswer}
use Rattle.sentences.specs.declared.JudgeAnswer.{JudgeAnswer}
use Rattle.sentences.specs.declared.Kind.TheVariants.{Planner, Judge}
use Rattle.sentences.specs.declared.Told.{Told}
use Rattle.sentences.specs.Sentences.{up_to_last, rows_in, plan_opening, plan_sentence, minus_of, judge_opening, judge_sentence}
use Rattle.sentences.specs.Reading.{is_digit, figures_in, marked, word_of, small, plan_in, below, slack_of, judge_from, judge_in, no_plan, no_verdict, read_sentence}
use Rattle.sentences.specs.Scanned.{tells_all}
use Rattle.sentences.specs.Telling.{Held, yes_figures, plan_tells, judge_tells}
use Rattle.sentences.specs.Minus.{judge_minus, letter_yes, letter_no, letter_digit}
use Rattle.sentences.specs.RoundTrip.{PlanFits, SlackFits, JudgeFits, has_minus}
use Rattle.rules.specs.Checks.{Passed}

all_zeros : (o : List ℕ) → all_zero o ≡ true → o ≡ zeros (length o)
all_zeros [] e = refl
all_zeros (x ∷ o) e = ap₂ (λ (y : ℕ) (l : List ℕ). y ∷ l) (eqb-true x 0 (and_left (eqb x 0) (all_zero o) e)) (all_zeros o (and_right (eqb x 0) (all_zero o) e))

-- ---- the order: what its places leave out is zeros
pub last_within : (o : List ℕ) → length (up_to_last o) ≤ length o
last_within [] = omega arith
last_within (x ∷ o) = by_bool (all_zero (x ∷ o)) (λ e. rw e (omega arith)) (λ e. rw e (omega (arith, last_within o)))

zeros_after : (o : List ℕ) → up_to_last o ++ zeros (length o - length (up_to_last o)) ≡ o
zeros_after [] = refl
zeros_after (x ∷ o) =
    by_bool (all_zero (x ∷ o))
    (λ e. let z : length (x ∷ o) - 0 ≡ length (x ∷ o) = omega arith in rw e (ap zeros z ∙ sym (all_zeros (x ∷ o) e)))
    (λ e.
    let z : length (x ∷ o) - length (x ∷ up_to_last o) ≡ length o - length (up_to_last o) = omega arith in
    rw e (ap (λ (l : List ℕ). x ∷ l) (ap (λ (k : ℕ). up_to_last o ++ zeros k) z ∙ zeros_after o)))

order_back : (o : List ℕ) → length o ≡ 64 → padded (up_to_last o) ≡ o
order_back o l =
    padded_zeros (up_to_last o) (omega (arith, last_within o))
    ∙ ap (λ (k : ℕ). up_to_last o ++ zeros (k - length (up_to_last o))) (sym l)
    ∙ zeros_after o

-- ---- the word: its rows, marked one after the other
pub word_append : (w : ℕ) (xs ys : List ℕ) → word_of w (xs ++ ys) ≡ word_of (word_of w xs) ys
word_append w [] ys = refl
word_append w (x ∷ xs) ys = word_append (marked w x) xs ys

-- a row above all rows of a word is marked by its power of two
mark_above : (w k : ℕ) → w < 2 ^ k → k < 64 → marked w (suc k) ≡ w + 2 ^ k
unfolding marked
mark_above w k h l =
    let e : suc k - 1 ≡ k = omega arith in
    let z : w / 2 ^ k % 2 ≡ 0 = rw (div-eq_of_lt {n = w} {m = 2 ^ k} h) refl in
    rw (e, z, le-leb 1 (suc k) (omega arith), le-leb (suc k) 64 (omega arith))

-- the word has the row
abbrev in_word : ℕ → ℕ → Bool
in_word left i = eqb (left / 2 ^ (i - 1) % 2) 1

-- the rows up to k, marked, are the word's k lowest bits
word_low : (left k : ℕ) → k ≤ 64 → word_of 0 (keep (in_word left) (rows_to k)) ≡ left % 2 ^ k
word_low left zero h = omega arith
word_low left (suc k) h =
    ap (word_of 0) (keep_append (in_word left) (rows_to k) (suc k ∷ []))
    ∙ word_append 0 (keep (in_word left) (rows_to k)) (keep (in_word left) (suc k ∷ []))
    ∙ ap (λ (w : ℕ). word_of w (keep (in_word left) (suc k ∷ []))) (word_low left k (omega arith))
    ∙ by_bool (in_word left (suc k))
    (λ e. rw e (mark_above (left % 2 ^ k) k (mod-lt left (pow_pos k)) (omega arith) ∙ omega (arith, more, here e)))
    (λ e. rw e (omega (arith, more, absent e)))
  where
    e' : suc k - 1 ≡ k
    e' = omega arith

    more : left % 2 ^ suc k ≡ (left / 2 ^ k % 2) * 2 ^ k + left % 2 ^ k
    more = ap (λ (j : ℕ). left % 2 ^ j) (sym (one-add k)) ∙ mod-pow-add left 1 k

    here : in_word left (suc k) ≡ true → (left / 2 ^ k % 2) * 2 ^ k ≡ 2 ^ k
    here e = let b : left / 2 ^ k % 2 ≡ 1 = ap (λ (j : ℕ). left / 2 ^ j % 2) (sym e') ∙ eqb-true _ 1 e in rw b (omega arith)

    absent : in_word left (suc k) ≡ false → (left / 2 ^ k % 2) * 2 ^ k ≡ 0
    absent e =
        let n = eqb-false (left / 2 ^ (suc k - 1) % 2) 1 e in
        let b : left / 2 ^ k % 2 ≡ 0 = ap (λ (j : ℕ). left / 2 ^ j % 2) (sym e') ∙ omega (arith, n) in rw b (omega arith)

word_back : (left : ℕ) → left < 2 ^ 64 → word_of 0 (rows_in left) ≡ left
unfolding rows_in
word_back left h = word_low left 64 (omega arith) ∙ mod-eq_of_lt h

-- ---- the planner's answer in its own sentence
-- numbers of a list up to its last that is not 0 are numbers of the list
pub last_all : (p : ℕ → Bool) (o : List ℕ) → all p o ≡ true → all p (up_to_last o) ≡ true
last_all p [] e = refl
last_all p (x ∷ o) e =
    by_bool (all_zero (x ∷ o))
    (λ f. rw f)
    (λ f. rw f (and_both (p x) (all p (up_to_last o)) (and_left (p x) (all p o) e) (last_all p o (and_right (p x) (all p o) e))))

-- small numbers are held by 32 bits, and are cut by nothing
small_held : (xs : List ℕ) → all (λ x. leb x 255) xs ≡ true → Held xs
small_held [] e = refl
small_held (x ∷ xs) e =
    and_both (leb x 4294967295) _ (le-leb x 4294967295 (omega (arith, leb-true x 255 (and_left (leb x 255) _ e)))) (small_held xs (and_right (leb x 255) _ e))

small_same : (xs : List ℕ) → all (λ x. leb x 255) xs ≡ true → map small xs ≡ xs
small_same [] e = refl
small_same (x ∷ xs) e =
    ap₂ (λ (y : ℕ) (l : List ℕ). y ∷ l) (min-eq_left (leb-true x 255 (and_left (leb x 255) _ e))) (small_same xs (and_right (leb x 255) _ e))

-- rows of a word are rows
rows_held : (p : ℕ → Bool) (k : ℕ) → k ≤ 64 → (Held (keep p (rows_to k))) × (length (keep p (rows_to k)) ≤ k)
rows_held p zero h = (refl, omega arith)
rows_held p (suc k) h =
    let i = rows_held p k (omega arith) in
    let parts = keep_append p (rows_to k) (suc k ∷ []) in
    by_bool (p (suc k))
    (λ e.
    let more : keep p (rows_to (suc k)) ≡ keep p (rows_to k) ++ (suc k ∷ []) = parts ∙ rw e in (
      rw (more, all_append (λ x. leb x 4294967295) (keep p (rows_to k)) (suc k ∷ []), i.0, le-leb (suc k) 4294967295 (omega arith)),
      omega (arith, ap length more, length-append (keep p (rows_to k)) (suc k ∷ []), i.1),
    ))
    (λ e.
    let same : keep p (rows_to (suc k)) ≡ keep p (rows_to k) = parts ∙ rw e (append-nil (keep p (rows_to k))) in
    (rw same i.0, omega (arith, ap length same, i.1)))

pub rows_in_held : (left : ℕ) → (Held (rows_in left)) × (length (rows_in left) ≤ 64)
unfolding rows_in
rows_in_held left = rows_held (in_word left) 64 (omega arith)

-- figures in the sequence of a sentence give the answer back
plan_figures : (number trials : ℕ) (P R : List ℕ) → length P ≤ 64 → length R ≤ 64 → map small P ≡ P
    → plan_in (number ∷ trials ∷ length P ∷ (P ++ (length R ∷ R))) ≡ record { number = number; left = word_of 0 R; order = padded P; trials = trials }
unfolding plan_in
plan_figures number trials P R p r e =
    let first = number ∷ trials ∷ length P ∷ [] in
    let figures = number ∷ trials ∷ length P ∷ (P ++ (length R ∷ R)) in
    let rows : get_or figures (3 + length P) 0 ≡ length R = get_or-append-add first (P ++ (length R ∷ R)) (length P) 0 ∙ get_or-append_seam P (length R) R 0 in
    let far : 4 + length P ≡ 3 + (length P + 1) = omega arith in
    let behind : drop (4 + length P) figures ≡ R =
    ap (λ (k : ℕ). drop k figures) far ∙ drop-append-add first (P ++ (length R ∷ R)) (length P + 1) ∙ drop-append-add P (length R ∷ R) 1 in
    rw (min-eq_left p, rows, behind, min-eq_left r, take-length R, take-append_seam P (length R ∷ R), e)

-- the planner's sentence gives the answer back
plan_back_lem : (a : PlanAnswer) → PlanFits a → plan_in (figures_in (plan_sentence a)) ≡ a
plan_back_lem a f =
    let P = up_to_last a.order in
    let R = rows_in a.left in
    let h : all (λ x. leb x 255) P ≡ true = last_all (λ x. leb x 255) a.order f.small in
    let p : length P ≤ 64 = omega (arith, last_within a.order, f.long) in
    let r = rows_in_held a.left in
    let t = plan_tells a f.number f.trials (omega arith) (small_held P h) (omega (arith, r.1)) r.0 in
    ap plan_in (tells_all t)
    ∙ plan_figures a.number a.trials P R p r.1 (small_same P h)
    ∙ ap₂ (λ (w : ℕ) (o : List ℕ). record { number = a.number; left = w; order = o; trials = a.trials }) (word_back a.left f.left) (order_back a.order f.long)

-- ---- the judge's answer in its own sentence
slack_size : (z : ℤ) → SlackFits z → nat_abs z ≤ 4294967295
slack_size (pos v) f = omega arith
slack_size (negsuc m) f = omega arith

slack_back : (z : ℤ) → SlackFits z → slack_of (not (eqb (count 45 (minus_of z)) 0)) (nat_abs z) ≡ z
slack_back (pos v) f = ap pos (min-eq_left f)
slack_back (negsuc m) f = let e : min (suc m) 2147483648 ≡ suc m = min-eq_left (omega arith) in ap below e

in_yes : (bytes : List ℕ) → get_or bytes 15 0 ≡ 121 → judge_in bytes ≡ judge_from (has_minus bytes) 1 (figures_in bytes)
unfolding judge_in
in_yes bytes e = rw e

in_no : (bytes : List ℕ) → get_or bytes 15 0 ≡ 110 → judge_in bytes ≡ judge_from (has_minus bytes) 0 (figures_in bytes)
unfolding judge_in
in_no bytes e = rw e

in_other : (bytes : List ℕ) → is_digit (get_or bytes 15 0) ≡ true → judge_in bytes ≡ judge_from (has_minus bytes) (get_or (figures_in bytes) 0 0) (drop 1 (figures_in bytes))
unfolding judge_in
in_other bytes e =
    let b = get_or bytes 15 0 in
    let few = leb-true b 57 (and_right (leb 48 b) (leb b 57) e) in
    rw (ne_eqb b 121 (λ z. omega arith), ne_eqb b 110 (λ z. omega arith))

module _ (a : JudgeAnswer) (f : JudgeFits a) where
  figures_told : figures_in (judge_sentence a) ≡ yes_figures a.yes ++ (a.number ∷ a.row ∷ nat_abs a.slack ∷ [])
  figures_told = tells_all (judge_tells a f.number f.yes f.row (slack_size a.slack f.slack))

  -- number, row and slack
  fields_back : (said : ℕ) → said ≡ a.yes → judge_from (has_minus (judge_sentence a)) said (a.number ∷ a.row ∷ nat_abs a.slack ∷ []) ≡ a
  fields_back said q =
      ap₂ (λ (s : ℕ) (z : ℤ). record { number = a.number; yes = s; row = a.row; slack = z }) q
      (ap (λ (k : ℕ). slack_of (not (eqb k 0)) (nat_abs a.slack)) (judge_minus a) ∙ slack_back a.slack f.slack)

  -- where the figures of the yes or no are known
  known : (l : List ℕ) → yes_figures a.yes ≡ l → figures_in (judge_sentence a) ≡ l ++ (a.number ∷ a.row ∷ nat_abs a.slack ∷ [])
  known l e = figures_told ∙ ap (λ (x : List ℕ). x ++ (a.number ∷ a.row ∷ nat_abs a.slack ∷ [])) e

  judge_back : judge_in (judge_sentence a) ≡ a
  judge_back =
      by_eqb a.yes 1
      (λ e q. in_yes (judge_sentence a) (letter_yes a q) ∙ ap (judge_from minus 1) (known [] (rw e)) ∙ fields_back 1 (sym q))
      (λ e q.
      by_eqb a.yes 0
      (λ g p. in_no (judge_sentence a) (letter_no a p) ∙ ap (judge_from minus 0) (known [] (rw (e, g))) ∙ fields_back 0 (sym p))
      (λ g p.
      in_other (judge_sentence a) (letter_digit a e g)
      ∙ ap (λ (l : List ℕ). judge_from minus (get_or l 0 0) (drop 1 l)) (known (a.yes ∷ []) (rw (e, g)))
      ∙ fields_back a.yes refl))
    where
      minus : Bool
      minus = has_minus (judge_sentence a)

-- ---- the theorems
-- lists of numbers that are the same are equal
pub same_equal : (xs ys : List ℕ) → same xs ys ≡ true → xs ≡ ys
same_equal [] [] e = refl
same_equal [] (y ∷ ys) e = absurd (true≢false (sym e))
same_equal (x ∷ xs) [] e = absurd (true≢false (sym e))
same_equal (x ∷ xs) (y ∷ ys) e =
    ap₂ (λ (z : ℕ) (l : List ℕ). z ∷ l) (eqb-true x y (and_left (eqb x y) (same xs ys) e)) (same_equal xs ys (and_right (eqb x y) (same xs ys) e))

-- a planner's and a judge's sentence differ in byte 4
pub kinds_differ : (a : PlanAnswer) (v : JudgeAnswer) → plan_sentence a ≡ judge_sentence v → ⊥
unfolding plan_sentence judge_sentence plan_opening judge_opening
kinds_differ a v e = omega (arith, byte)
  where
    byte : ◌≡◌ {A = ℕ} 112 106
    byte = ap (λ (l : List ℕ). get_or l 4 0) e

-- reading a planner's sentence (rule 24.12)
pub plan_there_back : (a : PlanAnswer) → PlanFits a → read_sentence (plan_sentence a) ≡ record { check = Passed; kind = Planner; plan = a; verdict = no_verdict }
unfolding read_sentence
plan_there_back a f = rw (plan_back_lem a f, same_same (plan_sentence a))

-- reading a judge's sentence (rule 24.12)
pub judge_there_back : (a : JudgeAnswer) → JudgeFits a → read_sentence (judge_sentence a) ≡ record { check = Passed; kind = Judge; plan = no_plan; verdict = a }
unfolding read_sentence
judge_there_back a f =
    let p = plan_in (figures_in (judge_sentence a)) in
    by_bool (same (judge_sentence a) (plan_sentence p))
    (λ e. absurd (kinds_differ p a (sym (same_equal (judge_sentence a) (plan_sentence p) e))))
    (λ e. rw (e, judge_back a f, same_same (judge_sentence a)))

-- two different answers never have the same sentence (rule 24.14)
pub plans_differ : (a b : PlanAnswer) → PlanFits a → PlanFits b → plan_sentence a ≡ plan_sentence b → a ≡ b
plans_differ a b f g e = ap (λ (t : Told). t.plan) (sym (plan_there_back a f) ∙ ap read_sentence e ∙ plan_there_back b g)

pub judges_differ : (a b : JudgeAnswer) → JudgeFits a → JudgeFits b → judge_sentence a ≡ judge_sentence b → a ≡ b
judges_differ a b f g e = ap (λ (t : Told). t.verdict) (sym (judge_there_back a f) ∙ ap read_sentence e ∙ judge_there_back b g)
