-- Back and there: what the reader takes is the sentence of the answer that it read, and that answer fits its fields; what it refuses is no answer's
-- sentence (rules 24.11, 24.13).
use Rattle.std.specs.Prelude.{ℕ, zero, suc, min, ◌+◌, ◌-◌, ◌*◌, ◌/◌, ◌%◌, ◌^◌, ◌≤◌, ◌<◌, Bool, true, false, ◌&&◌, List, [], ◌∷◌, map, ◌≡◌, refl, eqb, leb, length, get_or, take, drop, Ok, Err}
use Rattle.std.proofs.Common.{sym, ap, ap₂, subst, ◌∙◌, arith, length-take, le-leb, leb-true, eqb-true}
use Rattle.std.proofs.Math.Nat.{min-le_left, min-le_right}
use Rattle.std.specs.Int.Bits.{bit_or}
use Rattle.std.proofs.lemmas.Nat.{or_lt}
use Rattle.std.proofs.Math.Pow.{pow-lt}
use Rattle.std.proofs.lemmas.List.{length-map}
use Rattle.rules.specs.declared.Refusal.TheVariants.{Malformed}
use Rattle.rules.specs.Checks.{Check, Passed, Refused}
use Rattle.rules.specs.Lists.{all, same}
use Rattle.rules.specs.Choice.{padded}
use Rattle.texts.specs.Fields.{digit_of}
use Rattle.checks.specs.RowLists.{all_append}
use Rattle.theory.specs.Tests.{by_bool, and_left, and_right, and_both}
use Rattle.sweep.specs.Padded.{zeros, padded_zeros, padded_length}
use Rattle.sweep.specs.Masks.{bit, or_pow}
use Rattle.sentences.specs.declared.Kind.TheVariants.{Neither}
use Rattle.sentences.specs.declared.Told.{Told}
use Rattle.sentences.specs.Sentences.{plan_sentence, judge_sentence}
use Rattle.sentences.specs.Reading.{is_digit, grown, scan, figures_in, at_most, marked, word_of, small, plan_in, below, slack_of, judge_from, judge_in, no_plan, no_verdict, told_by, read_sentence}
use Rattle.sentences.specs.Telling.{Held}
use Rattle.sentences.proofs.RoundTrip.{same_equal, plan_there_back, judge_there_back}
use Rattle.sentences.specs.RoundTrip.{has_minus, PlanFits, SlackFits, JudgeFits}
use Rattle.sentences.specs.ReadsBack.{Reads, planned, judged, neither}

-- ---- what is read fits
grown_held : (v b : ℕ) → grown v b ≤ 4294967295
unfolding grown
grown_held v b = min-le_right (10 * v + digit_of b) 4294967295

-- every figure is held by 32 bits
scan_held : (begun : Bool) (v : ℕ) (bs : List ℕ) → v ≤ 4294967295 → Held (scan begun v bs)
unfolding scan
scan_held false v [] h = refl
scan_held true v [] h = and_both (leb v 4294967295) true (le-leb v 4294967295 h) refl
scan_held false v (b ∷ bs) h =
    by_bool (is_digit b) (λ e. rw e (scan_held true (grown v b) bs (grown_held v b))) (λ e. rw e (scan_held false 0 bs (omega arith)))
scan_held true v (b ∷ bs) h =
    by_bool (is_digit b)
    (λ e. rw e (scan_held true (grown v b) bs (grown_held v b)))
    (λ e. rw e (and_both (leb v 4294967295) _ (le-leb v 4294967295 h) (scan_held false 0 bs (omega arith))))

entry_held : (xs : List ℕ) (k : ℕ) → Held xs → get_or xs k 0 ≤ 4294967295
entry_held [] k e = omega arith
entry_held (x ∷ xs) zero e = leb-true x 4294967295 (and_left (leb x 4294967295) _ e)
entry_held (x ∷ xs) (suc k) e = entry_held xs k (and_right (leb x 4294967295) _ e)

drop_held : (xs : List ℕ) (k : ℕ) → Held xs → Held (drop k xs)
drop_held xs zero e = e
drop_held [] (suc k) e = refl
drop_held (x ∷ xs) (suc k) e = drop_held xs k (and_right (leb x 4294967295) _ e)

smalls : (xs : List ℕ) → all (λ x. leb x 255) (map small xs) ≡ true
smalls [] = refl
smalls (x ∷ xs) = and_both (leb (small x) 255) _ (le-leb (small x) 255 (min-le_right x 255)) (smalls xs)

zeros_small : (k : ℕ) → all (λ x. leb x 255) (zeros k) ≡ true
zeros_small zero = refl
zeros_small (suc k) = zeros_small k

or_free : (w k : ℕ) → w / 2 ^ k % 2 ≡ 0 → bit_or w (2 ^ k) ≡ w + 2 ^ k
unfolding bit
or_free w k e = or_pow w k e

order_fits : (xs : List ℕ) → length xs ≤ 64 → (length (padded (map small xs)) ≡ 64) × (all (λ x. leb x 255) (padded (map small xs)) ≡ true)
order_fits xs h =
    let few : length (map small xs) ≤ 64 = omega (arith, length-map xs small) in (
      padded_length (map small xs) few,
      rw (padded_zeros (map small xs) few, all_append (λ x. leb x 255) (map small xs) (zeros (64 - length (map small xs))), smalls xs, zeros_small (64 - length (map small xs))),
    )

-- a row more keeps a word within 64 bits
marked_fits : (w i : ℕ) → w < 2 ^ 64 → marked w i < 2 ^ 64
unfolding marked
marked_fits w i h =
    by_bool (leb 1 i && leb i 64 && eqb (w / 2 ^ (i - 1) % 2) 0)
    (λ e. rw e (clear i e))
    (λ e. rw e h)
  where
    clear : (j : ℕ) → (leb 1 j && leb j 64 && eqb (w / 2 ^ (j - 1) % 2) 0) ≡ true → w + 2 ^ (j - 1) < 2 ^ 64
    clear j e =
        let range = and_left (leb 1 j && leb j 64) (eqb (w / 2 ^ (j - 1) % 2) 0) e in
        let from = leb-true 1 j (and_left (leb 1 j) (leb j 64) range) in
        let up = leb-true j 64 (and_right (leb 1 j) (leb j 64) range) in
        let zero_bit = eqb-true (w / 2 ^ (j - 1) % 2) 0 (and_right (leb 1 j && leb j 64) (eqb (w / 2 ^ (j - 1) % 2) 0) e) in
        subst (λ (x : ℕ). x < 2 ^ 64) (or_free w (j - 1) zero_bit) (or_lt 64 w (2 ^ (j - 1)) h (pow-lt {i = j - 1} {j = 64} (omega arith)))

word_fits : (w : ℕ) (xs : List ℕ) → w < 2 ^ 64 → word_of w xs < 2 ^ 64
word_fits w [] h = h
word_fits w (x ∷ xs) h = word_fits (marked w x) xs (marked_fits w x h)

plan_fits : (figures : List ℕ) → Held figures → PlanFits (plan_in figures)
unfolding plan_in
plan_fits figures h =
    let places = at_most (get_or figures 2 0) in
    let few : length (take places (drop 3 figures)) ≤ 64 = omega (arith, length-take places (drop 3 figures), min-le_left places (length (drop 3 figures)), min-le_right (get_or figures 2 0) 64) in
    record {
      number = entry_held figures 0 h;
      left = word_fits 0 (take (at_most (get_or figures (3 + places) 0)) (drop (4 + places) figures)) (omega arith);
      long = (order_fits (take places (drop 3 figures)) few).0;
      small = (order_fits (take places (drop 3 figures)) few).1;
      trials = entry_held figures 1 h;
    }

slack_fits : (minus : Bool) (size : ℕ) → SlackFits (slack_of minus size)
slack_fits false size = min-le_right size 2147483647
slack_fits true size = down (min size 2147483648) (min-le_right size 2147483648)
  where
    down : (k : ℕ) → k ≤ 2147483648 → SlackFits (below k)
    down zero h = omega arith
    down (suc m) h = omega arith

from_fits : (minus : Bool) (said : ℕ) (figures : List ℕ) → said ≤ 4294967295 → Held figures → JudgeFits (judge_from minus said figures)
from_fits minus said figures s h =
    record { number = entry_held figures 0 h; yes = s; row = entry_held figures 1 h; slack = slack_fits minus (get_or figures 2 0) }

pub judge_in_fits : (bytes : List ℕ) → JudgeFits (judge_in bytes)
unfolding judge_in
judge_in_fits bytes =
    let figures = figures_in bytes in
    let h : Held figures = scan_held false 0 bytes (omega arith) in
    by_bool (eqb (get_or bytes 15 0) 121)
    (λ e. rw e (from_fits (has_minus bytes) 1 figures (omega arith) h))
    (λ e.
    rw e
    (by_bool (eqb (get_or bytes 15 0) 110)
    (λ g. rw g (from_fits (has_minus bytes) 0 figures (omega arith) h))
    (λ g. rw g (from_fits (has_minus bytes) (get_or figures 0 0) (drop 1 figures) (entry_held figures 0 h) (drop_held figures 1 h)))))

-- the answers that are read from any bytes
pub plan_in_fits : (bytes : List ℕ) → PlanFits (plan_in (figures_in bytes))
plan_in_fits bytes = plan_fits (figures_in bytes) (scan_held false 0 bytes (omega arith))

-- what is told of a judge's slack fits, with a refusal too
pub told_slack_fits : (bytes : List ℕ) → SlackFits (read_sentence bytes).verdict.slack
unfolding read_sentence
told_slack_fits bytes =
    by_bool (same bytes (plan_sentence (plan_in (figures_in bytes))))
    (λ e. rw e (omega arith))
    (λ e. rw e (by_bool (same bytes (judge_sentence (judge_in bytes))) (λ g. rw g (judge_in_fits bytes).slack) (λ g. rw g (omega arith))))

-- a check that passed is not one that refused
abbrev passed_as : Check → ℕ
passed_as (Ok tt) = 1
passed_as (Err r) = 0

passed_refused : Passed ≡ Refused Malformed → ⊥
passed_refused e = omega (arith, numbers)
  where
    numbers : ◌≡◌ {A = ℕ} 1 0
    numbers = ap passed_as e

pub reads : (bytes : List ℕ) → Reads bytes
unfolding read_sentence
reads bytes =
    let p = plan_in (figures_in bytes) in
    let v = judge_in bytes in
    by_bool (same bytes (plan_sentence p))
    (λ e.
    let q = sym (same_equal bytes (plan_sentence p) e) in
    let f = plan_in_fits bytes in
    planned p f q (ap read_sentence (sym q) ∙ plan_there_back p f))
    (λ e.
    by_bool (same bytes (judge_sentence v))
    (λ g. let q = sym (same_equal bytes (judge_sentence v) g) in judged v (judge_in_fits bytes) q (ap read_sentence (sym q) ∙ judge_there_back v (judge_in_fits bytes)))
    (λ g.
    let r : read_sentence bytes ≡ record { check = Refused Malformed; kind = Neither; plan = no_plan; verdict = no_verdict } = refused e g in
    neither
    (λ a f q. passed_refused (ap (λ (t : Told). t.check) (sym (plan_there_back a f) ∙ ap read_sentence q ∙ r)))
    (λ a f q. passed_refused (ap (λ (t : Told). t.check) (sym (judge_there_back a f) ∙ ap read_sentence q ∙ r)))
    r))
  where
    refused : same bytes (plan_sentence (plan_in (figures_in bytes))) ≡ false → same bytes (judge_sentence (judge_in bytes)) ≡ false
        → read_sentence bytes ≡ record { check = Refused Malformed; kind = Neither; plan = no_plan; verdict = no_verdict }
    refused e g = ap₂ (λ (x y : Bool). told_by x y (plan_in (figures_in bytes)) (judge_in bytes)) e g
