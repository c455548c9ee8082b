-- How long a sentence is at most (rule 24.10).
use Rattle.std.specs.Prelude.{ℕ, zero, suc, ◌+◌, ◌-◌, ◌*◌, ◌/◌, ◌%◌, ◌^◌, ◌≤◌, ◌<◌, Bool, true, false, cond, List, [], ◌∷◌, ◌≡◌, refl, eqb, leb, ℤ, pos, negsuc, length}
use Prim.Native.String.{String}
use Rattle.std.proofs.Common.{ap, pow-suc, arith, length-append, leb-true, ne_eqb, le-leb}
use Rattle.std.proofs.Math.Nat.{pow-le-pow_right}
use Rattle.std.proofs.lemmas.Bool.{lt-leb}
use Rattle.rules.specs.Lists.{all, joined, keep, rows_to}
use Rattle.texts.specs.Decimals.{has_digit, digit_if, decimal}
use Rattle.texts.specs.Quoted.{bytes, together}
use Rattle.theory.specs.Facts.{count_rows, all_in}
use Rattle.theory.specs.Tests.{by_bool, by-leb, by_eqb, and_left, and_right}
use Rattle.decimals.specs.Decimal.{digit_there, digit_none}
use Rattle.fields.specs.Scan.{powers}
use Rattle.sentences.specs.declared.PlanAnswer.{PlanAnswer}
use Rattle.sentences.specs.declared.JudgeAnswer.{JudgeAnswer}
use Rattle.sentences.specs.Sentences.{meanings, words_at, meaning, judged_meaning, counted, item, listed, enumerated, up_to_last, rows_in, plan_opening, plan_sentence, yes_or_no, slack_words, judge_opening, judge_sentence}
use Rattle.sentences.specs.Scanned.{powers_some}
use Rattle.sentences.specs.Telling.{judged_all, yes_all}
use Rattle.sentences.proofs.RoundTrip.{last_all, last_within, rows_in_held}
use Rattle.sentences.specs.RoundTrip.{PlanFits, SlackFits, JudgeFits}

-- ---- numbers
digits_few : (v j : ℕ) → length (joined (digit_if v) (powers j)) ≤ j
digits_few v zero = omega arith
digits_few v (suc j) =
    let parts = length-append (digit_if v (10 ^ j)) (joined (digit_if v) (powers j)) in
    by_bool (has_digit v (10 ^ j))
    (λ e. omega (arith, parts, digit_there v (10 ^ j) e, digits_few v j))
    (λ e. omega (arith, parts, ap length (digit_none v (10 ^ j) e), digits_few v j))

-- a number below a power of ten has no digit above it
digits_below : (v j k : ℕ) → v < 10 ^ suc k → length (joined (digit_if v) (powers j)) ≤ suc k
digits_below v zero k h = omega arith
digits_below v (suc j) k h =
    by-leb (suc j) (suc k)
    (λ e l. omega (arith, digits_few v (suc j)))
    (λ e l.
    let high : 10 ^ suc k ≤ 10 ^ j = pow-le-pow_right {n = 10} (omega arith) (omega arith) in
    let ten : 10 ≤ 10 ^ suc k = omega (arith, pow-suc 10 k, powers_some k) in
    let none : has_digit v (10 ^ j) ≡ false = rw (lt-leb (10 ^ j) v (omega (arith, high)), ne_eqb (10 ^ j) 1 (λ z. omega (arith, ten, high))) in
    omega (arith, length-append (digit_if v (10 ^ j)) (joined (digit_if v) (powers j)), ap length (digit_none v (10 ^ j) none), digits_below v j k h))

decimal_long : (v k : ℕ) → v < 10 ^ suc k → length (decimal v) ≤ suc k
unfolding decimal
decimal_long v k h = digits_below v 10 k h

counted_long : (v k : ℕ) (noun : List ℕ) → v < 10 ^ suc k → length (counted v noun) ≤ suc k + length noun + 1
unfolding counted
counted_long v k noun h =
    omega (
      arith,
      decimal_long v k h,
      length-append (decimal v) (together (noun ∷ cond (eqb v 1) [] (bytes "s") ∷ [])),
      length-append noun (together (cond (eqb v 1) [] (bytes "s") ∷ [])),
      suffix,
    )
  where
    suffix : length (together (cond (eqb v 1) [] (bytes "s") ∷ [])) ≤ 1
    suffix = by_bool (eqb v 1) (λ e. rw e (omega arith)) (λ e. rw e (omega arith))

-- ---- a number and its meaning
-- at an index after the last there are the words of a number without a meaning
pub beyond : (ss : List String) (n : ℕ) → length ss ≤ n → words_at ss n ≡ "a number without a meaning"
beyond [] n h = refl
beyond (s ∷ ss) zero h = absurd (omega arith)
beyond (s ∷ ss) (suc n) h = beyond ss n (omega arith)

-- a test that holds of 0 and of the rows up to k holds of every number up to k
up_to : (p : ℕ → Bool) (k : ℕ) → p 0 ≡ true → all p (rows_to k) ≡ true → (n : ℕ) → n ≤ k → p n ≡ true
up_to p k z e zero h = z
up_to p k z e (suc n) h = all_in p (rows_to k) e (suc n) (omega (arith, count_rows k (suc n) (omega arith) h))

abbrev meant_short : ℕ → Bool
meant_short number = leb (length (decimal number) + length (meaning number)) 69

meant_few : (number : ℕ) → number ≤ 20 → meant_short number ≡ true
unfolding decimal digit_if meaning
meant_few = up_to meant_short 20 refl refl

meant_long : (number : ℕ) → number ≤ 4294967295 → length (decimal number) + length (meaning number) ≤ 69
unfolding meaning
meant_long number h =
    by-leb number 20
    (λ e l. leb-true (length (decimal number) + length (meaning number)) 69 (meant_few number l))
    (λ e l. omega (arith, decimal_long number 9 (omega arith), ap (λ (s : String). length (bytes s)) (beyond meanings number (omega arith))))

-- ---- lists
-- a list is as long as its opening and its items, but for what stands before the first item, and the bracket
listed_long : (opening xs : List ℕ) → length (listed opening xs) ≤ length opening + (length (joined item xs) - 1)
listed_long opening [] = omega arith
listed_long opening (x ∷ xs) =
    omega (
      arith,
      length-append opening (together (decimal x ∷ joined item xs ∷ bytes ")" ∷ [])),
      length-append (decimal x) (together (joined item xs ∷ bytes ")" ∷ [])),
      length-append (joined item xs) (bytes ")"),
      length-append (decimal x) (joined item xs),
    )

-- items of numbers up to 255 have five bytes at most
items_small : (xs : List ℕ) → all (λ x. leb x 255) xs ≡ true → length (joined item xs) ≤ 5 * length xs
items_small [] e = omega arith
items_small (x ∷ xs) e =
    let h = leb-true x 255 (and_left (leb x 255) _ e) in
    omega (arith, length-append (decimal x) (joined item xs), decimal_long x 2 (omega arith), items_small xs (and_right (leb x 255) _ e))

-- what is kept of a list is no longer than what comes of all of it
kept_long : (f : ℕ → List ℕ) (p : ℕ → Bool) (xs : List ℕ) → length (joined f (keep p xs)) ≤ length (joined f xs)
kept_long f p [] = omega arith
kept_long f p (x ∷ xs) =
    by_bool (p x)
    (λ e. rw e (omega (arith, length-append (f x) (joined f (keep p xs)), length-append (f x) (joined f xs), kept_long f p xs)))
    (λ e. rw e (omega (arith, length-append (f x) (joined f xs), kept_long f p xs)))

rows_long : (left : ℕ) → length (joined item (rows_in left)) ≤ 247
unfolding rows_in decimal digit_if
rows_long left = kept_long item (λ i. eqb (left / 2 ^ (i - 1) % 2) 1) (rows_to 64)

enumerated_long : (noun tail opening xs : List ℕ) → length xs ≤ 64
    → length (enumerated noun tail opening xs) ≤ length noun + 3 + length tail + (length opening + (length (joined item xs) - 1))
unfolding enumerated
enumerated_long noun tail opening xs h =
    omega (
      arith,
      counted_long (length xs) 1 noun (omega arith),
      listed_long opening xs,
      length-append (counted (length xs) noun) (together (tail ∷ listed opening xs ∷ [])),
      length-append tail (together (listed opening xs ∷ [])),
      length-append (listed opening xs) [],
    )

-- ---- the planner's sentence
opening_long : (number : ℕ) → number ≤ 4294967295 → length (plan_opening number) ≤ 101
unfolding plan_opening
opening_long number h =
    omega (
      arith,
      meant_long number h,
      length-append (decimal number) (together (bytes " (" ∷ meaning number ∷ bytes "): " ∷ [])),
      length-append (meaning number) (together (bytes "): " ∷ [])),
    )

pub plan_longest : (a : PlanAnswer) → PlanFits a → length (plan_sentence a) ≤ 739
unfolding plan_sentence
plan_longest a f =
    let P = up_to_last a.order in
    let R = rows_in a.left in
    let places = enumerated (bytes " row") (bytes " in the order") (bytes " (highest first: ") P in
    let rows = enumerated (bytes " row") (bytes " left") (bytes " (") R in
    let few : length P ≤ 64 = omega (arith, last_within a.order, f.long) in
    omega (
      arith,
      opening_long a.number f.number,
      counted_long a.trials 9 (bytes " trial") (omega (arith, f.trials)),
      enumerated_long (bytes " row") (bytes " in the order") (bytes " (highest first: ") P few,
      items_small P (last_all (λ x. leb x 255) a.order f.small),
      few,
      enumerated_long (bytes " row") (bytes " left") (bytes " (") R (rows_in_held a.left).1,
      rows_long a.left,
      length-append (plan_opening a.number) (together (counted a.trials (bytes " trial") ∷ bytes ", " ∷ places ∷ bytes ", " ∷ rows ∷ bytes "." ∷ [])),
      length-append (counted a.trials (bytes " trial")) (together (bytes ", " ∷ places ∷ bytes ", " ∷ rows ∷ bytes "." ∷ [])),
      length-append places (together (bytes ", " ∷ rows ∷ bytes "." ∷ [])),
      length-append rows (together (bytes "." ∷ [])),
    )

-- ---- the judge's sentence
yes_long : (said : ℕ) → said ≤ 4294967295 → length (yes_or_no said) ≤ 30
yes_long said h =
    leb-true (length (yes_or_no said)) 30
    (yes_all (λ t. leb (length t) 30) said refl refl
    (le-leb (length (together (decimal said ∷ bytes ", neither yes nor no" ∷ []))) 30
    (omega (arith, decimal_long said 9 (omega arith), length-append (decimal said) (together (bytes ", neither yes nor no" ∷ []))))))

judged_other : (number said : ℕ) → eqb number 0 ≡ false → judged_meaning number said ≡ meaning number
unfolding judged_meaning
judged_other number said e = rw e

zero_meant : leb (length (meaning 0)) 40 ≡ true
unfolding meaning
zero_meant = refl

judged_long : (number said : ℕ) → number ≤ 4294967295 → length (decimal number) + length (judged_meaning number said) ≤ 69
judged_long number said h =
    by_eqb number 0
    (λ e q. omega (arith, decimal_long number 0 (omega arith), leb-true (length (judged_meaning number said)) 40 (judged_all (λ t. leb (length t) 40) number said refl refl refl (rw q zero_meant))))
    (λ e q. omega (arith, meant_long number h, ap length (judged_other number said e)))

opened_long : (number said : ℕ) → number ≤ 4294967295 → said ≤ 4294967295 → length (judge_opening number said) ≤ 128
unfolding judge_opening
opened_long number said h y =
    let J = judged_meaning number said in
    omega (
      arith,
      yes_long said y,
      judged_long number said h,
      length-append (yes_or_no said) (together (bytes " (number " ∷ decimal number ∷ bytes ", " ∷ J ∷ bytes "): " ∷ [])),
      length-append (decimal number) (together (bytes ", " ∷ J ∷ bytes "): " ∷ [])),
      length-append J (together (bytes "): " ∷ [])),
    )

size_long : (z : ℤ) → SlackFits z → length (slack_words z) ≤ 17
unfolding slack_words
size_long (pos v) f =
    omega (arith, counted_long v 9 (bytes " slot") (omega arith), length-append (counted v (bytes " slot")) [])
size_long (negsuc m) f =
    omega (arith, counted_long (suc m) 9 (bytes " slot") (omega arith), length-append (counted (suc m) (bytes " slot")) [])

pub judge_longest : (a : JudgeAnswer) → JudgeFits a → length (judge_sentence a) ≤ 177
unfolding judge_sentence
judge_longest a f =
    omega (
      arith,
      opened_long a.number a.yes f.number f.yes,
      decimal_long a.row 9 (omega (arith, f.row)),
      size_long a.slack f.slack,
      length-append (judge_opening a.number a.yes) (together (bytes "tightest row " ∷ decimal a.row ∷ bytes ", slack " ∷ slack_words a.slack ∷ bytes "." ∷ [])),
      length-append (decimal a.row) (together (bytes ", slack " ∷ slack_words a.slack ∷ bytes "." ∷ [])),
      length-append (slack_words a.slack) (together (bytes "." ∷ [])),
    )
