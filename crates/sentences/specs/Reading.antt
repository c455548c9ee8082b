-- The reader of sentences (rule 24.11). Whatever the bytes are, they give one planner's answer and one judge's answer: from the figures in them, in their
-- sequence, and for the judge from a letter and a minus. The bytes are a sentence exactly if they are that of one of these two answers.
use Rattle.std.specs.Prelude.{ℕ, zero, suc, ◌+◌, ◌-◌, ◌*◌, ◌/◌, ◌%◌, ◌^◌, min, Bool, true, false, cond, not, ◌&&◌, List, [], ◌∷◌, map, eqb, leb, ℤ, pos, negsuc, get_or, take, drop, replicate}
use Rattle.rules.specs.declared.Refusal.TheVariants.{Malformed}
use Rattle.rules.specs.Checks.{Passed, Refused}
use Rattle.rules.specs.Lists.{same, count}
use Rattle.rules.specs.Choice.{padded}
use Rattle.texts.specs.Fields.{digit_of}
use Rattle.sentences.specs.declared.PlanAnswer.{PlanAnswer}
use Rattle.sentences.specs.declared.JudgeAnswer.{JudgeAnswer}
use Rattle.sentences.specs.declared.Kind.{Kind}
use Rattle.sentences.specs.declared.Kind.TheVariants.{Neither, Planner, Judge}
use Rattle.sentences.specs.declared.Told.{Told}
use Rattle.sentences.specs.Sentences.{plan_sentence, judge_sentence}

-- the byte is a digit
abbrev pub is_digit : ℕ → Bool
is_digit b = leb 48 b && leb b 57

-- a digit more; 4,294,967,295 stands for all that is above it
unfoldable pub grown : ℕ → ℕ → ℕ
grown v b = min (10 * v + digit_of b) 4294967295

-- The figures in the bytes, in their sequence: each run of digits is one. The first argument says whether a figure has begun, the second is what its
-- digits so far come to.
unfoldable pub scan : Bool → ℕ → List ℕ → List ℕ
scan false v [] = []
scan true v [] = v ∷ []
scan begun v (b ∷ bs) = cond (is_digit b) (scan true (grown v b) bs) (cond begun (v ∷ scan false 0 bs) (scan false 0 bs))

abbrev pub figures_in : List ℕ → List ℕ
figures_in bytes = scan false 0 bytes

-- ---- the planner's answer in the figures: number, trials, count of places, places, count of rows, rows
-- at most 64 of them are looked at
abbrev pub at_most : ℕ → ℕ
at_most k = min k 64

-- a row more in a word, if it is one of 64 and not there yet
unfoldable pub marked : ℕ → ℕ → ℕ
marked word i = cond (leb 1 i && leb i 64 && eqb (word / 2 ^ (i - 1) % 2) 0) (word + 2 ^ (i - 1)) word

abbrev pub word_of : ℕ → List ℕ → ℕ
word_of word [] = word
word_of word (i ∷ is) = word_of (marked word i) is

-- small numbers go to 255
abbrev pub small : ℕ → ℕ
small v = min v 255

unfoldable pub plan_in : List ℕ → PlanAnswer
plan_in figures =
    let places = at_most (get_or figures 2 0) in
    record {
      number = get_or figures 0 0;
      left = word_of 0 (take (at_most (get_or figures (3 + places) 0)) (drop (4 + places) figures));
      order = padded (map small (take places (drop 3 figures)));
      trials = get_or figures 1 0;
    }

-- ---- the judge's answer in the bytes and their figures: yes or no, number, row, slack
-- the whole number of this size, below 0 or not; sizes that it cannot have stand for the last one that it can
abbrev pub below : ℕ → ℤ
below zero = pos 0
below (suc m) = negsuc m

abbrev pub slack_of : Bool → ℕ → ℤ
slack_of true size = below (min size 2147483648)
slack_of false size = pos (min size 2147483647)

abbrev pub judge_from : Bool → ℕ → List ℕ → JudgeAnswer
judge_from minus said figures = record { number = get_or figures 0 0; yes = said; row = get_or figures 1 0; slack = slack_of minus (get_or figures 2 0) }

-- byte 15 is the y of yes, the n of no, or the first digit of another value
unfoldable pub judge_in : List ℕ → JudgeAnswer
judge_in bytes =
    let figures = figures_in bytes in
    let minus = not (eqb (count 45 bytes) 0) in
    cond (eqb (get_or bytes 15 0) 121)
    (judge_from minus 1 figures)
    (cond (eqb (get_or bytes 15 0) 110) (judge_from minus 0 figures) (judge_from minus (get_or figures 0 0) (drop 1 figures)))

-- ---- the reader's answer for any bytes (rule 24.11)
abbrev pub no_plan : PlanAnswer
no_plan = record { number = 0; left = 0; order = replicate 64 0; trials = 0 }

abbrev pub no_verdict : JudgeAnswer
no_verdict = record { number = 0; yes = 0; row = 0; slack = pos 0 }

abbrev pub told_by : Bool → Bool → PlanAnswer → JudgeAnswer → Told
told_by true judged p v = record { check = Passed; kind = Planner; plan = p; verdict = no_verdict }
told_by false true p v = record { check = Passed; kind = Judge; plan = no_plan; verdict = v }
told_by false false p v = record { check = Refused Malformed; kind = Neither; plan = no_plan; verdict = no_verdict }

unfoldable pub read_sentence : List ℕ → Told
read_sentence bytes =
    let p = plan_in (figures_in bytes) in
    let v = judge_in bytes in
    told_by (same bytes (plan_sentence p)) (same bytes (judge_sentence v)) p v

-- ---- for callers that know numbers only (rule 24.11)
-- whose answer it is, as a number
abbrev pub kind_number : Kind → ℕ
kind_number Neither = 0
kind_number Planner = 1
kind_number Judge = 2

-- the number of the answer that was read
abbrev pub number_told : Kind → PlanAnswer → JudgeAnswer → ℕ
number_told Neither p v = 0
number_told Planner p v = p.number
number_told Judge p v = v.number
