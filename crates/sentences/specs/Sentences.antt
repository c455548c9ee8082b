-- The sentence of an answer (rules 24.1 to 24.7), whatever values its fields hold, and what the composer makes of any lent bytes (rule 24.9).
use Rattle.std.specs.Prelude.{ℕ, zero, suc, ◌-◌, ◌/◌, ◌%◌, ◌^◌, cond, List, [], ◌∷◌, ◌++◌, eqb, ℤ, pos, negsuc, nat_abs, length}
use Prim.Native.String.{String}
use Rattle.rules.specs.Verdicts.{Judgement}
use Rattle.rules.specs.Lists.{rows_to, keep, joined, all_zero}
use Rattle.rules.specs.Numbers.{planned_number, rows_left, verdict_number, verdict_yes, verdict_row, verdict_slack}
use Rattle.texts.specs.Decimals.{decimal}
use Rattle.texts.specs.Lent.{check_room, WrittenBack, write_checked}
use Rattle.texts.specs.Quoted.{bytes, together}
use Rattle.ceiling.specs.declared.Counted.{Counted}
use Rattle.sentences.specs.declared.PlanAnswer.{PlanAnswer}
use Rattle.sentences.specs.declared.JudgeAnswer.{JudgeAnswer}

-- ---- what a number means (rule 24.6)
-- the words of the numbers from 0 on; 0 is the planner's
abbrev pub meanings : List String
meanings =
    "an order was made"
    ∷ "refused: the sheet has the wrong length"
    ∷ "refused: a field or a line end is malformed"
    ∷ "refused: the row count is beyond its limits"
    ∷ "refused: a speed is beyond its limits"
    ∷ "refused: a row is beyond its limits, or figures stand after the last"
    ∷ "refused: the numbers are not an order of the table"
    ∷ "no correct order exists"
    ∷ "refused: the clock is at its end"
    ∷ "refused: the run record is unsound"
    ∷ "refused: the memory lent is too short"
    ∷ "refused: the loading is beyond its limit"
    ∷ "refused: a promised part is beyond its limit"
    ∷ "refused: a row follows what is not a row above it"
    ∷ "refused: a row follows one that is released later"
    ∷ "refused: a HI row follows a LO row"
    ∷ "refused: the order to be committed is not correct"
    ∷ "refused: a row of the running sheet is open"
    ∷ "refused: a row is released before the clock"
    ∷ "refused: planning takes more trials than the ceiling"
    ∷ "refused: the table has more rows than can be counted"
    ∷ []

-- the entry at an index, and where there is none the words of a number that no call answers
abbrev pub words_at : List String → ℕ → String
words_at [] k = "a number without a meaning"
words_at (s ∷ ss) zero = s
words_at (s ∷ ss) (suc k) = words_at ss k

-- what a number means
unfoldable pub meaning : ℕ → List ℕ
meaning number = bytes (words_at meanings number)

-- what 0 of the judge means, with its yes or no
abbrev pub judged_words : ℕ → List ℕ
judged_words said = cond (eqb said 1) (bytes "the order is correct") (cond (eqb said 0) (bytes "the order is not correct") (bytes "an order was judged"))

-- what a number of the judge means, with its yes or no
unfoldable pub judged_meaning : ℕ → ℕ → List ℕ
judged_meaning number said = cond (eqb number 0) (judged_words said) (meaning number)

-- ---- figures and lists
-- a figure and its noun, with an s unless the figure is 1 (rule 24.2)
unfoldable pub counted : ℕ → List ℕ → List ℕ
counted v noun = together (decimal v ∷ noun ∷ cond (eqb v 1) [] (bytes "s") ∷ [])

-- a number of a list that is not its first (rules 24.4, 24.5)
abbrev pub item : ℕ → List ℕ
item y = bytes ", " ++ decimal y

-- numbers after an opening, a comma and a space between each two, and the closing bracket; nothing of none (rules 24.4, 24.5)
abbrev pub listed : List ℕ → List ℕ → List ℕ
listed opening [] = []
listed opening (x ∷ xs) = together (opening ∷ decimal x ∷ joined item xs ∷ bytes ")" ∷ [])

-- how many numbers there are, and which (rules 24.3 to 24.5)
unfoldable pub enumerated : List ℕ → List ℕ → List ℕ → List ℕ → List ℕ
enumerated noun tail opening xs = together (counted (length xs) noun ∷ tail ∷ listed opening xs ∷ [])

-- ---- the planner's sentence
-- the numbers up to the last one that is not 0 (rule 24.4)
abbrev pub up_to_last : List ℕ → List ℕ
up_to_last [] = []
up_to_last (x ∷ xs) = cond (all_zero (x ∷ xs)) [] (x ∷ up_to_last xs)

-- the rows of a word, the lowest first (rules 4.8, 24.5)
unfoldable pub rows_in : ℕ → List ℕ
rows_in word = keep (λ i. eqb (word / 2 ^ (i - 1) % 2) 1) (rows_to 64)

-- what stands before the trials
unfoldable pub plan_opening : ℕ → List ℕ
plan_opening number = together (bytes "The planner answers number " ∷ decimal number ∷ bytes " (" ∷ meaning number ∷ bytes "): " ∷ [])

-- the planner's sentence (rule 24.3)
unfoldable pub plan_sentence : PlanAnswer → List ℕ
plan_sentence a =
    together
    (plan_opening a.number
    ∷ counted a.trials (bytes " trial")
    ∷ bytes ", "
    ∷ enumerated (bytes " row") (bytes " in the order") (bytes " (highest first: ") (up_to_last a.order)
    ∷ bytes ", "
    ∷ enumerated (bytes " row") (bytes " left") (bytes " (") (rows_in a.left)
    ∷ bytes "."
    ∷ [])

-- ---- the judge's sentence
-- yes, no, or another value (rule 24.7)
unfoldable pub yes_or_no : ℕ → List ℕ
yes_or_no said = cond (eqb said 1) (bytes "yes") (cond (eqb said 0) (bytes "no") (together (decimal said ∷ bytes ", neither yes nor no" ∷ [])))

-- a minus before a whole number below 0 (rule 24.7)
abbrev pub minus_of : ℤ → List ℕ
minus_of (pos v) = []
minus_of (negsuc m) = bytes "-"

-- a slack: its sign and its size in slots (rule 24.7)
unfoldable pub slack_words : ℤ → List ℕ
slack_words z = together (minus_of z ∷ counted (nat_abs z) (bytes " slot") ∷ [])

-- what stands before the row
unfoldable pub judge_opening : ℕ → ℕ → List ℕ
judge_opening number said =
    together
    (bytes "The judge says " ∷ yes_or_no said ∷ bytes " (number " ∷ decimal number ∷ bytes ", " ∷ judged_meaning number said ∷ bytes "): " ∷ [])

-- the judge's sentence (rule 24.7)
unfoldable pub judge_sentence : JudgeAnswer → List ℕ
judge_sentence a =
    together
    (judge_opening a.number a.yes
    ∷ bytes "tightest row "
    ∷ decimal a.row
    ∷ bytes ", slack "
    ∷ slack_words a.slack
    ∷ bytes "."
    ∷ [])

-- ---- the answers of the planner and of the judge, as they are told (rule 24.1)
abbrev pub plan_answer : Counted → PlanAnswer
plan_answer c =
    record { number = planned_number c.planning.answer; left = rows_left c.planning.answer; order = c.planning.order; trials = c.trials }

abbrev pub judge_answer : Judgement → JudgeAnswer
judge_answer v = record { number = verdict_number v; yes = cond (verdict_yes v) 1 0; row = verdict_row v; slack = verdict_slack v }

-- ---- the composer: for any sentence and any lent bytes (rules 24.9, 11.12)
unfoldable pub compose_of : List ℕ → List ℕ → WrittenBack
compose_of sentence lent = write_checked (check_room (length sentence) (length lent)) sentence lent
