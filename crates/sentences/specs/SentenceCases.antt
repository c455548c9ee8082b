-- Sentences (rule 13.18): one table of cases, computed from the definitions and checked by one theorem. Each of the faults 14.50 to 14.56 meets one here.
use Rattle.std.specs.Prelude.{ℕ, Bool, true, false, ◌&&◌, List, [], ◌∷◌, ◌++◌, T, eqb, ℤ, pos, negsuc, length, replicate}
use Prim.Native.String.{String}
use Rattle.rules.specs.declared.Table.{Table}
use Rattle.rules.specs.Cases.{job}
use Rattle.rules.specs.Choice.{padded, unfollowed, passes, sequence, choice, fill, taker, word}
use Rattle.rules.specs.Judge.{table_of, judge_of, tightest}
use Rattle.rules.specs.Lists.{same}
use Rattle.rules.specs.Need.{work_slots}
use Rattle.rules.specs.Numbers.{refusal_number, check_number, planned_number, rows_left, verdict_number, verdict_yes, verdict_row, verdict_slack}
use Rattle.rules.specs.Orders.{is_arrangement, is_order, check_order, check_both}
use Rattle.rules.specs.Slots.{fresh, is_pending, is_waiting, is_ready, chosen, is_over, brought, serve, slot}
use Rattle.rules.specs.Tables.{row_ok, tail_ok, promise_ok, check_wait, check_table}
use Rattle.rules.specs.Worst.{horizon, worst_finish, promised_moment, slack, meets}
use Rattle.texts.specs.Decimals.{digit_if, decimal}
use Rattle.texts.specs.Fields.{digit_of}
use Rattle.texts.specs.Lent.{check_room}
use Rattle.texts.specs.Quoted.{bytes}
use Rattle.ceiling.specs.Ceiling.{trials_at, trials_from, trial_count, plan_within}
use Rattle.sentences.specs.declared.PlanAnswer.{PlanAnswer}
use Rattle.sentences.specs.declared.JudgeAnswer.{JudgeAnswer}
use Rattle.sentences.specs.declared.Told.{Told}
use Rattle.sentences.specs.Sentences.{meaning, judged_meaning, counted, enumerated, rows_in, plan_opening, plan_sentence, yes_or_no, slack_words, judge_opening, judge_sentence, plan_answer, judge_answer, compose_of}
use Rattle.sentences.specs.Reading.{grown, scan, marked, plan_in, judge_in, read_sentence, no_plan, no_verdict, kind_number, number_told}

pub data Case : Type 0 where
  -- a planner's answer and its sentence, from which it is read again
  plan : PlanAnswer → String → Case
  -- a judge's answer and its sentence, from which it is read again
  judge : JudgeAnswer → String → Case
  -- how long the sentence of an answer is
  plan_long : PlanAnswer → ℕ → Case
  judge_long : JudgeAnswer → ℕ → Case
  -- a sentence and lent bytes; the composer's number and length, and all bytes afterwards
  lent : String → List ℕ → ℕ → ℕ → List ℕ → Case
  -- bytes that are refused
  refused : List ℕ → Case

-- ---- what is compared
abbrev same_plan : PlanAnswer → PlanAnswer → Bool
same_plan a b = eqb a.number b.number && eqb a.left b.left && same a.order b.order && eqb a.trials b.trials

abbrev same_slack : ℤ → ℤ → Bool
same_slack (pos v) (pos w) = eqb v w
same_slack (negsuc v) (negsuc w) = eqb v w
same_slack (pos v) (negsuc w) = false
same_slack (negsuc v) (pos w) = false

abbrev same_judge : JudgeAnswer → JudgeAnswer → Bool
same_judge a b = eqb a.number b.number && eqb a.yes b.yes && eqb a.row b.row && same_slack a.slack b.slack

-- the reader's number and kind, the number of the answer read, and both answers
abbrev tells : Told → ℕ → ℕ → ℕ → PlanAnswer → JudgeAnswer → Bool
tells t number kind told p v =
    eqb (check_number t.check) number
    && eqb (kind_number t.kind) kind
    && eqb (number_told t.kind t.plan t.verdict) told
    && same_plan t.plan p
    && same_judge t.verdict v

abbrev holds : Case → Bool
holds (plan a s) = same (plan_sentence a) (bytes s) && tells (read_sentence (bytes s)) 0 1 a.number a no_verdict
holds (judge a s) = same (judge_sentence a) (bytes s) && tells (read_sentence (bytes s)) 0 2 a.number no_plan a
holds (plan_long a k) = eqb (length (plan_sentence a)) k
holds (judge_long a k) = eqb (length (judge_sentence a)) k
holds (lent s before number size after) =
    let back = compose_of (bytes s) before in
    eqb (check_number back.said.check) number && eqb back.said.size size && same back.bytes after
holds (refused bs) = tells (read_sentence bs) 2 0 0 no_plan no_verdict

abbrev all_hold : List Case → Bool
all_hold [] = true
all_hold (c ∷ cs) = holds c && all_hold cs

-- ---- answers
-- P1 and P3 (rules 13.1, 13.3)
abbrev first : Table
first = table_of (job 0 20 10 1 ∷ job 5 15 10 0 ∷ job 5 11 19 1 ∷ job 0 5 5 0 ∷ []) 5 2 0

abbrev third : Table
third = table_of (job 0 2 2 0 ∷ job 0 4 4 1 ∷ []) 2 1 0

-- 65 rows
abbrev many : Table
many = record { n = 65; normal = 5; degraded = 2; loading = 0; release = first.release; work = first.work; deadline = first.deadline; level = first.level; promised = first.promised; follows = first.follows }

-- a planner's and a judge's answer by their fields
abbrev planned : ℕ → ℕ → List ℕ → ℕ → PlanAnswer
planned number left order trials = record { number = number; left = left; order = padded order; trials = trials }

abbrev judged : ℕ → ℕ → ℕ → ℤ → JudgeAnswer
judged number said row z = record { number = number; yes = said; row = row; slack = z }

-- ---- the examples of rule 24.8, and 1 of everything
abbrev examples : List Case
examples =
    plan (plan_answer (plan_within 6 first)) "The planner answers number 0 (an order was made): 6 trials, 4 rows in the order (highest first: 1, 2, 3, 4), 0 rows left."
    ∷ plan (plan_answer (plan_within 2 third)) "The planner answers number 7 (no correct order exists): 2 trials, 0 rows in the order, 2 rows left (1, 2)."
    ∷ plan (plan_answer (plan_within 5 first)) "The planner answers number 19 (refused: planning takes more trials than the ceiling): 5 trials, 0 rows in the order, 0 rows left."
    ∷ plan (plan_answer (plan_within 6 many)) "The planner answers number 3 (refused: the row count is beyond its limits): 0 trials, 0 rows in the order, 0 rows left."
    ∷ plan (planned 4000000000 9223372036854775809 (0 ∷ 0 ∷ 255 ∷ []) 1) "The planner answers number 4000000000 (a number without a meaning): 1 trial, 3 rows in the order (highest first: 0, 0, 255), 2 rows left (1, 64)."
    ∷ judge (judge_answer (judge_of first (padded (1 ∷ 2 ∷ 3 ∷ 4 ∷ [])))) "The judge says yes (number 0, the order is correct): tightest row 1, slack 0 slots."
    ∷ judge (judge_answer (judge_of first (padded (4 ∷ 3 ∷ 2 ∷ 1 ∷ [])))) "The judge says no (number 0, the order is not correct): tightest row 1, slack -10 slots."
    ∷ judge (judge_answer (judge_of first (padded (1 ∷ 1 ∷ 3 ∷ 4 ∷ [])))) "The judge says no (number 6, refused: the numbers are not an order of the table): tightest row 0, slack 0 slots."
    ∷ judge (judged 0 7 4294967295 (negsuc 2147483647)) "The judge says 7, neither yes nor no (number 0, an order was judged): tightest row 4294967295, slack -2147483648 slots."
    ∷ plan (planned 0 2 (1 ∷ []) 1) "The planner answers number 0 (an order was made): 1 trial, 1 row in the order (highest first: 1), 1 row left (2)."
    ∷ []

-- ---- each number from 1 to 20, the other fields zero
abbrev numbers : List Case
numbers =
    plan (planned 1 0 [] 0) "The planner answers number 1 (refused: the sheet has the wrong length): 0 trials, 0 rows in the order, 0 rows left."
    ∷ plan (planned 2 0 [] 0) "The planner answers number 2 (refused: a field or a line end is malformed): 0 trials, 0 rows in the order, 0 rows left."
    ∷ plan (planned 3 0 [] 0) "The planner answers number 3 (refused: the row count is beyond its limits): 0 trials, 0 rows in the order, 0 rows left."
    ∷ plan (planned 4 0 [] 0) "The planner answers number 4 (refused: a speed is beyond its limits): 0 trials, 0 rows in the order, 0 rows left."
    ∷ plan (planned 5 0 [] 0) "The planner answers number 5 (refused: a row is beyond its limits, or figures stand after the last): 0 trials, 0 rows in the order, 0 rows left."
    ∷ plan (planned 6 0 [] 0) "The planner answers number 6 (refused: the numbers are not an order of the table): 0 trials, 0 rows in the order, 0 rows left."
    ∷ plan (planned 7 0 [] 0) "The planner answers number 7 (no correct order exists): 0 trials, 0 rows in the order, 0 rows left."
    ∷ plan (planned 8 0 [] 0) "The planner answers number 8 (refused: the clock is at its end): 0 trials, 0 rows in the order, 0 rows left."
    ∷ plan (planned 9 0 [] 0) "The planner answers number 9 (refused: the run record is unsound): 0 trials, 0 rows in the order, 0 rows left."
    ∷ plan (planned 10 0 [] 0) "The planner answers number 10 (refused: the memory lent is too short): 0 trials, 0 rows in the order, 0 rows left."
    ∷ plan (planned 11 0 [] 0) "The planner answers number 11 (refused: the loading is beyond its limit): 0 trials, 0 rows in the order, 0 rows left."
    ∷ plan (planned 12 0 [] 0) "The planner answers number 12 (refused: a promised part is beyond its limit): 0 trials, 0 rows in the order, 0 rows left."
    ∷ plan (planned 13 0 [] 0) "The planner answers number 13 (refused: a row follows what is not a row above it): 0 trials, 0 rows in the order, 0 rows left."
    ∷ plan (planned 14 0 [] 0) "The planner answers number 14 (refused: a row follows one that is released later): 0 trials, 0 rows in the order, 0 rows left."
    ∷ plan (planned 15 0 [] 0) "The planner answers number 15 (refused: a HI row follows a LO row): 0 trials, 0 rows in the order, 0 rows left."
    ∷ plan (planned 16 0 [] 0) "The planner answers number 16 (refused: the order to be committed is not correct): 0 trials, 0 rows in the order, 0 rows left."
    ∷ plan (planned 17 0 [] 0) "The planner answers number 17 (refused: a row of the running sheet is open): 0 trials, 0 rows in the order, 0 rows left."
    ∷ plan (planned 18 0 [] 0) "The planner answers number 18 (refused: a row is released before the clock): 0 trials, 0 rows in the order, 0 rows left."
    ∷ plan (planned 19 0 [] 0) "The planner answers number 19 (refused: planning takes more trials than the ceiling): 0 trials, 0 rows in the order, 0 rows left."
    ∷ plan (planned 20 0 [] 0) "The planner answers number 20 (refused: the table has more rows than can be counted): 0 trials, 0 rows in the order, 0 rows left."
    ∷ judge (judged 1 0 0 (pos 0)) "The judge says no (number 1, refused: the sheet has the wrong length): tightest row 0, slack 0 slots."
    ∷ judge (judged 2 0 0 (pos 0)) "The judge says no (number 2, refused: a field or a line end is malformed): tightest row 0, slack 0 slots."
    ∷ judge (judged 3 0 0 (pos 0)) "The judge says no (number 3, refused: the row count is beyond its limits): tightest row 0, slack 0 slots."
    ∷ judge (judged 4 0 0 (pos 0)) "The judge says no (number 4, refused: a speed is beyond its limits): tightest row 0, slack 0 slots."
    ∷ judge (judged 5 0 0 (pos 0)) "The judge says no (number 5, refused: a row is beyond its limits, or figures stand after the last): tightest row 0, slack 0 slots."
    ∷ judge (judged 6 0 0 (pos 0)) "The judge says no (number 6, refused: the numbers are not an order of the table): tightest row 0, slack 0 slots."
    ∷ judge (judged 7 0 0 (pos 0)) "The judge says no (number 7, no correct order exists): tightest row 0, slack 0 slots."
    ∷ judge (judged 8 0 0 (pos 0)) "The judge says no (number 8, refused: the clock is at its end): tightest row 0, slack 0 slots."
    ∷ judge (judged 9 0 0 (pos 0)) "The judge says no (number 9, refused: the run record is unsound): tightest row 0, slack 0 slots."
    ∷ judge (judged 10 0 0 (pos 0)) "The judge says no (number 10, refused: the memory lent is too short): tightest row 0, slack 0 slots."
    ∷ judge (judged 11 0 0 (pos 0)) "The judge says no (number 11, refused: the loading is beyond its limit): tightest row 0, slack 0 slots."
    ∷ judge (judged 12 0 0 (pos 0)) "The judge says no (number 12, refused: a promised part is beyond its limit): tightest row 0, slack 0 slots."
    ∷ judge (judged 13 0 0 (pos 0)) "The judge says no (number 13, refused: a row follows what is not a row above it): tightest row 0, slack 0 slots."
    ∷ judge (judged 14 0 0 (pos 0)) "The judge says no (number 14, refused: a row follows one that is released later): tightest row 0, slack 0 slots."
    ∷ judge (judged 15 0 0 (pos 0)) "The judge says no (number 15, refused: a HI row follows a LO row): tightest row 0, slack 0 slots."
    ∷ judge (judged 16 0 0 (pos 0)) "The judge says no (number 16, refused: the order to be committed is not correct): tightest row 0, slack 0 slots."
    ∷ judge (judged 17 0 0 (pos 0)) "The judge says no (number 17, refused: a row of the running sheet is open): tightest row 0, slack 0 slots."
    ∷ judge (judged 18 0 0 (pos 0)) "The judge says no (number 18, refused: a row is released before the clock): tightest row 0, slack 0 slots."
    ∷ judge (judged 19 0 0 (pos 0)) "The judge says no (number 19, refused: planning takes more trials than the ceiling): tightest row 0, slack 0 slots."
    ∷ judge (judged 20 0 0 (pos 0)) "The judge says no (number 20, refused: the table has more rows than can be counted): tightest row 0, slack 0 slots."
    ∷ []

-- ---- absurd fields
abbrev absurds : List Case
absurds =
    plan (planned 0 0 (replicate 63 0 ++ (255 ∷ [])) 4294967295) "The planner answers number 0 (an order was made): 4294967295 trials, 64 rows in the order (highest first: 0, 0, 0, 0, 0, 0, 0, 0, 0, 0, 0, 0, 0, 0, 0, 0, 0, 0, 0, 0, 0, 0, 0, 0, 0, 0, 0, 0, 0, 0, 0, 0, 0, 0, 0, 0, 0, 0, 0, 0, 0, 0, 0, 0, 0, 0, 0, 0, 0, 0, 0, 0, 0, 0, 0, 0, 0, 0, 0, 0, 0, 0, 0, 255), 0 rows left."
    ∷ plan (planned 0 9223372036854775808 (replicate 64 255) 0) "The planner answers number 0 (an order was made): 0 trials, 64 rows in the order (highest first: 255, 255, 255, 255, 255, 255, 255, 255, 255, 255, 255, 255, 255, 255, 255, 255, 255, 255, 255, 255, 255, 255, 255, 255, 255, 255, 255, 255, 255, 255, 255, 255, 255, 255, 255, 255, 255, 255, 255, 255, 255, 255, 255, 255, 255, 255, 255, 255, 255, 255, 255, 255, 255, 255, 255, 255, 255, 255, 255, 255, 255, 255, 255, 255), 1 row left (64)."
    ∷ plan (planned 21 18446744073709551615 [] 10) "The planner answers number 21 (a number without a meaning): 10 trials, 0 rows in the order, 64 rows left (1, 2, 3, 4, 5, 6, 7, 8, 9, 10, 11, 12, 13, 14, 15, 16, 17, 18, 19, 20, 21, 22, 23, 24, 25, 26, 27, 28, 29, 30, 31, 32, 33, 34, 35, 36, 37, 38, 39, 40, 41, 42, 43, 44, 45, 46, 47, 48, 49, 50, 51, 52, 53, 54, 55, 56, 57, 58, 59, 60, 61, 62, 63, 64)."
    ∷ plan (planned 4294967295 0 (100 ∷ 0 ∷ 99 ∷ 0 ∷ []) 100) "The planner answers number 4294967295 (a number without a meaning): 100 trials, 3 rows in the order (highest first: 100, 0, 99), 0 rows left."
    ∷ judge (judged 0 0 64 (negsuc 2147483647)) "The judge says no (number 0, the order is not correct): tightest row 64, slack -2147483648 slots."
    ∷ judge (judged 0 1 64 (negsuc 0)) "The judge says yes (number 0, the order is correct): tightest row 64, slack -1 slot."
    ∷ judge (judged 0 1 1 (pos 1)) "The judge says yes (number 0, the order is correct): tightest row 1, slack 1 slot."
    ∷ judge (judged 0 1 4294967295 (pos 2147483647)) "The judge says yes (number 0, the order is correct): tightest row 4294967295, slack 2147483647 slots."
    ∷ judge (judged 0 2 10 (pos 0)) "The judge says 2, neither yes nor no (number 0, an order was judged): tightest row 10, slack 0 slots."
    ∷ judge (judged 6 1 5 (negsuc 11)) "The judge says yes (number 6, refused: the numbers are not an order of the table): tightest row 5, slack -12 slots."
    ∷ judge (judged 4000000000 4294967295 0 (pos 9)) "The judge says 4294967295, neither yes nor no (number 4000000000, a number without a meaning): tightest row 0, slack 9 slots."
    ∷ plan_long (planned 5 18446744073709551615 (replicate 64 255) 4294967295) 739
    ∷ judge_long (judged 5 4294967295 4294967295 (negsuc 2147483647)) 177
    ∷ []

-- ---- lent bytes: one too few, just enough, more, and none
abbrev rooms : List Case
rooms =
    lent "The planner answers number 7 (no correct order exists): 2 trials, 0 rows in the order, 2 rows left (1, 2)." (replicate 105 7) 10 0 (replicate 105 7)
    ∷ lent "The planner answers number 7 (no correct order exists): 2 trials, 0 rows in the order, 2 rows left (1, 2)." (replicate 106 7) 0 106 (bytes "The planner answers number 7 (no correct order exists): 2 trials, 0 rows in the order, 2 rows left (1, 2).")
    ∷ lent "The judge says no (number 0, the order is not correct): tightest row 1, slack -10 slots." (replicate 88 7 ++ (1 ∷ 2 ∷ 3 ∷ [])) 0 88 (bytes "The judge says no (number 0, the order is not correct): tightest row 1, slack -10 slots." ++ (1 ∷ 2 ∷ 3 ∷ []))
    ∷ lent "The judge says no (number 0, the order is not correct): tightest row 1, slack -10 slots." [] 10 0 []
    ∷ []

-- ---- bytes that are no sentence
abbrev others : List Case
others =
    refused (bytes "")
    ∷ refused (bytes "The  planner answers number 0 (an order was made): 6 trials, 4 rows in the order (highest first: 1, 2, 3, 4), 0 rows left.")
    ∷ refused (bytes "The planner answers number 0 (an order was made): 6 trials,  4 rows in the order (highest first: 1, 2, 3, 4), 0 rows left.")
    ∷ refused (bytes "The planner answers number 0 (an order was made): 6 trials, 4 rows in the order (highest first: 1, 2, 3, 4), 0 rows left")
    ∷ refused (bytes "The planner answers number 0 (an order was made): 6 trials, 4 rows in the order (highest first: 1, 2, 3, 4), 0 rows left. ")
    ∷ refused (bytes "The planner answers number 0 (an order was made): 6 trials, 4 rows in the order (highest first: 1, 2, 3, 4), 0 rows left.\n")
    ∷ refused (bytes "The planner answers number 0 (an order was made): 6 trials, 4 rows in the order (highest first: 1, 2, 3, 4), 0 rows left.The planner answers number 0 (an order was made): 6 trials, 4 rows in the order (highest first: 1, 2, 3, 4), 0 rows left.")
    ∷ refused (bytes "The planner answers number 0 (an order was made): 06 trials, 4 rows in the order (highest first: 1, 2, 3, 4), 0 rows left.")
    ∷ refused (bytes "The planner answers number 0 (an order was made): 1 trials, 4 rows in the order (highest first: 1, 2, 3, 4), 0 rows left.")
    ∷ refused (bytes "The planner answers number 0 (no correct order exists): 6 trials, 4 rows in the order (highest first: 1, 2, 3, 4), 0 rows left.")
    ∷ refused (bytes "The planner answers number 0 (an order was made): 6 trials, 5 rows in the order (highest first: 1, 2, 3, 4), 0 rows left.")
    ∷ refused (bytes "The planner answers number 0 (an order was made): 6 trials, 3 rows in the order (highest first: 1, 2, 3, 4), 0 rows left.")
    ∷ refused (bytes "The planner answers number 0 (an order was made): 6 trials, 5 rows in the order (highest first: 1, 2, 3, 4, 0), 0 rows left.")
    ∷ refused (bytes "The planner answers number 7 (no correct order exists): 2 trials, 0 rows in the order, 2 rows left (2, 1).")
    ∷ refused (bytes "The planner answers number 7 (no correct order exists): 2 trials, 0 rows in the order, 2 rows left (1, 65).")
    ∷ refused (bytes "The planner answers number 7 (no correct order exists): 2 trials, 0 rows in the order, 2 rows left (1, 1).")
    ∷ refused (bytes "The planner answers number 7 (no correct order exists): 2 trials, 0 rows in the order, 2 rows left.")
    ∷ refused (bytes "The planner answers number 4294967296 (an order was made): 6 trials, 4 rows in the order (highest first: 1, 2, 3, 4), 0 rows left.")
    ∷ refused (bytes "The planner answers number 4294967296 (a number without a meaning): 6 trials, 4 rows in the order (highest first: 1, 2, 3, 4), 0 rows left.")
    ∷ refused (bytes "The planner answers number 0 (an order was made): 6 trials, 4 rows in the order (highest first: 256, 2, 3, 4), 0 rows left.")
    ∷ refused (bytes "The judge says yes (number 0, the order is correct): tightest row 1, slack -0 slots.")
    ∷ refused (bytes "The judge says no (number 0, the order is not correct): tightest row 1, slack -10 slot.")
    ∷ refused (bytes "The judge says no (number 0, the order is not correct): tightest row 1, slack 2147483648 slots.")
    ∷ refused (bytes "The judge says no (number 0, the order is not correct): tightest row 1, slack -2147483649 slots.")
    ∷ refused (bytes "The judge says 1, neither yes nor no (number 0, an order was judged): tightest row 1, slack 0 slots.")
    ∷ refused (bytes "The planner says no (number 0, the order is not correct): tightest row 1, slack -10 slots.")
    ∷ refused (bytes "The judge says no (an order was made): 6 trials, 4 rows in the order (highest first: 1, 2, 3, 4), 0 rows left.")
    ∷ refused (bytes "The judge says nO (number 0, the order is not correct): tightest row 1, slack -10 slots.")
    ∷ refused (bytes "The judge says no (number 00, the order is not correct): tightest row 1, slack -10 slots.")
    ∷ refused (replicate 800 49)
    ∷ []

pub sentence_cases_hold : T (all_hold (examples ++ (numbers ++ (absurds ++ (rooms ++ others)))))
unfolding plan_within trials_at trials_from trial_count padded unfollowed passes sequence choice fill taker word table_of judge_of tightest work_slots refusal_number check_number planned_number rows_left verdict_number verdict_yes verdict_row verdict_slack is_arrangement is_order check_order check_both fresh is_pending is_waiting is_ready chosen is_over brought serve slot row_ok tail_ok promise_ok check_wait check_table horizon worst_finish promised_moment slack meets digit_if decimal digit_of check_room meaning judged_meaning counted enumerated rows_in plan_opening plan_sentence yes_or_no slack_words judge_opening judge_sentence compose_of grown scan marked plan_in judge_in read_sentence
sentence_cases_hold = tt
