-- What each caller may rely on, in plain terms and down to the words that the exported functions are lent. One section for each caller.
-- A table's words are n, N, G, K and then release, work, deadline, level, promised part and followed row (0 for none) of row 1 to 64; a state's words
-- are the clock and then three figures of row 1 to 64: its work got, its slots used, its closing slot. Times and K are in slots, work and supplies in
-- work units, speeds in work units per slot.
use Rattle.std.specs.Prelude.{ℕ, ◌+◌, ◌-◌, ◌*◌, ◌/◌, ◌%◌, ◌^◌, ◌≤◌, ◌<◌, max, min, true, false, cond, ◌⊎◌, ◌↔◌, ◌≡◌, List, [], ◌∷◌, ◌++◌, map, eqb, ℤ, pos, ◌-ℤ◌, length, get_or, set, take, drop, replicate}
use Rattle.std.specs.Int.Signed.{lt_z}
use Rattle.rules.specs.declared.Table.{Table}
use Rattle.rules.specs.Calls.{Call, one, forward, Said, tell_all, supply_from}
use Rattle.rules.specs.Choice.{choice, padded, word, unfollowed, plan_of}
use Rattle.ceiling.specs.Ceiling.{trial_count, plan_within}
use Rattle.choices.specs.Choices.{how_many, rows_in, alone, count_of}
use Rattle.stuck.specs.Stuck.{is_stuck, is_way, leaves, cut, remaining, slack_in, Held}
use Rattle.rules.specs.Lists.{count, rows_to, sum, same}
use Rattle.rules.specs.Meaning.{Serves}
use Rattle.rules.specs.Need.{need}
use Rattle.rules.specs.Numbers.{check_number, planned_number, rows_left}
use Rattle.rules.specs.Orders.{is_order, check_both}
use Rattle.rules.specs.Rows.{at}
use Rattle.rules.specs.Running.{run_after}
use Rattle.rules.specs.Slots.{start_at, chosen, after}
use Rattle.rules.specs.Tables.{check_table, Accepted}
use Rattle.rules.specs.Worst.{horizon, worst_speed, slack}
use Rattle.texts.specs.Fields.{value_of, is_field}
use Rattle.texts.specs.Program.{program_text}
use Rattle.texts.specs.Reports.{figure}
use Rattle.texts.specs.Sheets.{is_line, number_at, read_of}
use Rattle.sentences.specs.declared.PlanAnswer.{PlanAnswer}
use Rattle.sentences.specs.declared.JudgeAnswer.{JudgeAnswer}
use Rattle.sentences.specs.Sentences.{plan_sentence, judge_sentence}
use Rattle.sentences.specs.RoundTrip.{PlanFits, JudgeFits}
use Rattle.sentences.specs.Reading.{read_sentence, kind_number, number_told}
use Rattle.record.specs.Answers.{slot_said, forward_said}
use Rattle.record.specs.Records.{is_sound, start_run, one_slot, forward_over}
use Rattle.words.specs.Words.{table_in, words_of, run_in, state_words}
use Rattle.conclusions.specs.declared.Again.{Again}
use Rattle.conclusions.specs.declared.Begun.{Begun}
use Rattle.conclusions.specs.declared.Proposed.{Proposed}
use Rattle.record.specs.declared.Run.{Run}
use Rattle.proposal.specs.Commits.{commit_of}
use Rattle.conclusions.specs.declared.Drawing.{Drawing}
use Rattle.conclusions.specs.declared.Forwards.{Forwards}
use Rattle.conclusions.specs.declared.Opinion.{Opinion}
use Rattle.conclusions.specs.declared.Slots.{Slots}
use Rattle.conclusions.specs.declared.Pasted.{Pasted}

-- ---- The table author: a sheet that is taken states its table (rules 6.5 to 6.8), and a refusal means what it says (rules 10.1 to 10.5,
-- 10.11 to 10.15).

-- the j-th figure of row i's line (rule 6.6)
abbrev pub figure_at : List ℕ → ℕ → ℕ → ℕ
figure_at sheet i j = number_at sheet (33 + 49 * (i - 1)) j

-- a row's release, work, deadline and level are within their limits (rule 5.3)
pub record RowWithin (a c d level : ℕ) : Type 0 where
  pub some : 1 ≤ c
  pub most : c ≤ 1000000
  pub latest : d ≤ 1000000
  pub before : a < d
  pub low_or_high : level ≤ 1

-- a row's promised part is within its limits: no more than its work, and nothing of a row of a level other than 0 (rule 5.9)
pub record PartWithin (c level r : ℕ) : Type 0 where
  pub most : r ≤ c
  pub low : 1 ≤ r → level ≡ 0

-- Row i's wait is within its limits (rule 5.10): the row w that it follows, if it follows one, has a lower number, is released no later (b and a are the
-- releases of rows w and i), and is of a level other than 0 if row i is.
pub record WaitWithin (i w a b level followed : ℕ) : Type 0 where
  pub lower : 1 ≤ w → w < i
  pub no_later : 1 ≤ w → b ≤ a
  pub high : 1 ≤ w → (level ≡ 0 → ⊥) → followed ≡ 0 → ⊥

-- row i's wait in a table's words
abbrev pub WaitTaken : List ℕ → ℕ → Type 0
WaitTaken table i =
    let w = get_or table (323 + i) 0 in
    WaitWithin i w (get_or table (3 + i) 0) (get_or table (3 + w) 0) (get_or table (195 + i) 0) (get_or table (195 + w) 0)

-- row i's figures are those of the six fields of its line (rule 6.6), and within their limits (rules 5.3, 5.9, 5.10)
pub record RowTaken (sheet table : List ℕ) (i : ℕ) : Type 0 where
  pub release : get_or table (3 + i) 0 ≡ figure_at sheet i 1
  pub work : get_or table (67 + i) 0 ≡ figure_at sheet i 2
  pub deadline : get_or table (131 + i) 0 ≡ figure_at sheet i 3
  pub level : get_or table (195 + i) 0 ≡ figure_at sheet i 4
  pub promised : get_or table (259 + i) 0 ≡ figure_at sheet i 5
  pub follows : get_or table (323 + i) 0 ≡ figure_at sheet i 6
  pub formed : is_line sheet (33 + 49 * (i - 1)) 6 ≡ true
  pub within : RowWithin (get_or table (3 + i) 0) (get_or table (67 + i) 0) (get_or table (131 + i) 0) (get_or table (195 + i) 0)
  pub part : PartWithin (get_or table (67 + i) 0) (get_or table (195 + i) 0) (get_or table (259 + i) 0)
  pub wait : WaitTaken table i

-- no figure of row i (rule 5.4)
pub record RowEmpty (table : List ℕ) (i : ℕ) : Type 0 where
  pub release : get_or table (3 + i) 0 ≡ 0
  pub work : get_or table (67 + i) 0 ≡ 0
  pub deadline : get_or table (131 + i) 0 ≡ 0
  pub level : get_or table (195 + i) 0 ≡ 0
  pub promised : get_or table (259 + i) 0 ≡ 0
  pub follows : get_or table (323 + i) 0 ≡ 0

-- row i's figures in the sheet are within their limits (rule 5.3)
abbrev pub RowFits : List ℕ → ℕ → Type 0
RowFits sheet i = RowWithin (figure_at sheet i 1) (figure_at sheet i 2) (figure_at sheet i 3) (figure_at sheet i 4)

-- and so is its promised part (rule 5.9)
abbrev pub PartFits : List ℕ → ℕ → Type 0
PartFits sheet i = PartWithin (figure_at sheet i 2) (figure_at sheet i 4) (figure_at sheet i 5)

-- and its wait, over the figures of its own line and of the line of the row that it follows (rule 5.10)
abbrev pub WaitFits : List ℕ → ℕ → Type 0
WaitFits sheet i =
    let w = figure_at sheet i 6 in
    WaitWithin i w (figure_at sheet i 1) (figure_at sheet w 1) (figure_at sheet i 4) (figure_at sheet w 4)

-- row i follows a row, and no row before it has a wait beyond its limits (rule 5.10)
pub record FirstWait (sheet : List ℕ) (i : ℕ) : Type 0 where
  pub from : 1 ≤ i
  pub up_to : i ≤ number_at sheet 0 1
  pub follows : 1 ≤ figure_at sheet i 6
  pub before : (j : ℕ) → 1 ≤ j → j < i → WaitFits sheet j

-- what is wrong with the first wait that is refused: row i follows a row of no lower number (rule 10.13)
abbrev pub NotLower : List ℕ → ℕ → Type 0
NotLower sheet i = FirstWait sheet i × (i ≤ figure_at sheet i 6)

-- or a row of a lower number that is released later (rule 10.14)
abbrev pub ReleasedLater : List ℕ → ℕ → Type 0
ReleasedLater sheet i =
    let w = figure_at sheet i 6 in
    FirstWait sheet i × (w < i) × (figure_at sheet i 1 < figure_at sheet w 1)

-- or a row of a lower number that is released no later, but is LO while row i is not (rule 10.15)
abbrev pub FollowsLow : List ℕ → ℕ → Type 0
FollowsLow sheet i =
    let w = figure_at sheet i 6 in
    FirstWait sheet i × (w < i) × (figure_at sheet w 1 ≤ figure_at sheet i 1) × (figure_at sheet i 4 ≡ 0 → ⊥) × (figure_at sheet w 4 ≡ 0)

-- the sheet has the length of its row count (rule 6.7), its first line (rule 6.5) is well formed, and the table is within its limits (rules 5.1 to 5.4,
-- 5.8 to 5.10)
pub record Taken (sheet table : List ℕ) : Type 0 where
  pub some : 1 ≤ get_or table 0 0
  pub few : get_or table 0 0 ≤ 64
  pub length : length sheet ≡ 33 + 49 * get_or table 0 0
  pub formed : is_line sheet 0 4 ≡ true
  pub count : get_or table 0 0 ≡ number_at sheet 0 1
  pub normal : get_or table 1 0 ≡ number_at sheet 0 2
  pub degraded : get_or table 2 0 ≡ number_at sheet 0 3
  pub runs : 1 ≤ get_or table 2 0
  pub slower : get_or table 2 0 ≤ get_or table 1 0
  pub most : get_or table 1 0 ≤ 1000
  pub loading : get_or table 3 0 ≡ number_at sheet 0 4
  pub loads : get_or table 3 0 ≤ 16
  pub row : (i : ℕ) → 1 ≤ i → i ≤ get_or table 0 0 → RowTaken sheet table i
  pub none_after : (i : ℕ) → get_or table 0 0 < i → i ≤ 64 → RowEmpty table i
  -- the table is accepted as it stands in the words, with nothing after its last row
  pub accepted : Accepted (table_in table)

-- with 0 the sheet is taken, with any other number the table is that of zeros (rule 6.8)
pub record TableAuthor (sheet : List ℕ) (number : ℕ) (table : List ℕ) : Type 0 where
  pub taken : number ≡ 0 → Taken sheet table
  pub refused : (number ≡ 0 → ⊥) → table ≡ replicate 388 0
  pub known : (number ≤ 5) ⊎ ((11 ≤ number) × (number ≤ 15))
  -- with 1 the length is wrong, with 3 the row count, with 4 a speed (rules 10.1, 10.3, 10.4)
  pub one : number ≡ 1 → length sheet ≡ 33 + 49 * number_at sheet 0 1 → 33 ≤ length sheet → ⊥
  pub three : number ≡ 3 → 1 ≤ number_at sheet 0 1 → number_at sheet 0 1 ≤ 64 → ⊥
  pub four : number ≡ 4 → 1 ≤ number_at sheet 0 3 → number_at sheet 0 3 ≤ number_at sheet 0 2 → number_at sheet 0 2 ≤ 1000 → ⊥
  -- with 2 some line is not well formed (rule 10.2)
  pub two : number ≡ 2 → is_line sheet 0 4 ≡ true → ((i : ℕ) → 1 ≤ i → i ≤ number_at sheet 0 1 → is_line sheet (33 + 49 * (i - 1)) 6 ≡ true) → ⊥
  -- with 11 the loading is beyond its limit (rule 10.11)
  pub eleven : number ≡ 11 → number_at sheet 0 4 ≤ 16 → ⊥
  -- with 5 some row is beyond its limits (rule 10.5)
  pub five : number ≡ 5 → ((i : ℕ) → 1 ≤ i → i ≤ number_at sheet 0 1 → RowFits sheet i) → ⊥
  -- with 12 some row promises what it may not, and no row is beyond the limits of 5 (rules 10.12, 11.2)
  pub twelve : number ≡ 12 → ((i : ℕ) → 1 ≤ i → i ≤ number_at sheet 0 1 → PartFits sheet i) → ⊥
  pub after_five : number ≡ 12 → (i : ℕ) → 1 ≤ i → i ≤ number_at sheet 0 1 → RowFits sheet i
  -- with 13, 14 and 15 the first row with a wait beyond its limits counts, and of it the first limit; and no row is beyond the limits of 5 or 12
  -- (rules 10.13 to 10.15, 11.2)
  pub thirteen : number ≡ 13 → (i : ℕ) × NotLower sheet i
  pub fourteen : number ≡ 14 → (i : ℕ) × ReleasedLater sheet i
  pub fifteen : number ≡ 15 → (i : ℕ) × FollowsLow sheet i
  pub after_twelve : 13 ≤ number → (i : ℕ) → 1 ≤ i → i ≤ number_at sheet 0 1 → RowFits sheet i × PartFits sheet i

-- What a table author gets who has a table written back (section 15 of the rules): the lent bytes as they were and as they are afterwards.
pub record SheetBack (table lent : List ℕ) (number size : ℕ) (after : List ℕ) : Type 0 where
  -- 0 exactly if the table is accepted and its sheet fits: 33 bytes, and 49 for each row (rules 15.4, 15.8)
  pub accepted : number ≡ 0 → Accepted (table_in table)
  pub fits : number ≡ 0 → 33 + 49 * get_or table 0 0 ≤ length lent
  pub passes : Accepted (table_in table) → 33 + 49 * get_or table 0 0 ≤ length lent → number ≡ 0
  pub long : number ≡ 0 → size ≡ 33 + 49 * get_or table 0 0
  -- the first bytes, as many as the length says, read as the table, and no other bytes do (rules 15.6, 15.7)
  pub reads : number ≡ 0 → (check_number (read_of (take size after)).check ≡ 0) × (words_of (read_of (take size after)).table ≡ table)
  pub only : number ≡ 0 → (bytes : List ℕ) → check_number (read_of bytes).check ≡ 0 → words_of (read_of bytes).table ≡ table → bytes ≡ take size after
  -- the bytes after them are as they were (rule 15.3)
  pub rest : number ≡ 0 → drop size after ≡ drop size lent
  pub whole : length after ≡ length lent
  -- a refusal has the length 0 and writes no byte (rule 15.5)
  pub refused : (number ≡ 0 → ⊥) → (size ≡ 0) × (after ≡ lent)
  -- it is 10 if only the room is missing, and else what the table is refused for (rules 10.10, 11.6)
  pub ten : number ≡ 10 → Accepted (table_in table) × (length lent < 33 + 49 * get_or table 0 0)
  pub own : (number ≡ 10 → ⊥) → number ≡ check_number (check_table (table_in table))

-- A sheet is read and its table written back: a sheet that was taken comes out byte for byte, with the bytes after it as they were
-- (rules 15.3, 15.7); after a refusal there is no table to write, and its zeros are refused with 3.
pub record SheetAgain (sheet lent : List ℕ) (said : Again) (after : List ℕ) : Type 0 where
  pub same : said.read ≡ 0 → (said.written ≡ 0) × (said.size ≡ length sheet) × (after ≡ sheet ++ drop (length sheet) lent)
  pub none : (said.read ≡ 0 → ⊥) → (said.written ≡ 3) × (said.size ≡ 0) × (after ≡ lent)

-- A number as a field (rule 15.9): 1 exactly if it is below 100,000,000, and then the eight bytes are a well-formed field that holds it
-- (rules 6.1 to 6.3); those of a larger number are its last eight digits (byte 48 is the digit 0).
pub record NumberField (figure said : ℕ) (field : List ℕ) : Type 0 where
  pub small : figure < 100000000 → said ≡ 1
  pub large : 100000000 ≤ figure → said ≡ 0
  pub formed : said ≡ 1 → (is_field field ≡ true) × (value_of field ≡ figure)
  pub last : said ≡ 0 → (k : ℕ) → k < 8 → get_or field k 0 ≡ 48 + figure / 10 ^ (7 - k) % 10
  pub long : length field ≡ 8

-- What the planning program writes for an input stands at the start of the text, so many bytes, and zeros stand after it (rules 12.1 to 12.5).
pub record Text (input : List ℕ) (size : ℕ) (text : List ℕ) : Type 0 where
  pub long : size ≡ length (program_text input)
  pub begins : take size text ≡ program_text input
  pub ends : drop size text ≡ replicate (1617 - size) 0

-- ---- The planner: the order serves under every course of speed, and 7 is said only if none does (rules 4.10, 9.9).

-- Sixty-four numbers are an order of a table of n rows (rules 5.7, 5.11): each row stands among them once, zeros stand after the first n places, and where
-- the row at one place follows the row at another, it is the followed row that has the earlier place, which is the higher one.
pub record AnOrder (n : ℕ) (follows : ℕ → ℕ) (o : List ℕ) : Type 0 where
  pub each_once : (i : ℕ) → 1 ≤ i → i ≤ n → count i o ≡ 1
  pub zeros_after : (k : ℕ) → n ≤ k → get_or o k 0 ≡ 0
  pub waits : (p q : ℕ) → 1 ≤ get_or o p 0 → 1 ≤ get_or o q 0 → follows (get_or o q 0) ≡ get_or o p 0 → p < q

pub record Planner (t : Table) (number : ℕ) (order : List ℕ) (left : ℕ) : Type 0 where
  -- of an accepted table the answer is 0 or 7, and 0 exactly if some order serves, where an order passes check 6 and so keeps all waits (rules 4.10,
  -- 5.11)
  pub either : Accepted t → (number ≡ 0) ⊎ (number ≡ 7)
  pub exists : Accepted t → (o : List ℕ) → is_order t o ≡ true → Serves t o → number ≡ 0
  pub accepted : (number ≡ 0) ⊎ (number ≡ 7) → Accepted t
  -- with 0 the order is the one that the choice makes, passes check 6 and serves, and no row is left (rule 10.0)
  pub made : number ≡ 0 → (order ≡ padded (choice t).placed) × (is_order t order ≡ true) × Serves t order × (left ≡ 0)
  -- what check 6 asks of it, in plain terms: each row once, zeros after them, and each followed row above its follower (rules 5.7, 5.11)
  pub order_plain : number ≡ 0 → AnOrder t.n (at t.follows) order
  -- With 7 no order serves that passes check 6: none that keeps all waits, whatever one that breaks a wait would do (rule 21.4). The order is zeros, and
  -- the word is that of the rows which the choice leaves (rules 4.6, 10.7).
  pub none : number ≡ 7
      → ((o : List ℕ) → is_order t o ≡ true → Serves t o → ⊥) × (order ≡ replicate 64 0) × (left ≡ word (choice t).left) × ((choice t).left ≡ [] → ⊥)
  -- with any other number all is zero (rules 10.3 to 10.5, 10.11 to 10.15)
  pub refused : (number ≡ 0 → ⊥) → (number ≡ 7 → ⊥) → (order ≡ replicate 64 0) × (left ≡ 0)

-- ---- The planner at power-up, beside other work: a ceiling on its trials (section 23 of the rules).

pub record PlannerWithin (t : Table) (ceiling number : ℕ) (order : List ℕ) (left trials : ℕ) : Type 0 where
  -- the number is 19 exactly if the table is accepted and takes more trials than the ceiling; then order and rows left are zeros, and the trials are the
  -- ceiling (rules 10.19, 23.5)
  pub nineteen : (number ≡ 19) ↔ (Accepted t × (ceiling < trial_count t))
  pub over : number ≡ 19 → (order ≡ replicate 64 0) × (left ≡ 0) × (trials ≡ ceiling)
  -- with any other number all is as the planner without a ceiling answers it (rules 23.4, 23.7)
  pub planner : (number ≡ 19 → ⊥) → Planner t number order left
  -- with 0 and 7 the trials are the table's count, and a refused table has none (rules 23.4, 23.7)
  pub counted : (number ≡ 0) ⊎ (number ≡ 7) → trials ≡ trial_count t
  pub refused : (Accepted t → ⊥) → trials ≡ 0
  -- no more trials are told than the ceiling allows, nor than n × (n + 1) / 2, and no table takes more than these (rules 23.3 to 23.5)
  pub within : trials ≤ ceiling
  pub bounded : trials ≤ t.n * (t.n + 1) / 2
  pub most : trial_count t ≤ t.n * (t.n + 1) / 2
  -- asked again at a higher ceiling, whatever is not 19 is answered the same: number, order, rows left and trials (rule 23.8)
  pub again : (number ≡ 19 → ⊥) → (higher : ℕ) → ceiling ≤ higher
      → (planned_number (plan_within higher t).planning.answer ≡ number) × ((plan_within higher t).planning.order ≡ order)
      × (rows_left (plan_within higher t).planning.answer ≡ left) × ((plan_within higher t).trials ≡ trials)

-- ---- The maintainer: how much choice a sheet leaves (section 25 of the rules).

-- A list of orders, each sixty-four numbers: every order that passes check 6 and serves stands in it once, and nothing else stands in it.
pub record AllOrders (t : Table) (orders : List (List ℕ)) : Type 0 where
  pub once : (o : List ℕ) → length o ≡ 64 → is_order t o ≡ true → Serves t o → how_many (same o) orders ≡ 1
  pub only : (o : List ℕ) → 1 ≤ how_many (same o) orders → (length o ≡ 64) × (is_order t o ≡ true) × Serves t o

-- The orders of a table that pass check 6 and serve are just so many.
pub record SoMany (t : Table) (count : ℕ) : Type 0 where
  pub orders : List (List ℕ)
  pub every : AllOrders t orders
  pub long : length orders ≡ count

-- The orders of a table are counted: the number, the count, the count of each row as lowest, and the scratch before and after.
pub record Maintainer (t : Table) (lent : List ℕ) (number count : ℕ) (lowest scratch : List ℕ) : Type 0 where
  -- the number is 0, 20 or 10 just in these cases, and a table that is refused has its own number (rules 11.13, 25.4)
  pub zero : (number ≡ 0) ↔ (Accepted t × (t.n ≤ 12) × (4096 ≤ length lent))
  pub twenty : (number ≡ 20) ↔ (Accepted t × (12 < t.n))
  pub ten : (number ≡ 10) ↔ (Accepted t × (t.n ≤ 12) × (length lent < 4096))
  pub own : (Accepted t → ⊥) → number ≡ check_number (check_table t)
  -- a refusal counts nothing and leaves the scratch as it was (rule 25.6)
  pub refused : (number ≡ 0 → ⊥) → (count ≡ 0) × (lowest ≡ replicate 64 0) × (scratch ≡ lent)
  -- the correct orders are just so many, and row i stands lowest in just so many of them (rules 25.2, 25.5)
  pub exact : number ≡ 0 → SoMany t count
  pub row : (z : number ≡ 0) (i : ℕ) → 1 ≤ i → i ≤ t.n → at lowest i ≡ how_many (λ o. eqb (at o t.n) i) (exact z).orders
  pub after : number ≡ 0 → (i : ℕ) → t.n < i → at lowest i ≡ 0
  -- these counts add up to the count (rule 25.10)
  pub sums : number ≡ 0 → sum (at lowest) (rows_to t.n) ≡ count
  -- the count is 0 exactly if the planner, with an ample ceiling, answers 7 (rule 25.8)
  pub none : number ≡ 0 → (ceiling : ℕ) → trial_count t ≤ ceiling → (count ≡ 0) ↔ (planned_number (plan_within ceiling t).planning.answer ≡ 7)
  -- it is never above 12! (rule 25.9)
  pub most : count ≤ 479001600
  -- entry m, for every word m that names rows of the table, tells of the table of these rows alone; entry 0 is 1, and the last of them is the count
  -- (rules 25.3, 25.5, 25.10)
  pub words : number ≡ 0 → (m : ℕ) → 1 ≤ m → m < 2 ^ t.n → Accepted (alone t (rows_in t m)) × SoMany (alone t (rows_in t m)) (get_or scratch m 0)
  pub nothing : number ≡ 0 → get_or scratch 0 0 ≡ 1
  pub whole : number ≡ 0 → get_or scratch (2 ^ t.n - 1) 0 ≡ count
  -- counted by itself, with any other scratch, that table is answered the same (rule 25.3)
  pub again : number ≡ 0 → (m : ℕ) → 1 ≤ m → m < 2 ^ t.n → (other : List ℕ) → 4096 ≤ length other
      → (check_number (count_of (alone t (rows_in t m)) other).said.check ≡ 0) × ((count_of (alone t (rows_in t m)) other).said.count ≡ get_or scratch m 0)
  -- every later entry is as it was (rule 25.5)
  pub rest : number ≡ 0 → drop (2 ^ t.n) scratch ≡ drop (2 ^ t.n) lent
  pub long : length scratch ≡ length lent

-- ---- The table author after a 7: the rows left are the whole trouble (section 26 of the rules). Sets of rows are told by words; `rows_in` lists the rows of one.

-- the planner's number for a table, and the rows left that it tells
abbrev pub answer_for : Table → ℕ
answer_for t = planned_number (plan_of t).answer

abbrev pub left_for : Table → List ℕ
left_for t = rows_in t (rows_left (plan_of t).answer)

-- Cuts from a table that was answered this number with these rows left, after which a row remains: each is told by the word of the rows that it keeps, in the
-- numbers of the table then in hand. The rows left for the table in hand go by their numbers in the first table.
pub record AfterCuts (t : Table) (number : ℕ) (rows : List ℕ) (cuts : List ℕ) : Type 0 where
  pub accepted : Accepted (cut t cuts)
  -- no row left remains: the planner finds an order (rule 26.7)
  pub gone : ((i : ℕ) → 1 ≤ count i rows → 1 ≤ count i (remaining t cuts) → ⊥) → answer_for (cut t cuts) ≡ 0
  -- what is left now was left before (rule 26.7)
  pub fewer : (i : ℕ) → 1 ≤ count i (map (at (remaining t cuts)) (left_for (cut t cuts))) → 1 ≤ count i rows
  -- all rows left remain: the same rows are left, and the number is the same (rule 26.7)
  pub same : ((i : ℕ) → 1 ≤ count i rows → 1 ≤ count i (remaining t cuts)) → (map (at (remaining t cuts)) (left_for (cut t cuts)) ≡ rows) × (answer_for (cut t cuts) ≡ number)

-- An accepted table is planned: the number and the word of the rows left. What else is so of them is said to the planner above.
pub record Cutting (t : Table) (number left : ℕ) : Type 0 where
  -- the rows left are a stuck set, every stuck set lies inside it (rule 26.4), and no row is left exactly if the number is 0 (rule 4.6)
  pub stuck : is_stuck t (rows_in t left) ≡ true
  pub largest : (m : ℕ) → is_stuck t (rows_in t m) ≡ true → (i : ℕ) → 1 ≤ count i (rows_in t m) → 1 ≤ count i (rows_in t left)
  pub none : (number ≡ 0) ↔ (rows_in t left ≡ [])
  -- every way of choosing leaves just these rows (rule 26.5), and there is one
  pub way : List ℕ
  pub is_way_lem : is_way t (rows_to t.n) way ≡ true
  pub ways : (taken : List ℕ) → is_way t (rows_to t.n) taken ≡ true → leaves (rows_to t.n) taken ≡ rows_in t left
  -- the number is 0, so that some order serves, exactly if no set but the empty one is stuck (rule 26.6)
  pub exactly : (number ≡ 0) ↔ ((m : ℕ) → is_stuck t (rows_in t m) ≡ true → rows_in t m ≡ [])
  -- any number of cuts (rule 26.7)
  pub cuts : (m : ℕ) (more : List ℕ) → 1 ≤ length (remaining t (m ∷ more)) → AfterCuts t number (rows_in t left) (m ∷ more)
  -- cuts that keep other rows, but of the rows left the same ones, have the same rows left (rule 26.7)
  pub alike : (m k : ℕ) (ms ks : List ℕ) → 1 ≤ length (remaining t (m ∷ ms)) → 1 ≤ length (remaining t (k ∷ ks))
      → ((i : ℕ) → 1 ≤ count i (rows_in t left) → (1 ≤ count i (remaining t (m ∷ ms))) ↔ (1 ≤ count i (remaining t (k ∷ ks))))
      → map (at (remaining t (m ∷ ms))) (left_for (cut t (m ∷ ms))) ≡ map (at (remaining t (k ∷ ks))) (left_for (cut t (k ∷ ks)))
  -- another table that holds the rows left, under whatever numbers, is answered 7 too (rule 26.8)
  pub changed : (number ≡ 0 → ⊥) → (other : Table) → Accepted other → (φ : ℕ → ℕ) → Held t (rows_in t left) other φ → answer_for other ≡ 7
  -- each row left is followed by one of them, or short of slots in their set (rule 26.9)
  pub short : (i : ℕ) → 1 ≤ count i (rows_in t left) → (unfollowed t (rows_in t left) i ≡ false) ⊎ (lt_z (slack_in t (rows_in t left) i) (pos 0) ≡ true)

-- ---- The maker who buys a cooler: the least workable speed is the least at which some order serves (section 18 of the rules).

-- The table that the words hold with a speed of s work units per slot in one of them: word 1 is N, word 2 is G (rule 18.1).
abbrev pub speed_at : List ℕ → ℕ → ℕ → Table
speed_at table index s = table_in (set table index s)

-- A search for the speed in the word of that index, from one speed to another. What the word itself holds has to be within its limits, and that
-- is all that it matters for.
pub record LeastFound (table : List ℕ) (index from up_to number speed : ℕ) (order : List ℕ) : Type 0 where
  -- of an accepted table the answer is 0 or 7; of any other it is what the table is refused for (rules 18.5, 18.6)
  pub either : Accepted (table_in table) → (number ≡ 0) ⊎ (number ≡ 7)
  pub accepted : (number ≡ 0) ⊎ (number ≡ 7) → Accepted (table_in table)
  pub own : (number ≡ 0 → ⊥) → (number ≡ 7 → ⊥) → number ≡ check_number (check_table (table_in table))
  -- with 0 the speed is in the range, and at no smaller one does any order serve (rule 18.3)
  pub within : number ≡ 0 → (from ≤ speed) × (speed ≤ up_to)
  pub smaller : number ≡ 0 → (s : ℕ) → from ≤ s → s < speed → (o : List ℕ) → is_order (speed_at table index s) o ≡ true → Serves (speed_at table index s) o → ⊥
  -- the order is the one that the choice makes at that speed (rule 18.4); it serves there and at every larger speed of the range (rule 18.8)
  pub made : number ≡ 0 → order ≡ padded (choice (speed_at table index speed)).placed
  pub serves : number ≡ 0 → (s : ℕ) → speed ≤ s → s ≤ up_to → (is_order (speed_at table index s) order ≡ true) × Serves (speed_at table index s) order
  -- where some order serves at some speed of the range, one is found; with 7 none does (rules 18.3, 18.5)
  pub exists : Accepted (table_in table) → (s : ℕ) → from ≤ s → s ≤ up_to → (o : List ℕ) → is_order (speed_at table index s) o ≡ true → Serves (speed_at table index s) o
      → number ≡ 0
  pub none : number ≡ 7 → (s : ℕ) → from ≤ s → s ≤ up_to → (o : List ℕ) → is_order (speed_at table index s) o ≡ true → Serves (speed_at table index s) o → ⊥
  -- with any number but 0 speed and order are zeros (rules 18.5, 18.6)
  pub zeros : (number ≡ 0 → ⊥) → (speed ≡ 0) × (order ≡ replicate 64 0)

-- The same from a sheet, which is read beside it: the reader's number if that is not 0, else as for the table that was read (rule 18.7).
pub record LeastRead (sheet : List ℕ) (read : ℕ) (table : List ℕ) (index from up_to number speed : ℕ) (order : List ℕ) : Type 0 where
  pub reads : (read ≡ check_number (read_of sheet).check) × (table ≡ words_of (read_of sheet).table)
  pub refused : (read ≡ 0 → ⊥) → (number ≡ read) × (speed ≡ 0) × (order ≡ replicate 64 0)
  pub taken : read ≡ 0 → LeastFound table index from up_to number speed order

-- ---- The firmware writer: the row is known before the supply (rules 2.4, 8.15), and a slot changes just what it says (rules 8.9 to 8.14).

-- the sixty-four numbers are an order of the table that the words hold (rules 5.7, 5.11)
abbrev pub OrderIn : List ℕ → List ℕ → Type 0
OrderIn table order = AnOrder (get_or table 0 0) (λ i. get_or table (323 + i) 0) order

-- A fresh record (rule 8.2): 0 exactly if the table is accepted and the order is one of its orders, and then the table's words and the order
-- as they were handed in; a refusal leaves zeros in both. The state is zeros either way.
pub record FreshRecord (table order : List ℕ) (said : Begun) : Type 0 where
  pub passed : said.number ≡ 0 → Accepted (table_in table) × (is_order (table_in table) order ≡ true)
  pub passes : Accepted (table_in table) → is_order (table_in table) order ≡ true → said.number ≡ 0
  -- An order of an accepted table in plain terms: 0 exactly if the numbers are one, and 6 exactly if they are none, as where a follower stands above the
  -- row that it follows (rules 5.7, 5.11, 10.6).
  pub order_plain : said.number ≡ 0 → OrderIn table order
  pub plain_order : Accepted (table_in table) → OrderIn table order → said.number ≡ 0
  pub six : said.number ≡ 6 → Accepted (table_in table) × (OrderIn table order → ⊥)
  pub no_order : Accepted (table_in table) → (OrderIn table order → ⊥) → said.number ≡ 6
  pub held : said.number ≡ 0 → (said.table ≡ table) × (said.order ≡ order)
  pub refused : (said.number ≡ 0 → ⊥) → (said.table ≡ replicate 388 0) × (said.order ≡ replicate 64 0)
  pub zeros : said.state ≡ replicate 193 0

-- row i is released at the clock and open (rules 1.5, 2.2)
abbrev pub PendingIn : List ℕ → List ℕ → ℕ → Type 0
PendingIn table state i = (1 ≤ i) × (i ≤ get_or table 0 0) × (get_or table (3 + i) 0 ≤ get_or state 0 0) × (get_or state (128 + i) 0 ≡ 0)

-- row i follows no row, or one that has a closing slot, done or dropped (rule 2.15)
abbrev pub FreeIn : List ℕ → List ℕ → ℕ → Type 0
FreeIn table state i = (get_or table (323 + i) 0 ≡ 0) ⊎ (1 ≤ get_or state (128 + get_or table (323 + i) 0) 0)

-- row i is ready: released at the clock and open, and it does not wait (rules 2.2, 2.15)
abbrev pub ReadyIn : List ℕ → List ℕ → ℕ → Type 0
ReadyIn table state i = PendingIn table state i × FreeIn table state i

-- row j has the same work got, the same slots used and the same closing slot in two states
abbrev pub SameRow : List ℕ → List ℕ → ℕ → Type 0
SameRow next state j =
    (get_or next j 0 ≡ get_or state j 0) × (get_or next (64 + j) 0 ≡ get_or state (64 + j) 0) × (get_or next (128 + j) 0 ≡ get_or state (128 + j) 0)

-- row j is a LO row of the table whose deadline a clock has reached (rules 9.13, 19.2)
abbrev pub DueIn : List ℕ → ℕ → ℕ → Type 0
DueIn table clock j = (1 ≤ j) × (j ≤ get_or table 0 0) × (get_or table (195 + j) 0 ≡ 0) × (get_or table (131 + j) 0 ≤ clock)

-- row j does not run in the slot: its work got and its slots used stay, and so does its closing slot if it has one; if it is open it is closed
-- by the clock after the slot just if it is due then (rules 2.12, 19.2)
pub record RowRests (table state next : List ℕ) (j : ℕ) : Type 0 where
  pub got : get_or next j 0 ≡ get_or state j 0
  pub used : get_or next (64 + j) 0 ≡ get_or state (64 + j) 0
  pub closed : (get_or state (128 + j) 0 ≡ 0 → ⊥) → get_or next (128 + j) 0 ≡ get_or state (128 + j) 0
  pub late : get_or state (128 + j) 0 ≡ 0 → DueIn table (get_or state 0 0 + 1) j → get_or next (128 + j) 0 ≡ get_or state 0 0 + 1
  pub still_open : get_or state (128 + j) 0 ≡ 0 → (DueIn table (get_or state 0 0 + 1) j → ⊥) → get_or next (128 + j) 0 ≡ 0

-- the slots that a LO row may use: those that its work takes at N, or those that its promised part takes at G if they are more, with K in each
-- (rule 1.9)
abbrev pub allowed_slots : List ℕ → ℕ → ℕ
allowed_slots table i =
    max (need (get_or table 3 0) (get_or table (67 + i) 0) (get_or table 1 0)) (need (get_or table 3 0) (get_or table (259 + i) 0) (get_or table 2 0))

-- row i runs, because it is ready and no row of a higher place is (rule 2.3); its three figures follow rules 2.5 to 2.11, 2.14 and 19.2, and
-- of the other rows the clock may close some
pub record RowRuns (table order state : List ℕ) (supply i : ℕ) (next : List ℕ) : Type 0 where
  pub ready : ReadyIn table state i
  pub place : ℕ
  pub stands : get_or order place 0 ≡ i
  pub highest : (p : ℕ) → p < place → ReadyIn table state (get_or order p 0) → ⊥
  -- Waits change no slot of a sound record (rule 21.2): no row of a higher place is even released and open. So the row that runs is the highest in the
  -- order that is released and open, and no follower has to be looked for.
  pub highest_open : (p : ℕ) → p < place → PendingIn table state (get_or order p 0) → ⊥
  -- a row that has used fewer than K slots loads and gets nothing, whatever the supply; any other gets the supply, up to its work
  pub loads : get_or state (64 + i) 0 < get_or table 3 0 → get_or next i 0 ≡ get_or state i 0
  pub got : get_or table 3 0 ≤ get_or state (64 + i) 0 → get_or next i 0 ≡ min (get_or table (67 + i) 0) (get_or state i 0 + supply)
  pub used : get_or next (64 + i) 0 ≡ get_or state (64 + i) 0 + 1
  pub done : get_or next i 0 ≡ get_or table (67 + i) 0 → get_or next (128 + i) 0 ≡ get_or state 0 0 + 1
  pub dropped : get_or table (195 + i) 0 ≡ 0 → allowed_slots table i ≤ get_or next (64 + i) 0
      → get_or next (128 + i) 0 ≡ get_or state 0 0 + 1
  -- a LO row at its deadline is closed, done or not; what this slot brought it counts (rule 19.3)
  pub late : get_or table (195 + i) 0 ≡ 0 → get_or table (131 + i) 0 ≤ get_or state 0 0 + 1 → get_or next (128 + i) 0 ≡ get_or state 0 0 + 1
  pub still_open : (get_or next i 0 ≡ get_or table (67 + i) 0 → ⊥)
      → (get_or table (195 + i) 0 ≡ 0 → (get_or next (64 + i) 0 < allowed_slots table i)
      × (get_or state 0 0 + 1 < get_or table (131 + i) 0))
      → get_or next (128 + i) 0 ≡ 0
  pub others : (j : ℕ) → 1 ≤ j → j ≤ 64 → (j ≡ i → ⊥) → RowRests table state next j

pub record FirmwareWriter (table order state : List ℕ) (supply : ℕ) (said : Slots) : Type 0 where
  -- the coming slot was told as it came, whatever the supply (rule 8.15)
  pub same_number : said.coming ≡ said.number
  pub same_row : said.coming_row ≡ said.row
  -- a refusal is 8 or 9, names no row and leaves the state (rules 8.13, 8.14)
  pub refused : (said.number ≡ 0 → ⊥) → ((said.number ≡ 8) ⊎ (said.number ≡ 9)) × (said.row ≡ 0) × (said.next ≡ state)
  pub eight : said.number ≡ 8 → get_or state 0 0 ≡ 2000000
  -- 9 is said of an unsound record, and of no other (check 9, rules 8.3 to 8.8)
  pub nine : said.number ≡ 9 → is_sound (run_in table order state) ≡ false
  pub unsound : is_sound (run_in table order state) ≡ false → said.number ≡ 9
  pub sound_early : is_sound (run_in table order state) ≡ true → get_or state 0 0 < 2000000 → said.number ≡ 0
  pub sound_last : is_sound (run_in table order state) ≡ true → get_or state 0 0 ≡ 2000000 → said.number ≡ 8
  pub early : said.number ≡ 0 → get_or state 0 0 < 2000000
  pub clock : said.number ≡ 0 → get_or said.next 0 0 ≡ get_or state 0 0 + 1
  -- an idle slot: no row is ready, and only the clock moves; a row that it would drop would have been released and open (rules 2.3, 2.12, 19.7)
  pub idle : said.number ≡ 0 → said.row ≡ 0 → ((i : ℕ) → ReadyIn table state i → ⊥) × ((k : ℕ) → 1 ≤ k → get_or said.next k 0 ≡ get_or state k 0)
  -- nor is any row released and open, whether it waits or not: no slot is idle beside such a row (rule 21.2)
  pub none_open : said.number ≡ 0 → said.row ≡ 0 → (i : ℕ) → PendingIn table state i → ⊥
  pub runs : said.number ≡ 0 → (said.row ≡ 0 → ⊥) → RowRuns table order state supply said.row said.next

-- the state's words after one slot with a supply, as `FirmwareWriter` has them, and after one slot for each supply in turn (rules 8.9, 8.10)
abbrev pub slot_words : List ℕ → List ℕ → ℕ → List ℕ → List ℕ
slot_words table order supply state = state_words (one_slot (run_in table order state) supply).run

abbrev pub slots_words : List ℕ → List ℕ → List ℕ → List ℕ → List ℕ
slots_words table order [] state = state
slots_words table order (v ∷ vs) state = slots_words table order vs (slot_words table order v state)

-- a record worked forward: so many slots one after another, and it says how many (rules 8.10, 8.12 to 8.14)
pub record Forwarding (table order state supplies : List ℕ) (said : Forwards) : Type 0 where
  pub known : (said.number ≡ 0) ⊎ (said.number ≡ 8) ⊎ (said.number ≡ 9)
  pub steps : said.next ≡ slots_words table order (take said.worked supplies) state
  pub all_worked : said.number ≡ 0 → said.worked ≡ length supplies
  pub over : said.number ≡ 8 → (said.worked < length supplies) × (get_or said.next 0 0 ≡ 2000000)
  pub damaged : said.number ≡ 9 → (said.worked ≡ 0) × (said.next ≡ state) × (is_sound (run_in table order state) ≡ false)
  pub unsound : is_sound (run_in table order state) ≡ false → said.number ≡ 9
  -- the slots worked are the clock's gain, and they are all that the clock has room for (rules 8.10, 8.13)
  pub tally : get_or said.next 0 0 ≡ get_or state 0 0 + said.worked
  pub room : is_sound (run_in table order state) ≡ true → get_or state 0 0 + length supplies ≤ 2000000 → said.number ≡ 0
  pub no_room : is_sound (run_in table order state) ≡ true → 2000000 < get_or state 0 0 + length supplies → said.number ≡ 8

-- ---- The pen engineer: deadlines are kept through every list of calls that the firmware makes (rules 9.5 to 9.15), and no follower runs before the
-- row that it follows is closed (rule 9.19).

-- What one call of the archive says and leaves over the words: `jb_slot` with a supply (rule 8.9), or `jb_forward` with a list of
-- them (rule 8.10).
pub record CallTold : Type 0 where
  pub said : Said
  pub state : List ℕ

abbrev pub call_words : List ℕ → List ℕ → Call → List ℕ → CallTold
call_words table order (one v) state =
    record { said = slot_said (one_slot (run_in table order state) v).answer; state = state_words (one_slot (run_in table order state) v).run }
call_words table order (forward vs) state =
    record { said = forward_said (forward_over (run_in table order state) vs).answer; state = state_words (forward_over (run_in table order state) vs).run }

-- what all calls of a list say, each on the state that the last one left, and the state at the end (rule 9.5)
pub record ListTold : Type 0 where
  pub said : List Said
  pub state : List ℕ

unfoldable pub list_words : List ℕ → List ℕ → List Call → List ℕ → ListTold
list_words table order [] state = record { said = []; state = state }
list_words table order (c ∷ cs) state =
    let t = call_words table order c state in
    let rest = list_words table order cs t.state in
    record { said = t.said ∷ rest.said; state = rest.state }

-- Each slot before row i's deadline by which some row is released supplied at least s work units, where the first call is made at clock k (rules 9.14, 9.15).
abbrev pub SuppliedIn : List ℕ → ℕ → List Call → ℕ → ℕ → Type 0
SuppliedIn table k cs i s = (u j : ℕ) → 1 ≤ j → j ≤ get_or table 0 0 → get_or table (3 + j) 0 ≤ u → u < get_or table (131 + i) 0 → s ≤ supply_from k cs u

-- each of these slots that is before clock c did (rule 9.20)
abbrev pub SuppliedTill : List ℕ → ℕ → List Call → ℕ → ℕ → ℕ → Type 0
SuppliedTill table k cs c i s =
    (u j : ℕ) → 1 ≤ j → j ≤ get_or table 0 0 → get_or table (3 + j) 0 ≤ u → u < get_or table (131 + i) 0 → u < c → s ≤ supply_from k cs u

-- row i has got its work, and its closing slot is at least 1 and at most its deadline, in the words of a state (rule 3.1)
pub record KeptWords (table state : List ℕ) (i : ℕ) : Type 0 where
  pub got : get_or state i 0 ≡ get_or table (67 + i) 0
  pub from : 1 ≤ get_or state (128 + i) 0
  pub up_to : get_or state (128 + i) 0 ≤ get_or table (131 + i) 0

-- In the words of a state, a row that has used a slot follows none, or one that is closed, and that closing slot and the slots used are together no more than
-- the clock; and what a row of a level other than 0 follows has then got all its work (rule 9.19).
pub record WaitedWords (table state : List ℕ) : Type 0 where
  pub closed : (i : ℕ) → 1 ≤ i → i ≤ get_or table 0 0 → (get_or table (323 + i) 0 ≡ 0 → ⊥) → 1 ≤ get_or state (64 + i) 0
      → 1 ≤ get_or state (128 + get_or table (323 + i) 0) 0
  pub after : (i : ℕ) → 1 ≤ i → i ≤ get_or table 0 0 → (get_or table (323 + i) 0 ≡ 0 → ⊥) → 1 ≤ get_or state (64 + i) 0
      → get_or state (128 + get_or table (323 + i) 0) 0 + get_or state (64 + i) 0 ≤ get_or state 0 0
  pub done : (i : ℕ) → 1 ≤ i → i ≤ get_or table 0 0 → (get_or table (323 + i) 0 ≡ 0 → ⊥) → (get_or table (195 + i) 0 ≡ 0 → ⊥) → 1 ≤ get_or state (64 + i) 0
      → get_or state (get_or table (323 + i) 0) 0 ≡ get_or table (67 + get_or table (323 + i) 0) 0

-- the words of the state at clock k with every row open and empty: at 0 slots the fresh record's, and else a committed record's (rules 8.2, 22.4)
abbrev pub start_of : List ℕ → List ℕ → ℕ → List ℕ
start_of table order k = state_words (start_run (table_in table) order k)

-- From that start on, the answers are those of the run on paper, and each row whose deadline the clock has reached has kept it: a HI row if its
-- slots supplied at least G, a LO row if they supplied at least N (rules 9.10, 9.12); and a LO row has got its promised part if they supplied at
-- least G (rule 9.18). Whatever they supplied, a LO row is open only while its deadline is to come and was else closed by then, a HI row is closed only
-- when it is done (rules 19.2, 19.4), and no follower has run before the row that it follows was closed (rule 9.19).
pub record PenEngineer (table order : List ℕ) (k : ℕ) (cs : List Call) : Type 0 where
  pub said : (list_words table order cs (start_of table order k)).said ≡ (tell_all (table_in table) order cs (start_at k)).said
  pub clock : get_or (list_words table order cs (start_of table order k)).state 0 0 ≡ (tell_all (table_in table) order cs (start_at k)).state.clock
  pub high : (i : ℕ) → 1 ≤ i → i ≤ get_or table 0 0 → (get_or table (195 + i) 0 ≡ 0 → ⊥) → get_or table (131 + i) 0 ≤ get_or (list_words table order cs (start_of table order k)).state 0 0
      → SuppliedIn table k cs i (get_or table 2 0) → KeptWords table (list_words table order cs (start_of table order k)).state i
  pub low : (i : ℕ) → 1 ≤ i → i ≤ get_or table 0 0 → get_or table (195 + i) 0 ≡ 0 → get_or table (131 + i) 0 ≤ get_or (list_words table order cs (start_of table order k)).state 0 0
      → SuppliedIn table k cs i (get_or table 1 0) → KeptWords table (list_words table order cs (start_of table order k)).state i
  pub part : (i : ℕ) → 1 ≤ i → i ≤ get_or table 0 0 → get_or table (195 + i) 0 ≡ 0 → get_or table (131 + i) 0 ≤ get_or (list_words table order cs (start_of table order k)).state 0 0
      → SuppliedIn table k cs i (get_or table 2 0) → get_or table (259 + i) 0 ≤ get_or (list_words table order cs (start_of table order k)).state i 0
  -- a row that is closed has kept its deadline, and a LO row has got its promised part, if its slots before its closing slot supplied as much (rule 9.20)
  pub closed_high : (i : ℕ) → 1 ≤ i → i ≤ get_or table 0 0 → (get_or table (195 + i) 0 ≡ 0 → ⊥) → 1 ≤ get_or (list_words table order cs (start_of table order k)).state (128 + i) 0
      → SuppliedTill table k cs (get_or (list_words table order cs (start_of table order k)).state (128 + i) 0) i (get_or table 2 0)
      → KeptWords table (list_words table order cs (start_of table order k)).state i
  pub closed_low : (i : ℕ) → 1 ≤ i → i ≤ get_or table 0 0 → get_or table (195 + i) 0 ≡ 0 → 1 ≤ get_or (list_words table order cs (start_of table order k)).state (128 + i) 0
      → SuppliedTill table k cs (get_or (list_words table order cs (start_of table order k)).state (128 + i) 0) i (get_or table 1 0)
      → KeptWords table (list_words table order cs (start_of table order k)).state i
  pub closed_part : (i : ℕ) → 1 ≤ i → i ≤ get_or table 0 0 → get_or table (195 + i) 0 ≡ 0 → 1 ≤ get_or (list_words table order cs (start_of table order k)).state (128 + i) 0
      → SuppliedTill table k cs (get_or (list_words table order cs (start_of table order k)).state (128 + i) 0) i (get_or table 2 0)
      → get_or table (259 + i) 0 ≤ get_or (list_words table order cs (start_of table order k)).state i 0
  pub preview : (i : ℕ) → 1 ≤ i → i ≤ get_or table 0 0 → get_or table (195 + i) 0 ≡ 0
      → (get_or (list_words table order cs (start_of table order k)).state (128 + i) 0 ≡ 0 → get_or (list_words table order cs (start_of table order k)).state 0 0 < get_or table (131 + i) 0)
      × (get_or (list_words table order cs (start_of table order k)).state (128 + i) 0 ≤ get_or table (131 + i) 0)
  pub pen : (i : ℕ) → 1 ≤ i → i ≤ get_or table 0 0 → (get_or table (195 + i) 0 ≡ 0 → ⊥) → 1 ≤ get_or (list_words table order cs (start_of table order k)).state (128 + i) 0
      → get_or (list_words table order cs (start_of table order k)).state i 0 ≡ get_or table (67 + i) 0
  -- slot u of the run on paper, up to the coming one, goes to a follower only if the row that it follows was closed by clock u (rule 9.19)
  pub slots : (i u : ℕ) → 1 ≤ i → i ≤ get_or table 0 0 → (get_or table (323 + i) 0 ≡ 0 → ⊥) → u ≤ get_or (list_words table order cs (start_of table order k)).state 0 0
      → chosen (table_in table) order (run_after (table_in table) order (supply_from k cs) u) ≡ i
      → (1 ≤ get_or (list_words table order cs (start_of table order k)).state (128 + get_or table (323 + i) 0) 0)
      × (get_or (list_words table order cs (start_of table order k)).state (128 + get_or table (323 + i) 0) 0 ≤ u)
  pub waits : WaitedWords table (list_words table order cs (start_of table order k)).state

-- a number and a value as an answer (rules 9.7, 9.8)
abbrev pub told : ℕ → ℕ → Said
told number value = record { number = number; value = value }

-- A sheet's table is planned, a fresh record is made of it, and it is worked forward over the supplies: the start is the fresh record's, and
-- what is left at the end is what the one call of the list leaves (rules 8.2, 8.10, 9.9).
pub record Drawn (table supplies : List ℕ) (said : Drawing) : Type 0 where
  pub fresh : said.planned ≡ 0 → said.fresh ≡ 0
  pub answer : said.planned ≡ 0
      → (list_words table said.order (forward supplies ∷ []) (start_of table said.order 0)).said ≡ told said.forward said.worked ∷ []
  pub kept : said.planned ≡ 0 → PenEngineer table said.order 0 (forward supplies ∷ [])
  pub left : said.planned ≡ 0 → said.state ≡ (list_words table said.order (forward supplies ∷ []) (start_of table said.order 0)).state

-- ---- A new sheet while plotting: what a firmware writer gets who asks for a proposal and commits it (section 22 of the rules).

-- Asking (rules 22.2, 22.6): the reader's number if that is not 0, else the planner's, with its order and rows left. With 0 the table that was read is accepted, and the order
-- is one of it and serves; and whatever the record that they are committed to, the commit's number is 0, 9, 17 or 18. With any other number table and order are zeros, and
-- rows are left with 7 alone.
pub record Proposing (sheet : List ℕ) (said : Proposed) : Type 0 where
  pub reader : (check_number (read_of sheet).check ≡ 0 → ⊥) → said.number ≡ check_number (read_of sheet).check
  pub planner : check_number (read_of sheet).check ≡ 0 → said.number ≡ planned_number (plan_of (read_of sheet).table).answer
  pub rows : check_number (read_of sheet).check ≡ 0 → said.left ≡ rows_left (plan_of (read_of sheet).table).answer
  pub made : said.number ≡ 0 → said.order ≡ (plan_of (read_of sheet).table).order
  pub read : said.number ≡ 0 → said.table ≡ words_of (read_of sheet).table
  pub good : said.number ≡ 0 → Accepted (table_in said.table) × (is_order (table_in said.table) said.order ≡ true) × Serves (table_in said.table) said.order
  pub own : said.number ≡ 0 → (r : Run) → (n : ℕ) → n ≡ check_number (commit_of r (table_in said.table) said.order).check
      → (n ≡ 0) ⊎ ((n ≡ 9) ⊎ ((n ≡ 17) ⊎ (n ≡ 18)))
  pub none : (said.number ≡ 0 → ⊥) → (said.table ≡ replicate 388 0) × (said.order ≡ replicate 64 0)
  pub left : (said.number ≡ 7 → ⊥) → said.left ≡ 0

-- Committing (rules 22.3 to 22.5, 22.8): what the words of a record were, and what they are afterwards.
pub record Committing (table order runTable runOrder runState : List ℕ) (said : Begun) : Type 0 where
  -- on a refusal nothing has changed (rule 22.5)
  pub refused : (said.number ≡ 0 → ⊥) → (said.table ≡ runTable) × (said.order ≡ runOrder) × (said.state ≡ runState)
  -- with 0 the record has the table and the order, at the clock that it had, and every row is open and empty (rule 22.4)
  pub taken : said.number ≡ 0 → (said.table ≡ table) × (said.order ≡ order) × (said.state ≡ start_of table order (get_or runState 0 0))
  pub clock : said.number ≡ 0 → get_or said.state 0 0 ≡ get_or runState 0 0
  -- then the record was sound, every row of it closed, and no row proposed is released before its clock (rules 10.9, 10.17, 10.18)
  pub sound : said.number ≡ 0 → is_sound (run_in runTable runOrder runState) ≡ true
  pub closed : said.number ≡ 0 → (i : ℕ) → 1 ≤ i → i ≤ get_or runTable 0 0 → 1 ≤ get_or runState (128 + i) 0
  pub later : said.number ≡ 0 → (j : ℕ) → 1 ≤ j → j ≤ get_or table 0 0 → get_or runState 0 0 ≤ get_or table (3 + j) 0
  -- the table is accepted, and the order is one of it and serves (rule 10.16)
  pub good : said.number ≡ 0 → Accepted (table_in table) × (is_order (table_in table) order ≡ true) × Serves (table_in table) order
  -- else the first of these that fails gives the number (rule 11.10): 9 for the record, the proposal's own, 16, 17 and 18
  pub nine : (is_sound (run_in runTable runOrder runState) ≡ true → ⊥) → said.number ≡ 9
  pub own : is_sound (run_in runTable runOrder runState) ≡ true → (check_number (check_both (table_in table) order) ≡ 0 → ⊥)
      → said.number ≡ check_number (check_both (table_in table) order)
  pub sixteen : is_sound (run_in runTable runOrder runState) ≡ true → Accepted (table_in table) → is_order (table_in table) order ≡ true
      → (Serves (table_in table) order → ⊥) → said.number ≡ 16
  pub seventeen : is_sound (run_in runTable runOrder runState) ≡ true → Accepted (table_in table) → is_order (table_in table) order ≡ true → Serves (table_in table) order
      → (i : ℕ) → 1 ≤ i → i ≤ get_or runTable 0 0 → get_or runState (128 + i) 0 ≡ 0 → said.number ≡ 17
  pub eighteen : is_sound (run_in runTable runOrder runState) ≡ true → Accepted (table_in table) → is_order (table_in table) order ≡ true → Serves (table_in table) order
      → ((i : ℕ) → 1 ≤ i → i ≤ get_or runTable 0 0 → 1 ≤ get_or runState (128 + i) 0) → (j : ℕ) → 1 ≤ j → j ≤ get_or table 0 0 → get_or table (3 + j) 0 < get_or runState 0 0
      → said.number ≡ 18
  -- and that is all that is asked for
  pub passes : is_sound (run_in runTable runOrder runState) ≡ true → Accepted (table_in table) → is_order (table_in table) order ≡ true → Serves (table_in table) order
      → ((i : ℕ) → 1 ≤ i → i ≤ get_or runTable 0 0 → 1 ≤ get_or runState (128 + i) 0) → ((j : ℕ) → 1 ≤ j → j ≤ get_or table 0 0 → get_or runState 0 0 ≤ get_or table (3 + j) 0)
      → said.number ≡ 0
  -- from there on, whatever calls are made: deadlines are kept by the slots from the new sheet's own earliest release on (rule 22.8)
  pub pens : said.number ≡ 0 → (cs : List Call) → PenEngineer table order (get_or runState 0 0) cs

-- ---- The sales desk: the verdict is exact (rule 7.2), and the figures beside it are those of the worst runs (rules 3.5 to 3.7, 3.9, 7.3, 7.5).

-- row i's finish, in the worst run at exactly N (LO) or G (HI), however long it lasts: it has got its work and closed then (rules 3.5, 3.6)
pub record WorstRun (t : Table) (o : List ℕ) (i finish : ℕ) : Type 0 where
  pub some : 1 ≤ finish
  pub closing : (k : ℕ) → horizon t (worst_speed t i) ≤ k → at (after t o (λ _. worst_speed t i) k).closing i ≡ finish
  pub got : (k : ℕ) → horizon t (worst_speed t i) ≤ k → at (after t o (λ _. worst_speed t i) k).got i ≡ at t.work i

-- row i's promised moment: the first clock at which it has got its promised part where every slot supplies exactly G, which is 0 of a row that is
-- promised nothing (rule 3.9)
pub record PartRun (t : Table) (o : List ℕ) (i moment : ℕ) : Type 0 where
  pub before : (k : ℕ) → k < moment → at (after t o (λ _. t.degraded) k).got i < at t.promised i
  pub has : at t.promised i ≤ at (after t o (λ _. t.degraded) moment).got i

-- what is left from the later of two clocks to row i's deadline (rule 3.7)
abbrev pub slack_of : Table → ℕ → ℕ → ℕ → ℤ
slack_of t i finish moment = pos (at t.deadline i) -ℤ pos (max finish moment)

pub record SalesDesk (t : Table) (o : List ℕ) (said : Opinion) (least : ℤ) (finishes : List ℕ) : Type 0 where
  pub same_number : said.finishes ≡ said.number
  -- the checks passed exactly if the table is accepted and the order is one of its orders (rule 11.4); else all is zero (rules 7.4, 7.5)
  pub passed : said.number ≡ 0 → Accepted t × (is_order t o ≡ true)
  pub passes : Accepted t → is_order t o ≡ true → said.number ≡ 0
  -- 6 exactly if only the order is at fault: a row missing or twice, a number after the last, or a follower above the row that it follows (rules 5.7,
  -- 5.11, 10.6)
  pub six : said.number ≡ 6 → Accepted t × (AnOrder t.n (at t.follows) o → ⊥)
  pub no_order : Accepted t → (AnOrder t.n (at t.follows) o → ⊥) → said.number ≡ 6
  pub refused : (said.number ≡ 0 → ⊥) → (said.yes ≡ 0) × (said.row ≡ 0) × (least ≡ pos 0) × (finishes ≡ replicate 64 0)
  -- yes exactly if the order serves under every course of speed (rule 7.2)
  pub yes_serves : said.yes ≡ 1 → Serves t o
  pub serves_yes : said.number ≡ 0 → Serves t o → said.yes ≡ 1
  pub yes_or_no : (said.yes ≡ 0) ⊎ (said.yes ≡ 1)
  -- every finish is that of the row's worst run (rule 7.5); the slack is the named row's, from its finish or its promised moment if that is later,
  -- and no row has less (rules 3.7, 7.3)
  pub finish : said.number ≡ 0 → (i : ℕ) → 1 ≤ i → i ≤ t.n → WorstRun t o i (at finishes i)
  pub row : said.number ≡ 0 → (1 ≤ said.row) × (said.row ≤ t.n)
  pub moment : said.number ≡ 0 → (i : ℕ) → 1 ≤ i → i ≤ t.n → (m : ℕ) × PartRun t o i m
  pub slack : said.number ≡ 0 → (m : ℕ) → PartRun t o said.row m → least ≡ slack_of t said.row (at finishes said.row) m
  -- of several rows with the least slack it is the lowest
  pub lowest : said.number ≡ 0 → (i : ℕ) → 1 ≤ i → i < said.row → (m : ℕ) → PartRun t o i m → lt_z least (slack_of t i (at finishes i) m) ≡ true
  pub no_less : said.number ≡ 0 → (i : ℕ) → 1 ≤ i → i ≤ t.n → (m : ℕ) → PartRun t o i m → lt_z (slack_of t i (at finishes i) m) least ≡ false

-- ten bytes of a text: the j-th figure (from 1) of the line that starts at a byte (rules 16.1 to 16.3)
abbrev pub ten_at : List ℕ → ℕ → ℕ → List ℕ
ten_at text start j = take 10 (drop (start + 10 * (j - 1)) text)

-- The line of place k, with row i at the place, whose worst run finishes it at f and whose promised moment is m (rules 16.2, 16.4): the place, the
-- row, and in slots the row's need at N, which is K and its work at N rounded up, that finish, and the row's deadline less the later of the two.
pub record JobListed (t : Table) (text : List ℕ) (k i f m : ℕ) : Type 0 where
  pub place : ten_at text (51 * (k - 1)) 1 ≡ figure (pos k)
  pub row : ten_at text (51 * (k - 1)) 2 ≡ figure (pos i)
  pub need : ten_at text (51 * (k - 1)) 3 ≡ figure (pos (need t.loading (at t.work i) t.normal))
  pub finish : ten_at text (51 * (k - 1)) 4 ≡ figure (pos f)
  pub slack : ten_at text (51 * (k - 1)) 5 ≡ figure (slack_of t i f m)
  pub ends : get_or text (51 * (k - 1) + 50) 0 ≡ 10

-- What the sales desk gets that has every job listed (section 16 of the rules): the lent bytes as they were and as they are afterwards.
pub record Listing (t : Table) (o lent : List ℕ) (number size : ℕ) (after : List ℕ) : Type 0 where
  -- 0 exactly if the table is accepted, the order is one of its orders and the report fits: 51 bytes for each row, and 21 (rules 16.7, 16.9)
  pub passed : number ≡ 0 → Accepted t × (is_order t o ≡ true)
  pub fits : number ≡ 0 → 51 * t.n + 21 ≤ length lent
  pub passes : Accepted t → is_order t o ≡ true → 51 * t.n + 21 ≤ length lent → number ≡ 0
  pub long : number ≡ 0 → size ≡ 51 * t.n + 21
  -- a line for each place, with the finish of its row's worst run and the slack with its promised moment (rule 16.2)
  pub job : number ≡ 0 → (k : ℕ) → 1 ≤ k → k ≤ t.n → (f m : ℕ) → WorstRun t o (at o k) f → PartRun t o (at o k) m → JobListed t after k (at o k) f m
  pub run : number ≡ 0 → (k : ℕ) → 1 ≤ k → k ≤ t.n → ((f : ℕ) × WorstRun t o (at o k) f) × ((m : ℕ) × PartRun t o (at o k) m)
  -- the last line has the needs of all rows and the count of those with a slack below 0 slots, each row counted once, whatever its place (rule 16.3)
  pub needs : number ≡ 0 → ten_at after (51 * t.n) 1 ≡ figure (pos (sum (λ i. need t.loading (at t.work i) t.normal) (rows_to t.n)))
  pub late : number ≡ 0 → ten_at after (51 * t.n) 2 ≡ figure (pos (sum (λ i. cond (lt_z (slack t o i) (pos 0)) 1 0) (rows_to t.n)))
  pub ends : number ≡ 0 → get_or after (51 * t.n + 20) 0 ≡ 10
  -- no row has such a slack exactly if the order serves under every course of speed (rule 16.10)
  pub serves : number ≡ 0 → ten_at after (51 * t.n) 2 ≡ figure (pos 0) → Serves t o
  pub none_late : number ≡ 0 → Serves t o → ten_at after (51 * t.n) 2 ≡ figure (pos 0)
  -- the bytes after the report are as they were (rule 16.6)
  pub rest : number ≡ 0 → drop size after ≡ drop size lent
  pub whole : length after ≡ length lent
  -- a refusal has the length 0 and writes no byte (rule 16.8)
  pub refused : (number ≡ 0 → ⊥) → (size ≡ 0) × (after ≡ lent)
  -- it is 10 if only the room is missing, and else what table or order are refused for (rules 10.10, 11.7)
  pub ten : number ≡ 10 → Accepted t × (is_order t o ≡ true) × (length lent < 51 * t.n + 21)
  pub own : (number ≡ 10 → ⊥) → number ≡ check_number (check_both t o)

-- ---- A planner who pastes an answer into a drawing: through the exported functions it comes back, whatever it holds (rules 24.12, 24.14).

-- every field is what the reader tells of the line
pub record LineTold (composed : ℕ) (line : List ℕ) (r : Pasted) : Type 0 where
  pub composed_is : r.composed ≡ composed
  pub read_is : r.read ≡ check_number (read_sentence line).check
  pub kind_is : r.kind ≡ kind_number (read_sentence line).kind
  pub number_is : r.number ≡ number_told (read_sentence line).kind (read_sentence line).plan (read_sentence line).verdict
  pub left_is : r.left ≡ (read_sentence line).plan.left
  pub order_is : r.order ≡ (read_sentence line).plan.order
  pub trials_is : r.trials ≡ (read_sentence line).plan.trials
  pub yes_is : r.yes ≡ (read_sentence line).verdict.yes
  pub row_is : r.row ≡ (read_sentence line).verdict.row
  pub slack_is : r.slack ≡ (read_sentence line).verdict.slack

-- the answers in these fields
abbrev pub plan_back : Pasted → PlanAnswer
plan_back r = record { number = r.number; left = r.left; order = r.order; trials = r.trials }

abbrev pub verdict_back : Pasted → JudgeAnswer
verdict_back r = record { number = r.number; yes = r.yes; row = r.row; slack = r.slack }

-- any line is the sentence of the planner's answer that is read (1), or of the judge's (2), or refused with 2, and then it is no answer's sentence (rules 24.11,
-- 24.13)
pub record LineRead (composed : ℕ) (line : List ℕ) (r : Pasted) : Type 0 where
  pub told : LineTold composed line r
  pub back : ((r.read ≡ 0) × (r.kind ≡ 1) × (plan_sentence (plan_back r) ≡ line))
      ⊎ (((r.read ≡ 0) × (r.kind ≡ 2) × (judge_sentence (verdict_back r) ≡ line))
      ⊎ ((r.read ≡ 2) × (r.kind ≡ 0)
      × ((a : PlanAnswer) → PlanFits a → plan_sentence a ≡ line → ⊥)
      × ((a : JudgeAnswer) → JudgeFits a → judge_sentence a ≡ line → ⊥)))

-- composing and reading both say 0, it is a planner's answer (1), its number, rows left, order and trials are those that were told, and nothing is told
-- of a judge's
pub record PlanPasted (number left : ℕ) (order : List ℕ) (trials : ℕ) (r : Pasted) : Type 0 where
  pub numbers : (r.composed ≡ 0) × (r.read ≡ 0) × (r.kind ≡ 1)
  pub answer : (r.number ≡ number) × (r.left ≡ left) × (r.order ≡ order) × (r.trials ≡ trials)
  pub others : (r.yes ≡ 0) × (r.row ≡ 0) × (r.slack ≡ pos 0)

-- likewise for a judge's answer (2)
pub record VerdictPasted (number said row : ℕ) (slack : ℤ) (r : Pasted) : Type 0 where
  pub numbers : (r.composed ≡ 0) × (r.read ≡ 0) × (r.kind ≡ 2)
  pub answer : (r.number ≡ number) × (r.yes ≡ said) × (r.row ≡ row) × (r.slack ≡ slack)
  pub others : (r.left ≡ 0) × (r.order ≡ replicate 64 0) × (r.trials ≡ 0)
