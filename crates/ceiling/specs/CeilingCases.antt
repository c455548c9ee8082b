-- Plans at ceilings (rule 13.17): one table of cases, computed from the definitions and checked by one theorem. Each of the faults 14.45 to 14.49 meets
-- one here.
use Rattle.std.specs.Prelude.{ℕ, Bool, true, ◌&&◌, List, [], ◌∷◌, ◌++◌, T, eqb, ◌≡◌, refl}
use Rattle.std.proofs.Common.{lit≤}
use Rattle.rules.specs.declared.Row.{Row}
use Rattle.rules.specs.declared.Table.{Table}
use Rattle.rules.specs.Cases.{job, promising, following}
use Rattle.rules.specs.Correct.{CorrectOrder}
use Rattle.rules.specs.Choice.{padded, unfollowed, passes, sequence, choice, fill, taker, word}
use Rattle.rules.specs.Judge.{table_of}
use Rattle.rules.specs.Lists.{same}
use Rattle.rules.specs.Need.{work_slots}
use Rattle.rules.specs.Numbers.{refusal_number, planned_number, rows_left}
use Rattle.rules.specs.Slots.{fresh, is_pending, is_waiting, is_ready, chosen, is_over, brought, serve, slot}
use Rattle.rules.specs.Tables.{row_ok, tail_ok, promise_ok, check_wait, check_table}
use Rattle.rules.specs.Worst.{horizon, worst_finish, promised_moment, slack, meets}
use Rattle.theory.proofs.Results.{choice_order, choice_correct, choice_none}
use Rattle.ceiling.specs.declared.Counted.{Counted}
use Rattle.ceiling.specs.Ceiling.{trials_at, trials_from, trial_count, most_trials, plan_within}

-- a table planned at a ceiling, and what is answered: the number, the order, the word of the rows left, and the trials
pub record Case : Type 0 where
  pub table : Table
  pub ceiling : ℕ
  pub number : ℕ
  pub order : List ℕ
  pub left : ℕ
  pub trials : ℕ

abbrev answers_so : Counted → Case → Bool
answers_so r c =
    eqb (planned_number r.planning.answer) c.number
    && same r.planning.order (padded c.order)
    && eqb (rows_left r.planning.answer) c.left
    && eqb r.trials c.trials

abbrev all_hold : List Case → Bool
all_hold [] = true
all_hold (c ∷ cs) = answers_so (plan_within c.ceiling c.table) c && all_hold cs

-- this order, after these trials
abbrev made : Table → ℕ → List ℕ → ℕ → Case
made t ceiling order trials = record { table = t; ceiling = ceiling; number = 0; order = order; left = 0; trials = trials }

-- 7 with these rows left, after these trials
abbrev stuck : Table → ℕ → ℕ → ℕ → Case
stuck t ceiling left trials = record { table = t; ceiling = ceiling; number = 7; order = []; left = left; trials = trials }

-- 19
abbrev over : Table → ℕ → Case
over t ceiling = record { table = t; ceiling = ceiling; number = 19; order = []; left = 0; trials = ceiling }

-- a check of the table gives this number
abbrev refused : Table → ℕ → ℕ → Case
refused t ceiling number = record { table = t; ceiling = ceiling; number = number; order = []; left = 0; trials = 0 }

-- at one work unit per slot, N and G alike
abbrev steady : List Row → Table
steady rows = table_of rows 1 1 0

-- P1 (rule 13.1)
abbrev first : Table
first = table_of (job 0 20 10 1 ∷ job 5 15 10 0 ∷ job 5 11 19 1 ∷ job 0 5 5 0 ∷ []) 5 2 0

-- a row of the latest deadline, which the other one follows
abbrev skipped : Table
skipped = steady (job 0 1 9 0 ∷ following 0 1 5 0 1 ∷ [])

-- a row that is skipped between one that fails and one that gets the place
abbrev skipped_between : Table
skipped_between = steady (job 0 1 5 1 ∷ job 0 1 1 0 ∷ following 0 1 2 0 2 ∷ [])

-- a row that fails and the row that it follows
abbrev skipped_and_stuck : Table
skipped_and_stuck = steady (job 0 2 2 1 ∷ following 0 2 3 1 1 ∷ [])

-- three rows with slots for one
abbrev crowd : List Row
crowd = job 0 2 2 1 ∷ job 0 2 2 1 ∷ job 0 2 2 1 ∷ []

-- a row that fails at the lowest place, and one that gets it: 3 trials, the most for two rows
abbrev busiest : Table
busiest = steady (job 0 2 2 0 ∷ job 0 1 3 1 ∷ [])

-- a LO row that is in time and fails for its promised part alone, which counts as a trial of any other row does; jobs load in one slot
abbrev promised_tried : Table
promised_tried = table_of (promising 0 2 5 0 2 ∷ job 0 2 9 1 ∷ []) 2 1 1

-- a LO and a HI row with slots for one
abbrev both_late : Table
both_late = steady (job 0 2 2 0 ∷ job 0 2 2 1 ∷ [])

abbrev orders : List Case
orders =
    made first 6 (1 ∷ 2 ∷ 3 ∷ 4 ∷ []) 6
    ∷ made first 7 (1 ∷ 2 ∷ 3 ∷ 4 ∷ []) 6
    ∷ made first (most_trials 4) (1 ∷ 2 ∷ 3 ∷ 4 ∷ []) 6
    ∷ made first 4294967295 (1 ∷ 2 ∷ 3 ∷ 4 ∷ []) 6
    ∷ made first 4294901760 (1 ∷ 2 ∷ 3 ∷ 4 ∷ []) 6
    ∷ over first 5
    ∷ over first 1
    ∷ over first 0
    ∷ made skipped 2 (1 ∷ 2 ∷ []) 2
    ∷ over skipped 1
    ∷ made skipped_between 4 (2 ∷ 3 ∷ 1 ∷ []) 4
    ∷ over skipped_between 3
    ∷ made (steady (job 0 1 1 1 ∷ [])) 1 (1 ∷ []) 1
    ∷ over (steady (job 0 1 1 1 ∷ [])) 0
    ∷ made busiest (most_trials 2) (1 ∷ 2 ∷ []) 3
    ∷ over busiest 2
    ∷ made promised_tried 3 (1 ∷ 2 ∷ []) 3
    ∷ over promised_tried 2
    ∷ []

-- 7 at a place after the first, at the first, and with a row skipped; 19 in place of each; and tables refused, whatever the ceiling
abbrev others : List Case
others =
    stuck (steady (job 0 1 9 0 ∷ crowd)) 4 14 4
    ∷ over (steady (job 0 1 9 0 ∷ crowd)) 3
    ∷ over (steady (job 0 1 9 0 ∷ crowd)) 1
    ∷ stuck (steady crowd) 3 7 3
    ∷ stuck (steady crowd) 5 7 3
    ∷ over (steady crowd) 2
    ∷ stuck both_late 2 3 2
    ∷ over both_late 1
    ∷ stuck skipped_and_stuck 1 3 1
    ∷ over skipped_and_stuck 0
    ∷ refused (steady []) 0 3
    ∷ refused (steady []) 6 3
    ∷ refused (steady (job 4 1 4 0 ∷ [])) 0 5
    ∷ refused (steady (job 4 1 4 0 ∷ [])) 6 5
    ∷ []

pub ceiling_cases_hold : T (all_hold (orders ++ others))
unfolding plan_within trial_count trials_from trials_at padded unfollowed passes sequence choice fill taker word table_of work_slots refusal_number planned_number rows_left horizon worst_finish promised_moment slack meets fresh is_pending is_waiting is_ready chosen is_over brought serve slot row_ok tail_ok promise_ok check_wait check_table
ceiling_cases_hold = tt

-- the most trials, in figures (rule 23.3)
pub most_is : T (eqb (most_trials 64) 2080 && eqb (most_trials 2) 3 && eqb (most_trials 1) 1)
most_is = tt

-- Two tables answered 19: P1 at 5, which has a correct order, and three rows with slots for one at 2, which have none (rule 23.11).
pub record EitherWay : Type 0 where
  pub first_over : planned_number (plan_within 5 first).planning.answer ≡ 19
  pub first_has : CorrectOrder first
  pub crowd_over : planned_number (plan_within 2 (steady crowd)).planning.answer ≡ 19
  pub crowd_none : CorrectOrder (steady crowd) → ⊥

pub either_way : EitherWay
unfolding plan_within trial_count trials_from trials_at padded unfollowed passes sequence choice fill taker word table_of work_slots refusal_number planned_number rows_left horizon worst_finish promised_moment slack meets fresh is_pending is_waiting is_ready chosen is_over brought serve slot row_ok tail_ok promise_ok check_wait check_table
either_way =
    record {
      first_over = refl;
      first_has = record {
        order = padded (choice first).placed;
        passes = choice_order first refl refl;
        correct = choice_correct first refl refl;
      };
      crowd_over = refl;
      crowd_none = λ o. choice_none (steady crowd) refl 1 (lit≤ tt) o.order o.passes o.correct;
    }
