-- The count of trials, and the planner's answer at a ceiling (section 23 of the rules).
use Rattle.std.specs.Prelude.{ℕ, zero, suc, ◌+◌, ◌*◌, ◌/◌, Bool, cond, List, [], ◌∷◌, eqb, ltb, replicate, Ok, Err}
use Rattle.rules.specs.declared.Table.{Table}
use Rattle.rules.specs.Plans.{Refused}
use Rattle.rules.specs.declared.Refusal.TheVariants.{TrialsOver}
use Rattle.rules.specs.Checks.{Check}
use Rattle.rules.specs.Lists.{erase}
use Rattle.rules.specs.Tables.{check_table}
use Rattle.rules.specs.Choice.{sequence, tried, passes, taker, choice, plan_from, plan_checked}
use Rattle.ceiling.specs.declared.Counted.{Counted}

-- how many rows of a list come up to and with the first that passes; all of them where none does (rule 23.1)
abbrev pub up_to_first : (ℕ → Bool) → List ℕ → ℕ
up_to_first p [] = 0
up_to_first p (i ∷ is) = suc (cond (p i) 0 (up_to_first p is))

-- the trials at the place that is filled next: of the rows tried there, of which a skipped row is none (rules 4.11, 23.1)
unfoldable pub trials_at : Table → List ℕ → ℕ
trials_at t left = up_to_first (passes t left) (tried t left)

-- the trials at k places more, up to and with the one at which every row that is tried fails (rule 23.2)
unfoldable pub trials_from : Table → ℕ → List ℕ → ℕ
trials_from t zero left = 0
trials_from t (suc k) left =
    let i = taker t left in
    trials_at t left + cond (eqb i 0) 0 (trials_from t k (erase i left))

-- the count of a table: n places to fill, all rows left (rule 23.2)
unfoldable pub trial_count : Table → ℕ
trial_count t = trials_from t t.n (sequence t)

-- the most that n rows can take (rule 23.3)
abbrev pub most_trials : ℕ → ℕ
most_trials n = n * (n + 1) / 2

-- 19: an order of zeros, no row left, and the ceiling as trials (rules 10.19, 23.5)
abbrev pub over_ceiling : ℕ → Counted
over_ceiling ceiling = record { planning = record { answer = Refused TrialsOver; order = replicate 64 0 }; trials = ceiling }

-- an accepted table: 19 exactly if the count is above the ceiling, else the choice's answer with the count (rules 23.4, 23.5)
abbrev pub counted_from : ℕ → Table → Counted
counted_from ceiling t =
    cond (ltb ceiling (trial_count t)) (over_ceiling ceiling) (record { planning = plan_from (choice t); trials = trial_count t })

-- a refused table is answered as without a ceiling, with no trial (rule 23.7)
abbrev pub counted_checked : Check → ℕ → Table → Counted
counted_checked (Ok tt) ceiling t = counted_from ceiling t
counted_checked (Err r) ceiling t = record { planning = plan_checked (Err r) t; trials = 0 }

-- the planner's answer for any table at any ceiling: checks 3, 4, 11, 5, 12, 13 to 15, then 19, 7 or 0 (rule 11.11)
unfoldable pub plan_within : ℕ → Table → Counted
plan_within ceiling t = counted_checked (check_table t) ceiling t
