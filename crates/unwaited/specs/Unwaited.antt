-- What the rules said, before a row could follow another (rule 1.12), of tables, orders and runs: no row waits, an order is any arrangement of the
-- rows, and no row left is skipped. Of whatever does not speak of w it uses the rules' own definitions, the look at the clock among them (rule 19.2). w
-- is not looked at. How jobs load, and whether a part of their work can be promised, are parameters, so that the rules from before promised parts and
-- those from before loading are said by the same definitions.
use Rattle.std.specs.Prelude.{ℕ, zero, suc, ◌+◌, ◌≤◌, max, min, Bool, true, false, cond, not, ◌&&◌, ◌||◌, List, [], ◌∷◌, ◌≡◌, eqb, ltb, leb, ℤ, pos, drop, replicate, Ok, Err}
use Rattle.std.specs.Int.Signed.{lt_z}
use Rattle.rules.specs.declared.Table.{Table}
use Rattle.rules.specs.declared.Refusal.TheVariants.{RowCount, Speeds, Loading, RowLimits, Promised, NotAnOrder}
use Rattle.rules.specs.Plans as Plans
use Rattle.rules.specs.declared.Planning.{Planning}
use Rattle.rules.specs.declared.Sought.{Sought}
use Rattle.rules.specs.Searches as Searches
use Rattle.rules.specs.declared.Searching.{Searching}
use Rattle.rules.specs.Verdicts.{Judgement}
use Rattle.rules.specs.Verdicts.{Correct, Incorrect, Refused}
use Rattle.rules.specs.Checks.{Check, Passed}
use Rattle.rules.specs.Checks as Checks
use Rattle.rules.specs.Calls.{last_clock, Call, one, forward, Told, told, AllTold}
use Rattle.rules.specs.Choice.{Choice, sequence, lowest, plan_from}
use Rattle.rules.specs.Correct.{KeptIn}
use Rattle.rules.specs.Lists.{all, all_zero, first, erase, sum, greatest, rows_to}
use Rattle.rules.specs.Need as Rules
use Rattle.rules.specs.Numbers.{planned_number}
use Rattle.rules.specs.Orders.{is_arrangement}
use Rattle.rules.specs.Rows.{at, put, is_row, rows_of, release_of, work_of, deadline_of, promised_of, is_low, is_high, is_promised}
use Rattle.rules.specs.Running.{close_late}
use Rattle.rules.specs.Slots as Slots
use Rattle.rules.specs.Slots.{State, is_pending, idle, course}
use Rattle.rules.specs.Tables.{count_ok, speeds_ok, loading_ok, row_ok, promise_ok, and_then}
use Rattle.rules.specs.Worst.{worst_speed, left_from, lesser}
use Rattle.searches.specs.Speeds.{at_speed, speeds_of, search_refused}

-- The rules at a time before w. Where a table states k as its K: the slots that c work units need at s work units per slot; what a slot that supplies v
-- work units brings a row that has used u slots before it; and whether check 11 lets k through. And whether there were promised parts: where there were
-- none, r is not looked at.
pub record Past : Type 0 where
  pub need : ℕ → ℕ → ℕ → ℕ
  pub brought : ℕ → ℕ → ℕ → ℕ
  pub fits : ℕ → Bool
  pub promises : Bool

-- loading as it is in the rules (rules 1.8, 1.10, 2.14, 5.8), with promised parts or without
abbrev pub loading : Bool → Past
loading promises = record { need = Rules.need; brought = Slots.brought; fits = loading_ok; promises = promises }

-- the rules just before w: loading, and promised parts (rules 1.9, 1.11, 5.9)
abbrev pub with_promises : Past
with_promises = loading true

-- jobs of tables that state k as their K load as in the rules
pub record Agrees (p : Past) (k : ℕ) : Type 0 where
  pub need : (c s : ℕ) → Rules.need k c s ≡ p.need k c s
  pub brought : (u v : ℕ) → Slots.brought k u v ≡ p.brought k u v
  pub fits : loading_ok k ≡ p.fits k

-- a table of that time: its jobs load as they did then, no r but 0 stands in it unless there were promised parts, and no w but 0
pub record Before (p : Past) (t : Table) : Type 0 where
  pub loads : Agrees p t.loading
  pub none : p.promises ≡ false → all_zero t.promised ≡ true
  pub free : all_zero t.follows ≡ true

-- a row's need at s work units per slot, at N, and that of its promised part at G, in slots
abbrev pub need_for : Past → Table → ℕ → ℕ → ℕ
need_for p t s i = p.need t.loading (work_of t i) s

abbrev pub need_of : Past → Table → ℕ → ℕ
need_of p t i = need_for p t t.normal i

abbrev pub promise_need : Past → Table → ℕ → ℕ
promise_need p t i = p.need t.loading (promised_of t i) t.degraded

-- a LO row's allowance, in slots: its need at N, or that of its promised part if there are such parts and it is more
abbrev pub allowance : Past → Table → ℕ → ℕ
allowance p t i = cond p.promises (max (need_of p t i) (promise_need p t i)) (need_of p t i)

-- row i with g work units got and u slots used is over
unfoldable pub is_over : Past → Table → ℕ → ℕ → ℕ → Bool
is_over p t i g u = eqb g (work_of t i) || (is_low t i && leb (allowance p t i) u)

-- row i runs with supply v, in work units
unfoldable pub serve : Past → Table → ℕ → ℕ → State → State
serve p t v i s =
    let g = min (work_of t i) (at s.got i + p.brought t.loading (at s.used i) v) in
    let u = at s.used i + 1 in
    record {
      clock = s.clock + 1;
      got = put s.got i g;
      used = put s.used i u;
      closing = put s.closing i (cond (is_over p t i g u) (s.clock + 1) 0);
    }

-- the row that the coming slot runs: the first from the top of the order that is released and open, 0 for an idle slot
unfoldable pub chosen : Table → List ℕ → State → ℕ
chosen t o s = first (is_pending t s) o

-- the step by the planning rule, and by the running rule, which looks at the clock after it; the states after k slots
unfoldable pub slot : Past → Table → List ℕ → ℕ → State → State
slot p t o v s = cond (eqb (chosen t o s) 0) (idle s) (serve p t v (chosen t o s) s)

abbrev pub after : Past → Table → List ℕ → (ℕ → ℕ) → ℕ → State
after p t o σ k = course (slot p t o) σ k

unfoldable pub run_slot : Past → Table → List ℕ → ℕ → State → State
run_slot p t o v s = close_late t (slot p t o v s)

abbrev pub run_after : Past → Table → List ℕ → (ℕ → ℕ) → ℕ → State
run_after p t o σ k = course (run_slot p t o) σ k

-- An order keeps what it has to in the runs of a rule: this was a correct order, by the planning rule, and one that serves in runs, by the other. The
-- third clause was there if there were promised parts.
pub record ServesThen (p : Past) (t : Table) (run : (ℕ → ℕ) → ℕ → State) : Type 0 where
  pub normal : (σ : ℕ → ℕ) → ((u : ℕ) → t.normal ≤ σ u) → (i : ℕ) → is_row t i ≡ true → KeptIn t (run σ (deadline_of t i)) i
  pub degraded : (σ : ℕ → ℕ) → ((u : ℕ) → t.degraded ≤ σ u) → (i : ℕ) → is_row t i ≡ true → is_high t i ≡ true → KeptIn t (run σ (deadline_of t i)) i
  pub promised : p.promises ≡ true → (σ : ℕ → ℕ) → ((u : ℕ) → t.degraded ≤ σ u) → (i : ℕ) → is_row t i ≡ true → is_low t i ≡ true
      → promised_of t i ≤ at (run σ (deadline_of t i)).got i

abbrev pub CorrectThen : Past → Table → List ℕ → Type 0
CorrectThen p t o = ServesThen p t (after p t o)

abbrev pub RunServesThen : Past → Table → List ℕ → Type 0
RunServesThen p t o = ServesThen p t (run_after p t o)

-- worst finish, promised moment and slack, in slots
unfoldable pub horizon : Past → Table → ℕ → ℕ
horizon p t s = greatest (release_of t) (rows_of t) + sum (need_for p t s) (rows_of t)

unfoldable pub worst_finish : Past → Table → List ℕ → ℕ → ℕ
worst_finish p t o i = at (after p t o (λ _. worst_speed t i) (horizon p t (worst_speed t i))).closing i

unfoldable pub promised_moment : Past → Table → List ℕ → ℕ → ℕ
promised_moment p t o i = first (λ k. leb (promised_of t i) (at (after p t o (λ _. t.degraded) k).got i)) (rows_to (horizon p t t.degraded))

unfoldable pub slack : Past → Table → List ℕ → ℕ → ℤ
slack p t o i =
    cond (p.promises && is_promised t i)
    (lesser (left_from t i (worst_finish p t o i)) (left_from t i (promised_moment p t o i)))
    (left_from t i (worst_finish p t o i))

-- a row meets its deadline: its slack is not below zero, or, as it was said without promised parts, its worst finish is not after its deadline
unfoldable pub meets : Past → Table → List ℕ → ℕ → Bool
meets p t o i = cond p.promises (not (lt_z (slack p t o i) (pos 0))) (leb (worst_finish p t o i) (deadline_of t i))

-- checks 3, 4, 11 and 5, over five columns or four, then 12 if there were promised parts, and then 6
unfoldable pub tail_ok : Past → Table → Bool
tail_ok p t =
    all_zero (drop t.n t.release)
    && all_zero (drop t.n t.work)
    && all_zero (drop t.n t.deadline)
    && all_zero (drop t.n t.level)
    && cond p.promises (all_zero (drop t.n t.promised)) true

unfoldable pub promises_ok : Past → Table → Bool
promises_ok p t = cond p.promises (all (promise_ok t) (rows_of t)) true

unfoldable pub check_table : Past → Table → Check
check_table p t =
    cond (count_ok t.n)
    (cond (speeds_ok t.normal t.degraded)
    (cond (p.fits t.loading)
    (cond (all (row_ok t) (rows_of t) && tail_ok p t)
    (cond (promises_ok p t) Passed (Checks.Refused Promised))
    (Checks.Refused RowLimits))
    (Checks.Refused Loading))
    (Checks.Refused Speeds))
    (Checks.Refused RowCount)

unfoldable pub check_order : Table → List ℕ → Check
check_order t o = cond (is_arrangement t o) Passed (Checks.Refused NotAnOrder)

unfoldable pub check_both : Past → Table → List ℕ → Check
check_both p t o = and_then (check_table p t) (check_order t o)

-- the planner: at each place all rows left are tried
unfoldable pub passes : Past → Table → List ℕ → ℕ → Bool
passes p t left i = meets p t (lowest left i) i

unfoldable pub taker : Past → Table → List ℕ → ℕ
taker p t left = first (passes p t left) left

unfoldable pub fill : Past → Table → ℕ → List ℕ → List ℕ → Choice
fill p t zero left placed = record { placed = placed; left = left }
fill p t (suc k) left placed =
    let i = taker p t left in
    let next = fill p t k (erase i left) (i ∷ placed) in
    cond (eqb i 0) (record { placed = placed; left = left }) next

unfoldable pub choice : Past → Table → Choice
choice p t = fill p t t.n (sequence t) []

abbrev pub plan_checked : Past → Check → Table → Planning
plan_checked p (Ok tt) t = plan_from (choice p t)
plan_checked p (Err r) t = record { answer = Plans.Refused r; order = replicate 64 0 }

unfoldable pub plan_of : Past → Table → Planning
plan_of p t = plan_checked p (check_table p t) t

-- the judge
abbrev pub least_slack : Past → Table → List ℕ → ℕ → List ℕ → ℕ
least_slack p t o b [] = b
least_slack p t o b (i ∷ is) = least_slack p t o (cond (lt_z (slack p t o i) (slack p t o b)) i b) is

unfoldable pub tightest : Past → Table → List ℕ → ℕ
tightest p t o = least_slack p t o 1 (rows_of t)

abbrev pub verdict_at : Past → Table → List ℕ → ℕ → Judgement
verdict_at p t o i = cond (lt_z (slack p t o i) (pos 0)) (Incorrect i (slack p t o i)) (Correct i (slack p t o i))

abbrev pub judge_checked : Past → Check → Table → List ℕ → Judgement
judge_checked p (Ok tt) t o = verdict_at p t o (tightest p t o)
judge_checked p (Err r) t o = Refused r

unfoldable pub judge_of : Past → Table → List ℕ → Judgement
judge_of p t o = judge_checked p (check_both p t o) t o

-- the searches for a least workable speed, in work units per slot
unfoldable pub makes_order : Past → Sought → Table → ℕ → Bool
makes_order p f t s = eqb (planned_number (plan_of p (at_speed f t s)).answer) 0

unfoldable pub least_speed : Past → Sought → Table → ℕ
least_speed p f t = first (makes_order p f t) (speeds_of f t)

abbrev pub searched_at : Past → Sought → Table → ℕ → Searching
searched_at p f t s =
    cond (eqb s 0)
    (record { answer = Searches.NoSpeed; order = replicate 64 0 })
    (record { answer = Searches.Least s; order = (plan_of p (at_speed f t s)).order })

abbrev pub search_checked : Past → Check → Sought → Table → Searching
search_checked p (Ok tt) f t = searched_at p f t (least_speed p f t)
search_checked p (Err r) f t = search_refused r

unfoldable pub search_of : Past → Sought → Table → Searching
search_of p f t = search_checked p (check_table p t) f t

-- the calls on paper
unfoldable pub tell_one : Past → Table → List ℕ → ℕ → State → Told
tell_one p t o v s = cond (ltb s.clock last_clock) (told 0 (chosen t o s) (run_slot p t o v s)) (told 8 0 s)

unfoldable pub tell_forward : Past → Table → List ℕ → ℕ → List ℕ → State → Told
tell_forward p t o k [] s = told 0 k s
tell_forward p t o k (v ∷ vs) s = cond (ltb s.clock last_clock) (tell_forward p t o (k + 1) vs (run_slot p t o v s)) (told 8 k s)

abbrev pub tell : Past → Table → List ℕ → Call → State → Told
tell p t o (one v) s = tell_one p t o v s
tell p t o (forward vs) s = tell_forward p t o 0 vs s

unfoldable pub tell_all : Past → Table → List ℕ → List Call → State → AllTold
tell_all p t o [] s = record { said = []; state = s }
tell_all p t o (c ∷ cs) s =
    let r = tell p t o c s in
    let rest = tell_all p t o cs r.state in
    record { said = r.said ∷ rest.said; state = rest.state }
