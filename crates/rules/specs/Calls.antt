-- The two run calls on paper, and lists of them. They see a table, an order and the calls, and no record (rule 9.6).
use Rattle.std.specs.Prelude.{ℕ, ◌+◌, cond, List, [], ◌∷◌, ◌++◌, ltb, get_or, replicate}
use Rattle.rules.specs.declared.Table.{Table}
use Rattle.rules.specs.Running.{run_slot}
use Rattle.rules.specs.Slots.{State, chosen}

-- the clock, in slots, at which a supply is refused (rule 8.13)
abbrev pub last_clock : ℕ
last_clock = 2000000

-- one slot with a supply, or forward over a list of supplies, each in work units (rules 8.11, 9.5)
pub data Call : Type 0 where
  one : ℕ → Call
  forward : List ℕ → Call

-- a call's number, and its value: the row run (0 for idle) of one slot, the slots worked of forward (rules 9.7, 9.8)
pub record Said : Type 0 where
  pub number : ℕ
  pub value : ℕ

-- what one call said and the state after it (rule 9.6)
pub record Told : Type 0 where
  pub said : Said
  pub state : State

-- a number, a value and a state put together (rule 9.6)
abbrev pub told : ℕ → ℕ → State → Told
told number value s = record { said = record { number = number; value = value }; state = s }

-- One slot makes one step, by the running rule, and says 0 and the row that ran; at the last clock it says 8 and row 0, and the state stays (rule 9.7).
unfoldable pub tell_one : Table → List ℕ → ℕ → State → Told
tell_one t o v s = cond (ltb s.clock last_clock) (told 0 (chosen t o s) (run_slot t o v s)) (told 8 0 s)

-- Forward makes such a step for each supply and says 0 and the count of steps; a supply at the last clock ends it with 8 and the
-- count so far, and the state stays (rule 9.8). Of these steps k are made already.
unfoldable pub tell_forward : Table → List ℕ → ℕ → List ℕ → State → Told
tell_forward t o k [] s = told 0 k s
tell_forward t o k (v ∷ vs) s = cond (ltb s.clock last_clock) (tell_forward t o (k + 1) vs (run_slot t o v s)) (told 8 k s)

-- either call on paper (rules 9.7, 9.8)
abbrev pub tell : Table → List ℕ → Call → State → Told
tell t o (one v) s = tell_one t o v s
tell t o (forward vs) s = tell_forward t o 0 vs s

-- what all calls of a list said, in turn, and the state after the last (rule 9.5)
pub record AllTold : Type 0 where
  pub said : List Said
  pub state : State

-- a list of calls, each on the state that the one before it left (rules 9.5, 9.6)
unfoldable pub tell_all : Table → List ℕ → List Call → State → AllTold
tell_all t o [] s = record { said = []; state = s }
tell_all t o (c ∷ cs) s =
    let r = tell t o c s in
    let rest = tell_all t o cs r.state in
    record { said = r.said ∷ rest.said; state = rest.state }

-- the supplies of a call, in work units (rule 9.15)
abbrev pub supplies_of : Call → List ℕ
supplies_of (one v) = v ∷ []
supplies_of (forward vs) = vs

-- the supplies of all calls, one after another (rule 9.15)
unfoldable pub all_supplies : List Call → List ℕ
all_supplies [] = []
all_supplies (c ∷ cs) = supplies_of c ++ all_supplies cs

-- What slot u supplied, in work units, where the first call is made at clock k: the supply taken while the clock showed u (rule 9.15). From clock
-- k on each supply is taken in turn, one at each clock, and at the last clock all are refused; so it is the one that comes u - k supplies after the
-- first. The slots before clock k take none of these supplies, and count as 0.
unfoldable pub supply_from : ℕ → List Call → ℕ → ℕ
supply_from k cs u = get_or (replicate k 0 ++ all_supplies cs) u 0

-- what slot u supplied, where the first call is made at clock 0: the u-th of all supplies (rule 9.15)
abbrev pub supply_at : List Call → ℕ → ℕ
supply_at cs u = supply_from 0 cs u
