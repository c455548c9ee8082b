-- What a slot does (section 2 of the rules): the planning rule (rule 19.1), slot by slot. At clock t the coming slot is slot t (rule 1.4).
use Rattle.std.specs.Prelude.{ℕ, zero, suc, ◌+◌, max, min, Bool, cond, not, ◌&&◌, ◌||◌, List, eqb, ltb, leb, replicate}
use Rattle.rules.specs.declared.Table.{Table}
use Rattle.rules.specs.Lists.{first}
use Rattle.rules.specs.Rows.{at, put, is_row, release_of, work_of, follows_of, is_follower, need_of, promise_need, is_low}

-- the clock in slots; for each row the work units got, the slots used and the closing slot, 0 while open (rules 2.10, 2.13)
pub record State : Type 0 where
  pub clock : ℕ
  pub got : List ℕ
  pub used : List ℕ
  pub closing : List ℕ

-- the state at clock u, in slots, with zeros for all rows: every one is open and empty (rules 2.13, 22.4)
abbrev pub start_at : ℕ → State
start_at u = record { clock = u; got = replicate 64 0; used = replicate 64 0; closing = replicate 64 0 }

-- the state at the start of a run: zeros (rule 2.13)
unfoldable pub fresh : State
fresh = start_at 0

-- row i is a row of the table, released, and open (rules 1.5, 2.2)
unfoldable pub is_pending : Table → State → ℕ → Bool
is_pending t s i = is_row t i && leb (release_of t i) s.clock && eqb (at s.closing i) 0

-- row i, while it is open itself, waits: the row that it follows is open. A row that was dropped is as closed as one that is done (rules 2.10, 2.15).
unfoldable pub is_waiting : Table → State → ℕ → Bool
is_waiting t s i = is_follower t i && eqb (at s.closing (follows_of t i)) 0

-- row i is ready: it is released and open, and does not wait (rules 2.2, 2.15)
unfoldable pub is_ready : Table → State → ℕ → Bool
is_ready t s i = is_pending t s i && not (is_waiting t s i)

-- The row that the coming slot runs: the first ready one from the top of the order, 0 for an idle slot (rule 2.3).
-- No supply is among the arguments, so that the choice cannot depend on one (rule 2.4).
unfoldable pub chosen : Table → List ℕ → State → ℕ
chosen t o s = first (is_ready t s) o

-- the slots that a LO row may use, loading among them, at whatever speed: its need at N, or the need of its promised part at G if that is more
-- (rule 1.9; the need of all its work at G would be the fault of rule 14.2)
abbrev pub allowance : Table → ℕ → ℕ
allowance t i = max (need_of t i) (promise_need t i)

-- Row i with g work units got and u slots used is over: it is done, having got c, or it is LO and has used up its allowance
-- (rules 2.6, 2.7, 2.8). Its deadline does not come into it (rules 2.9, 14.3): that is the clock's (rule 19.2). Where both hold it is done and not dropped, since a row that
-- is over was dropped just if it has not got c (rule 2.11).
unfoldable pub is_over : Table → ℕ → ℕ → ℕ → Bool
is_over t i g u = eqb g (work_of t i) || (is_low t i && leb (allowance t i) u)

-- What a slot that supplies v brings a row that has used u slots before it, where k slots load a row, in work units: nothing while the row
-- still loads (rule 2.14), and then all of it (rule 2.5). Slots used are never given back, so that a row loads once, preempted or not.
unfoldable pub brought : ℕ → ℕ → ℕ → ℕ
brought k u v = cond (ltb u k) 0 v

-- an idle slot: only the clock moves (rules 2.3, 2.12)
abbrev pub idle : State → State
idle s = record { clock = s.clock + 1; got = s.got; used = s.used; closing = s.closing }

-- Row i runs with supply v, in work units. It has used one slot more and got more by what the slot brings, but never above c; the rest of v
-- is lost (rules 2.1, 2.5, 2.14). If that closes it, its closing slot is the clock after this slot (rule 2.10).
unfoldable pub serve : Table → ℕ → ℕ → State → State
serve t v i s =
    let g = min (work_of t i) (at s.got i + brought t.loading (at s.used i) v) in
    let u = at s.used i + 1 in
    record {
      clock = s.clock + 1;
      got = put s.got i g;
      used = put s.used i u;
      closing = put s.closing i (cond (is_over t i g u) (s.clock + 1) 0);
    }

-- row i runs, or for row 0 the slot is idle (rule 2.3)
abbrev pub serve_or_idle : Table → ℕ → ℕ → State → State
serve_or_idle t v i s = cond (eqb i 0) (idle s) (serve t v i s)

-- A slot by the planning rule, with supply v in work units (rules 2.3, 19.1): a late row goes on (rule 2.9). The running rule goes on from here
-- (Running). The last clock stands in Calls, since worst runs have none (rule 3.5).
unfoldable pub slot : Table → List ℕ → ℕ → State → State
slot t o v s = serve_or_idle t v (chosen t o s) s

-- The state after k steps from the fresh state, where slot u supplies σ u work units: a step takes the supply of its slot and the state before
-- it (rule 2.13). Both rules of a slot make their runs so: the planning rule here, the running rule in Running (rule 19.1).
abbrev pub course : (ℕ → State → State) → (ℕ → ℕ) → ℕ → State
course step σ zero = fresh
course step σ (suc k) = step (σ k) (course step σ k)

-- the state after k slots by the planning rule, under the course of speed in which slot u supplies σ u work units (rule 3.4)
abbrev pub after : Table → List ℕ → (ℕ → ℕ) → ℕ → State
after t o σ k = course (slot t o) σ k
