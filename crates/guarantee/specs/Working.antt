-- From the claim alone: deadlines are kept, and promised parts got in time, if the slots in which a row works supply enough. What idle slots and
-- loading slots supply matters to neither (rules 9.12, 9.17, 9.18, 9.20), also where the sheet in hand was committed (rule 22.9).
use Rattle.std.specs.Prelude.{ℕ, ◌≤◌, true, List, ◌≡◌}
use Rattle.std.proofs.Common.{sym, ap, subst, ◌∙◌, arith}
use Rattle.record.specs.Records.{state_of, start_run}
use Rattle.rules.specs.declared.Table.{Table}
use Rattle.rules.specs.Calls.{supply_from}
use Rattle.rules.specs.Correct.{KeptIn, Correct, earliest}
use Rattle.proposal.specs.Days.{Act, InHand, run_calls}
use Rattle.rules.specs.Orders.{is_order}
use Rattle.rules.specs.Rows.{at, is_row, deadline_of, is_low, promised_of}
use Rattle.rules.specs.Running.{run_after}
use Rattle.rules.specs.Slots.{State}
use Rattle.rules.specs.Tables.{Accepted}
use Rattle.rules.specs.Worst.{worst_speed}
use Rattle.theory.proofs.Closed.{closed_working, part_working_closed}
use Rattle.theory.specs.Closed.{WorkWindowTo}
use Rattle.theory.proofs.Lost.{sustainable_working, promise_working}
use Rattle.theory.specs.Lost.{WorkWindow}
use Rattle.theory.proofs.Results.{verdict}
use Rattle.guarantee.specs.Claim.{paper, Demand3}
use Rattle.guarantee.specs.Playing.{make_day}

-- After a list of acts that starts with table t and order o at clock k, a row of the sheet in hand with a deadline that the clock has come to has kept it, if
-- the order in hand is correct and every slot of the row's window in which a row worked supplied at least N for a LO row, or G for a HI row.
module _ (claim : Demand3) (t : Table) (a : Accepted t) (o : List ℕ) (e : is_order t o ≡ true) (k : ℕ) (early : k ≤ earliest t) (acts : List Act) where
  abbrev h : InHand
  h = (paper t o k acts).hand

  abbrev σ : ℕ → ℕ
  σ u = supply_from k (run_calls acts) u

  pub kept_working : Correct h.table h.order → (i : ℕ) → is_row h.table i ≡ true → deadline_of h.table i ≤ (make_day acts (start_run t o k)).run.clock
      → WorkWindow h.table h.order σ i (worst_speed h.table i) → KeptIn h.table (state_of (make_day acts (start_run t o k)).run) i
  kept_working correct i r d w =
      let q = (claim t a acts).right o e k early in
      let f = q.hand in
      let z = sustainable_working h.table q.accepted h.order q.passes i r ((verdict h.table q.accepted h.order q.passes).0 correct i r) σ w
      h.state.clock (omega (arith, f.clock)) in
      let p : KeptIn h.table h.state i = subst (λ (s : State). KeptIn h.table s i) (sym f.taken) z in
      record {
        done = ap (λ (l : List ℕ). at l i) f.got ∙ p.done;
        closed = rw f.closing p.closed;
        in_time = rw f.closing p.in_time;
      }

  -- A LO row with such a deadline has got its promised part, if every one of those slots supplied at least G.
  pub part_working : Correct h.table h.order → (i : ℕ) → is_row h.table i ≡ true → is_low h.table i ≡ true
      → deadline_of h.table i ≤ (make_day acts (start_run t o k)).run.clock → WorkWindow h.table h.order σ i h.table.degraded
      → promised_of h.table i ≤ at (make_day acts (start_run t o k)).run.got i
  part_working correct i r l d w =
      let q = (claim t a acts).right o e k early in
      let f = q.hand in
      let z = promise_working h.table q.accepted h.order q.passes i r l ((verdict h.table q.accepted h.order q.passes).0 correct i r) σ w
      h.state.clock (omega (arith, f.clock)) in
      rw f.got (subst (λ (s : State). promised_of h.table i ≤ at s.got i) (sym f.taken) z)

  -- Of a row that is closed, those of its window before its closing slot are enough (rule 9.20).
  pub settled_working : Correct h.table h.order → (i : ℕ) → is_row h.table i ≡ true → 1 ≤ at (make_day acts (start_run t o k)).run.closing i
      → WorkWindowTo h.table h.order σ (at (make_day acts (start_run t o k)).run.closing i) i (worst_speed h.table i)
      → KeptIn h.table (state_of (make_day acts (start_run t o k)).run) i
  settled_working correct i r c w =
      let q = (claim t a acts).right o e k early in
      let f = q.hand in
      let s = run_after h.table h.order σ h.state.clock in
      let same : at (make_day acts (start_run t o k)).run.closing i ≡ at s.closing i =
      ap (λ (l : List ℕ). at l i) f.closing ∙ ap (λ (x : State). at x.closing i) f.taken in
      let z = closed_working h.table q.accepted h.order q.passes i r ((verdict h.table q.accepted h.order q.passes).0 correct i r) σ
      h.state.clock (omega (arith, c, same)) (rw same at w) in
      let p : KeptIn h.table h.state i = subst (λ (x : State). KeptIn h.table x i) (sym f.taken) z in
      record {
        done = ap (λ (l : List ℕ). at l i) f.got ∙ p.done;
        closed = rw f.closing p.closed;
        in_time = rw f.closing p.in_time;
      }

  pub settled_part_working : Correct h.table h.order → (i : ℕ) → is_row h.table i ≡ true → is_low h.table i ≡ true
      → 1 ≤ at (make_day acts (start_run t o k)).run.closing i
      → WorkWindowTo h.table h.order σ (at (make_day acts (start_run t o k)).run.closing i) i h.table.degraded
      → promised_of h.table i ≤ at (make_day acts (start_run t o k)).run.got i
  settled_part_working correct i r l c w =
      let q = (claim t a acts).right o e k early in
      let f = q.hand in
      let s = run_after h.table h.order σ h.state.clock in
      let same : at (make_day acts (start_run t o k)).run.closing i ≡ at s.closing i =
      ap (λ (m : List ℕ). at m i) f.closing ∙ ap (λ (x : State). at x.closing i) f.taken in
      let z = part_working_closed h.table q.accepted h.order q.passes i r ((verdict h.table q.accepted h.order q.passes).0 correct i r) σ
      h.state.clock (omega (arith, c, same)) l (rw same at w) in
      rw f.got (subst (λ (x : State). promised_of h.table i ≤ at x.got i) (sym f.taken) z)
