-- The claim from the other side: what a caller gets from `Demand3`, in plain terms, derived from its statement alone and without its proof.
-- Where a field of the claim is weakened or left out, a proof here fails.
use Rattle.std.specs.Prelude.{ℕ, ◌+◌, ◌*◌, ◌/◌, ◌≤◌, ◌<◌, true, ◌↔◌, ◌⊎◌, ◌≡◌, List, map, length, get_or, replicate}
use Rattle.record.specs.declared.Run.{Run}
use Rattle.record.specs.Records.{is_sound, fresh_of}
use Rattle.rules.specs.declared.Table.{Table}
use Rattle.rules.specs.Checks.{Passed}
use Rattle.rules.specs.Calls.{Call, Said, tell_all, supply_at}
use Rattle.rules.specs.Choice.{choice, word, padded, plan_of}
use Rattle.ceiling.specs.Ceiling.{trial_count, plan_within}
use Rattle.rules.specs.Meaning.{Serves}
use Rattle.rules.specs.Numbers.{planned_number, rows_left}
use Rattle.rules.specs.Orders.{is_order}
use Rattle.rules.specs.Rows.{at}
use Rattle.rules.specs.Running.{run_after}
use Rattle.rules.specs.Slots.{State, fresh, chosen}
use Rattle.proposal.specs.Commits.{commit_of}
use Rattle.guarantee.specs.Playing.{make_all}

-- The planner's number is 0: its order is the one that the choice made, it passes check 6 and serves, and no row is left.
pub record WithZero (t : Table) : Type 0 where
  pub order : (plan_of t).order ≡ padded (choice t).placed
  pub passes : is_order t (plan_of t).order ≡ true
  pub serves : Serves t (plan_of t).order
  pub left : rows_left (plan_of t).answer ≡ 0

-- The planner's number is 7: no order of the table serves, the order is sixty-four zeros, and the rows left are a word of at least one row.
pub record WithSeven (t : Table) : Type 0 where
  pub none : (o : List ℕ) → is_order t o ≡ true → Serves t o → ⊥
  pub order : (plan_of t).order ≡ replicate 64 0
  pub left : rows_left (plan_of t).answer ≡ word (choice t).left
  pub some : 1 ≤ rows_left (plan_of t).answer

-- The fresh record: the check passed; it holds the table, the order, clock 0 slots, and three columns of zeros (rule 8.2).
pub record Started (t : Table) (o : List ℕ) : Type 0 where
  pub check : (fresh_of t o).check ≡ Passed
  pub table : (fresh_of t o).run.table ≡ t
  pub order : (fresh_of t o).run.order ≡ o
  pub clock : (fresh_of t o).run.clock ≡ 0
  pub got : (fresh_of t o).run.got ≡ replicate 64 0
  pub used : (fresh_of t o).run.used ≡ replicate 64 0
  pub closing : (fresh_of t o).run.closing ≡ replicate 64 0

-- A number of a run call that was answered by its rules: 0, or 8 at the last clock.
abbrev pub ZeroOrEight : ℕ → Type 0
ZeroOrEight n = (n ≡ 0) ⊎ (n ≡ 8)

-- The answers of n calls: as many as calls, each with the number and the value told on paper, and no number is 9.
pub record Answers (n : ℕ) (told said : List Said) : Type 0 where
  pub as_many : length said ≡ n
  pub numbers : map (λ (s : Said). s.number) said ≡ map (λ (s : Said). s.number) told
  pub values : map (λ (s : Said). s.value) said ≡ map (λ (s : Said). s.value) told
  pub never_nine : (k : ℕ) → k < length said → get_or (map (λ (s : Said). s.number) said) k 0 ≡ 9 → ⊥

-- The record after the calls: its clock in slots, and each row's work units got, slots used and closing slot, are those of the state on paper; its table and
-- order are those of the sheet in hand. The state is that of the run from clock 0 in which slot u supplies σ u work units.
pub record Entries (t : Table) (o : List ℕ) (s : State) (σ : ℕ → ℕ) (r : Run) : Type 0 where
  pub taken : s ≡ run_after t o σ s.clock
  pub clock : r.clock ≡ s.clock
  pub got : (i : ℕ) → at r.got i ≡ at s.got i
  pub used : (i : ℕ) → at r.used i ≡ at s.used i
  pub closing : (i : ℕ) → at r.closing i ≡ at s.closing i
  pub table : r.table ≡ t
  pub order : r.order ≡ o

-- Row i has got its work, in work units, and its closing slot is at least 1 and at most its deadline (rule 3.1).
pub record Done (t : Table) (r : Run) (i : ℕ) : Type 0 where
  pub got : at r.got i ≡ at t.work i
  pub from : 1 ≤ at r.closing i
  pub up_to : at r.closing i ≤ at t.deadline i

-- Each slot before row i's deadline by which some row of the table is released supplied at least s work units.
abbrev pub Supplied : Table → (ℕ → ℕ) → ℕ → ℕ → Type 0
Supplied t σ i s = (u j : ℕ) → 1 ≤ j → j ≤ t.n → at t.release j ≤ u → u < at t.deadline i → s ≤ σ u

-- Each of these slots that is before clock k did.
abbrev pub SuppliedTo : Table → (ℕ → ℕ) → ℕ → ℕ → ℕ → Type 0
SuppliedTo t σ k i s = (u j : ℕ) → 1 ≤ j → j ≤ t.n → at t.release j ≤ u → u < at t.deadline i → u < k → s ≤ σ u

-- Under an order that serves, each row whose deadline the clock has reached is done, if its slots supplied at least N (level 0) or G (any other).
pub record Deadlines (t : Table) (o : List ℕ) (σ : ℕ → ℕ) (r : Run) : Type 0 where
  pub low : Serves t o → (i : ℕ) → 1 ≤ i → i ≤ t.n → at t.level i ≡ 0 → at t.deadline i ≤ r.clock → Supplied t σ i t.normal → Done t r i
  pub high : Serves t o → (i : ℕ) → 1 ≤ i → i ≤ t.n → (at t.level i ≡ 0 → ⊥) → at t.deadline i ≤ r.clock → Supplied t σ i t.degraded → Done t r i
  -- and each of level 0 has got its promised part, in work units, if its slots supplied at least G (rule 9.18)
  pub part : Serves t o → (i : ℕ) → 1 ≤ i → i ≤ t.n → at t.level i ≡ 0 → at t.deadline i ≤ r.clock → Supplied t σ i t.degraded
      → at t.promised i ≤ at r.got i

-- The same of each row that is closed, whatever its deadline, if its slots before its closing slot supplied as much (rule 9.20).
pub record Closings (t : Table) (o : List ℕ) (σ : ℕ → ℕ) (r : Run) : Type 0 where
  pub low : Serves t o → (i : ℕ) → 1 ≤ i → i ≤ t.n → at t.level i ≡ 0 → 1 ≤ at r.closing i → SuppliedTo t σ (at r.closing i) i t.normal → Done t r i
  pub high : Serves t o → (i : ℕ) → 1 ≤ i → i ≤ t.n → (at t.level i ≡ 0 → ⊥) → 1 ≤ at r.closing i → SuppliedTo t σ (at r.closing i) i t.degraded → Done t r i
  pub part : Serves t o → (i : ℕ) → 1 ≤ i → i ≤ t.n → at t.level i ≡ 0 → 1 ≤ at r.closing i → SuppliedTo t σ (at r.closing i) i t.degraded
      → at t.promised i ≤ at r.got i

-- Under any order of the table (rule 9.19): a slot that goes to a row which follows another, up to the coming slot, is not before the closing slot of that
-- one, which is at least 1. A row that has used a slot follows no row, or one that is closed, and that closing slot and the slots used are together no more
-- than the clock; of a row whose level is not 0 the row that it follows has then got all its work units.
pub record Waited (t : Table) (o : List ℕ) (σ : ℕ → ℕ) (r : Run) : Type 0 where
  pub slots : (i u : ℕ) → 1 ≤ i → i ≤ t.n → (at t.follows i ≡ 0 → ⊥) → u ≤ r.clock → chosen t o (run_after t o σ u) ≡ i
      → (1 ≤ at r.closing (at t.follows i)) × (at r.closing (at t.follows i) ≤ u)
  pub closed : (i : ℕ) → 1 ≤ i → i ≤ t.n → (at t.follows i ≡ 0 → ⊥) → 1 ≤ at r.used i → 1 ≤ at r.closing (at t.follows i)
  pub after : (i : ℕ) → 1 ≤ i → i ≤ t.n → (at t.follows i ≡ 0 → ⊥) → 1 ≤ at r.used i
      → at r.closing (at t.follows i) + at r.used i ≤ r.clock
  pub done : (i : ℕ) → 1 ≤ i → i ≤ t.n → (at t.follows i ≡ 0 → ⊥) → (at t.level i ≡ 0 → ⊥) → 1 ≤ at r.used i
      → at r.got (at t.follows i) ≡ at t.work (at t.follows i)

-- A planning at a ceiling that answers as one without.
pub record AtCeiling (t : Table) (c : ℕ) : Type 0 where
  pub number : planned_number (plan_within c t).planning.answer ≡ planned_number (plan_of t).answer
  pub order : (plan_within c t).planning.order ≡ (plan_of t).order
  pub left : rows_left (plan_within c t).planning.answer ≡ rows_left (plan_of t).answer
  pub trials : (plan_within c t).trials ≡ trial_count t

-- What a caller gets of one accepted table and one list of calls.
pub record Plain (t : Table) (cs : List Call) : Type 0 where
  -- the planner's number is 0 or 7
  pub either : (planned_number (plan_of t).answer ≡ 0) ⊎ (planned_number (plan_of t).answer ≡ 7)
  -- it is 0 exactly if some order of the table serves
  pub zero : (planned_number (plan_of t).answer ≡ 0) ↔ ((o : List ℕ) × (is_order t o ≡ true) × Serves t o)
  -- what comes with either number
  pub order : planned_number (plan_of t).answer ≡ 0 → WithZero t
  pub seven : planned_number (plan_of t).answer ≡ 7 → WithSeven t
  -- at every ceiling that is not below the count of trials number, order, rows left and so all of the above are the same, and the trials are the count; at
  -- n × (n + 1) / 2 it is so for every table (rule 23.10)
  pub ceilings : (c : ℕ) → trial_count t ≤ c → AtCeiling t c
  pub enough : AtCeiling t (t.n * (t.n + 1) / 2)
  -- for every order of the table: its fresh record, and what the run calls made from there on answer, leave and keep
  pub started : (o : List ℕ) → is_order t o ≡ true → Started t o
  pub answers : (o : List ℕ) → is_order t o ≡ true → Answers (length cs) (tell_all t o cs fresh).said (make_all cs (fresh_of t o).run).said
  pub zero_or_eight : (o : List ℕ) → is_order t o ≡ true → (k : ℕ) → ZeroOrEight (get_or (map (λ (s : Said). s.number) (make_all cs (fresh_of t o).run).said) k 0)
  pub entries : (o : List ℕ) → is_order t o ≡ true → Entries t o (tell_all t o cs fresh).state (supply_at cs) (make_all cs (fresh_of t o).run).run
  pub deadlines : (o : List ℕ) → is_order t o ≡ true → Deadlines t o (supply_at cs) (make_all cs (fresh_of t o).run).run
  pub closings : (o : List ℕ) → is_order t o ≡ true → Closings t o (supply_at cs) (make_all cs (fresh_of t o).run).run
  pub waits : (o : List ℕ) → is_order t o ≡ true → Waited t o (supply_at cs) (make_all cs (fresh_of t o).run).run

-- The record of a table and an order at clock k, in slots, with nothing got, nothing used and every row open (rule 22.4).
abbrev pub Emptied : Table → List ℕ → ℕ → Run → Type 0
Emptied t o k r =
    (r.table ≡ t) × (r.order ≡ o) × (r.clock ≡ k) × (r.got ≡ replicate 64 0) × (r.used ≡ replicate 64 0) × (r.closing ≡ replicate 64 0)

-- A commit of the table and an order to record r that is answered 0: r was sound and every row of its sheet closed, the order is one of the table and serves, no
-- row is released before the clock of r, and the record has both, at that clock and emptied (rules 10.16, 10.18, 22.4).
pub record Renewed (t : Table) (o : List ℕ) (r : Run) : Type 0 where
  pub sound : is_sound r ≡ true
  pub closed : (i : ℕ) → 1 ≤ i → i ≤ r.table.n → 1 ≤ at r.closing i
  pub passes : is_order t o ≡ true
  pub serves : Serves t o
  pub later : (j : ℕ) → 1 ≤ j → j ≤ t.n → r.clock ≤ at t.release j
  pub emptied : Emptied t o r.clock (commit_of r t o).run
