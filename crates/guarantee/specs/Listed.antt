-- Lists of run calls alone, without a commit: what the claim says of them, from the statement of the claim and without its proof. The sheet in hand stays the
-- one that the list began with (rule 9.10).
use Rattle.std.specs.Prelude.{ℕ, true, not, ◌≡◌, eqb}
use mathlib.Core.List.{List}
use Rattle.rules.specs.declared.Table.{Table}
use Rattle.rules.specs.Calls.{Call, AllTold, tell_all, supply_from}
use Rattle.rules.specs.Lists.{all}
use Rattle.rules.specs.Slots.{start_at}
use Rattle.guarantee.specs.Playing.{AllMade}
use Rattle.guarantee.specs.Claim.{HandRight}

-- the run on paper from clock k on (rules 9.6, 22.7)
abbrev pub run_paper : Table → List ℕ → ℕ → List Call → AllTold
run_paper t o k cs = tell_all t o cs (start_at k)

-- What a list of run calls made, from the record of table t and order o at clock k with every row open and empty: the answers on paper, none of them 9, and
-- a record of the same table and order, of which `HandRight` holds.
pub record ListRight (t : Table) (o : List ℕ) (k : ℕ) (cs : List Call) (made : AllMade) : Type 0 where
  pub said : made.said ≡ (run_paper t o k cs).said
  pub no_nine : all (λ s. not (eqb s.number 9)) made.said ≡ true
  pub hand : HandRight t o (run_paper t o k cs).state (supply_from k cs) made.run
