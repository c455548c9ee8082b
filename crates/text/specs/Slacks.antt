-- A correct order has a row of the table at each of its first n places, and no row's slack is below zero.
use Rattle.std.specs.Prelude.{ℕ, ◌-◌, ◌≤◌, true, ◌≡◌, List, [], ◌∷◌, map}
use Rattle.std.proofs.Common.{sym, ap, ◌∙◌, arith, leb-true}
use Rattle.rules.specs.declared.Table.{Table}
use Rattle.rules.specs.Plans.{Ordered}
use Rattle.rules.specs.declared.Planning.{Planning}
use Rattle.rules.specs.Rows.{at, rows_of, deadline_of}
use Rattle.rules.specs.Tables.{Accepted}
use Rattle.rules.specs.Orders.{is_order}
use Rattle.rules.specs.Correct.{Correct}
use Rattle.rules.specs.Worst.{meets}
use Rattle.rules.specs.Choice.{padded}
use Rattle.rules.specs.Numbers.{planned_number}
use Rattle.texts.specs.Fields.{line}
use Rattle.texts.specs.Program.{place_line}
use Rattle.theory.specs.Facts.{Row, facts}
use Rattle.theory.specs.Places as Places
use Rattle.theory.proofs.Promised.{meets_is, natural, all_meet}
use Rattle.theory.specs.Promised.{latest}
use Rattle.sweep.specs.Padded.{padded_at}
use Rattle.planner.specs.Promise.{Promise}

-- an accepted table and a correct order of it
pub record Right (t : Table) (o : List ℕ) : Type 0 where
  pub accepted : Accepted t
  pub order : is_order t o ≡ true
  pub correct : Correct t o

-- the same with the clock that each row's slack counts from, in slots
pub record Timed (t : Table) (o clocks : List ℕ) : Type 0 where
  pub right : Right t o
  pub counted : clocks ≡ padded (map (latest t o) (rows_of t))

-- at most 64 rows
pub few : (t : Table) (o : List ℕ) → Right t o → t.n ≤ 64
few t o r = (facts t r.accepted).few

-- a planning of number 0
pub ordered_right : (t : Table) (r : Planning) → Accepted t → Promise t r → r.answer ≡ Ordered → Right t r.order
unfolding planned_number
ordered_right t r a p e =
    let q = p.right (ap planned_number e) in
    record { accepted = a; order = q.0; correct = q.1 }

module _ (t : Table) (o clocks : List ℕ) (timed : Timed t o clocks) where
  -- the row at a place
  pub place_row : (k : ℕ) → 1 ≤ k → k ≤ t.n → Row t (at o k)
  place_row k a b = Places.place_row t o timed.right.order k a b

  met : (i : ℕ) → Row t i → meets t o i ≡ true
  met i r = all_meet t (facts t timed.right.accepted) o timed.right.order timed.right.correct i r

  clock_is : (i : ℕ) → Row t i → at clocks i ≡ latest t o i
  clock_is i r = rw timed.counted (padded_at (latest t o) t.n i r.from r.up_to (few t o timed.right))

  pub in_time_lem : (i : ℕ) → Row t i → at clocks i ≤ deadline_of t i
  in_time_lem i r = omega (arith, clock_is i r, leb-true (latest t o i) (deadline_of t i) (sym (meets_is t o i) ∙ met i r))

  -- the line of a place, from its row's deadline and the clock that its slack counts from
  pub place_line_lem : (k due clock : ℕ) → 1 ≤ k → k ≤ t.n → due ≡ deadline_of t (at o k) → clock ≡ at clocks (at o k)
      → line (k ∷ at o k ∷ (due - clock) ∷ []) ≡ place_line t o k
  unfolding place_line
  place_line_lem k due clock a b d f =
      let r = place_row k a b in
      let e : clock ≡ latest t o (at o k) = f ∙ clock_is (at o k) r in
      let n = natural t o (at o k) (met (at o k) r) in
      rw (d, e, n)
