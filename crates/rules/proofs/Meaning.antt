-- What a correct order is (rules 3.1 to 3.4, 3.8), said once more in plain terms and proved to be the same: nothing of it can be left out of the
-- definition unseen. The runs here are by the planning rule; an order that keeps as much in runs by the running rule serves in runs
-- (`RunServes` in Running, rule 19.5), and that says less.
use Rattle.std.specs.Prelude.{ℕ, ◌≤◌, ◌≡◌, refl, Bool, true, false, ◌&&◌, List, ◌↔◌, ltb, leb}
use Rattle.std.proofs.Common.{sym, ◌∙◌, true≢false, lt-ltb, le-leb, ltb-true, leb-true, ne_eqb, eq-eqb, eqb-true}
use Rattle.rules.specs.declared.Table.{Table}
use Rattle.rules.specs.Correct.{Correct, CorrectOrder}
use Rattle.rules.specs.Orders.{is_order}
use Rattle.rules.specs.Rows.{at, is_row, is_low, is_high}
use Rattle.rules.specs.Meaning.{Serves}

both : (a b : Bool) → a && b ≡ true → (a ≡ true) × (b ≡ true)
both true b e = (refl, e)
both false b e = absurd (true≢false (sym e))

module _ (t : Table) (i : ℕ) where
  is_row_lem : 1 ≤ i → i ≤ t.n → is_row t i ≡ true
  is_row_lem l h = rw (lt-ltb 0 i l, le-leb i t.n h)

  row_is : is_row t i ≡ true → (1 ≤ i) × (i ≤ t.n)
  row_is e = let f = both (ltb 0 i) (leb i t.n) e in (ltb-true 0 i f.0, leb-true i t.n f.1)

  is_high_lem : (at t.level i ≡ 0 → ⊥) → is_high t i ≡ true
  is_high_lem n = rw (ne_eqb (at t.level i) 0 n)

  high_is : is_high t i ≡ true → at t.level i ≡ 0 → ⊥
  high_is h e = true≢false (sym h ∙ rw (eq-eqb (at t.level i) 0 e))

  is_low_lem : at t.level i ≡ 0 → is_low t i ≡ true
  is_low_lem e = eq-eqb (at t.level i) 0 e

  low_is : is_low t i ≡ true → at t.level i ≡ 0
  low_is e = eqb-true (at t.level i) 0 e

module _ (t : Table) (o : List ℕ) where
  pub correct_serves : Correct t o → Serves t o
  correct_serves c =
      record {
        all_rows = λ σ s i l h. let k = c.normal σ s i (is_row_lem t i l h) in record { got = k.done; from = k.closed; up_to = k.in_time };
        high_rows = λ σ s i l h n. let k = c.degraded σ s i (is_row_lem t i l h) (is_high_lem t i n) in record { got = k.done; from = k.closed; up_to = k.in_time };
        low_rows = λ σ s i l h z. c.promised σ s i (is_row_lem t i l h) (is_low_lem t i z);
      }

  pub serves_correct : Serves t o → Correct t o
  serves_correct c =
      record {
        normal = λ σ s i r. let k = c.all_rows σ s i (row_is t i r).0 (row_is t i r).1 in record { done = k.got; closed = k.from; in_time = k.up_to };
        degraded = λ σ s i r g. let k = c.high_rows σ s i (row_is t i r).0 (row_is t i r).1 (high_is t i g) in record { done = k.got; closed = k.from; in_time = k.up_to };
        promised = λ σ s i r z. c.low_rows σ s i (row_is t i r).0 (row_is t i r).1 (low_is t i z);
      }

-- a table with a correct order has an order that serves, and the other way round (rule 4.10)
pub has_correct : (t : Table) → CorrectOrder t ↔ ((o : List ℕ) × (is_order t o ≡ true) × Serves t o)
has_correct t = (λ c. (c.order, c.passes, correct_serves t c.order c.correct), λ s. record { order = s.0; passes = s.1; correct = serves_correct t s.0 s.2 })
