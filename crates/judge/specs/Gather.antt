-- Lent rows put into a table one by one, and that the judge answers for it as for the rows.
use Rattle.std.specs.Prelude.{ℕ, ◌+◌, ◌≤◌, ◌<◌, cond, ◌≡◌, ltb, length, drop, get_or, replicate}
use Rattle.std.proofs.Math.Path.{refl, sym, ap}
use Rattle.std.proofs.Common.{◌∙◌, add-one, arith, lt-ltb, le-ltb, le-leb, drop_of_length-le, drop-cons}
use mathlib.Core.List.{List, [], ◌∷◌, ◌++◌, map, append-nil}
use Rattle.std.proofs.lemmas.Bool.{lt-leb}
use Rattle.std.proofs.Math.ListN.{set, length-append, length-map}
use Rattle.std.proofs.Math.Seq.{append_snoc}
use Rattle.rules.specs.declared.Row.{Row}
use Rattle.rules.specs.declared.Table.{Table}
use Rattle.rules.specs.declared.Refusal.TheVariants.{RowCount}
use Rattle.rules.specs.Verdicts.{Judgement}
use Rattle.rules.specs.Checks.{Refused}
use Rattle.rules.specs.Tables.{check_table}
use Rattle.rules.specs.Orders.{check_both}
use Rattle.rules.specs.Judge.{column, table_of, judge_of}
use Rattle.rules.specs.Choice.{padded}
use Rattle.theory.specs.Tests.{by-ltb}
use Rattle.sweep.specs.Padded.{padded_more}
use Rattle.judge.specs.Promise.{Judged, judge_refused, promised}

-- a table of no rows; speeds in work units per slot, loading in slots
unfoldable pub no_rows : ℕ → ℕ → ℕ → Table
no_rows normal degraded loading =
    record {
      n = 0;
      normal = normal;
      degraded = degraded;
      loading = loading;
      release = replicate 64 0;
      work = replicate 64 0;
      deadline = replicate 64 0;
      level = replicate 64 0;
      promised = replicate 64 0;
      follows = replicate 64 0;
    }

-- the table with one row more; the figures of a row after the sixty-fourth are left out, and n stays at 65
unfoldable pub with_row : Table → Row → Table
with_row t r =
    cond (ltb t.n 64)
    (record {
      n = t.n + 1;
      normal = t.normal;
      degraded = t.degraded;
      loading = t.loading;
      release = set t.release t.n r.release;
      work = set t.work t.n r.work;
      deadline = set t.deadline t.n r.deadline;
      level = set t.level t.n r.level;
      promised = set t.promised t.n r.promised;
      follows = set t.follows t.n r.follows;
    })
    (record {
      n = 65;
      normal = t.normal;
      degraded = t.degraded;
      loading = t.loading;
      release = t.release;
      work = t.work;
      deadline = t.deadline;
      level = t.level;
      promised = t.promised;
      follows = t.follows;
    })

unfoldable pub gathered : Table → List Row → Table
gathered t [] = t
gathered t (r ∷ rs) = gathered (with_row t r) rs

-- one row further, and the end, as a loop over the rows takes them
module _ (rs : List Row) (i : ℕ) (t whole : Table) (e : gathered t (drop i rs) ≡ whole) where
  pub gather_more : (d : Row) (r : Table) → i < length rs → r ≡ with_row t (get_or rs i d) → gathered r (drop (i + 1) rs) ≡ whole
  unfolding gathered
  gather_more d r h p = rw (add-one, p) (sym (ap (gathered t) (drop-cons rs i d h)) ∙ e)

  pub gather_end : length rs ≤ i → t ≡ whole
  unfolding gathered
  gather_end h = sym (ap (gathered t) (drop_of_length-le rs h)) ∙ e

-- up to sixty-four rows

module _ (f : Row → ℕ) where
  map_snoc : (rs : List Row) (r : Row) → map f (rs ++ (r ∷ [])) ≡ map f rs ++ (f r ∷ [])
  map_snoc [] r = refl
  map_snoc (x ∷ rs) r = ap (λ (l : List ℕ). f x ∷ l) (map_snoc rs r)

  column_put : (rs : List Row) (r : Row) → length rs < 64 → set (column f rs) (length rs) (f r) ≡ column f (rs ++ (r ∷ []))
  unfolding padded
  column_put rs r h =
      let e = length-map rs f in
      ap (λ (k : ℕ). set (padded (map f rs)) k (f r)) (sym e) ∙ padded_more (map f rs) (f r) (omega arith) ∙ ap padded (sym (map_snoc rs r))

module _ (normal degraded loading : ℕ) where
  put_one : (rs : List Row) (r : Row) → length rs < 64 → with_row (table_of rs normal degraded loading) r ≡ table_of (rs ++ (r ∷ [])) normal degraded loading
  unfolding with_row table_of
  put_one rs r h =
      rw (lt-ltb (length rs) 64 h) (λ i. record {
        n = sym (length-append rs (r ∷ [])) i;
        normal = normal;
        degraded = degraded;
        loading = loading;
        release = column_put (λ r. r.release) rs r h i;
        work = column_put (λ r. r.work) rs r h i;
        deadline = column_put (λ r. r.deadline) rs r h i;
        level = column_put (λ r. r.level) rs r h i;
        promised = column_put (λ r. r.promised) rs r h i;
        follows = column_put (λ r. r.follows) rs r h i;
      })

  gathered_from : (rs ss : List Row) → length rs + length ss ≤ 64 → gathered (table_of rs normal degraded loading) ss ≡ table_of (rs ++ ss) normal degraded loading
  unfolding gathered
  gathered_from rs [] h = ap (λ (l : List Row). table_of l normal degraded loading) (sym (append-nil rs))
  gathered_from rs (s ∷ ss) h =
      ap (λ (t : Table). gathered t ss) (put_one rs s (omega arith))
      ∙ gathered_from (rs ++ (s ∷ [])) ss (rw length-append (omega arith))
      ∙ ap (λ (l : List Row). table_of l normal degraded loading) (append_snoc rs s ss)

  no_rows_lem : no_rows normal degraded loading ≡ table_of [] normal degraded loading
  unfolding no_rows table_of
  no_rows_lem = refl

-- more than sixty-four

past : (t : Table) (r : Row) → 64 ≤ t.n → (with_row t r).n ≡ 65
unfolding with_row
past t r h = rw (le-ltb t.n 64 h)

within : (t : Table) (r : Row) → t.n < 64 → (with_row t r).n ≡ t.n + 1
unfolding with_row
within t r h = rw (lt-ltb t.n 64 h)

stays_past : (ss : List Row) (t : Table) → 64 < t.n → 64 < (gathered t ss).n
unfolding gathered
stays_past [] t h = h
stays_past (s ∷ ss) t h = stays_past ss (with_row t s) (omega (arith, past t s (omega arith)))

too_many : (ss : List Row) (t : Table) → t.n ≤ 64 → 64 < t.n + length ss → 64 < (gathered t ss).n
unfolding gathered
too_many [] t h k = absurd (omega arith)
too_many (s ∷ ss) t h k =
    by-ltb t.n 64
    (λ _ u. too_many ss (with_row t s) (omega (arith, within t s u)) (omega (arith, within t s u)))
    (λ _ u. stays_past ss (with_row t s) (omega (arith, past t s u)))

count_refused : (t : Table) (o : List ℕ) → 64 < t.n → check_both t o ≡ Refused RowCount
unfolding check_both check_table
count_refused t o h = rw (le-leb 1 t.n (omega arith), lt-leb t.n 64 h)

module _ (rs : List Row) (normal degraded loading : ℕ) (o : List ℕ) where
  abbrev table : Table
  table = gathered (no_rows normal degraded loading) rs

  over : 64 < length rs → 64 < table.n
  unfolding no_rows
  over h = too_many rs (no_rows normal degraded loading) (omega arith) (omega arith)

  over_too : 64 < length rs → 64 < (table_of rs normal degraded loading).n
  unfolding table_of
  over_too h = h

  gathered_judged : judge_of table o ≡ judge_of (table_of rs normal degraded loading) o
  gathered_judged =
      by-ltb 64 (length rs)
      (λ _ h. judge_refused table o RowCount (count_refused table o (over h))
      ∙ sym (judge_refused (table_of rs normal degraded loading) o RowCount (count_refused (table_of rs normal degraded loading) o (over_too h))))
      (λ _ h. ap (λ (t : Table). judge_of t o) (ap (λ (t : Table). gathered t rs) (no_rows_lem normal degraded loading) ∙ gathered_from normal degraded loading [] rs (omega arith)))

  -- what is promised of the table gathered is promised of the rows
  pub rows_judged : (t : Table) (v : Judgement) → t ≡ gathered (no_rows normal degraded loading) rs → Judged t o v → Judged (table_of rs normal degraded loading) o v
  rows_judged t v e j = promised (table_of rs normal degraded loading) o v (j.answer ∙ ap (λ (u : Table). judge_of u o) e ∙ gathered_judged)
