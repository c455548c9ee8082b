-- What a planning works out once.
use Rattle.std.specs.Prelude.{ℕ, ◌≡◌, List, map, eqb, length, take}
use Rattle.std.proofs.Common.{sym, ap, ◌∙◌, arith}
use Rattle.rules.specs.declared.Table.{Table}
use Rattle.rules.specs.Lists.{count, keep}
use Rattle.rules.specs.Rows.{at, rows_of}
use Rattle.rules.specs.Tables.{Accepted}
use Rattle.rules.specs.Choice.{sequence, padded}
use Rattle.theory.specs.Counts.{Once, Same, same_size}
use Rattle.theory.specs.Sorting.{sort_by}
use Rattle.theory.specs.Caps.{cap}
use Rattle.theory.specs.Facts.{rows_in_lem, TableFacts, facts, count_zero}
use Rattle.theory.specs.Places.{rows_once, length_rows}
use Rattle.theory.proofs.Choosing.{same_sequence}
use Rattle.sweep.specs.Masks.{is_left}
use Rattle.sweep.specs.Padded.{padded_take, padded_at}
use Rattle.sweep.specs.Finds.{by_release}
use Rattle.sweep.specs.CapColumn.{part_needs}
use Rattle.periods.specs.Marks.{marks}
use Rattle.periods.specs.Entries.{entries_to}
use Rattle.trials.specs.declared.Trials.{Trials}
use Rattle.trials.specs.Keys.{trial_key, sort_eq}
use Rattle.trials.specs.Sequence.{sequence_sort}

-- the caps, in slots, at supplies of at least s work units per slot
abbrev pub caps_at : Table → ℕ → List ℕ
caps_at t s = padded (map (cap t s) (rows_of t))

-- the entries of the trial sequence whose rows are of this level, as a word
abbrev pub at_level : Table → ℕ → ℕ
at_level t level = marks (λ i. eqb (at t.level i) level) (sequence t)

-- the rows of a word, in their trial sequence
abbrev pub left_of : Table → ℕ → List ℕ
left_of t m = keep (is_left m) (sequence t)

-- what all trials of a table share
unfoldable pub trials_of : Table → Trials
trials_of t =
    record {
      queue = padded (by_release t);
      sequence = padded (sequence t);
      entry = entries_to (padded (sequence t)) t.n;
      low = at_level t 0;
      high = at_level t 1;
      normal = caps_at t t.normal;
      degraded = caps_at t t.degraded;
      part = part_needs t;
    }

-- the trial sequence has each row of the table once, and no other number

pub sequence_once : (t : Table) → Once (sequence t)
sequence_once t x = omega (arith, same_sequence t x, rows_once t.n x)

pub sequence_zero : (t : Table) → count 0 (sequence t) ≡ 0
sequence_zero t = omega (arith, same_sequence t 0, count_zero t.n)

-- the rows of a table in any order, as sixty-four numbers

module _ (t : Table) (f : TableFacts t) (l : List ℕ) (s : Same l (rows_of t)) where
  pub every_length : length l ≡ t.n
  every_length = same_size l (rows_of t) s ∙ length_rows t.n

  pub every_take : take t.n (padded l) ≡ l
  every_take =
      let e = every_length in
      ap (λ (k : ℕ). take k (padded l)) (sym e) ∙ padded_take l (omega (arith, f.few))

module _ (t : Table) (accepted : Accepted t) where
  f : TableFacts t
  f = facts t accepted

  -- the sort by a column of trial keys is the trial sequence
  sequence_column : (keys : List ℕ) → keys ≡ padded (map (trial_key t) (rows_of t)) → sort_by (λ i. at keys i) (rows_of t) ≡ sequence t
  sequence_column keys e =
      sort_eq (λ i. at keys i) (trial_key t) (rows_of t)
      (λ x i. let r = rows_in_lem t x i in rw e (padded_at (trial_key t) t.n x r.from r.up_to f.few))
      ∙ sequence_sort t f

  pub prepared : (queue keys tried entry normal degraded part : List ℕ) (low high : ℕ) → queue ≡ padded (sort_by (λ i. at t.release i) (rows_of t))
      → keys ≡ padded (map (trial_key t) (rows_of t))
      → tried ≡ padded (sort_by (λ i. at keys i) (rows_of t)) → entry ≡ entries_to tried t.n → low ≡ marks (λ i. eqb (at t.level i) 0) (take t.n tried)
      → high ≡ marks (λ i. eqb (at t.level i) 1) (take t.n tried)
      → normal ≡ caps_at t t.normal → degraded ≡ caps_at t t.degraded → part ≡ part_needs t
      → ◌≡◌ {A = Trials} (record { queue = queue; sequence = tried; entry = entry; low = low; high = high; normal = normal; degraded = degraded; part = part }) (trials_of t)
  unfolding trials_of
  prepared queue keys tried entry normal degraded part low high q k s x l h n d p =
      rw (q, x, l, h, s, n, d, p, sequence_column keys k, every_take t f (sequence t) (same_sequence t))
