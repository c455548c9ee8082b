-- Row i's entry of a column, after row i's entry was stored; and what the code tests of a lent table's row at an index, as the figures of that row.
use Rattle.std.specs.Prelude.{ℕ, ◌≤◌, ◌-◌, max, Bool, ◌&&◌, List, ◌≡◌, eqb, leb, length, get_or, drop}
use Rattle.std.proofs.Common.{arith, get_or-set_same, get_or-set_other, drop-set-lt}
use Rattle.rules.specs.declared.Table.{Table}
use Rattle.rules.specs.Need.{need}
use Rattle.rules.specs.Rows.{at, put}
use Rattle.columns.specs.Figures.{over, sound_at, row_sound_at}

pub put_same : (xs : List ℕ) (i v : ℕ) → 1 ≤ i → i ≤ length xs → at (put xs i v) i ≡ v
put_same xs i v l h = get_or-set_same xs (i - 1) v 0 (omega arith)

pub put_other : (xs : List ℕ) (i j v : ℕ) → 1 ≤ i → 1 ≤ j → (j ≡ i → ⊥) → at (put xs i v) j ≡ at xs j
put_other xs i j v l m h = get_or-set_other xs (i - 1) (j - 1) v 0 (λ q. h (omega arith))

pub put_after : (xs : List ℕ) (n i v : ℕ) → 1 ≤ i → i ≤ n → drop n (put xs i v) ≡ drop n xs
put_after xs n i v l h = drop-set-lt n xs (i - 1) v (omega arith)

-- G is from 1 to N and N at most 1,000 work units per slot (rule 5.2), so that a product of slots and a speed fits
abbrev pub SpeedsFit : Table → Type 0
SpeedsFit t = (1 ≤ t.degraded) × (t.degraded ≤ t.normal) × (t.normal ≤ 1000)

-- the row at index k has used up its allowance if it is LO (rule 1.9), is over (rules 2.6, 2.7), is closed by this clock if it is open (rule 19.2)
abbrev pub spent_in : Table → ℕ → ℕ → Bool
spent_in t k used = leb (max (need t.loading (get_or t.work k 0) t.normal) (need t.loading (get_or t.promised k 0) t.degraded)) used

abbrev pub over_in : Table → ℕ → ℕ → ℕ → Bool
over_in t k got used = over (get_or t.work k 0) (get_or t.level k 0) (get_or t.promised k 0) t.normal t.degraded t.loading got used

abbrev pub due_in : Table → ℕ → ℕ → Bool
due_in t k clock = eqb (get_or t.level k 0) 0 && leb (get_or t.deadline k 0) clock

-- its figures are sound at this clock (rules 8.6, 8.7)
abbrev pub sound_in : Table → ℕ → ℕ → ℕ → ℕ → ℕ → Bool
sound_in t k clock got used closing =
    sound_at (get_or t.work k 0) (get_or t.deadline k 0) (get_or t.level k 0) (get_or t.promised k 0) t.normal t.degraded t.loading clock got used closing

-- and the same of row i, with its figures in the columns of a record
abbrev pub sound_row_in : Table → ℕ → List ℕ → List ℕ → List ℕ → ℕ → Bool
sound_row_in t clock got used closing i =
    row_sound_at t.normal t.degraded t.loading clock t.work t.deadline t.level t.promised got used closing i
