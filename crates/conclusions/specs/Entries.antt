-- A word of a table or a state, as the entry of the column that holds it.
use Rattle.std.specs.Prelude.{ℕ, ◌+◌, ◌-◌, ◌≤◌, List, ◌≡◌, length, get_or, drop}
use Rattle.std.proofs.Common.{sym, ap, ◌∙◌, arith, length-take, length-drop, get_or-take, get_or-drop}
use Rattle.rules.specs.declared.Table.{Table}
use Rattle.rules.specs.Rows.{at}
use Rattle.record.specs.declared.Run.{Run}
use Rattle.rules.specs.Tables.{FullTable}
use Rattle.words.specs.Words.{column_at, table_in, run_in}

-- row i's entry of a column is the word that stands i - 1 places into it
pub entry : (words : List ℕ) (from i : ℕ) → 1 ≤ i → i ≤ 64 → at (column_at from words) i ≡ get_or words (from + (i - 1)) 0
entry words from i l h = get_or-take 64 (drop from words) (i - 1) 0 (omega arith) ∙ get_or-drop from words (i - 1) 0

-- 388 words hold a table with full columns
pub column_full : (words : List ℕ) (from : ℕ) → from + 64 ≤ length words → length (column_at from words) ≡ 64
column_full words from h = omega (arith, length-take 64 (drop from words), length-drop from words)

pub full_table : (table : List ℕ) → length table ≡ 388 → FullTable (table_in table)
unfolding table_in
full_table table e =
    record {
      release = column_full table 4 (omega arith);
      work = column_full table 68 (omega arith);
      deadline = column_full table 132 (omega arith);
      level = column_full table 196 (omega arith);
      promised = column_full table 260 (omega arith);
      follows = column_full table 324 (omega arith);
    }

-- the words of a table, row by row
pub record TableWords (words : List ℕ) (t : Table) (i : ℕ) : Type 0 where
  pub release : get_or words (3 + i) 0 ≡ at t.release i
  pub work : get_or words (67 + i) 0 ≡ at t.work i
  pub deadline : get_or words (131 + i) 0 ≡ at t.deadline i
  pub level : get_or words (195 + i) 0 ≡ at t.level i
  pub promised : get_or words (259 + i) 0 ≡ at t.promised i
  pub follows : get_or words (323 + i) 0 ≡ at t.follows i

-- the word at a place, where the place is written in two ways
same_word : (words : List ℕ) (p q v : ℕ) → p ≡ q → v ≡ get_or words q 0 → get_or words p 0 ≡ v
same_word words p q v e h = ap (λ (k : ℕ). get_or words k 0) e ∙ sym h

pub table_words : (words : List ℕ) (i : ℕ) → 1 ≤ i → i ≤ 64 → TableWords words (table_in words) i
unfolding table_in
table_words words i l h =
    record {
      release = same_word words (3 + i) (4 + (i - 1)) _ (omega arith) (entry words 4 i l h);
      work = same_word words (67 + i) (68 + (i - 1)) _ (omega arith) (entry words 68 i l h);
      deadline = same_word words (131 + i) (132 + (i - 1)) _ (omega arith) (entry words 132 i l h);
      level = same_word words (195 + i) (196 + (i - 1)) _ (omega arith) (entry words 196 i l h);
      promised = same_word words (259 + i) (260 + (i - 1)) _ (omega arith) (entry words 260 i l h);
      follows = same_word words (323 + i) (324 + (i - 1)) _ (omega arith) (entry words 324 i l h);
    }

-- the words of a state, row by row
pub record StateWords (words : List ℕ) (r : Run) (i : ℕ) : Type 0 where
  pub got : get_or words i 0 ≡ at r.got i
  pub used : get_or words (64 + i) 0 ≡ at r.used i
  pub closing : get_or words (128 + i) 0 ≡ at r.closing i

pub state_words_lem : (table order words : List ℕ) (i : ℕ) → 1 ≤ i → i ≤ 64 → StateWords words (run_in table order words) i
unfolding run_in
state_words_lem table order words i l h =
    record {
      got = same_word words i (1 + (i - 1)) _ (omega arith) (entry words 1 i l h);
      used = same_word words (64 + i) (65 + (i - 1)) _ (omega arith) (entry words 65 i l h);
      closing = same_word words (128 + i) (129 + (i - 1)) _ (omega arith) (entry words 129 i l h);
    }
