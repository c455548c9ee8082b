-- The words and the values that they hold are the same thing twice: from words to a value and back, and from a value to words and back.
use Rattle.std.specs.Prelude.{ℕ, ◌+◌, List, [], ◌∷◌, ◌++◌, ◌≡◌, length, drop}
use Rattle.std.proofs.Common.{sym, ap, ◌∙◌, arith, length-drop, take-append-drop, take_all, take_at, drop_at, drop-drop}
use Rattle.rules.specs.declared.Table.{Table}
use Rattle.rules.specs.Tables.{FullTable}
use Rattle.record.specs.declared.Run.{Run}
use Rattle.words.specs.Words.{column_at, table_in, words_of, run_in, state_words}

-- ---- columns that stand one after another

-- a column, and what stands after it
next_column : (from : ℕ) (l : List ℕ) → column_at from l ++ drop (from + 64) l ≡ drop from l
next_column from l = rw (← drop-drop 64 from l) (take-append-drop 64 (drop from l))

-- a column after which nothing stands
last_column : (from : ℕ) (l : List ℕ) → length l ≡ from + 64 → column_at from l ≡ drop from l
last_column from l e = take_all 64 (drop from l) (simp length-drop (omega arith))

three_columns : (l : List ℕ) → length l ≡ 192 → column_at 0 l ++ (column_at 64 l ++ column_at 128 l) ≡ l
three_columns l e = rw (last_column 128 l e, next_column 64 l, next_column 0 l)

six_columns : (l : List ℕ) → length l ≡ 384
    → column_at 0 l ++ (column_at 64 l ++ (column_at 128 l ++ (column_at 192 l ++ (column_at 256 l ++ column_at 320 l)))) ≡ l
six_columns l e = rw (last_column 320 l e, next_column 256 l, next_column 192 l, next_column 128 l, next_column 64 l, next_column 0 l)

drop_two : (a b y : List ℕ) → length a ≡ 64 → length b ≡ 64 → drop 128 (a ++ (b ++ y)) ≡ y
drop_two a b y p q = sym (drop-drop 64 64 (a ++ (b ++ y))) ∙ ap (drop 64) (drop_at a (b ++ y) 64 p) ∙ drop_at b y 64 q

drop_three : (a b d y : List ℕ) → length a ≡ 64 → length b ≡ 64 → length d ≡ 64 → drop 192 (a ++ (b ++ (d ++ y))) ≡ y
drop_three a b d y p q r = sym (drop-drop 64 128 (a ++ (b ++ (d ++ y)))) ∙ ap (drop 64) (drop_two a b (d ++ y) p q) ∙ drop_at d y 64 r

drop_four : (a b d l y : List ℕ) → length a ≡ 64 → length b ≡ 64 → length d ≡ 64 → length l ≡ 64 → drop 256 (a ++ (b ++ (d ++ (l ++ y)))) ≡ y
drop_four a b d l y p q r s =
    sym (drop-drop 64 192 (a ++ (b ++ (d ++ (l ++ y))))) ∙ ap (drop 64) (drop_three a b d (l ++ y) p q r) ∙ drop_at l y 64 s

drop_five : (a b d l g y : List ℕ) → length a ≡ 64 → length b ≡ 64 → length d ≡ 64 → length l ≡ 64 → length g ≡ 64
    → drop 320 (a ++ (b ++ (d ++ (l ++ (g ++ y))))) ≡ y
drop_five a b d l g y p q r s x =
    sym (drop-drop 64 256 (a ++ (b ++ (d ++ (l ++ (g ++ y)))))) ∙ ap (drop 64) (drop_four a b d l (g ++ y) p q r s) ∙ drop_at g y 64 x

-- ---- tables

-- 388 words are the words of the table that they hold
pub words_of_table_in : (words : List ℕ) → length words ≡ 388 → words_of (table_in words) ≡ words
unfolding words_of table_in
words_of_table_in [] e = absurd (omega arith)
words_of_table_in (n ∷ []) e = absurd (omega arith)
words_of_table_in (n ∷ normal ∷ []) e = absurd (omega arith)
words_of_table_in (n ∷ normal ∷ degraded ∷ []) e = absurd (omega arith)
words_of_table_in (n ∷ normal ∷ degraded ∷ loading ∷ l) e = ap (λ (k : List ℕ). n ∷ normal ∷ degraded ∷ loading ∷ k) (six_columns l (omega arith))

-- a table is the one that its words hold
pub table_in_words_of : (t : Table) → FullTable t → table_in (words_of t) ≡ t
unfolding words_of table_in
table_in_words_of t f =
    let a = t.release in
    let b = t.work in
    let d = t.deadline in
    let l = t.level in
    let p = t.promised in
    let w = t.follows in
    rw (
      take_at a (b ++ (d ++ (l ++ (p ++ w)))) 64 f.release,
      drop_at a (b ++ (d ++ (l ++ (p ++ w)))) 64 f.release,
      take_at b (d ++ (l ++ (p ++ w))) 64 f.work,
      drop_two a b (d ++ (l ++ (p ++ w))) f.release f.work,
      take_at d (l ++ (p ++ w)) 64 f.deadline,
      drop_three a b d (l ++ (p ++ w)) f.release f.work f.deadline,
      take_at l (p ++ w) 64 f.level,
      drop_four a b d l (p ++ w) f.release f.work f.deadline f.level,
      take_at p w 64 f.promised,
      drop_five a b d l p w f.release f.work f.deadline f.level f.promised,
      take_all 64 w (omega (arith, f.follows)),
    )

-- ---- states

-- 193 words are the words of the state that they hold
pub state_words_of_run_in : (table order state : List ℕ) → length state ≡ 193 → state_words (run_in table order state) ≡ state
unfolding state_words run_in
state_words_of_run_in table order [] e = absurd (omega arith)
state_words_of_run_in table order (clock ∷ l) e = ap (λ (k : List ℕ). clock ∷ k) (three_columns l (omega arith))

pub record FullRun (r : Run) : Type 0 where
  pub table : FullTable r.table
  pub got : length r.got ≡ 64
  pub used : length r.used ≡ 64
  pub closing : length r.closing ≡ 64

-- a record with full columns is the one that its words hold
pub run_in_words : (r : Run) → FullRun r → run_in (words_of r.table) r.order (state_words r) ≡ r
unfolding state_words run_in
run_in_words r f =
    let a = r.got in
    let b = r.used in
    let d = r.closing in
    rw (
      table_in_words_of r.table f.table,
      take_at a (b ++ d) 64 f.got,
      drop_at a (b ++ d) 64 f.got,
      take_at b d 64 f.used,
      drop_two a b d f.got f.used,
      take_all 64 d (omega (arith, f.closing)),
    )
