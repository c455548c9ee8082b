-- The turns of two loops that copy a column entry by entry, and what six or three columns written one after another make.
use Rattle.std.specs.Prelude.{ℕ, ◌+◌, ◌≤◌, ◌<◌, List, [], ◌∷◌, ◌++◌, ◌≡◌, length, get_or, take, drop, set}
use Rattle.std.proofs.Common.{append_assoc, sym, ap, ◌∙◌, add-one, arith, length-drop, take_all, take-suc, take-suc-set, get_or-drop}
use Rattle.std.proofs.Math.Seq.{paste, paste-suc}
use Rattle.std.proofs.lemmas.List.Edits.{take-paste, length-paste}
use Rattle.rules.specs.declared.Table.{Table}
use Rattle.record.specs.declared.Run.{Run}
use Rattle.words.specs.Words.{release_from, work_from, deadline_from, level_from, promised_from, follows_from, got_from, used_from, closing_from, words_of, state_words}

-- one entry more is copied out of the words
pub column_turn : (words out : List ℕ) (from i : ℕ) → i < length out → from + i < length words → take i out ≡ take i (drop from words)
    → take (i + 1) (set out i (get_or words (from + i) 0)) ≡ take (i + 1) (drop from words)
column_turn words out from i h k e =
    let m : i < length (drop from words) = simp length-drop (omega arith) in
    rw (add-one, take-suc-set out i (get_or words (from + i) 0), take-suc (drop from words) i 0, get_or-drop, e)

-- all sixty-four are
pub column_done : (out l : List ℕ) → length out ≡ 64 → take 64 out ≡ l → out ≡ l
column_done out l h e = sym (take_all 64 out (omega arith)) ∙ e

-- one entry more of a column is written
pub put_turn : (old words column : List ℕ) (from i : ℕ) → words ≡ paste old from column i → from + i < length old → i < length column
    → set words (from + i) (get_or column i 0) ≡ paste old from column (i + 1)
put_turn old words column from i e h k = rw (e, add-one) (paste-suc old from column i 0 h k)

-- the words up to the end of a column that was just written
module _ (words after column : List ℕ) (from : ℕ) (h : from + 64 ≤ length words) (k : length column ≡ 64) (e : after ≡ paste words from column 64) where
  put_front : take (from + 64) after ≡ take from words ++ column
  put_front = rw e (take-paste words from column 64 (omega arith) (omega arith) ∙ ap (λ (l : List ℕ). take from words ++ l) (take_all 64 column (omega arith)))

  put_length : length after ≡ length words
  put_length = rw e (length-paste words from column 64 h (omega arith))

-- the words of a table, written column by column over words that begin with its four numbers
pub table_written : (t : Table) (w a b d f g h : List ℕ)
    → length w ≡ 388
    → take release_from w ≡ t.n ∷ t.normal ∷ t.degraded ∷ t.loading ∷ []
    → length t.release ≡ 64
    → length t.work ≡ 64
    → length t.deadline ≡ 64
    → length t.level ≡ 64
    → length t.promised ≡ 64
    → length t.follows ≡ 64
    → a ≡ paste w release_from t.release 64
    → b ≡ paste a work_from t.work 64
    → d ≡ paste b deadline_from t.deadline 64
    → f ≡ paste d level_from t.level 64
    → g ≡ paste f promised_from t.promised 64
    → h ≡ paste g follows_from t.follows 64
    → h ≡ words_of t
unfolding words_of
table_written t w a b d f g h lw head k₁ k₂ k₃ k₄ k₅ k₆ p q r s x y =
    let la = put_length w a t.release release_from (omega arith) k₁ p in
    let lb = put_length a b t.work work_from (omega arith) k₂ q in
    let ld = put_length b d t.deadline deadline_from (omega arith) k₃ r in
    let lf = put_length d f t.level level_from (omega arith) k₄ s in
    let lg = put_length f g t.promised promised_from (omega arith) k₅ x in
    let lh = put_length g h t.follows follows_from (omega arith) k₆ y in
    let fa : take work_from a ≡ take release_from w ++ t.release = put_front w a t.release release_from (omega arith) k₁ p in
    let fb : take deadline_from b ≡ take work_from a ++ t.work = put_front a b t.work work_from (omega arith) k₂ q in
    let fd : take level_from d ≡ take deadline_from b ++ t.deadline = put_front b d t.deadline deadline_from (omega arith) k₃ r in
    let ff : take promised_from f ≡ take level_from d ++ t.level = put_front d f t.level level_from (omega arith) k₄ s in
    let fg : take follows_from g ≡ take promised_from f ++ t.promised = put_front f g t.promised promised_from (omega arith) k₅ x in
    let fh : take 388 h ≡ take follows_from g ++ t.follows = put_front g h t.follows follows_from (omega arith) k₆ y in
    let whole : h ≡ (((((t.n ∷ t.normal ∷ t.degraded ∷ t.loading ∷ []) ++ t.release) ++ t.work) ++ t.deadline) ++ t.level) ++ t.promised ++ t.follows =
    sym (take_all 388 h (omega arith)) ∙ cc in
    whole ∙ simp append_assoc

-- the words of a state, written column by column over words that begin with its clock
pub state_written : (r : Run) (w a b d : List ℕ)
    → length w ≡ 193
    → take got_from w ≡ r.clock ∷ []
    → length r.got ≡ 64
    → length r.used ≡ 64
    → length r.closing ≡ 64
    → a ≡ paste w got_from r.got 64
    → b ≡ paste a used_from r.used 64
    → d ≡ paste b closing_from r.closing 64
    → d ≡ state_words r
unfolding state_words
state_written r w a b d lw head k₁ k₂ k₃ p q s =
    let la = put_length w a r.got got_from (omega arith) k₁ p in
    let lb = put_length a b r.used used_from (omega arith) k₂ q in
    let ld = put_length b d r.closing closing_from (omega arith) k₃ s in
    let fa : take used_from a ≡ take got_from w ++ r.got = put_front w a r.got got_from (omega arith) k₁ p in
    let fb : take closing_from b ≡ take used_from a ++ r.used = put_front a b r.used used_from (omega arith) k₂ q in
    let fd : take 193 d ≡ take closing_from b ++ r.closing = put_front b d r.closing closing_from (omega arith) k₃ s in
    let whole : d ≡ ((r.clock ∷ []) ++ r.got) ++ r.used ++ r.closing = sym (take_all 193 d (omega arith)) ∙ cc in
    whole ∙ simp append_assoc
