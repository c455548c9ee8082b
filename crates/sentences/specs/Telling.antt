-- The figures of a sentence, in their sequence.
use Rattle.std.specs.Prelude.{ℕ, zero, suc, ◌≤◌, Bool, true, cond, List, [], ◌∷◌, ◌++◌, ◌≡◌, refl, eqb, leb, ℤ, pos, negsuc, nat_abs, length}
use Prim.Native.String.{String}
use Rattle.std.proofs.Common.{append_assoc, append-nil, sym, ap, subst, ◌∙◌, leb-true}
use Rattle.rules.specs.Lists.{all, joined}
use Rattle.texts.specs.Decimals.{decimal}
use Rattle.texts.specs.Quoted.{bytes, together}
use Rattle.theory.specs.Tests.{by_bool, and_left, and_right}
use Rattle.sentences.specs.declared.PlanAnswer.{PlanAnswer}
use Rattle.sentences.specs.declared.JudgeAnswer.{JudgeAnswer}
use Rattle.sentences.specs.Sentences.{meanings, words_at, meaning, judged_meaning, counted, item, listed, enumerated, up_to_last, rows_in, plan_opening, plan_sentence, yes_or_no, minus_of, slack_words, judge_opening, judge_sentence}
use Rattle.sentences.specs.Scanned.{stops, plain, Tells, tells_plain, tells_then, tells_figure}

-- the same text, or the same figures, in another form
tells_text : {t u figures : List ℕ} → t ≡ u → Tells t figures → Tells u figures
tells_text {t} {u} {figures} e = subst (λ (x : List ℕ). Tells x figures) e

tells_figures : {t figures others : List ℕ} → figures ≡ others → Tells t figures → Tells t others
tells_figures {t} e = subst (Tells t) e

-- the last of texts one after the other
tells_last : {t figures : List ℕ} → Tells t figures → Tells (together (t ∷ [])) figures
tells_last {t} {figures} f = tells_text (sym (append-nil t)) f

-- ---- words
-- words that may come after a figure: none of their bytes is a digit, and there is one
pub record AfterFigure (t : List ℕ) : Type 0 where
  pub words : plain t ≡ true
  pub begins : (rest : List ℕ) → stops (t ++ rest) ≡ true

-- they still do with more behind them
begins_then : {t : List ℕ} → AfterFigure t → (u rest : List ℕ) → stops ((t ++ u) ++ rest) ≡ true
begins_then {t} a u rest = ap stops (append_assoc t u rest) ∙ a.begins (u ++ rest)

-- what holds of all texts of a list, and of the words of a number without a meaning, holds of the one at any index
pub words_all : (p : List ℕ → Bool) (ss : List String) (k : ℕ) → all (λ s. p (bytes s)) ss ≡ true → p (bytes "a number without a meaning") ≡ true
    → p (bytes (words_at ss k)) ≡ true
words_all p [] k e d = d
words_all p (s ∷ ss) zero e d = and_left (p (bytes s)) (all (λ r. p (bytes r)) ss) e
words_all p (s ∷ ss) (suc k) e d = words_all p ss k (and_right (p (bytes s)) (all (λ r. p (bytes r)) ss) e) d

meaning_plain : (number : ℕ) → plain (meaning number) ≡ true
unfolding meaning
meaning_plain number = words_all plain meanings number refl refl

-- what holds of the words of 0 and of those of any other number holds of what the judge's number means
pub judged_all : (p : List ℕ → Bool) (number said : ℕ)
    → p (bytes "the order is correct") ≡ true → p (bytes "the order is not correct") ≡ true → p (bytes "an order was judged") ≡ true → p (meaning number) ≡ true
    → p (judged_meaning number said) ≡ true
unfolding judged_meaning
judged_all p number said a b c m =
    by_bool (eqb number 0)
    (λ e. rw e (by_bool (eqb said 1) (λ f. rw f a) (λ f. rw f (by_bool (eqb said 0) (λ g. rw g b) (λ g. rw g c)))))
    (λ e. rw e m)

judged_plain : (number said : ℕ) → plain (judged_meaning number said) ≡ true
judged_plain number said = judged_all plain number said refl refl refl (meaning_plain number)

-- ---- figures with their nouns, and lists
counted_tells : (v : ℕ) (noun : List ℕ) → v ≤ 4294967295 → AfterFigure noun → Tells (counted v noun) (v ∷ [])
unfolding counted
counted_tells v noun h a =
    tells_figure v h (begins_then a _) (tells_then (tells_plain noun a.words) (tells_last (tells_plain (cond (eqb v 1) [] (bytes "s")) suffix)))
  where
    suffix : plain (cond (eqb v 1) [] (bytes "s")) ≡ true
    suffix = by_bool (eqb v 1) (λ e. rw e) (λ e. rw e)

-- numbers that 32 bits hold
abbrev pub Held : List ℕ → Type 0
Held xs = all (λ x. leb x 4294967295) xs ≡ true

-- the numbers of a list after its first, with words behind them
items_stop : (xs : List ℕ) {t : List ℕ} → AfterFigure t → (u rest : List ℕ) → stops ((joined item xs ++ (t ++ u)) ++ rest) ≡ true
items_stop [] a u rest = begins_then a u rest
items_stop (x ∷ xs) a u rest = refl

items_tell : (xs : List ℕ) {t figures : List ℕ} (u : List ℕ) → Held xs → AfterFigure t → Tells (t ++ u) figures → Tells (joined item xs ++ (t ++ u)) (xs ++ figures)
items_tell [] u h a f = f
items_tell (x ∷ xs) {t} u h a f =
    tells_text (sym (append_assoc (item x) (joined item xs) (t ++ u)))
    (tells_then (tells_plain (bytes ", ") refl)
    (tells_figure x (leb-true x 4294967295 (and_left (leb x 4294967295) _ h)) (items_stop xs a u) (items_tell xs u (and_right (leb x 4294967295) _ h) a f)))

listed_tells : (opening xs : List ℕ) → plain opening ≡ true → Held xs → Tells (listed opening xs) xs
listed_tells opening [] e h = tells_plain [] refl
listed_tells opening (x ∷ xs) e h =
    tells_then (tells_plain opening e)
    (tells_figure x (leb-true x 4294967295 (and_left (leb x 4294967295) _ h)) (items_stop xs bracket [])
    (tells_figures (append-nil xs) (items_tell xs [] (and_right (leb x 4294967295) _ h) bracket (tells_plain _ refl))))
  where
    bracket : AfterFigure (bytes ")")
    bracket = record { words = refl; begins = λ rest. refl }

enumerated_tells : (noun tail opening xs : List ℕ) → AfterFigure noun → plain tail ≡ true → plain opening ≡ true → length xs ≤ 4294967295 → Held xs
    → Tells (enumerated noun tail opening xs) (length xs ∷ xs)
unfolding enumerated
enumerated_tells noun tail opening xs a e f l h =
    tells_then (counted_tells (length xs) noun l a) (tells_then (tells_plain tail e) (tells_last (listed_tells opening xs f h)))

-- ---- the planner's sentence
opening_tells : (number : ℕ) → number ≤ 4294967295 → Tells (plan_opening number) (number ∷ [])
unfolding plan_opening
opening_tells number h =
    tells_then (tells_plain (bytes "The planner answers number ") refl)
    (tells_figure number h (λ rest. refl)
    (tells_then (tells_plain (bytes " (") refl) (tells_then (tells_plain (meaning number) (meaning_plain number)) (tells_plain _ refl))))

-- the figures are the number, the trials, the places with their count, and the rows with theirs
pub plan_tells : (a : PlanAnswer) → a.number ≤ 4294967295 → a.trials ≤ 4294967295
    → length (up_to_last a.order) ≤ 4294967295 → Held (up_to_last a.order)
    → length (rows_in a.left) ≤ 4294967295 → Held (rows_in a.left)
    → let P = up_to_last a.order in let R = rows_in a.left in Tells (plan_sentence a) (a.number ∷ a.trials ∷ length P ∷ (P ++ (length R ∷ R)))
unfolding plan_sentence
plan_tells a n t l h k g =
    tells_then (opening_tells a.number n)
    (tells_then (counted_tells a.trials (bytes " trial") t noun)
    (tells_then (tells_plain (bytes ", ") refl)
    (tells_then (enumerated_tells (bytes " row") (bytes " in the order") (bytes " (highest first: ") (up_to_last a.order) noun' refl refl l h)
    (tells_then (tells_plain (bytes ", ") refl)
    (tells_figures (append-nil _) (tells_then (enumerated_tells (bytes " row") (bytes " left") (bytes " (") (rows_in a.left) noun' refl refl k g) (tells_plain _ refl)))))))
  where
    noun : AfterFigure (bytes " trial")
    noun = record { words = refl; begins = λ rest. refl }

    noun' : AfterFigure (bytes " row")
    noun' = record { words = refl; begins = λ rest. refl }

-- ---- the judge's sentence
-- the figure of a yes or no that is neither
abbrev pub yes_figures : ℕ → List ℕ
yes_figures said = cond (eqb said 1) [] (cond (eqb said 0) [] (said ∷ []))

-- what holds of yes, of no and of another value holds of the yes or no
pub yes_all : (p : List ℕ → Bool) (said : ℕ) → p (bytes "yes") ≡ true → p (bytes "no") ≡ true → p (together (decimal said ∷ bytes ", neither yes nor no" ∷ [])) ≡ true
    → p (yes_or_no said) ≡ true
unfolding yes_or_no
yes_all p said a b c = by_bool (eqb said 1) (λ e. rw e a) (λ e. rw e (by_bool (eqb said 0) (λ f. rw f b) (λ f. rw f c)))

yes_tells : (said : ℕ) → said ≤ 4294967295 → Tells (yes_or_no said) (yes_figures said)
unfolding yes_or_no
yes_tells said h =
    by_bool (eqb said 1)
    (λ e. rw e (tells_plain _ refl))
    (λ e. rw e (by_bool (eqb said 0) (λ f. rw f (tells_plain _ refl)) (λ f. rw f (tells_figure said h (λ rest. refl) (tells_plain _ refl)))))

verdict_tells : (number said : ℕ) → number ≤ 4294967295 → said ≤ 4294967295 → Tells (judge_opening number said) (yes_figures said ++ (number ∷ []))
unfolding judge_opening
verdict_tells number said n h =
    tells_then (tells_plain (bytes "The judge says ") refl)
    (tells_then (yes_tells said h)
    (tells_then (tells_plain (bytes " (number ") refl)
    (tells_figure number n (λ rest. refl)
    (tells_then (tells_plain (bytes ", ") refl)
    (tells_then (tells_plain (judged_meaning number said) (judged_plain number said)) (tells_plain _ refl))))))

slack_tells : (z : ℤ) → nat_abs z ≤ 4294967295 → Tells (slack_words z) (nat_abs z ∷ [])
unfolding slack_words
slack_tells z h = tells_then (tells_plain (minus_of z) (minus_plain z)) (tells_last (counted_tells (nat_abs z) (bytes " slot") h noun))
  where
    minus_plain : (x : ℤ) → plain (minus_of x) ≡ true
    minus_plain (pos v) = refl
    minus_plain (negsuc m) = refl

    noun : AfterFigure (bytes " slot")
    noun = record { words = refl; begins = λ rest. refl }

-- the figures are those of the yes or no, the number, the row and the size of the slack
pub judge_tells : (a : JudgeAnswer) → a.number ≤ 4294967295 → a.yes ≤ 4294967295 → a.row ≤ 4294967295 → nat_abs a.slack ≤ 4294967295
    → Tells (judge_sentence a) (yes_figures a.yes ++ (a.number ∷ a.row ∷ nat_abs a.slack ∷ []))
unfolding judge_sentence
judge_tells a n y r s =
    tells_figures (append_assoc (yes_figures a.yes) (a.number ∷ []) (a.row ∷ nat_abs a.slack ∷ []))
    (tells_then (verdict_tells a.number a.yes n y)
    (tells_then (tells_plain (bytes "tightest row ") refl)
    (tells_figure a.row r (λ rest. refl)
    (tells_then (tells_plain (bytes ", slack ") refl) (tells_then (slack_tells a.slack s) (tells_plain _ refl))))))
