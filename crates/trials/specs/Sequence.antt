-- The trial sequence is the sort by trial key: LO rows before HI rows, each by falling deadline.
use Rattle.std.specs.Prelude.{ℕ, ◌+◌, ◌≤◌, ◌<◌, Bool, true, false, cond, not, ◌≡◌, refl, leb}
use Rattle.std.proofs.Common.{sym, ap₂, ◌∙◌, arith, le-leb}
use Rattle.std.proofs.Math.Path.{ap}
use mathlib.Core.List.{List, [], ◌∷◌, ◌++◌}
use Rattle.std.proofs.lemmas.Bool.{lt-leb}
use Rattle.rules.specs.declared.Table.{Table}
use Rattle.rules.specs.Lists.{keep}
use Rattle.rules.specs.Rows.{rows_of, deadline_of, is_low, is_high}
use Rattle.rules.specs.Choice.{insert, falling, sequence}
use Rattle.theory.specs.Tests.{by_bool, by-leb, by-ltb, not_is}
use Rattle.theory.specs.Counts.{In, in_head, in_tail}
use Rattle.theory.specs.Sorting.{Sorted, insert_by, sort_by, sorted_sort, same_sort}
use Rattle.theory.specs.Facts.{rows_in_lem, TableFacts}
use Rattle.sweep.specs.Holds.{count_dropped, count_keep_le}
use Rattle.sweep.specs.Finds.{sorted_keep}
use Rattle.trials.specs.Keys.{lateness, trial_key}

kept_passes : (p : ℕ → Bool) (l : List ℕ) (x : ℕ) → In x (keep p l) → p x ≡ true
kept_passes p l x i = by_bool (p x) (λ e. e) (λ e. absurd (omega (arith, count_dropped p x l e)))

-- a row put in among rows by the key d, and what the test p keeps

module _ (d : ℕ → ℕ) (p : ℕ → Bool) (x : ℕ) where
  insert_first : (l : List ℕ) → Sorted d (d x) l → insert_by d x l ≡ x ∷ l
  insert_first [] s = refl
  insert_first (y ∷ l) s = rw (le-leb (d x) (d y) s.0)

  keep_insert : (n : ℕ) (l : List ℕ) → Sorted d n l → p x ≡ true → keep p (insert_by d x l) ≡ insert_by d x (keep p l)
  keep_insert n [] s e = rw e
  keep_insert n (y ∷ l) s e =
      by-leb (d x) (d y)
      (λ f q. rw (f, e) (sym (insert_first (keep p (y ∷ l)) (sorted_keep d p (d x) (y ∷ l) (q, s.1)))))
      (λ f q. rw f (by_bool (p y)
      (λ g. rw (g, f, keep_insert (d y) l s.1 e))
      (λ g. rw g (keep_insert (d y) l s.1 e))))

  keep_insert_not : (l : List ℕ) → p x ≡ false → keep p (insert_by d x l) ≡ keep p l
  keep_insert_not [] e = rw e
  keep_insert_not (y ∷ l) e =
      by_bool (leb (d x) (d y))
      (λ f. rw (f, e))
      (λ f. rw (f, keep_insert_not l e))

-- rows that pass come before all that do not: the sort by such a key is two sorts, one after the other

module _ (d : ℕ → ℕ) (p : ℕ → Bool) (b : ℕ) where
  abbrev parted : ℕ → ℕ
  parted i = cond (p i) (d i) (b + d i)

  insert_low : (x : ℕ) (l m : List ℕ) → p x ≡ true → d x < b → ((y : ℕ) → In y l → p y ≡ true) → ((y : ℕ) → In y m → p y ≡ false)
      → insert_by parted x (l ++ m) ≡ insert_by d x l ++ m
  insert_low x [] [] e q f g = refl
  insert_low x [] (y ∷ m) e q f g = rw (e, g y (in_head y m), le-leb (d x) (b + d y) (omega arith))
  insert_low x (y ∷ l) m e q f g =
      by_bool (leb (d x) (d y))
      (λ h. rw (e, f y (in_head y l), h))
      (λ h. rw (e, f y (in_head y l), h, insert_low x l m e q (λ z i. f z (in_tail z y l i)) g))

  insert_high : (x : ℕ) (l m : List ℕ) → p x ≡ false → ((y : ℕ) → In y l → p y ≡ true) → ((y : ℕ) → In y l → d y < b) → ((y : ℕ) → In y m → p y ≡ false)
      → insert_by parted x (l ++ m) ≡ l ++ insert_by d x m
  insert_high x [] [] e f h g = refl
  insert_high x [] (y ∷ m) e f h g =
      by-leb (d x) (d y)
      (λ k q. rw (k, e, g y (in_head y m), le-leb (b + d x) (b + d y) (omega arith)))
      (λ k q. rw (k, e, g y (in_head y m), lt-leb (b + d x) (b + d y) (omega arith), insert_high x [] m e f h (λ z i. g z (in_tail z y m i))))
  insert_high x (y ∷ l) m e f h g =
      let q = h y (in_head y l) in
      rw (e, f y (in_head y l), lt-leb (b + d x) (d y) (omega arith), insert_high x l m e (λ z i. f z (in_tail z y l i)) (λ z i. h z (in_tail z y l i)) g)

  kept_fails : (l : List ℕ) (y : ℕ) → In y (keep (λ i. not (p i)) l) → p y ≡ false
  kept_fails l y i = not_is (p y) (kept_passes (λ j. not (p j)) l y i)

  sort_parts : (l : List ℕ) → ((x : ℕ) → In x l → d x < b) → sort_by parted l ≡ keep p (sort_by d l) ++ keep (λ i. not (p i)) (sort_by d l)
  sort_parts [] h = refl
  sort_parts (x ∷ xs) h =
      let s = sort_by d xs in
      let n : ℕ → Bool = λ i. not (p i) in
      let rest = sort_parts xs (λ y i. h y (in_tail y x xs i)) in
      let small : (y : ℕ) → In y (keep p s) → d y < b = λ y i. h y (in_tail y x xs (omega (arith, count_keep_le p y s, same_sort d xs y))) in
      ap (insert_by parted x) rest
      ∙ by_bool (p x)
      (λ e. let f : n x ≡ false = rw e in
      insert_low x (keep p s) (keep n s) e (h x (in_head x xs)) (kept_passes p s) (kept_fails s)
      ∙ ap₂ (λ (a c : List ℕ). a ++ c) (sym (keep_insert d p x 0 s (sorted_sort d xs) e)) (sym (keep_insert_not d n x s f)))
      (λ e. let f : n x ≡ true = rw e in
      insert_high x (keep p s) (keep n s) e (kept_passes p s) small (kept_fails s)
      ∙ ap₂ (λ (a c : List ℕ). a ++ c) (sym (keep_insert_not d p x s e)) (sym (keep_insert d n x 0 s (sorted_sort d xs) f)))

-- falling deadlines are rising lateness, for deadlines within their limit

module _ (t : Table) where
  abbrev late : ℕ → ℕ
  late i = lateness (deadline_of t i)

  insert_late : (x : ℕ) (l : List ℕ) → deadline_of t x ≤ 1000000 → ((y : ℕ) → In y l → deadline_of t y ≤ 1000000) → insert t x l ≡ insert_by late x l
  insert_late x [] q h = refl
  insert_late x (y ∷ l) q h =
      let k = h y (in_head y l) in
      by-ltb (deadline_of t x) (deadline_of t y)
      (λ e w. rw (e, lt-leb (late x) (late y) (omega arith), insert_late x l q (λ z i. h z (in_tail z y l i))))
      (λ e w. rw (e, le-leb (late x) (late y) (omega arith)))

  falling_late : (l : List ℕ) → ((x : ℕ) → In x l → deadline_of t x ≤ 1000000) → falling t l ≡ sort_by late l
  falling_late [] h = refl
  falling_late (x ∷ l) h =
      ap (insert t x) (falling_late l (λ y i. h y (in_tail y x l i)))
      ∙ insert_late x (sort_by late l) (h x (in_head x l)) (λ y i. h y (in_tail y x l (omega (arith, same_sort late l y))))

  -- the rows by trial key are the trial sequence
  pub sequence_sort : TableFacts t → sort_by (trial_key t) (rows_of t) ≡ sequence t
  unfolding sequence trial_key
  sequence_sort f =
      let fall = falling_late (rows_of t) (λ x i. (f.row x (rows_in_lem t x i)).soon) in
      sort_parts late (is_low t) 2000000 (rows_of t) (λ x i. omega arith)
      ∙ ap (λ (l : List ℕ). keep (is_low t) l ++ keep (is_high t) l) (sym fall)
