-- Results on cuts (rule 26.7), to be cited by name: after any number of cuts the table in hand is that of the rows that remain, alone; and what is cut outside the
-- rows left never helps.
use Rattle.std.specs.Prelude.{ℕ, ◌≤◌, ◌↔◌, ◌≡◌, refl}
use mathlib.Core.List.{List, [], ◌∷◌, map}
use Rattle.std.proofs.Common.{sym, subst, ◌∙◌, arith}
use Rattle.std.proofs.Math.Path.{ap}
use Rattle.std.proofs.Math.ListN.{length}
use Rattle.std.proofs.lemmas.List.{length-map}
use Rattle.rules.specs.declared.Table.{Table}
use Rattle.rules.specs.Correct.{CorrectOrder}
use Rattle.rules.specs.Lists.{keep, rows_to}
use Rattle.rules.specs.Rows.{at}
use Rattle.rules.specs.Tables.{Accepted}
use Rattle.theory.specs.Counts.{In, Within, empty}
use Rattle.theory.specs.Facts.{TableFacts, facts}
use Rattle.theory.specs.Tests.{by-leb}
use Rattle.sweep.specs.Masks.{is_left}
use Rattle.choices.specs.Choices.{rows_in, alone}
use Rattle.lowest.proofs.Accepting.{alone_accepted}
use Rattle.lowest.proofs.Alone.{alone_table, every_row}
use Rattle.lowest.specs.Alone.{Chosen}
use Rattle.lowest.proofs.Counted.{rows_chosen}
use Rattle.stuck.specs.Stuck.{left_rows, left_in, cut, remaining, left_after}
use Rattle.stuck.specs.Sets.{chosen_rows, back_chosen, alone_twice}
use Rattle.stuck.proofs.Trouble.{order_left, fewer_left, gone_order, again_left, same_left}

-- where no row is, none remains
rows_alone : (t : Table) (s : List ℕ) → (alone t s).n ≡ length s
unfolding alone
rows_alone t s = refl

none_remain : (t : Table) → t.n ≡ 0 → (ms : List ℕ) → length (remaining t ms) ≡ 0
none_remain t e [] = ap (λ (n : ℕ). length (rows_to n)) e
none_remain t e (m ∷ ms) =
    let s = rows_in t m in
    let z : length s ≡ 0 = ap (λ (n : ℕ). length (keep (is_left m) (rows_to n))) e in
    length-map (remaining (alone t s) ms) (at s) ∙ none_remain (alone t s) (rows_alone t s ∙ z) ms

-- a row that remains was left by the first cut
first_some : (t : Table) (m : ℕ) (ms : List ℕ) → 1 ≤ length (remaining t (m ∷ ms)) → 1 ≤ length (rows_in t m)
first_some t m ms h =
    let s = rows_in t m in
    by-leb 1 (length s)
    (λ _ k. k)
    (λ _ k. absurd (omega (arith, h, length-map (remaining (alone t s) ms) (at s), none_remain (alone t s) (rows_alone t s ∙ omega arith) ms)))

rest_some : (t : Table) (m : ℕ) (ms : List ℕ) → 1 ≤ length (remaining t (m ∷ ms)) → 1 ≤ length (remaining (alone t (rows_in t m)) ms)
rest_some t m ms h = omega (arith, h, length-map (remaining (alone t (rows_in t m)) ms) (at (rows_in t m)))

-- THE ROWS THAT REMAIN are a set of rows of the first table (rule 26.7).
pub remain_chosen : (t : Table) → TableFacts t → (ms : List ℕ) → 1 ≤ length (remaining t ms) → Chosen t (remaining t ms)
remain_chosen t f [] h = chosen_rows t
remain_chosen t f (m ∷ ms) h =
    let s = rows_in t m in
    let c = rows_chosen t f m in
    back_chosen t f s c (remaining (alone t s) ms) (remain_chosen (alone t s) (alone_table t f s c (first_some t m ms h)) ms (rest_some t m ms h))

-- ANY NUMBER OF CUTS. The table in hand is that of the rows that remain, alone (rule 26.7).
pub cut_alone : (t : Table) → TableFacts t → (m : ℕ) (ms : List ℕ) → 1 ≤ length (remaining t (m ∷ ms)) → cut t (m ∷ ms) ≡ alone t (remaining t (m ∷ ms))
cut_alone t f m [] h = ap (alone t) (sym (every_row t f (rows_in t m) (rows_chosen t f m) (first_some t m [] h)))
cut_alone t f m (k ∷ ms) h =
    let s = rows_in t m in
    let c = rows_chosen t f m in
    let g = alone_table t f s c (first_some t m (k ∷ ms) h) in
    let q = rest_some t m (k ∷ ms) h in
    cut_alone (alone t s) g k ms q ∙ alone_twice t f s c (remaining (alone t s) (k ∷ ms)) (remain_chosen (alone t s) g (k ∷ ms) q)

module _ (t : Table) (accepted : Accepted t) where
  f : TableFacts t
  f = facts t accepted

  module _ (m : ℕ) (ms : List ℕ) (some : 1 ≤ length (remaining t (m ∷ ms))) where
    abbrev stay : List ℕ
    stay = remaining t (m ∷ ms)

    set : Chosen t stay
    set = remain_chosen t f (m ∷ ms) some

    is : cut t (m ∷ ms) ≡ alone t stay
    is = cut_alone t f m ms some

    left_is : left_after t (m ∷ ms) ≡ left_in t stay
    unfolding left_after left_in
    left_is = ap (λ (u : Table). map (at stay) (left_rows u)) is

    -- the table in hand is accepted
    pub cut_accepted : Accepted (cut t (m ∷ ms))
    cut_accepted = subst Accepted (sym is) (alone_accepted t accepted stay set some)

    -- ALL ROWS LEFT TAKEN AWAY, in however many cuts: the table in hand has a correct order (rule 26.7).
    pub cut_gone : ((x : ℕ) → In x (left_rows t) → In x (remaining t (m ∷ ms)) → ⊥) → CorrectOrder (cut t (m ∷ ms))
    cut_gone h = subst CorrectOrder (sym is) (gone_order t accepted stay set some h)

    -- CUTTING ELSEWHERE NEVER HELPS. The rows left for the table in hand are among the rows left for the first table; and if all of these remain, they are left again
    -- (rule 26.7).
    pub cut_fewer : Within (left_after t (m ∷ ms)) (left_rows t)
    cut_fewer = subst (λ (l : List ℕ). Within l (left_rows t)) (sym left_is) (fewer_left t accepted stay set some)

    pub cut_again : Within (left_rows t) (remaining t (m ∷ ms)) → left_after t (m ∷ ms) ≡ left_rows t
    cut_again w = left_is ∙ again_left t accepted stay set some w

    -- The table in hand has a correct order exactly if no row is left for it.
    pub cut_order : CorrectOrder (cut t (m ∷ ms)) ↔ (left_after t (m ∷ ms) ≡ [])
    unfolding left_after
    cut_order = (
      λ c. ap (map (at stay)) ((order_left (cut t (m ∷ ms)) cut_accepted).0 c),
      λ e. (order_left (cut t (m ∷ ms)) cut_accepted).1
          (empty (left_rows (cut t (m ∷ ms))) (sym (length-map (left_rows (cut t (m ∷ ms))) (at stay)) ∙ ap length e)),
    )

  -- ONLY THE ROWS LEFT MATTER. If what remains after these cuts and after those differs only outside the rows left for the first table, the same rows are left (rule
  -- 26.7).
  pub cut_same : (m k : ℕ) (ms ks : List ℕ) → 1 ≤ length (remaining t (m ∷ ms)) → 1 ≤ length (remaining t (k ∷ ks))
      → ((x : ℕ) → In x (left_rows t) → In x (remaining t (m ∷ ms)) ↔ In x (remaining t (k ∷ ks))) → left_after t (m ∷ ms) ≡ left_after t (k ∷ ks)
  cut_same m k ms ks p q h =
      left_is m ms p ∙ same_left t accepted (remaining t (m ∷ ms)) (remaining t (k ∷ ks)) (set m ms p) (set k ks q) p q h ∙ sym (left_is k ks q)
