-- Rows under other numbers: a table whose rows have the figures of rows of another, with no row waiting. A row meets its deadline in the one exactly if it
-- does in the other, among the same rows.
use Rattle.std.specs.Prelude.{ℕ, ◌+◌, max, true, ◌&&◌, cond, ◌≡◌, refl, eqb, ltb, leb, pos, ◌-ℤ◌}
use mathlib.Core.List.{List, [], ◌∷◌, ◌++◌, map}
use Rattle.std.proofs.Math.Path.{sym, ap}
use Rattle.std.proofs.Common.{ap₂, subst, ◌∙◌, arith, eq-eqb, ne_eqb}
use Rattle.rules.specs.declared.Table.{Table}
use Rattle.rules.specs.Choice.{passes}
use Rattle.rules.specs.Lists.{count, sum, erase}
use Rattle.rules.specs.Rows.{at, rows_of, release_of, work_of, deadline_of, promised_of, promise_need, is_promised}
use Rattle.rules.specs.Worst.{worst_speed, worst_finish, promised_moment, slack, meets}
use Rattle.theory.specs.Caps.{cap}
use Rattle.theory.specs.Counts.{In, Once, Within, Same, in_head, in_tail, in_last, erase_last, count_append, count_same, sum_same}
use Rattle.theory.specs.Facts.{Row, TableFacts}
use Rattle.theory.proofs.Finishes.{rows_of_lem, once_of, worst_sweep}
use Rattle.theory.proofs.Promised.{part_of, moment_sweep, slack_is, meets_is}
use Rattle.theory.specs.Promised.{latest}
use Rattle.theory.specs.Sorting.{Sorted, sort_by, sorted_sort, same_sort}
use Rattle.theory.specs.Sweep.{sweep}
use Rattle.theory.specs.Tests.{by_bool, by_eqb}
use Rattle.theory.specs.Waits.{Stand}
use Rattle.sweep.specs.Holds.{count_tail}
use Rattle.sweep.specs.Padded.{map_append}

module _ (φ : ℕ → ℕ) where
  -- how often a number stands in a list under other numbers
  count_map : (y : ℕ) (l : List ℕ) → count y (map φ l) ≡ sum (λ x. cond (eqb y (φ x)) 1 0) l
  count_map y [] = refl
  count_map y (x ∷ l) = by_bool (eqb y (φ x)) (λ e. rw e (omega (arith, count_map y l))) (λ e. rw e (omega (arith, count_map y l)))

  same_map : (a b : List ℕ) → Same a b → Same (map φ a) (map φ b)
  same_map a b s y = count_map y a ∙ sum_same (λ x. cond (eqb y (φ x)) 1 0) a b s ∙ sym (count_map y b)

  -- a number of the list is that of a row
  pub record From (l : List ℕ) (y : ℕ) : Type 0 where
    pub row : ℕ
    pub inside : In row l
    pub is : φ row ≡ y

  pub in_map : (l : List ℕ) (y : ℕ) → In y (map φ l) → From l y
  in_map [] y i = absurd (omega arith)
  in_map (x ∷ l) y i =
      by_eqb y (φ x)
      (λ _ q. record { row = x; inside = in_head x l; is = sym q })
      (λ e q. let r = in_map l y (rw e at i) in record { row = r.row; inside = in_tail r.row x l r.inside; is = r.is })

  pub sum_map : (g : ℕ → ℕ) (l : List ℕ) → sum g (map φ l) ≡ sum (λ x. g (φ x)) l
  sum_map g [] = refl
  sum_map g (x ∷ l) = omega (arith, sum_map g l)

  -- no two rows of the list have one number
  abbrev pub Single : List ℕ → Type 0
  Single l = (x y : ℕ) → In x l → In y l → φ x ≡ φ y → x ≡ y

  single_tail : (z : ℕ) (l : List ℕ) → Single (z ∷ l) → Single l
  single_tail z l h x y i j = h x y (in_tail x z l i) (in_tail y z l j)

  pub erase_map : (i : ℕ) (l : List ℕ) → Single l → In i l → erase (φ i) (map φ l) ≡ map φ (erase i l)
  erase_map i [] h j = absurd (omega arith)
  erase_map i (x ∷ l) h j =
      by_eqb i x
      (λ e q. rw (e, eq-eqb (φ i) (φ x) (ap φ q)))
      (λ e q. let n : (φ i ≡ φ x → ⊥) = λ p. q (h i x j (in_head x l) p) in
      rw (e, ne_eqb (φ i) (φ x) n, erase_map i l (single_tail x l h) (rw e at j)))

  pub once_map : (l : List ℕ) → Single l → Once l → Once (map φ l)
  once_map [] h o y = omega arith
  once_map (x ∷ l) h o y =
      by_eqb y (φ x)
      (λ e q. rw e (omega (arith, none q)))
      (λ e q. rw e (once_map l (single_tail x l h) (λ z. omega (arith, o z, count_tail z x l)) y))
    where
      none : y ≡ φ x → count y (map φ l) ≡ 0
      none q = by_eqb (count y (map φ l)) 0 (λ _ z. z) (λ _ z.
          let r = in_map l y (omega arith) in
          let p : r.row ≡ x = h r.row x (in_tail r.row x l r.inside) (in_head x l) (r.is ∙ q) in
          absurd (omega (arith, o x, count_same x l, rw p at r.inside)))

-- each row of u has the figures of a row of t, under another number
pub record Image (u t : Table) (φ : ℕ → ℕ) : Type 0 where
  pub normal : u.normal ≡ t.normal
  pub degraded : u.degraded ≡ t.degraded
  pub loading : u.loading ≡ t.loading
  pub row : (x : ℕ) → Row u x → Row t (φ x)
  pub single : (x y : ℕ) → Row u x → Row u y → φ x ≡ φ y → x ≡ y
  pub release : (x : ℕ) → Row u x → release_of u x ≡ release_of t (φ x)
  pub work : (x : ℕ) → Row u x → work_of u x ≡ work_of t (φ x)
  pub deadline : (x : ℕ) → Row u x → deadline_of u x ≡ deadline_of t (φ x)
  pub level : (x : ℕ) → Row u x → at u.level x ≡ at t.level (φ x)
  pub promised : (x : ℕ) → Row u x → promised_of u x ≡ promised_of t (φ x)

module _ (u t : Table) (φ : ℕ → ℕ) (g : Image u t φ) where
  cap_image : (s x : ℕ) → Row u x → cap u s x ≡ cap t s (φ x)
  unfolding cap
  cap_image s x r = rw (g.loading, g.normal, g.degraded, g.level x r, g.work x r, g.promised x r)

  speed_image : (x : ℕ) → Row u x → worst_speed u x ≡ worst_speed t (φ x)
  speed_image x r = rw (g.normal, g.degraded, g.level x r)

  part_image : (x : ℕ) → Row u x → promise_need u x ≡ promise_need t (φ x)
  part_image x r = rw (g.loading, g.degraded, g.promised x r)

  promised_image : (x : ℕ) → Row u x → is_promised u x ≡ is_promised t (φ x)
  promised_image x r = rw (g.level x r, g.promised x r)

  abbrev Rows : List ℕ → Type 0
  Rows l = (x : ℕ) → In x l → Row u x

  rows_tail : (z : ℕ) (l : List ℕ) → Rows (z ∷ l) → Rows l
  rows_tail z l h x i = h x (in_tail x z l i)

  sorted_image : (n : ℕ) (l : List ℕ) → Rows l → Sorted (release_of u) n l → Sorted (release_of t) n (map φ l)
  sorted_image n [] h s = tt
  sorted_image n (x ∷ l) h s =
      let e = g.release x (h x (in_head x l)) in
      (omega (arith, s.0, e), subst (λ (m : ℕ). Sorted (release_of t) m (map φ l)) e (sorted_image (release_of u x) l (rows_tail x l h) s.1))

  sweep_image : (c d : ℕ → ℕ) (a b : ℕ) (l : List ℕ) → Rows l → ((x : ℕ) → In x l → c x ≡ d (φ x)) → sweep (release_of u) c a b l ≡ sweep (release_of t) d a b (map φ l)
  sweep_image c d a b [] h k = refl
  sweep_image c d a b (x ∷ l) h k =
      rw (g.release x (h x (in_head x l)), k x (in_head x l))
      (ap (λ (m : ℕ). cond (ltb a (release_of t (φ x)) && leb b (release_of t (φ x))) b m)
      (sweep_image c d a (max b (release_of t (φ x)) + d (φ x)) l (rows_tail x l h) (λ y i. k y (in_tail y x l i))))

  -- no row waits in either table
  module _ (fu : TableFacts u) (ft : TableFacts t) (su : (a : List ℕ) (i : ℕ) → Stand u a i) (st : (a : List ℕ) (i : ℕ) → Stand t a i) where
    -- row i below the rows of a in the one, and under its other number below the same rows, in any sequence, in the other; whatever stands below it
    module _ (a b c d : List ℕ) (i : ℕ) (within : Within (a ++ (i ∷ [])) (rows_of u)) (alike : Same c (map φ a)) where
      rows : Rows (a ++ (i ∷ []))
      rows = rows_of_lem u (a ++ (i ∷ [])) within

      own : Row u i
      own = rows i (in_last a i)

      once : Once (a ++ (i ∷ []))
      once = once_of u (a ++ (i ∷ [])) within

      single : Single φ (a ++ (i ∷ []))
      single x y j k = g.single x y (rows x j) (rows y k)

      whole : map φ (a ++ (i ∷ [])) ≡ map φ a ++ (φ i ∷ [])
      whole = map_append φ a (i ∷ [])

      whole_same : Same (map φ (a ++ (i ∷ []))) (c ++ (φ i ∷ []))
      whole_same y = omega (arith, ap (count y) whole, count_append y (map φ a) (φ i ∷ []), count_append y c (φ i ∷ []), alike y)

      rows' : (y : ℕ) → In y (c ++ (φ i ∷ [])) → Row t y
      rows' y j =
          let r = in_map φ (a ++ (i ∷ [])) y (omega (arith, j, whole_same y)) in
          subst (Row t) r.is (g.row r.row (rows r.row r.inside))

      once' : Once (c ++ (φ i ∷ []))
      once' y = omega (arith, once_map φ (a ++ (i ∷ [])) single once y, whole_same y)

      sorted : List ℕ
      sorted = sort_by (release_of u) (a ++ (i ∷ []))

      same : Same sorted (a ++ (i ∷ []))
      unfolding sorted
      same = same_sort (release_of u) (a ++ (i ∷ []))

      rises : Sorted (release_of u) 0 sorted
      unfolding sorted
      rises = sorted_sort (release_of u) (a ++ (i ∷ []))

      known : Rows sorted
      known x j = rows x (omega (arith, same x))

      same' : Same (map φ sorted) (c ++ (φ i ∷ []))
      same' y = same_map φ sorted (a ++ (i ∷ [])) same y ∙ whole_same y

      rises' : Sorted (release_of t) 0 (map φ sorted)
      rises' = sorted_image 0 sorted known rises

      finish_image : worst_finish u (a ++ (i ∷ b)) i ≡ worst_finish t (c ++ (φ i ∷ d)) (φ i)
      finish_image =
          worst_sweep u fu a b i rows once (su a i) sorted rises same
          ∙ sweep_image (cap u (worst_speed u i)) (cap t (worst_speed u i)) (release_of u i) 0 sorted known (λ x j. cap_image (worst_speed u i) x (known x j))
          ∙ ap₂ (λ (s r : ℕ). sweep (release_of t) (cap t s) r 0 (map φ sorted)) (speed_image i own) (g.release i own)
          ∙ sym (worst_sweep t ft c d (φ i) rows' once' (st c (φ i)) (map φ sorted) rises' same')

      -- caps at G, with the promised part's need for the row's own
      abbrev part_cap : Table → ℕ → ℕ → ℕ
      part_cap v j x = cond (eqb x j) (promise_need v j) (cap v v.degraded x)

      part_own : (v : Table) (j : ℕ) → part_cap v j j ≡ promise_need v j
      part_own v j = rw (eq-eqb j j refl)

      part_other : (v : Table) (j x : ℕ) → (x ≡ j → ⊥) → part_cap v j x ≡ cap v v.degraded x
      part_other v j x n = rw (ne_eqb x j n)

      part_cap_lem : (x : ℕ) → In x sorted → part_cap u i x ≡ part_cap t (φ i) (φ x)
      part_cap_lem x j =
          by_eqb x i
          (λ e q. rw (q, eq-eqb i i refl, eq-eqb (φ i) (φ i) refl) (part_image i own))
          (λ e q. part_other u i x q ∙ cap_image u.degraded x (known x j) ∙ ap (λ (s : ℕ). cap t s (φ x)) g.degraded
          ∙ sym (part_other t (φ i) (φ x) (λ p. q (g.single x i (known x j) own p))))

      moment_image : is_promised u i ≡ true → promised_moment u (a ++ (i ∷ b)) i ≡ promised_moment t (c ++ (φ i ∷ d)) (φ i)
      moment_image e =
          moment_sweep u fu i own (part_of u i e) a b rows once (su a i) sorted rises same (part_cap u i) (part_own u i) (λ x j n. part_other u i x n)
          ∙ sweep_image (part_cap u i) (part_cap t (φ i)) (release_of u i) 0 sorted known part_cap_lem
          ∙ ap (λ (r : ℕ). sweep (release_of t) (part_cap t (φ i)) r 0 (map φ sorted)) (g.release i own)
          ∙ sym (moment_sweep t ft (φ i) (g.row i own) (part_of t (φ i) (sym (promised_image i own) ∙ e)) c d rows' once' (st c (φ i))
          (map φ sorted) rises' same' (part_cap t (φ i)) (part_own t (φ i)) (λ x j n. part_other t (φ i) x n))

      latest_image : latest u (a ++ (i ∷ b)) i ≡ latest t (c ++ (φ i ∷ d)) (φ i)
      unfolding latest
      latest_image =
          by_bool (is_promised u i)
          (λ e. rw (e, sym (promised_image i own) ∙ e, finish_image, moment_image e))
          (λ e. rw (e, sym (promised_image i own) ∙ e, finish_image))

      meets_image : meets u (a ++ (i ∷ b)) i ≡ meets t (c ++ (φ i ∷ d)) (φ i)
      meets_image =
          meets_is u (a ++ (i ∷ b)) i
          ∙ ap₂ leb latest_image (g.deadline i own)
          ∙ sym (meets_is t (c ++ (φ i ∷ d)) (φ i))

      -- a row has one slack under both numbers
      pub slack_image : slack u (a ++ (i ∷ b)) i ≡ slack t (c ++ (φ i ∷ d)) (φ i)
      slack_image =
          slack_is u (a ++ (i ∷ b)) i
          ∙ ap₂ (λ (k l : ℕ). pos k -ℤ pos l) (g.deadline i own) latest_image
          ∙ sym (slack_is t (c ++ (φ i ∷ d)) (φ i))

    -- a row passes lowest of some rows exactly if it does under its other number
    pub passes_image : (l : List ℕ) (i : ℕ) → Within l (rows_of u) → In i l → passes u l i ≡ passes t (map φ l) (φ i)
    unfolding passes
    passes_image l i w j =
        meets_image (erase i l) [] (map φ (erase i l)) [] i (λ x. omega (arith, erase_last i l j x, w x)) (λ x. refl)
        ∙ ap (λ (o : List ℕ). meets t (o ++ (φ i ∷ [])) (φ i)) (sym (erase_map φ i l (λ x y h k. g.single x y (rows_of_lem u l w x h) (rows_of_lem u l w y k)) j))
