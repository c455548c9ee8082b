-- The rows of a word alone (rule 25.3): the table of them, numbered anew, is a table like any other, and its choices are counted by the lowest row of the same
-- rows in the whole table (rule 25.7).
use Rattle.std.specs.Prelude.{ℕ, zero, suc, ◌-◌, ◌≤◌, Bool, true, ◌&&◌, cond, List, [], ◌∷◌, map, ◌≡◌, length, get_or, ◌<◌}
use Rattle.std.proofs.Math.Bool.{not}
use Rattle.std.proofs.Math.Path.{refl, sym, ap, ap₂}
use Rattle.std.proofs.Common.{subst, ◌∙◌, ext_get_or, eq-eqb, eqb-true}
use native.Mathlib.Omega.{arith}
use Rattle.std.proofs.Math.Dec.{eqb}
use Rattle.std.proofs.lemmas.List.{length-map}
use Rattle.rules.specs.declared.Table.{Table}
use Rattle.rules.specs.Choice.{padded, unfollowed, passes, lowest}
use Rattle.rules.specs.Lists.{all, count, erase, rows_to}
use Rattle.rules.specs.Orders.{is_arrangement, is_order}
use Rattle.rules.specs.Rows.{at, rows_of, release_of, work_of, deadline_of, promised_of, follows_of}
use Rattle.rules.specs.Worst.{meets}
use Rattle.theory.proofs.Choosing.{lowest_stands}
use Rattle.theory.specs.Counts.{In, Once, Within, in_head, in_tail, in_entry, erase_last, sum_eq, first_in, first_passes, first_none, same_size}
use Rattle.theory.specs.Facts.{Row, TableFacts, count_zero, count_rows, count_no_row}
use Rattle.theory.proofs.Finishes.{rows_of_lem, once_of}
use Rattle.theory.specs.Places.{length_rows, same_length}
use Rattle.theory.specs.Tests.{by_bool, by_eqb, by-leb, by-ltb, not_both, both_ways}
use Rattle.theory.proofs.Waiting.{unbound_table, lowest_slack}
use Rattle.theory.specs.Waiting.{unbound}
use Rattle.theory.specs.Waits.{Closed, rows_closed}
use Rattle.sweep.specs.Padded.{padded_entry, rows_entry}
use Rattle.trials.specs.Lines.{place_of, apart, sorted_rising}
use Rattle.choices.specs.Choices.{renumbered, alone, choices, arrangements, is_correct}
use Rattle.lowest.specs.Listed.{erase_within}
use Rattle.lowest.specs.Standing.{may_stand, by_lowest}
use Rattle.lowest.proofs.Standing.{free_stand, choices_lowest_lem}
use Rattle.lowest.specs.Images.{Single, sum_map, erase_map, Image, passes_image}
use Rattle.lowest.specs.Alone.{Chosen}

-- a figure of each row of a list
map_entry : (g : ℕ → ℕ) (l : List ℕ) (k : ℕ) → k < length l → get_or (map g l) k 0 ≡ g (get_or l k 0)
map_entry g [] k h = absurd (omega arith)
map_entry g (x ∷ l) zero h = refl
map_entry g (x ∷ l) (suc k) h = map_entry g l k (omega arith)

-- the rows of a list by their new numbers
pub numbered : (s : List ℕ) → map (at s) (rows_to (length s)) ≡ s
numbered s =
    let e = length-map (rows_to (length s)) (at s) ∙ length_rows (length s) in
    ext_get_or 0 (map (at s) (rows_to (length s))) s e
    (λ k h. rows_entry (at s) (length s) k (omega (arith, e)) ∙ let z : suc k - 1 ≡ k = omega arith in ap (λ (j : ℕ). get_or s j 0) z)

-- counting by the lowest row under other numbers
mapped_lowest : (φ : ℕ → ℕ) (p q : List ℕ → ℕ → Bool) (k : ℕ) (l : List ℕ) → Single φ l
    → ((r : List ℕ) → Within r l → (i : ℕ) → In i r → p r i ≡ q (map φ r) (φ i)) → by_lowest p k l ≡ by_lowest q k (map φ l)
mapped_lowest φ p q zero l h a = refl
mapped_lowest φ p q (suc k) l h a =
    sum_eq (λ i. cond (p l i) (by_lowest p k (erase i l)) 0) (λ i. cond (q (map φ l) (φ i)) (by_lowest q k (erase (φ i) (map φ l))) 0) l
    (λ i j. rw (a l (λ x. omega arith) i j, erase_map φ i l h j)
    (ap (λ (m : ℕ). cond (q (map φ l) (φ i)) m 0)
    (mapped_lowest φ p q k (erase i l) (λ x y m n. h x y (omega (arith, m, erase_within i l x)) (omega (arith, n, erase_within i l y))) (λ r w. a r (λ x. omega (arith, w x, erase_within i l x))))))
    ∙ sym (sum_map φ (λ i. cond (q (map φ l) i) (by_lowest q k (erase i (map φ l))) 0) l)

-- a number from 1 to n, as a row among the first n
pub number_in : (n k : ℕ) → 1 ≤ k → k ≤ n → In k (rows_to n)
number_in n k h l = omega (arith, count_rows n k h l)

pub in_number : (n k : ℕ) → In k (rows_to n) → (1 ≤ k) × (k ≤ n)
in_number n k i = (
  by_eqb k 0 (λ _ q. absurd (omega (arith, count_zero n, rw q at i))) (λ _ q. omega arith),
  by-leb k n (λ _ q. q) (λ _ q. absurd (omega (arith, count_no_row n k q))),
)

-- fewer rows, no longer a list
pub length_within : (a b : List ℕ) → Within a b → length a ≤ length b
length_within a b w = by-leb (length a) (length b) (λ _ h. h) (λ _ h. absurd (omega (arith, same_size a b (same_length a b w (omega arith)))))

pub all_map : (φ : ℕ → ℕ) (p : ℕ → Bool) (l : List ℕ) → all p (map φ l) ≡ all (λ x. p (φ x)) l
all_map φ p [] = refl
all_map φ p (x ∷ l) = rw (all_map φ p l)

pub all_agree : (p q : ℕ → Bool) (l : List ℕ) → ((x : ℕ) → In x l → p x ≡ q x) → all p l ≡ all q l
all_agree p q [] h = refl
all_agree p q (x ∷ l) h = rw (h x (in_head x l), all_agree p q l (λ y i. h y (in_tail y x l i)))

-- the new number of a row of a list, and of any other
module _ (s : List ℕ) where
  abbrev is_at : ℕ → ℕ → Bool
  is_at w k = eqb (at s k) w

  not_zero : (w : ℕ) → In w s → renumbered s w ≡ 0 → ⊥
  not_zero w i z =
      let a = place_of s w i in
      let y : suc a.place - 1 ≡ a.place = omega arith in
      let e : at s (suc a.place) ≡ w = ap (λ (j : ℕ). get_or s j 0) y ∙ a.is in
      not_both (is_at w (suc a.place)) (eq-eqb (at s (suc a.place)) w e)
      (first_none (is_at w) (rows_to (length s)) (λ y. omega (arith, y, count_zero (length s))) z (suc a.place)
      (number_in (length s) (suc a.place) (omega arith) (omega (arith, a.within))))

  pub renumbered_row : (w : ℕ) → In w s → (1 ≤ renumbered s w) × (renumbered s w ≤ length s) × (at s (renumbered s w) ≡ w)
  renumbered_row w i =
      let r = in_number (length s) (renumbered s w) (first_in (is_at w) (rows_to (length s)) (not_zero w i)) in
      (r.0, r.1, eqb-true (at s (renumbered s w)) w (first_passes (is_at w) (rows_to (length s)) (not_zero w i)))

  pub entry_in : (k : ℕ) → 1 ≤ k → k ≤ length s → In (at s k) s
  entry_in k h l = in_entry s (k - 1) (omega arith)

  pub renumbered_none : (w : ℕ) → (In w s → ⊥) → renumbered s w ≡ 0
  renumbered_none w n =
      by_eqb (renumbered s w) 0 (λ _ z. z) (λ _ z.
      let r = in_number (length s) (renumbered s w) (first_in (is_at w) (rows_to (length s)) z) in
      absurd (n (subst (λ (x : ℕ). In x s) (eqb-true (at s (renumbered s w)) w (first_passes (is_at w) (rows_to (length s)) z)) (entry_in (renumbered s w) r.0 r.1))))

-- of rows that hold whatever they follow, one that none of them follows passes lowest with waits as without (rule 21.3)
pub waits_kept : (u : Table) → TableFacts u → (l : List ℕ) → Within l (rows_of u) → Closed u l → (k : ℕ) → In k l → unfollowed u l k ≡ true
    → passes u l k ≡ passes (unbound u) l k
unfolding passes meets
waits_kept u g l v closed k own e =
    let w : Within (lowest l k) (rows_of u) = λ x. omega (arith, erase_last k l own x, v x) in
    rw (lowest_slack u g (erase k l) [] k (rows_of_lem u (lowest l k) w) (once_of u (lowest l k) w) (lowest_stands u g l (rows_of_lem u l v) closed k own e))

-- no row has one arrangement, and it misses nothing (rule 25.3)
none_alone : (t : Table) (s : List ℕ) → length s ≡ 0 → choices (alone t s) ≡ by_lowest (may_stand t) (length s) s
unfolding choices arrangements is_correct alone is_order is_arrangement padded
none_alone t [] e = refl
none_alone t (x ∷ s) e = absurd (omega arith)

module _ (t : Table) (f : TableFacts t) (s : List ℕ) (c : Chosen t s) where
  once : Once s
  once = once_of t s c.within

  pub few : length s ≤ 64
  few = omega (arith, length_within s (rows_of t) c.within, length_rows t.n, f.few)

  pub row_of : (x : ℕ) → In x s → Row t x
  row_of = rows_of_lem t s c.within

  -- what stands under new number k
  pub row_at : (k : ℕ) → 1 ≤ k → k ≤ length s → Row t (at s k)
  row_at k h l = row_of (at s k) (entry_in s k h l)

  pub single : (j k : ℕ) → 1 ≤ j → j ≤ length s → 1 ≤ k → k ≤ length s → at s j ≡ at s k → j ≡ k
  single j k a b d e q = by_eqb j k (λ _ z. z) (λ _ z. absurd (apart s once (j - 1) (k - 1) (omega arith) (omega arith) (λ y. z (omega (arith, y))) q))

  pub figure : (g : ℕ → ℕ) (k : ℕ) → 1 ≤ k → k ≤ length s → at (padded (map g s)) k ≡ g (at s k)
  figure g k h l =
      let e = length-map s g in
      padded_entry (map g s) (omega (arith, few)) (k - 1) (omega arith) ∙ map_entry g s (k - 1) (omega arith)

  pub level_of : (k : ℕ) → 1 ≤ k → k ≤ length s → at (alone t s).level k ≡ at t.level (at s k)
  unfolding alone
  level_of = figure (at t.level)

  pub row_in : (k : ℕ) → Row (alone t s) k → (1 ≤ k) × (k ≤ length s)
  unfolding alone
  row_in k r = (r.from, r.up_to)

  -- the row that row k follows there
  pub followed : (k : ℕ) → 1 ≤ k → k ≤ length s → follows_of (alone t s) k ≡ renumbered s (follows_of t (at s k))
  unfolding alone
  followed k h l = figure (λ i. renumbered s (follows_of t i)) k h l

  pub number_back : (k : ℕ) → 1 ≤ k → k ≤ length s → renumbered s (at s k) ≡ k
  number_back k h l =
      let r = renumbered_row s (at s k) (entry_in s k h l) in
      single (renumbered s (at s k)) k r.0 r.1 h l r.2

  -- it is a row with its own number, or none
  pub by-followed {ℓ} : {P : Type ℓ} (w : ℕ) → (In w s → (1 ≤ renumbered s w) × (renumbered s w ≤ length s) × (at s (renumbered s w) ≡ w) → P) → (renumbered s w ≡ 0 → P) → P
  by-followed w a b = by-leb 1 (count w s) (λ _ i. a i (renumbered_row s w i)) (λ _ i. b (renumbered_none s w (λ j. omega (arith, j))))

  -- the rows alone are a table like any other
  pub alone_table : 1 ≤ length s → TableFacts (alone t s)
  unfolding alone
  alone_table some =
      record {
        some = some;
        few = few;
        runs = f.runs;
        fast = f.fast;
        crawls = f.crawls;
        slower = f.slower;
        loads = f.loads;
        row = λ k r. let h = r.from in let l = r.up_to in let g = f.row (at s k) (row_at k h l) in
            record {
              works = omega (arith, figure (work_of t) k h l, g.works);
              light = omega (arith, figure (work_of t) k h l, g.light);
              soon = omega (arith, figure (deadline_of t) k h l, g.soon);
              before = omega (arith, figure (release_of t) k h l, figure (deadline_of t) k h l, g.before);
              level = omega (arith, figure (at t.level) k h l, g.level);
            };
        part = λ k r. let h = r.from in let l = r.up_to in let g = f.part (at s k) (row_at k h l) in
            record {
              within = omega (arith, figure (work_of t) k h l, figure (promised_of t) k h l, g.within);
              low = λ m. ap (λ (x : ℕ). eqb x 0) (figure (at t.level) k h l) ∙ g.low (omega (arith, figure (promised_of t) k h l));
            };
        lower = λ k r m. let h = r.from in let l = r.up_to in
            by-followed (follows_of t (at s k))
            (λ i q. by-ltb (renumbered s (follows_of t (at s k))) k
            (λ _ z. omega (arith, followed k h l))
            (λ _ z. absurd (omega (
              arith,
              q.2,
              (row_of (follows_of t (at s k)) i).from,
              f.lower (at s k) (row_at k h l) (row_of (follows_of t (at s k)) i).from,
              sorted_rising (λ x. x) 0 s c.rising (k - 1) (renumbered s (follows_of t (at s k)) - 1) (omega arith) (omega (arith, q.0, q.1)),
            ))))
            (λ z. absurd (omega (arith, followed k h l)));
        earlier = λ k r m. let h = r.from in let l = r.up_to in
            let w = follows_of t (at s k) in
            by-followed w
            (λ i q. let same : follows_of (alone t s) k ≡ renumbered s w = followed k h l in
            omega (
              arith,
              ap (release_of (alone t s)) same,
              figure (release_of t) (renumbered s w) q.0 q.1,
              ap (release_of t) q.2,
              figure (release_of t) k h l,
              f.earlier (at s k) (row_at k h l) (row_of w i).from,
            ))
            (λ z. absurd (omega (arith, followed k h l)));
      }

  -- each has the figures that it had
  pub image : Image (unbound (alone t s)) (unbound t) (at s)
  unfolding alone
  image =
      record {
        normal = refl;
        degraded = refl;
        loading = refl;
        row = λ k r. let q = row_at k r.from r.up_to in record { from = q.from; up_to = q.up_to };
        single = λ j k a b. single j k a.from a.up_to b.from b.up_to;
        release = λ k r. figure (release_of t) k r.from r.up_to;
        work = λ k r. figure (work_of t) k r.from r.up_to;
        deadline = λ k r. figure (deadline_of t) k r.from r.up_to;
        level = λ k r. figure (at t.level) k r.from r.up_to;
        promised = λ k r. figure (promised_of t) k r.from r.up_to;
      }

  pub long : (alone t s).n ≡ length s
  unfolding alone
  long = refl

  -- followed there or here
  follows_image : (k i : ℕ) → 1 ≤ k → k ≤ length s → 1 ≤ i → i ≤ length s → eqb (follows_of (alone t s) k) i ≡ eqb (follows_of t (at s k)) (at s i)
  follows_image k i h l a b =
      let w = follows_of t (at s k) in
      rw (followed k h l)
      (both_ways (eqb (renumbered s w) i) (eqb w (at s i))
      (λ e. let z = eqb-true (renumbered s w) i e in
      by-followed w
      (λ _ q. eq-eqb w (at s i) (sym q.2 ∙ ap (at s) z))
      (λ n. absurd (omega (arith, z, n))))
      (λ e. let z = eqb-true w (at s i) e in eq-eqb (renumbered s w) i (ap (renumbered s) z ∙ number_back i a b)))

  pub numbers : (l : List ℕ) → Within l (rows_of (alone t s)) → (x : ℕ) → In x l → (1 ≤ x) × (x ≤ length s)
  numbers l w x i = in_number (length s) x (subst (λ (n : ℕ). In x (rows_to n)) long (omega (arith, w x)))

  pub unfollowed_image : (l : List ℕ) (i : ℕ) → Within l (rows_of (alone t s)) → In i l → unfollowed (alone t s) l i ≡ unfollowed t (map (at s) l) (at s i)
  unfolding unfollowed
  unfollowed_image l i w j =
      let own = numbers l w i j in
      all_agree (λ x. not (eqb (follows_of (alone t s) x) i)) (λ x. not (eqb (follows_of t (at s x)) (at s i))) l
      (λ x k. let r = numbers l w x k in ap not (follows_image x i r.0 r.1 own.0 own.1))
      ∙ sym (all_map (at s) (λ y. not (eqb (follows_of t y) (at s i))) l)

  module _ (some : 1 ≤ length s) where
    passes_there : (l : List ℕ) (i : ℕ) → Within l (rows_of (alone t s)) → In i l → passes (unbound (alone t s)) l i ≡ passes (unbound t) (map (at s) l) (at s i)
    passes_there =
        passes_image (unbound (alone t s)) (unbound t) (at s) image (unbound_table (alone t s) (alone_table some)) (unbound_table t f)
        (free_stand (alone t s)) (free_stand t)

    may_image : (l : List ℕ) (i : ℕ) → Within l (rows_of (alone t s)) → In i l → may_stand (alone t s) l i ≡ may_stand t (map (at s) l) (at s i)
    unfolding may_stand
    may_image l i w j = ap₂ (λ (a b : Bool). a && b) (unfollowed_image l i w j) (passes_there l i w j)

    pub every_row : map (at s) (rows_of (alone t s)) ≡ s
    every_row = ap (λ (n : ℕ). map (at s) (rows_to n)) long ∙ numbered s

    choices_some : choices (alone t s) ≡ by_lowest (may_stand t) (length s) s
    choices_some =
        choices_lowest_lem (alone t s) (alone_table some)
        ∙ ap (λ (n : ℕ). by_lowest (may_stand (alone t s)) n (rows_of (alone t s))) long
        ∙ mapped_lowest (at s) (may_stand (alone t s)) (may_stand t) (length s) (rows_of (alone t s))
        (λ x y i j. let a = numbers (rows_of (alone t s)) (λ z. omega arith) x i in
        let b = numbers (rows_of (alone t s)) (λ z. omega arith) y j in
        single x y a.0 a.1 b.0 b.1)
        (λ r w i j. may_image r i w j)
        ∙ ap (by_lowest (may_stand t) (length s)) every_row

    -- a row of the table of these rows alone, by its new number
    pub new_number : (i : ℕ) → In i s → In (renumbered s i) (rows_of (alone t s))
    new_number i j = let r = renumbered_row s i j in subst (λ (n : ℕ). In (renumbered s i) (rows_to n)) (sym long) (number_in (length s) (renumbered s i) r.0 r.1)

    -- it is followed there exactly if one of these rows follows it
    pub unfollowed_alone : (i : ℕ) → In i s → unfollowed (alone t s) (rows_of (alone t s)) (renumbered s i) ≡ unfollowed t s i
    unfollowed_alone i j =
        unfollowed_image (rows_of (alone t s)) (renumbered s i) (λ x. omega arith) (new_number i j) ∙ ap₂ (unfollowed t) every_row (renumbered_row s i j).2

    -- Row i may stand lowest exactly if none of the rows follows it and, in the table of these rows alone, its slack with all the others above it is not below
    -- zero (rule 25.7).
    pub may_alone : (i : ℕ) → In i s → may_stand t s i ≡ unfollowed t s i && passes (alone t s) (rows_of (alone t s)) (renumbered s i)
    unfolding may_stand
    may_alone i j =
        let u = alone t s in
        let all = rows_of u in
        let g = alone_table some in
        let k = renumbered s i in
        let own = new_number i j in
        by_bool (unfollowed t s i)
        (λ e. rw e (ap₂ (passes (unbound t)) (sym every_row) (sym (renumbered_row s i j).2) ∙ sym (passes_there all k (λ x. omega arith) own)
        ∙ sym (waits_kept u g all (λ x. omega arith) (rows_closed u g all (λ x. refl)) k own (unfollowed_alone i j ∙ e))))
        (λ e. rw e)

  -- the choices of the rows alone, by the lowest row
  pub choices_alone : choices (alone t s) ≡ by_lowest (may_stand t) (length s) s
  choices_alone = by-leb 1 (length s) (λ _ h. choices_some h) (λ _ h. none_alone t s (omega arith))
