-- A list in an array of sixty-four, zeros after the last.
use Rattle.std.specs.Prelude.{ℕ, zero, suc, ◌+◌, ◌-◌, ◌≤◌, ◌<◌, true, ◌≡◌, refl, eqb, get_or, take, drop, set, replicate}
use Rattle.std.proofs.Common.{sym, ap₂, ◌∙◌, add-one, arith, length-append, get_or-append-add, drop-cons, length-take-le, get_or-take, eqb-true}
use Rattle.std.proofs.Math.Path.{ap}
use mathlib.Core.List.{List, [], ◌∷◌, ◌++◌, map, append_assoc}
use Rattle.std.proofs.Math.ListN.{length, get_or-append, get_or-eq_default}
use Rattle.std.proofs.lemmas.List.{length-replicate, get_or_at}
use Rattle.std.proofs.Math.Seq.{take-append-add, take-append_seam, set-append_seam}
use Rattle.rules.specs.Lists.{all_zero, rows_to}
use Rattle.rules.specs.Rows.{at}
use Rattle.rules.specs.Choice.{padded}
use Rattle.theory.specs.Tests.{by-ltb, and_left, and_right}
use Rattle.theory.specs.Places.{length_rows}
use Rattle.theory.specs.Counts.{In, in_head, in_tail}

-- n zeros
abbrev pub zeros : ℕ → List ℕ
zeros n = replicate n 0

-- a list in which every number is 0
pub all_zeros : (o : List ℕ) → all_zero o ≡ true → o ≡ zeros (length o)
all_zeros [] e = refl
all_zeros (x ∷ o) e = ap₂ (λ (y : ℕ) (l : List ℕ). y ∷ l) (eqb-true x 0 (and_left (eqb x 0) (all_zero o) e)) (all_zeros o (and_right (eqb x 0) (all_zero o) e))

-- what is left of the first n entries after k
abbrev pub rest : List ℕ → ℕ → ℕ → List ℕ
rest xs n k = drop k (take n xs)

-- the first n entries are row numbers
abbrev pub Rows : List ℕ → ℕ → Type 0
Rows xs n = (k : ℕ) → k < n → (1 ≤ get_or xs k 0) × (get_or xs k 0 ≤ 64)

-- no row number is 0, so that the list is as long
pub rows_within : (xs : List ℕ) (n : ℕ) → Rows xs n → n ≤ length xs
rows_within xs n h =
    by-ltb (length xs) n
    (λ e q. absurd (omega (arith, (h (length xs) q).0, get_or-eq_default xs 0 {n = length xs} (omega arith))))
    (λ e q. q)

pub rest_step : (xs : List ℕ) (n k : ℕ) → n ≤ length xs → k < n → rest xs n k ≡ get_or xs k 0 ∷ rest xs n (k + 1)
rest_step xs n k l h =
    let e = length-take-le n xs l in
    drop-cons (take n xs) k 0 (omega arith) ∙ ap₂ (λ (x j : ℕ). x ∷ drop j (take n xs)) (get_or-take n xs k 0 h) (sym (add-one k))

take_over : (n : ℕ) (a b : List ℕ) → length a ≤ n → take n (a ++ b) ≡ a ++ take (n - length a) b
take_over n a b h =
    let e : n ≡ length a + (n - length a) = omega arith in
    ap (λ (k : ℕ). take k (a ++ b)) e ∙ take-append-add a b (n - length a)

take_replicate : (n m x : ℕ) → n ≤ m → take n (replicate m x) ≡ replicate n x
take_replicate zero m x h = refl
take_replicate (suc n) zero x h = absurd (omega arith)
take_replicate (suc n) (suc m) x h = ap (λ (r : List ℕ). x ∷ r) (take_replicate n m x (omega arith))

zeros_cons : (n : ℕ) → 1 ≤ n → zeros n ≡ 0 ∷ zeros (n - 1)
zeros_cons zero h = absurd (omega arith)
zeros_cons (suc n) h = let e : suc n - 1 ≡ n = omega arith in rw e

module _ (l : List ℕ) (h : length l ≤ 64) where
  -- the zeros after the list
  pub padded_zeros : padded l ≡ l ++ zeros (64 - length l)
  unfolding padded
  padded_zeros = take_over 64 l (replicate 64 0) h ∙ ap (λ (r : List ℕ). l ++ r) (take_replicate (64 - length l) 64 0 (omega arith))

  pub padded_length : length (padded l) ≡ 64
  padded_length = rw padded_zeros (omega (arith, length-append l (zeros (64 - length l)), length-replicate {A = ℕ} (64 - length l) 0))

  pub padded_take : take (length l) (padded l) ≡ l
  padded_take = rw padded_zeros (take-append_seam l (zeros (64 - length l)))

  pub padded_entry : (j : ℕ) → j < length l → get_or (padded l) j 0 ≡ get_or l j 0
  padded_entry j q = rw padded_zeros (get_or-append l (zeros (64 - length l)) 0 j q)

pub zeros_entry : (n j : ℕ) → get_or (zeros n) j 0 ≡ 0
zeros_entry zero j = refl
zeros_entry (suc n) zero = refl
zeros_entry (suc n) (suc j) = zeros_entry n j

pub padded_beyond : (l : List ℕ) (j : ℕ) → length l ≤ 64 → length l ≤ j → get_or (padded l) j 0 ≡ 0
padded_beyond l j h q =
    let e : j ≡ length l + (j - length l) = omega arith in
    rw (padded_zeros l h) (ap (λ (i : ℕ). get_or (l ++ zeros (64 - length l)) i 0) e ∙ get_or-append-add l (zeros (64 - length l)) (j - length l) 0
    ∙ zeros_entry (64 - length l) (j - length l))

-- one more entry at the end
pub padded_more : (l : List ℕ) (v : ℕ) → length l < 64 → set (padded l) (length l) v ≡ padded (l ++ (v ∷ []))
padded_more l v h =
    let n = 64 - length l in
    let m = length-append l (v ∷ []) in
    let e : n - 1 ≡ 64 - length (l ++ (v ∷ [])) = omega arith in
    rw (
      padded_zeros l (omega arith),
      zeros_cons n (omega arith),
      set-append_seam l 0 (zeros (n - 1)) v,
      padded_zeros (l ++ (v ∷ [])) (omega arith),
      append_assoc l (v ∷ []) (zeros (64 - length (l ++ (v ∷ [])))),
      e,
    )

-- figures that agree on the rows of a list
pub map_same : (f g : ℕ → ℕ) (l : List ℕ) → ((x : ℕ) → In x l → f x ≡ g x) → map f l ≡ map g l
map_same f g [] h = refl
map_same f g (x ∷ l) h = ap₂ (λ (y : ℕ) (m : List ℕ). y ∷ m) (h x (in_head x l)) (map_same f g l (λ y i. h y (in_tail y x l i)))

pub map_append : (f : ℕ → ℕ) (a b : List ℕ) → map f (a ++ b) ≡ map f a ++ map f b
map_append f [] b = refl
map_append f (x ∷ a) b = rw (map_append f a b)

-- a figure of each of the first n rows, as a column

module _ (f : ℕ → ℕ) where
  map_last : (l : List ℕ) (x : ℕ) → map f (l ++ (x ∷ [])) ≡ map f l ++ (f x ∷ [])
  map_last l x = map_append f l (x ∷ [])

  pub rows_length : (n : ℕ) → length (map f (rows_to n)) ≡ n
  rows_length zero = refl
  rows_length (suc k) = rw (map_last (rows_to k) (suc k)) (omega (arith, length-append (map f (rows_to k)) (f (suc k) ∷ []), rows_length k))

  pub rows_entry : (n j : ℕ) → j < n → get_or (map f (rows_to n)) j 0 ≡ f (suc j)
  rows_entry zero j h = absurd (omega arith)
  rows_entry (suc k) j h =
      rw (map_last (rows_to k) (suc k))
      (by-ltb j k
      (λ e q. get_or-append (map f (rows_to k)) (f (suc k) ∷ []) 0 j (omega (arith, rows_length k)) ∙ rows_entry k j q)
      (λ e q. let w : j ≡ k = omega arith in rw w (get_or_at (map f (rows_to k)) (f (suc k)) [] 0 k (rows_length k))))

  -- the column's entry of row i
  pub padded_at : (n i : ℕ) → 1 ≤ i → i ≤ n → n ≤ 64 → at (padded (map f (rows_to n))) i ≡ f i
  padded_at n i i1 i2 h =
      let w : suc (i - 1) ≡ i = omega arith in
      padded_entry (map f (rows_to n)) (omega (arith, rows_length n)) (i - 1) (omega (arith, rows_length n))
      ∙ rows_entry n (i - 1) (omega arith) ∙ ap f w

  -- no entry is over what no row's figure is over
  pub padded_most : (n m : ℕ) → n ≤ 64 → ((i : ℕ) → 1 ≤ i → i ≤ n → f i ≤ m) → (j : ℕ) → get_or (padded (map f (rows_to n))) j 0 ≤ m
  padded_most n m h q j =
      let e = rows_length n in
      by-ltb j n
      (λ _ w. omega (arith, padded_entry (map f (rows_to n)) (omega arith) j (omega arith), rows_entry n j w, q (suc j) (omega arith) w))
      (λ _ w. omega (arith, padded_beyond (map f (rows_to n)) j (omega arith) (omega arith)))

  -- one more row
  pub column_more : (k : ℕ) → k < 64 → set (padded (map f (rows_to k))) k (f (suc k)) ≡ padded (map f (rows_to (suc k)))
  column_more k h =
      let e = rows_length k in
      let p = padded_more (map f (rows_to k)) (f (suc k)) (omega arith) in
      rw (map_last (rows_to k) (suc k)) (ap (λ (j : ℕ). set (padded (map f (rows_to k))) j (f (suc k))) (sym e) ∙ p)

  -- the same, as a loop over the rows takes it
  pub column_next : (k v : ℕ) (out : List ℕ) → k < 64 → out ≡ padded (map f (rows_to k)) → v ≡ f (k + 1) → set out k v ≡ padded (map f (rows_to (k + 1)))
  column_next k v out h e q = rw (e, q, add-one k) (column_more k h)

-- one row more, in the rows' own order
pub rows_next : (k : ℕ) (out : List ℕ) → k < 64 → out ≡ padded (rows_to k) → set out k (k + 1) ≡ padded (rows_to (k + 1))
rows_next k out h e =
    let l = length_rows k in
    rw (e, add-one k) (ap (λ (j : ℕ). set (padded (rows_to k)) j (suc k)) (sym l) ∙ padded_more (rows_to k) (suc k) (omega arith))
