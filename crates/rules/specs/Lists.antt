-- Small list functions that the definitions share. None of them states a rule by itself.
use Rattle.std.specs.Prelude.{ℕ, zero, suc, ◌+◌, max, min, Bool, true, false, cond, ◌&&◌, List, [], ◌∷◌, ◌++◌, eqb}
use Rattle.std.specs.List.{filter, flat_map, list_all}

-- the numbers of the first n rows: 1, 2, .., n (rule 1.3)
abbrev pub rows_to : ℕ → List ℕ
rows_to zero = []
rows_to (suc k) = rows_to k ++ (suc k ∷ [])

-- the test passes for every element
abbrev pub all : {A : Type 0} → (A → Bool) → List A → Bool
all p xs = list_all p xs

-- every number is 0
abbrev pub all_zero : List ℕ → Bool
all_zero xs = all (λ x. eqb x 0) xs

-- two lists of numbers are the same
abbrev pub same : List ℕ → List ℕ → Bool
same [] [] = true
same [] (y ∷ ys) = false
same (x ∷ xs) [] = false
same (x ∷ xs) (y ∷ ys) = eqb x y && same xs ys

-- the first number that passes the test, 0 where none does
abbrev pub first : (ℕ → Bool) → List ℕ → ℕ
first p [] = 0
first p (x ∷ xs) = cond (p x) x (first p xs)

-- how often x stands in the list
abbrev pub count : ℕ → List ℕ → ℕ
count x [] = 0
count x (y ∷ ys) = cond (eqb x y) (suc (count x ys)) (count x ys)

-- the numbers that pass the test, in the list's order
abbrev pub keep : (ℕ → Bool) → List ℕ → List ℕ
keep p xs = filter p xs

-- the list without the first x
abbrev pub erase : ℕ → List ℕ → List ℕ
erase x [] = []
erase x (y ∷ ys) = cond (eqb x y) ys (y ∷ erase x ys)

-- the sum of f over the list
abbrev pub sum : (ℕ → ℕ) → List ℕ → ℕ
sum f [] = 0
sum f (x ∷ xs) = f x + sum f xs

-- the greatest of f over the list, 0 of none
abbrev pub greatest : (ℕ → ℕ) → List ℕ → ℕ
greatest f [] = 0
greatest f (x ∷ xs) = max (f x) (greatest f xs)

-- what f makes of each element, one after the other
abbrev pub joined : (ℕ → List ℕ) → List ℕ → List ℕ
joined f xs = flat_map f xs

-- the least of b and f over the list
abbrev pub least : (ℕ → ℕ) → ℕ → List ℕ → ℕ
least f b [] = b
least f b (x ∷ xs) = least f (min b (f x)) xs
