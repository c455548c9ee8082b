-- The key of a row in the trial sequence, and sorts by keys that agree on the rows sorted.
use Rattle.std.specs.Prelude.{ℕ, suc, ◌+◌, ◌-◌, ◌≤◌, ◌<◌, cond, ◌≡◌, refl, List, [], ◌∷◌, map, eqb, get_or, set}
use Rattle.std.proofs.Common.{ap, ◌∙◌, arith}
use Rattle.rules.specs.declared.Table.{Table}
use Rattle.rules.specs.Lists.{rows_to}
use Rattle.rules.specs.Rows.{at}
use Rattle.rules.specs.Tables.{Accepted}
use Rattle.rules.specs.Choice.{padded}
use Rattle.theory.specs.Counts.{In, in_head, in_tail}
use Rattle.theory.specs.Sorting.{insert_by, sort_by, same_sort}
use Rattle.theory.specs.Facts.{Row, facts}
use Rattle.sweep.specs.Padded.{column_more}

-- a later deadline, in slots, has the lower key
abbrev pub lateness : ℕ → ℕ
lateness deadline = 1000000 - deadline

-- the key of a row of this level and deadline: every LO row comes before every HI row
abbrev pub key_of : ℕ → ℕ → ℕ
key_of level deadline = cond (eqb level 0) (lateness deadline) (2000000 + lateness deadline)

-- the key of row i by columns of levels and deadlines
abbrev pub key_in : List ℕ → List ℕ → ℕ → ℕ
key_in level deadline i = key_of (at level i) (at deadline i)

-- the key of row i of a table
unfoldable pub trial_key : Table → ℕ → ℕ
trial_key t i = key_in t.level t.deadline i

pub keys_of : (t : Table) (n : ℕ) → padded (map (key_in t.level t.deadline) (rows_to n)) ≡ padded (map (trial_key t) (rows_to n))
unfolding trial_key
keys_of t n = refl

-- the first n deadlines are within their limit, in slots
abbrev pub Soon : ℕ → List ℕ → Type 0
Soon n deadline = (k : ℕ) → k < n → get_or deadline k 0 ≤ 1000000

key_entry : (level deadline : List ℕ) (k : ℕ) → key_of (get_or level k 0) (get_or deadline k 0) ≡ key_in level deadline (suc k)
key_entry level deadline k = let e : suc k - 1 ≡ k = omega arith in rw e

-- one more row: the one at index k
pub keys_more : (level deadline : List ℕ) (k v : ℕ) (out : List ℕ) → k < 64 → out ≡ padded (map (key_in level deadline) (rows_to k))
    → v ≡ key_of (get_or level k 0) (get_or deadline k 0) → set out k v ≡ padded (map (key_in level deadline) (rows_to (suc k)))
keys_more level deadline k v out h e q = rw (e, q, key_entry level deadline k) (column_more (key_in level deadline) k h)

-- the deadlines of an accepted table are within their limit
pub soon_at : (t : Table) → Accepted t → Soon t.n t.deadline
soon_at t accepted k h =
    let e : suc k - 1 ≡ k = omega arith in
    let row : Row t (suc k) = record { from = omega arith; up_to = h } in
    omega (arith, ((facts t accepted).row (suc k) row).soon, ap (λ (j : ℕ). get_or t.deadline j 0) e)

-- keys that agree on the rows

insert_eq : (f g : ℕ → ℕ) (x : ℕ) (l : List ℕ) → f x ≡ g x → ((y : ℕ) → In y l → f y ≡ g y) → insert_by f x l ≡ insert_by g x l
insert_eq f g x [] e h = refl
insert_eq f g x (y ∷ l) e h = rw (e, h y (in_head y l), insert_eq f g x l e (λ z i. h z (in_tail z y l i)))

pub sort_eq : (f g : ℕ → ℕ) (l : List ℕ) → ((x : ℕ) → In x l → f x ≡ g x) → sort_by f l ≡ sort_by g l
sort_eq f g [] h = refl
sort_eq f g (x ∷ l) h =
    ap (insert_by f x) (sort_eq f g l (λ y i. h y (in_tail y x l i)))
    ∙ insert_eq f g x (sort_by g l) (h x (in_head x l)) (λ y i. h y (in_tail y x l (omega (arith, same_sort g l y))))
