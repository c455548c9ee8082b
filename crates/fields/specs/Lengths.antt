-- How long fields and lines are, and lines one after another, one line more at a time.
use Rattle.std.specs.Prelude.{ℕ, suc, ◌+◌, ◌*◌, ◌≡◌, refl, List, [], ◌∷◌, ◌++◌, length}
use Rattle.std.proofs.Common.{sym, ap, ◌∙◌, append_assoc, append-nil, mul-suc, add-one, arith, length-append}
use Rattle.rules.specs.Lists.{rows_to, joined}
use Rattle.texts.specs.Fields.{written, line}
use Rattle.theory.specs.Places.{length_rows}

pub written_long : (v : ℕ) → length (written v) ≡ 8
unfolding written
written_long v = refl

pub line_long : (vs : List ℕ) → length (line vs) ≡ 8 * length vs + 1
line_long [] = refl
line_long (v ∷ vs) = omega (arith, length-append (written v) (line vs), written_long v, line_long vs)

-- a line is its fields, and the line end
pub line_joined : (vs : List ℕ) → joined written vs ++ (10 ∷ []) ≡ line vs
line_joined [] = refl
line_joined (v ∷ vs) = append_assoc (written v) (joined written vs) (10 ∷ []) ∙ ap (λ (l : List ℕ). written v ++ l) (line_joined vs)

-- fields are eight times as long as there are numbers
pub fields_long : (vs : List ℕ) → length (joined written vs) ≡ 8 * length vs
fields_long [] = refl
fields_long (v ∷ vs) = omega (arith, length-append (written v) (joined written vs), written_long v, fields_long vs)

-- ---- pieces one after another, each of w bytes
module _ (f : ℕ → List ℕ) where
  pieces_long : (w : ℕ) → ((x : ℕ) → length (f x) ≡ w) → (xs : List ℕ) → length (joined f xs) ≡ w * length xs
  pieces_long w h [] = omega arith
  pieces_long w h (x ∷ xs) = omega (arith, length-append (f x) (joined f xs), h x, pieces_long w h xs, mul-suc w (length xs))

  pub joined_long : (w : ℕ) → ((x : ℕ) → length (f x) ≡ w) → (n : ℕ) → length (joined f (rows_to n)) ≡ w * n
  joined_long w h n = pieces_long w h (rows_to n) ∙ ap (λ (m : ℕ). w * m) (length_rows n)

  pub joined_append : (xs ys : List ℕ) → joined f (xs ++ ys) ≡ joined f xs ++ joined f ys
  joined_append [] ys = refl
  joined_append (x ∷ xs) ys = rw (joined_append xs ys) (sym (append_assoc (f x) (joined f xs) (joined f ys)))

  -- one piece more
  pub joined_more : (k : ℕ) → joined f (rows_to (k + 1)) ≡ joined f (rows_to k) ++ f (k + 1)
  joined_more k = rw (add-one k) (joined_append (rows_to k) (suc k ∷ []) ∙ rw (append-nil (f (suc k))))
