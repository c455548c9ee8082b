-- The ten bytes of a whole number of at most eight digits: a space, a space or the minus, and eight bytes by the weights of a field.
use Rattle.std.specs.Prelude.{ℕ, suc, ◌+◌, ◌*◌, ◌/◌, ◌%◌, ◌≤◌, ◌<◌, Bool, cond, ◌&&◌, true, ◌||◌, List, [], ◌∷◌, map, ◌↔◌, ◌≡◌, eqb, ltb, leb, ℤ, pos, negsuc, nat_abs, length, get_or, drop, set}
use Rattle.std.proofs.Math.Path.{refl}
use Rattle.std.proofs.Common.{sym, ap, ap₂, subst, ◌∙◌, add-one, arith, lt-ltb, le-ltb, le-leb, ltb-true, ne_eqb}
use Rattle.std.proofs.lemmas.Bool.{lt-leb}
use Rattle.std.proofs.Math.Seq.{paste, paste-suc}
use Rattle.std.specs.Int.Signed.{lt_z}
use Rattle.rules.specs.Lists.{count}
use Rattle.texts.specs.Fields.{weights, digit_at, written, digit_of, weigh, value_of}
use Rattle.texts.specs.Reports.{columns, figure_at, figure}
use Rattle.theory.specs.Counts.{In, count_other, in_head, in_tail, map_entry}
use Rattle.theory.specs.Tests.{by_bool, by-leb, and_left, and_false}
use Rattle.fields.specs.Values.{value_written}

-- no digit stands at a weight above the number
no_digit : (v : ℕ) → v < 100000000 → digit_at v 1000000000 ≡ 32
unfolding digit_at
no_digit v h = rw (lt-leb 1000000000 v (omega arith))

-- the byte at a weight of a number, told whether it is below 0, and its size
unfoldable pub signed_at : Bool → ℕ → ℕ → ℕ
signed_at below size w = cond (below && ltb size w && leb w (10 * size)) 45 (digit_at size w)

-- the last eight bytes
unfoldable pub signed_columns : Bool → ℕ → List ℕ
signed_columns below size = map (signed_at below size) weights

pub figure_long : (z : ℤ) → length (figure z) ≡ 10
unfolding figure
figure_long z = refl

-- a figure of at most eight digits by its sign and its size: a space comes first
pub by_sign : (z : ℤ) → nat_abs z < 100000000
    → 32 ∷ signed_at (lt_z z (pos 0)) (nat_abs z) 100000000 ∷ signed_columns (lt_z z (pos 0)) (nat_abs z) ≡ figure z
unfolding signed_columns signed_at figure figure_at
by_sign (pos v) h =
    let first : digit_at v 1000000000 ≡ 32 = no_digit v h in
    rw (le-ltb v 0 (omega arith), first)
by_sign (negsuc m) h =
    let first : digit_at (suc m) 1000000000 ≡ 32 = no_digit (suc m) h in
    rw (lt-leb 1000000000 (10 * suc m) (omega arith), and_false (ltb (suc m) 1000000000), first)

module _ (below : Bool) (size : ℕ) where
  pub columns_long : length (signed_columns below size) ≡ 8
  unfolding signed_columns
  columns_long = refl

  pub column_at : (i : ℕ) → i < 8 → get_or (signed_columns below size) i 0 ≡ signed_at below size (get_or weights i 0)
  unfolding signed_columns
  column_at i h = map_entry (signed_at below size) weights i h

  entry : (i : ℕ) → i < 8 → get_or (signed_columns below size) i 0 ≡ signed_at below size (get_or weights i 0)
  entry i h = column_at i h

  -- the first i columns are written: one more
  pub column_more : (out : List ℕ) (at i : ℕ) (out' : List ℕ) (b : ℕ) → i < 8 → at + 8 ≤ length out → b ≡ signed_at below size (get_or weights i 0)
      → out' ≡ paste out at (signed_columns below size) i
      → set out' (at + i) b ≡ paste out at (signed_columns below size) (i + 1)
  column_more out at i out' b h l d e =
      rw (e, d, ← entry i h, add-one i) (paste-suc out at (signed_columns below size) i 0 (omega arith) (omega (arith, columns_long)))

-- ---- what a figure says: by the weights of a field its last eight bytes are the number without its sign
minus_no_digit : (m w : ℕ) → digit_of (figure_at (negsuc m) w) ≡ digit_of (digit_at (suc m) w)
unfolding figure_at digit_at digit_of
minus_no_digit m w =
    by_bool (ltb (suc m) w && leb w (10 * suc m))
    (λ e.
    let h : suc m < w = ltb-true (suc m) w (and_left (ltb (suc m) w) (leb w (10 * suc m)) e) in
    rw (e, lt-leb w (suc m) h, ne_eqb w 1 (λ q. omega arith)))
    (λ e. rw e)

weigh_agree : (f g : ℕ → ℕ) → ((w : ℕ) → digit_of (f w) ≡ digit_of (g w)) → (ws : List ℕ) → weigh ws (map f ws) ≡ weigh ws (map g ws)
weigh_agree f g h [] = refl
weigh_agree f g h (w ∷ ws) = ap₂ (λ (x y : ℕ). w * x + y) (h w) (weigh_agree f g h ws)

plain : (v w : ℕ) → digit_of (figure_at (pos v) w) ≡ digit_of (digit_at v w)
unfolding figure_at
plain v w = refl

value_of_lem : (v : ℕ) → v < 100000000 → weigh weights (map (digit_at v) weights) ≡ v
unfolding value_of written
value_of_lem v h = value_written v h

pub figure_value : (z : ℤ) → nat_abs z < 100000000 → value_of (drop 2 (figure z)) ≡ nat_abs z
unfolding figure value_of
figure_value (pos v) h = weigh_agree (figure_at (pos v)) (digit_at v) (plain v) weights ∙ value_of_lem v h
figure_value (negsuc m) h = weigh_agree (figure_at (negsuc m)) (digit_at (suc m)) (minus_no_digit m) weights ∙ value_of_lem (suc m) h

-- ---- a minus stands in it exactly if the number is below 0
no_minus : (v w : ℕ) → digit_at v w ≡ 45 → ⊥
unfolding digit_at
no_minus v w e =
    by_bool (leb w v || eqb w 1)
    (λ d. let z : 48 + v / w % 10 ≡ 45 = rw d at e in omega arith)
    (λ d. let z : ◌≡◌ {A = ℕ} 32 45 = rw d at e in omega arith)

none_in : (f : ℕ → ℕ) (x : ℕ) → ((w : ℕ) → f w ≡ x → ⊥) → (ws : List ℕ) → count x (map f ws) ≡ 0
none_in f x h [] = refl
none_in f x h (w ∷ ws) = count_other x (f w) (map f ws) (λ e. h w (sym e)) ∙ none_in f x h ws

-- each weight is ten times the next, and the last is 1
abbrev Tens : List ℕ → Type 0
Tens [] = ⊥
Tens (w ∷ []) = w ≡ 1
Tens (w ∷ v ∷ ws) = (w ≡ 10 * v) × Tens (v ∷ ws)

minus_in : (m w : ℕ) (ws : List ℕ) → Tens (w ∷ ws) → suc m < w → In 45 (map (figure_at (negsuc m)) (w ∷ ws))
unfolding figure_at
minus_in m w [] t h = absurd (omega (arith, t))
minus_in m w (v ∷ ws) t h =
    by-leb v (suc m)
    (λ _ k.
    let e : figure_at (negsuc m) w ≡ 45 = rw (lt-ltb (suc m) w h, le-leb w (10 * suc m) (omega (arith, t.0))) in
    rw e (in_head 45 (map (figure_at (negsuc m)) (v ∷ ws))))
    (λ _ k. in_tail 45 (figure_at (negsuc m) w) (map (figure_at (negsuc m)) (v ∷ ws)) (minus_in m v ws t.1 k))

pub figure_minus : (z : ℤ) → nat_abs z < 100000000 → In 45 (figure z) ↔ (lt_z z (pos 0) ≡ true)
unfolding figure figure_at
figure_minus (pos v) h = (
  λ i. absurd (omega (arith, none_in (digit_at v) 45 (no_minus v) columns)),
  λ e. absurd (omega (arith, ltb-true v 0 e)),
)
figure_minus (negsuc m) h = (λ _. refl, λ _. minus_in m 1000000000 (100000000 ∷ weights) (refl, (refl, (refl, (refl, (refl, (refl, (refl, (refl, (refl, refl))))))))) (omega arith))

-- ---- so a figure is that of one number
same_number : (y z : ℤ) → nat_abs y ≡ nat_abs z → (lt_z y (pos 0) ≡ true → lt_z z (pos 0) ≡ true) → (lt_z z (pos 0) ≡ true → lt_z y (pos 0) ≡ true) → y ≡ z
same_number (pos a) (pos b) e f g = ap pos e
same_number (pos a) (negsuc b) e f g = absurd (omega (arith, ltb-true a 0 (g refl)))
same_number (negsuc a) (pos b) e f g = absurd (omega (arith, ltb-true b 0 (f refl)))
same_number (negsuc a) (negsuc b) e f g = ap negsuc (let d : a ≡ b = omega (arith, e) in d)

pub figure_once : (y z : ℤ) → nat_abs y < 100000000 → nat_abs z < 100000000 → figure y ≡ figure z → y ≡ z
figure_once y z h k e =
    same_number y z (sym (figure_value y h) ∙ ap (λ (l : List ℕ). value_of (drop 2 l)) e ∙ figure_value z k)
    (λ s. (figure_minus z k).0 (subst (In 45) e ((figure_minus y h).1 s)))
    (λ s. (figure_minus y h).0 (subst (In 45) (sym e) ((figure_minus z k).1 s)))

-- the first of its ten bytes is a space
pub figure_space : (z : ℤ) → nat_abs z < 100000000 → get_or (figure z) 0 0 ≡ 32
figure_space z h = ap (λ (l : List ℕ). get_or l 0 0) (sym (by_sign z h))
