-- A field read byte by byte, and that this is what a well-formed field is: its bytes are those of its value, written.
use Rattle.std.specs.Prelude.{ℕ, zero, Option, Some, None, suc, ◌+◌, ◌*◌, ◌/◌, ◌%◌, ◌^◌, ◌≤◌, ◌<◌, Bool, true, false, cond, ◌&&◌, ◌||◌, List, [], ◌∷◌, map, ◌≡◌, refl, eqb, leb, ltb, length}
use Rattle.std.proofs.Common.{ap, ◌∙◌, mul-le-mul_left, add-mul, mul_comm, mul_assoc, zero-mul, pow-suc, arith, lt-ltb, le-leb, eq-eqb, ne_eqb}
use Rattle.std.proofs.Math.Nat.{mul-add-div_right, div-eq_of_lt, mul-le-mul_right}
use Rattle.std.proofs.lemmas.Bool.{lt-leb}
use Rattle.std.specs.Option.{is_some}
use Rattle.rules.specs.Lists.{same}
use Rattle.texts.specs.Fields.{weights, digit_at, written, digit_of, weigh, value_of, is_field}
use Rattle.theory.specs.Tests.{by_bool, by-ltb, by-leb, by_eqb}

abbrev pub is_digit : ℕ → Bool
is_digit b = leb 48 b && leb b 57

-- byte b may stand at weight w after digits of value v: a digit once digits have begun and at the last place,
-- before that a space or a digit from 1 on
unfoldable pub stands : ℕ → ℕ → ℕ → Bool
stands v w b = cond (ltb 0 v || eqb w 1) (is_digit b) (eqb b 32 || (leb 49 b && leb b 57))

-- the field read from the left: v is the value so far
unfoldable pub scan : ℕ → List ℕ → List ℕ → Option ℕ
scan v [] bs = Some v
scan v (w ∷ ws) [] = None
scan v (w ∷ ws) (b ∷ bs) = cond (stands v w b) (scan (v + w * digit_of b) ws bs) None

-- what a field of eight bytes is, by the rules' definitions
unfoldable pub field_in : List ℕ → Option ℕ
field_in f = cond (is_field f) (Some (value_of f)) None

eq_zero : {n : ℕ} → n ≤ 0 → n ≡ 0
eq_zero h = omega arith

or_true : (a : Bool) → (a || true) ≡ true
or_true true = refl
or_true false = refl

pub digit_le : (b : ℕ) → digit_of b ≤ 9
unfolding digit_of
digit_le b =
    by-leb 48 b
    (λ e h. by-leb b 57 (λ e' h'. rw (e, e') (omega arith)) (λ e' h'. rw (e, e') (omega arith)))
    (λ e h. rw e (omega arith))

-- a byte is byte 48 plus what it adds exactly if it is a digit
a_digit : (b x : ℕ) → x ≡ 48 + digit_of b → is_digit b ≡ eqb b x
unfolding digit_of
a_digit b x q =
    by-leb 48 b
    (λ e h.
    by-leb b 57
    (λ e' h'. let d = rw (e, e') at q in rw (e, e', eq-eqb b x (omega arith)))
    (λ e' h'. let d = rw (e, e') at q in rw (e, e', ne_eqb b x (λ z. omega arith))))
    (λ e h. let d = rw e at q in rw (e, ne_eqb b x (λ z. omega arith)))

-- a byte that adds something is a digit from 1 on
first_digit : (b x : ℕ) → 1 ≤ digit_of b → x ≡ 48 + digit_of b → (eqb b 32 || (leb 49 b && leb b 57)) ≡ eqb b x
unfolding digit_of
first_digit b x p q =
    by-leb 48 b
    (λ e h.
    by-leb b 57
    (λ e' h'.
    let d = rw (e, e') at q in
    let d' = rw (e, e') at p in
    rw (ne_eqb b 32 (λ z. omega arith), le-leb 49 b (omega arith), e', eq-eqb b x (omega arith)))
    (λ e' h'. let d' = rw (e, e') at p in absurd (omega arith)))
    (λ e h. let d' = rw e at p in absurd (omega arith))

-- a byte that adds nothing stands before the first digit only as a space
blank : (b : ℕ) → digit_of b ≡ 0 → (eqb b 32 || (leb 49 b && leb b 57)) ≡ eqb b 32
unfolding digit_of
blank b q =
    by_eqb b 32
    (λ e h. rw e)
    (λ e h.
    by-leb 49 b
    (λ e' h'.
    by-leb b 57
    (λ e'' h''. let d = rw (le-leb 48 b (omega arith), e'') at q in absurd (omega arith))
    (λ e'' h''. rw (e, e', e'')))
    (λ e' h'. rw (e, e')))

-- ---- one place: u counts the weight's multiples so far, rest is what the lower places add
module _ (u w b rest v total : ℕ) (p : 1 ≤ w) (low : rest < w) (tens : u % 10 ≡ 0) (so : v ≡ u * w) (whole : total ≡ (u + digit_of b) * w + rest) where
  quotient : total / w ≡ u + digit_of b
  quotient = ap (λ (x : ℕ). x / w) whole ∙ mul-add-div_right p (u + digit_of b) rest ∙ omega (arith, div-eq_of_lt low)

  digit_there : total / w % 10 ≡ digit_of b
  digit_there = ap (λ (x : ℕ). x % 10) quotient ∙ omega (arith, digit_le b)

  shown : (leb w total || eqb w 1) ≡ true → digit_at total w ≡ 48 + digit_of b
  unfolding digit_at
  shown e = rw (e, digit_there)

  hidden : (leb w total || eqb w 1) ≡ false → digit_at total w ≡ 32
  unfolding digit_at
  hidden e = rw e

  reached : 1 ≤ u + digit_of b → leb w total ≡ true
  reached h = le-leb w total (omega (arith, mul-le-mul_right w h))

  pub stands_is : stands v w b ≡ eqb b (digit_at total w)
  unfolding stands
  stands_is =
      by-ltb 0 u
      (λ e h.
      let s : digit_at total w ≡ 48 + digit_of b = shown (rw (reached (omega arith))) in
      rw (lt-ltb 0 v (omega (arith, mul-le-mul_right w h))) (a_digit b (digit_at total w) s))
      (λ e h.
      let z : v ≡ 0 = so ∙ rw (eq_zero h, zero-mul) in
      by_eqb w 1
      (λ e' h'.
      let s : digit_at total w ≡ 48 + digit_of b = shown (rw e' (or_true (leb w total))) in
      rw (z, e') (a_digit b (digit_at total w) s))
      (λ e' h'.
      by-ltb 0 (digit_of b)
      (λ e'' h''.
      let s : digit_at total w ≡ 48 + digit_of b = shown (rw (reached (omega arith))) in
      rw (z, e') (first_digit b (digit_at total w) h'' s))
      (λ e'' h''.
      let d = eq_zero h'' in
      let r : total ≡ rest = whole ∙ rw (eq_zero h, d, zero-mul) (omega arith) in
      let s : digit_at total w ≡ 32 = hidden (rw (lt-leb w total (omega arith), e')) in
      rw (z, e', s) (blank b d))))

-- ---- the whole field
-- the weights of k places: powers of ten
abbrev pub powers : ℕ → List ℕ
powers zero = []
powers (suc k) = 10 ^ k ∷ powers k

-- k places weigh less than one unit of the place above them
weigh_lt : (k : ℕ) (bs : List ℕ) → weigh (powers k) bs < 10 ^ k
weigh_lt zero bs = omega arith
weigh_lt (suc k) [] = omega (arith, pow-suc 10 k, weigh_lt k [])
weigh_lt (suc k) (b ∷ bs) = omega (arith, pow-suc 10 k, weigh_lt k bs, mul-le-mul_left (10 ^ k) (digit_le b))

-- after a value v that is a multiple of the place above, what is left of the field is scanned as it is written
pub scan_is : (k q v total : ℕ) (bs : List ℕ) → length bs ≡ k → v ≡ q * 10 ^ k → total ≡ v + weigh (powers k) bs
    → scan v (powers k) bs ≡ cond (same bs (map (digit_at total) (powers k))) (Some total) None
unfolding scan
scan_is zero q v total [] l s e = ap Some (omega arith)
scan_is zero q v total (b ∷ bs) l s e = absurd (omega arith)
scan_is (suc k) q v total [] l s e = absurd (omega arith)
scan_is (suc k) q v total (b ∷ bs) l s e =
    let w = 10 ^ k in
    let so : v ≡ q * 10 * w = s ∙ rw pow-suc (rw (mul_comm (10 ^ k) 10, mul_assoc)) in
    let next : v + w * digit_of b ≡ (q * 10 + digit_of b) * w = rw (so, mul_comm w (digit_of b), add-mul) in
    let whole : total ≡ (q * 10 + digit_of b) * w + weigh (powers k) bs = e ∙ omega (arith, next) in
    let st = stands_is (q * 10) w b (weigh (powers k) bs) v total (omega (arith, weigh_lt k bs)) (weigh_lt k bs) (omega arith) so whole in
    let ih = scan_is k (q * 10 + digit_of b) (v + w * digit_of b) total bs (omega arith) next (e ∙ omega arith) in
    rw st (by_bool (eqb b (digit_at total w)) (λ t. rw t ih) (λ t. rw t))

-- reading from the left finds exactly the well-formed fields, with their values
pub scan_field : (f : List ℕ) → length f ≡ 8 → scan 0 weights f ≡ field_in f
unfolding field_in is_field written value_of
scan_field f l = scan_is 8 0 0 (weigh weights f) f l refl (omega arith)

-- what an answer says of the field
pub is_number : (f : List ℕ) (n : ℕ) → field_in f ≡ Some n → is_field f ≡ true
unfolding field_in
is_number f n e =
    by_bool (is_field f)
    (λ t. t)
    (λ t. let e' = rw t at e in let z : ◌≡◌ {A = ℕ} 0 1 = cc in absurd (omega arith))

pub is_value : (f : List ℕ) (n : ℕ) → field_in f ≡ Some n → n ≡ value_of f
unfolding field_in
is_value f n e = let e' = rw (is_number f n e) at e in cc

pub is_bad : (f : List ℕ) → field_in f ≡ None → is_field f ≡ false
unfolding field_in
is_bad f e =
    by_bool (is_field f)
    (λ t. let e' = rw t at e in let z : ◌≡◌ {A = ℕ} 0 1 = cc in absurd (omega arith))
    (λ t. t)

-- there is a number exactly where the field is well formed
pub some_is : (f : List ℕ) → is_some (field_in f) ≡ is_field f
unfolding field_in
some_is f = by_bool (is_field f) (λ t. rw t) (λ t. rw t)

pub some_value : (f : List ℕ) → is_field f ≡ true → field_in f ≡ Some (value_of f)
unfolding field_in
some_value f t = rw t
