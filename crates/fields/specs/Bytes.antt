-- A field as the reader walks it, byte by byte.
use Rattle.std.specs.Prelude.{ℕ, zero, Option, Some, None, suc, ◌+◌, ◌*◌, ◌≤◌, ◌<◌, true, false, List, [], ◌∷◌, ◌++◌, ◌≡◌, refl, leb, length, get_or, drop}
use Rattle.std.proofs.Common.{◌∙◌, mul-le-mul_right, add-one, arith, length-take, length-drop, leb-true, get_or-take, get_or-drop}
use Rattle.std.proofs.Math.Seq.{drop-cons}
use Rattle.std.proofs.lemmas.List.{take-append-le, drop-append-le}
use Rattle.rules.specs.Lists.{all}
use Rattle.texts.specs.Fields.{weights, digit_of, field_at}
use Rattle.theory.specs.Tests.{and_left, and_right}
use Rattle.fields.specs.Scan.{stands, scan, field_in, scan_field, digit_le}

field_long : (bytes : List ℕ) (start : ℕ) → start + 8 ≤ length bytes → length (field_at bytes start) ≡ 8
field_long bytes start h = simp (length-take, length-drop) (omega arith)

-- a field that lies within the first bytes does not depend on those after them
pub field_within : (a r : List ℕ) (start : ℕ) → start + 8 ≤ length a → field_at (a ++ r) start ≡ field_at a start
field_within a r start h =
    rw (drop-append-le start a r (omega arith)) (take-append-le 8 (drop start a) r (omega (arith, length-drop start a)))

pub field_byte : (bytes : List ℕ) (start i : ℕ) → i < 8 → get_or (field_at bytes start) i 0 ≡ get_or bytes (start + i) 0
field_byte bytes start i h = get_or-take 8 (drop start bytes) i 0 h ∙ get_or-drop start bytes i 0

-- the field at byte start from its byte i on, with the value so far
abbrev pub rest : List ℕ → ℕ → ℕ → ℕ → Option ℕ
rest bytes start i v = scan v (drop i weights) (drop i (field_at bytes start))

module _ (bytes : List ℕ) (start i v : ℕ) (h : start + 8 ≤ length bytes) (k : i < 8) where
  pub byte_go : stands v (get_or weights i 0) (get_or bytes (start + i) 0) ≡ true
      → rest bytes start i v ≡ rest bytes start (i + 1) (v + get_or weights i 0 * digit_of (get_or bytes (start + i) 0))
  unfolding scan
  byte_go e =
      let l = field_long bytes start h in
      rw (add-one, drop-cons weights i 0 k, drop-cons (field_at bytes start) i 0 (omega arith), field_byte bytes start i k, e)

  pub byte_stop : stands v (get_or weights i 0) (get_or bytes (start + i) 0) ≡ false → rest bytes start i v ≡ None
  unfolding scan
  byte_stop e =
      let l = field_long bytes start h in
      rw (drop-cons weights i 0 k, drop-cons (field_at bytes start) i 0 (omega arith), field_byte bytes start i k, e)

pub byte_end : (bytes : List ℕ) (start i v : ℕ) → i ≡ 8 → rest bytes start i v ≡ Some v
unfolding scan
byte_end bytes start i v e = rw e

pub byte_start : (bytes : List ℕ) (start : ℕ) → start + 8 ≤ length bytes → rest bytes start 0 0 ≡ field_in (field_at bytes start)
byte_start bytes start h = scan_field (field_at bytes start) (field_long bytes start h)

-- an entry of a list whose entries are all at most m
bounded : (m i : ℕ) (xs : List ℕ) → all (λ x. leb x m) xs ≡ true → get_or xs i 0 ≤ m
bounded m i [] e = omega arith
bounded m zero (x ∷ xs) e = leb-true x m (and_left (leb x m) (all (λ y. leb y m) xs) e)
bounded m (suc i) (x ∷ xs) e = bounded m i xs (and_right (leb x m) (all (λ y. leb y m) xs) e)

-- what a byte adds is at most nine times the greatest weight
pub adds_le : (i b : ℕ) → get_or weights i 0 * digit_of b ≤ 90000000
adds_le i b = omega (arith, mul-le-mul_right (digit_of b) (bounded 10000000 i weights refl), digit_le b)
