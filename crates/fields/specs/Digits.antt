-- The eight bytes of a number, one more at a time.
use Rattle.std.specs.Prelude.{ℕ, zero, suc, ◌+◌, ◌≤◌, ◌<◌, true, List, [], ◌∷◌, map, ◌≡◌, refl, leb, length, get_or, take, set}
use Rattle.std.proofs.Common.{sym, ◌∙◌, add-one, arith, leb-true, take_all, take-suc, take-suc-set}
use Rattle.theory.specs.Counts.{map_entry}
use Rattle.rules.specs.Lists.{all}
use Rattle.texts.specs.Fields.{weights, digit_at, written}
use Rattle.theory.specs.Tests.{and_left, and_right}

-- an entry of a mapped list
pub entry_map : (f : ℕ → ℕ) (l : List ℕ) (i : ℕ) → i < length l → get_or (map f l) i 0 ≡ f (get_or l i 0)
entry_map f [] i h = absurd (omega arith)
entry_map f (x ∷ l) zero h = refl
entry_map f (x ∷ l) (suc i) h = entry_map f l i (omega arith)

-- an entry of a list whose entries are all at least 1
some : (l : List ℕ) (i : ℕ) → all (leb 1) l ≡ true → i < length l → 1 ≤ get_or l i 0
some [] i e h = absurd (omega arith)
some (x ∷ l) zero e h = leb-true 1 x (and_left (leb 1 x) (all (leb 1) l) e)
some (x ∷ l) (suc i) e h = some l i (and_right (leb 1 x) (all (leb 1) l) e) (omega arith)

-- no weight is 0
pub weight_some : (i : ℕ) → i < 8 → 1 ≤ get_or weights i 0
weight_some i h = some weights i refl h

-- the field with its first i bytes written: byte i more
pub byte_more : (v i : ℕ) (field : List ℕ) → i < 8 → length field ≡ 8 → take i field ≡ take i (written v)
    → take (i + 1) (set field i (digit_at v (get_or weights i 0))) ≡ take (i + 1) (written v)
unfolding written
byte_more v i field h l e =
    rw (
      add-one,
      take-suc-set field i (digit_at v (get_or weights i 0)) (omega arith),
      take-suc (map (digit_at v) weights) i 0 h,
      map_entry (digit_at v) weights i h,
      e,
    )

-- all eight bytes written
pub bytes_all : (v i : ℕ) (field : List ℕ) → i ≡ 8 → length field ≡ 8 → take i field ≡ take i (written v) → field ≡ written v
unfolding written
bytes_all v i field q l e =
    let f : take 8 field ≡ take 8 (written v) = rw q at e in
    sym (take_all 8 field (omega arith)) ∙ f
