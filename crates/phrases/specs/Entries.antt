-- The first entries of an array, as a list of them has them; and a list of one entry or more: the first, and those after it.
use Rattle.std.specs.Prelude.{ℕ, zero, suc, ◌+◌, ◌-◌, ◌≤◌, ◌<◌, List, [], ◌∷◌, ◌≡◌, refl, length, get_or, take, drop}
use Rattle.std.proofs.Common.{sym, ap, ◌∙◌, arith, length-drop, length-take-le, get_or-take, get_or-drop, take_all}
use Rattle.rules.specs.Lists.{joined}
use Rattle.texts.specs.Decimals.{decimal}
use Rattle.texts.specs.Quoted.{bytes, together}
use Rattle.sentences.specs.Sentences.{item, listed}
use Rattle.phrases.specs.Together.{together_long}

-- one entry or more: the first, and those after it
pub listed_some : (opening entries : List ℕ) (many : ℕ) → 1 ≤ many → many ≤ length entries
    → listed opening (take many entries) ≡ together (opening ∷ decimal (get_or entries 0 0) ∷ joined item (drop 1 (take many entries)) ∷ bytes ")" ∷ [])
listed_some opening [] many h k = absurd (omega arith)
listed_some opening (x ∷ xs) zero h k = absurd (omega arith)
listed_some opening (x ∷ xs) (suc k) h n = refl

-- an entry after the first, counted from the second
module _ (entries : List ℕ) (many i : ℕ) (some : 1 ≤ i) (before : i < many) (within : many ≤ length entries) where
  pub later_there : i - 1 < length (drop 1 (take many entries))
  later_there = omega (arith, length-drop 1 (take many entries), length-take-le many entries within)

  pub later_entry : get_or (drop 1 (take many entries)) (i - 1) 0 ≡ get_or entries i 0
  later_entry =
      let e : 1 + (i - 1) ≡ i = omega arith in
      get_or-drop 1 (take many entries) (i - 1) 0 ∙ ap (λ (j : ℕ). get_or (take many entries) j 0) e ∙ get_or-take many entries i 0 before

-- the entries after the first
abbrev pub later : List ℕ → List ℕ
later xs = take (length xs - 1) (drop 1 xs)

-- a list as it is written, by its entries
pub listed_whole : (opening xs : List ℕ) → 1 ≤ length xs
    → listed opening xs ≡ together (opening ∷ decimal (get_or xs 0 0) ∷ joined item (later xs) ∷ bytes ")" ∷ [])
listed_whole opening [] h = absurd (omega arith)
listed_whole opening (x ∷ xs) h =
    ap (λ (ys : List ℕ). together (opening ∷ decimal x ∷ joined item ys ∷ bytes ")" ∷ [])) (sym (take_all (length (x ∷ xs) - 1) xs (omega arith)))

-- how long the parts are together
pub parts_long : (opening xs : List ℕ) → 1 ≤ length xs
    → length (listed opening xs) ≡ length opening + (length (decimal (get_or xs 0 0)) + (length (joined item (later xs)) + 1))
parts_long opening xs h =
    omega (arith, ap length (listed_whole opening xs h), together_long (opening ∷ decimal (get_or xs 0 0) ∷ joined item (later xs) ∷ bytes ")" ∷ []))
