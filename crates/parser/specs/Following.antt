-- The figures read one after the other, as rows and places: figure k of them comes after k others, and one that is missing is 0.
use Rattle.std.specs.Prelude.{ℕ, ◌+◌, ◌≤◌, ◌<◌, List, [], ◌∷◌, ◌++◌, map, ◌≡◌, refl, length, get_or, take, drop, set}
use Rattle.std.proofs.Common.{sym, ap, ◌∙◌, add-zero, add-one, arith, length-take, take-suc, take_all, get_or-drop, drop-drop, length-take-le}
use Rattle.std.proofs.lemmas.List.{length-map, set-get_or}
use Rattle.std.proofs.Math.ListN.{get_or-eq_default}
use Rattle.rules.specs.Choice.{padded}
use Rattle.sentences.specs.Reading.{figures_in, marked, word_of, small}
use Rattle.sentences.proofs.RoundTrip.{word_append}
use Rattle.sweep.specs.Padded.{padded_more, padded_beyond, map_append}
use Rattle.theory.specs.Tests.{by-ltb}
use Rattle.parser.specs.declared.Figure.{Figure}
use Rattle.parser.specs.declared.Places.{Places}
use Rattle.parser.specs.Figures.{FigureAt, PlacesAt}

-- the first so many figures as small numbers
abbrev pub places : List ℕ → ℕ → List ℕ
places figures many = map small (take many figures)

-- byte i comes right after the first k figures from a byte on
pub record After (bytes : List ℕ) (start k i : ℕ) : Type 0 where
  pub within : i ≤ length bytes
  pub rest : figures_in (drop i bytes) ≡ drop k (figures_in (drop start bytes))

-- no figure is read before the first byte
pub after_none : (bytes : List ℕ) (start : ℕ) → start ≤ length bytes → After bytes start 0 start
after_none bytes start h = record { within = h; rest = refl }

module _ (bytes : List ℕ) (start k i : ℕ) (a : After bytes start k i) where
  -- a figure read there
  pub figure_value : (r : Figure) → FigureAt bytes i r → r.value ≡ get_or (figures_in (drop start bytes)) k 0
  figure_value r f =
      let figures = figures_in (drop start bytes) in
      f.first ∙ ap (λ (xs : List ℕ). get_or xs 0 0) a.rest ∙ get_or-drop k figures 0 0 ∙ ap (λ (j : ℕ). get_or figures j 0) (add-zero k)

  pub after_figure : (r : Figure) → FigureAt bytes i r → After bytes start (k + 1) r.next
  after_figure r f = record { within = f.within; rest = f.rest ∙ ap (drop 1) a.rest ∙ drop-drop 1 k (figures_in (drop start bytes)) }

  -- places read there
  pub places_order : (many : ℕ) (r : Places) → PlacesAt bytes i many r → r.order ≡ padded (places (drop k (figures_in (drop start bytes))) many)
  places_order many r p = p.order ∙ ap (λ (xs : List ℕ). padded (places xs many)) a.rest

  pub after_places : (many : ℕ) (r : Places) → PlacesAt bytes i many r → After bytes start (k + many) r.next
  after_places many r p =
      record { within = p.within; rest = p.rest ∙ ap (drop many) a.rest ∙ drop-drop many k (figures_in (drop start bytes)) }

-- one figure more of the first so many: it is there, or all of them were taken before
take_more : (xs : List ℕ) (i : ℕ) → i < length xs → take (i + 1) xs ≡ take i xs ++ (get_or xs i 0 ∷ [])
take_more xs i h = rw (add-one i) (take-suc xs i 0 h)

take_none : (xs : List ℕ) (i : ℕ) → length xs ≤ i → take (i + 1) xs ≡ take i xs
take_none xs i h = take_all (i + 1) xs (omega arith) ∙ sym (take_all i xs h)

-- row 0 does not come into a word
marked_zero : (w : ℕ) → marked w 0 ≡ w
unfolding marked
marked_zero w = refl

-- a row more in the word of the first so many figures
pub word_more : (xs : List ℕ) (i : ℕ) → marked (word_of 0 (take i xs)) (get_or xs i 0) ≡ word_of 0 (take (i + 1) xs)
word_more xs i =
    by-ltb i (length xs)
    (λ e h. rw (take_more xs i h) (sym (word_append 0 (take i xs) (get_or xs i 0 ∷ []))))
    (λ e h. rw (take_none xs i h, get_or-eq_default xs 0 h) (marked_zero (word_of 0 (take i xs))))

-- there are as many small numbers as figures
long : (xs : List ℕ) (i : ℕ) → length (places xs i) ≡ length (take i xs)
long xs i = length-map (take i xs) small

-- a place more in the order of the first so many figures
pub places_more : (xs : List ℕ) (i : ℕ) → i < 64 → set (padded (places xs i)) i (small (get_or xs i 0)) ≡ padded (places xs (i + 1))
places_more xs i k =
    by-ltb i (length xs)
    (λ e h.
    let n : length (places xs i) ≡ i = long xs i ∙ length-take-le i xs (omega arith) in
    let p = padded_more (places xs i) (small (get_or xs i 0)) (omega arith) in
    rw (take_more xs i h, map_append small (take i xs) (get_or xs i 0 ∷ []))
    (ap (λ (j : ℕ). set (padded (places xs i)) j (small (get_or xs i 0))) (sym n) ∙ p))
    (λ e h.
    let n : length (places xs i) ≤ i = omega (arith, long xs i, length-take i xs) in
    let z = padded_beyond (places xs i) i (omega arith) n in
    rw (take_none xs i h, get_or-eq_default xs 0 h)
    (ap (λ (v : ℕ). set (padded (places xs i)) i v) (sym z) ∙ set-get_or (padded (places xs i)) i 0))
