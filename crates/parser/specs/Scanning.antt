-- The bytes walked from one figure to the next: what the walk has found so far, and the figure that it ends with.
use Rattle.std.specs.Prelude.{ℕ, ◌+◌, ◌≤◌, ◌<◌, Bool, true, false, List, [], ◌∷◌, ◌≡◌, refl, length, get_or, drop}
use Rattle.std.proofs.Common.{sym, ap, ◌∙◌, add-one, arith, drop_of_length-le, drop-cons}
use Rattle.sentences.specs.Reading.{is_digit, grown, scan, figures_in}
use Rattle.sentences.specs.Scanned.{scan_digit}
use Rattle.parser.specs.Figures.{FigureAt}

-- the walk from a byte on has come to byte i: a figure has begun or not, its value so far is 0 where it has not, and the figures are those of the scan
-- from byte i on
pub record Scanned (bytes : List ℕ) (start : ℕ) (begun : Bool) (value i : ℕ) : Type 0 where
  pub within : i ≤ length bytes
  pub none : begun ≡ false → value ≡ 0
  pub figures : scan begun value (drop i bytes) ≡ figures_in (drop start bytes)

-- it starts with no figure begun
pub scan_start : (bytes : List ℕ) (start : ℕ) → start ≤ length bytes → Scanned bytes start false 0 start
scan_start bytes start h = record { within = h; none = λ e. refl; figures = refl }

-- one byte of a scan that is no digit: after a figure, and before one
scan_after : (v b : ℕ) (bs : List ℕ) → is_digit b ≡ false → scan true v (b ∷ bs) ≡ v ∷ figures_in bs
unfolding scan
scan_after v b bs e = rw e

scan_before : (v b : ℕ) (bs : List ℕ) → is_digit b ≡ false → scan false v (b ∷ bs) ≡ figures_in bs
unfolding scan
scan_before v b bs e = rw e

module _ (bytes : List ℕ) (start value i : ℕ) (h : i < length bytes) where
  -- the bytes from byte i on
  here : drop i bytes ≡ get_or bytes i 0 ∷ drop (i + 1) bytes
  here = drop-cons bytes i 0 h ∙ ap (λ (k : ℕ). get_or bytes i 0 ∷ drop k bytes) (sym (add-one i))

  -- a digit begins a figure or makes it longer
  pub at_digit : (begun : Bool) → Scanned bytes start begun value i → is_digit (get_or bytes i 0) ≡ true
      → Scanned bytes start true (grown value (get_or bytes i 0)) (i + 1)
  at_digit begun s e =
      record {
        within = omega arith;
        none = λ z. let w : ◌≡◌ {A = ℕ} 0 1 = cc in absurd (omega arith);
        figures = sym (ap (scan begun value) here ∙ scan_digit begun value (get_or bytes i 0) (drop (i + 1) bytes) e) ∙ s.figures;
      }

  -- any other byte before a figure is passed over
  pub at_gap : (begun : Bool) → Scanned bytes start begun value i → begun ≡ false → is_digit (get_or bytes i 0) ≡ false
      → Scanned bytes start begun value (i + 1)
  at_gap true s q e = let w : ◌≡◌ {A = ℕ} 0 1 = cc in absurd (omega arith)
  at_gap false s q e =
      record {
        within = omega arith;
        none = s.none;
        figures = ap (λ (v : ℕ). scan false v (drop (i + 1) bytes)) (s.none refl)
            ∙ sym (ap (scan false value) here ∙ scan_before value (get_or bytes i 0) (drop (i + 1) bytes) e) ∙ s.figures;
      }

  -- the first byte after a figure ends it
  pub at_end : (begun : Bool) → Scanned bytes start begun value i → begun ≡ true → is_digit (get_or bytes i 0) ≡ false
      → FigureAt bytes start (record { value = value; next = i })
  at_end false s q e = let w : ◌≡◌ {A = ℕ} 0 1 = cc in absurd (omega arith)
  at_end true s q e =
      let b = get_or bytes i 0 in
      let w : figures_in (drop start bytes) ≡ value ∷ figures_in (drop (i + 1) bytes) =
      sym s.figures ∙ ap (scan true value) here ∙ scan_after value b (drop (i + 1) bytes) e in
      record {
        within = omega arith;
        first = rw w;
        rest = rw w (ap figures_in here ∙ scan_before 0 b (drop (i + 1) bytes) e);
      }

-- the end of the bytes ends a figure too
pub at_close : (bytes : List ℕ) (start : ℕ) (begun : Bool) (value i : ℕ) → length bytes ≤ i → Scanned bytes start begun value i
    → FigureAt bytes start (record { value = value; next = i })
unfolding scan
at_close bytes start true value i h s =
    let d : drop i bytes ≡ [] = drop_of_length-le bytes h in
    let w : figures_in (drop start bytes) ≡ value ∷ [] = sym s.figures ∙ ap (scan true value) d in
    record { within = s.within; first = rw w; rest = rw (w, d) }
at_close bytes start false value i h s =
    let d : drop i bytes ≡ [] = drop_of_length-le bytes h in
    let w : figures_in (drop start bytes) ≡ [] = sym s.figures ∙ ap (scan false value) d in
    record { within = s.within; first = rw w (s.none refl); rest = rw (w, d) }
