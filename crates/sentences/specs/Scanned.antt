-- Which figures stand in a text: none in words, and in a number in decimal that number.
use Rattle.std.specs.Prelude.{ℕ, zero, suc, ◌+◌, ◌*◌, ◌/◌, ◌%◌, ◌^◌, ◌≤◌, ◌<◌, Bool, true, false, not, List, [], ◌∷◌, ◌++◌, ◌≡◌, refl, leb}
use Rattle.std.proofs.Math.Bool.{or-true}
use Rattle.std.proofs.Common.{true≢false, append_assoc, append-nil, sym, ap, ap₂, ◌∙◌, div-one, div-le_self, pow-suc, arith, le-leb, ne_eqb}
use Rattle.std.proofs.Math.Nat.{div-eq_of_lt, div-div-eq-div-mul, min-eq_left}
use Rattle.std.proofs.lemmas.Bool.{lt-leb}
use Rattle.rules.specs.Lists.{all, joined}
use Rattle.texts.specs.Decimals.{has_digit, digit_if, decimal}
use Rattle.texts.specs.Fields.{digit_of}
use Rattle.theory.specs.Tests.{by_bool, by-leb, and_left, and_right, not_is}
use Rattle.decimals.specs.Decimal.{digit_none}
use Rattle.fields.specs.Scan.{powers}
use Rattle.fields.specs.Values.{digit_back}
use Rattle.sentences.specs.Reading.{is_digit, grown, scan, figures_in}

-- ---- one byte
pub scan_digit : (begun : Bool) (v b : ℕ) (bs : List ℕ) → is_digit b ≡ true → scan begun v (b ∷ bs) ≡ scan true (grown v b) bs
unfolding scan
scan_digit false v b bs e = rw e
scan_digit true v b bs e = rw e

pub scan_other : (b : ℕ) (bs : List ℕ) → is_digit b ≡ false → figures_in (b ∷ bs) ≡ figures_in bs
unfolding scan
scan_other b bs e = rw e

-- what comes next is no digit, so that a figure ends here
abbrev pub stops : List ℕ → Bool
stops [] = true
stops (b ∷ bs) = not (is_digit b)

scan_stop : (v : ℕ) (rest : List ℕ) → stops rest ≡ true → scan true v rest ≡ v ∷ figures_in rest
unfolding scan
scan_stop v [] e = refl
scan_stop v (b ∷ bs) e = let d = not_is (is_digit b) e in rw d

-- ---- words
-- no byte of it is a digit
abbrev pub plain : List ℕ → Bool
plain bs = all (λ b. not (is_digit b)) bs

pub scan_plain : (t rest : List ℕ) → plain t ≡ true → figures_in (t ++ rest) ≡ figures_in rest
scan_plain [] rest e = refl
scan_plain (b ∷ t) rest e =
    scan_other b (t ++ rest) (not_is (is_digit b) (and_left (not (is_digit b)) (plain t) e))
    ∙ scan_plain t rest (and_right (not (is_digit b)) (plain t) e)

-- ---- a number
pub a_digit : (d : ℕ) → d ≤ 9 → is_digit (48 + d) ≡ true
a_digit d h = rw (le-leb 48 (48 + d) (omega arith), le-leb (48 + d) 57 (omega arith))

-- a digit more of a number that 32 bits hold
grown_digit : (v w q : ℕ) → v ≤ 4294967295 → q ≡ v / w / 10 → grown q (48 + v / w % 10) ≡ v / w
unfolding grown
grown_digit v w q h e =
    let d = digit_back (v / w % 10) (omega arith) in
    let s : 10 * q + digit_of (48 + v / w % 10) ≡ v / w = rw d (omega arith) in
    rw s (min-eq_left (omega (arith, div-le_self v w)))

pub powers_some : (j : ℕ) → 1 ≤ 10 ^ j
powers_some zero = omega arith
powers_some (suc j) = omega (arith, pow-suc 10 j, powers_some j)

-- before its first digit a number is below the weight
none_below : (v w : ℕ) → has_digit v w ≡ false → v < w
none_below v w e = by-leb w v (λ f h. absurd (true≢false (rw f at e))) (λ f h. h)

-- before its first digit a number has none at any higher weight either
none_above : (v j : ℕ) → has_digit v (10 ^ j) ≡ false → has_digit v (10 ^ suc j) ≡ false
none_above v j e =
    rw (
      lt-leb (10 ^ suc j) v (omega (arith, pow-suc 10 j, none_below v (10 ^ j) e)),
      ne_eqb (10 ^ suc j) 1 (λ z. omega (arith, pow-suc 10 j, powers_some j)),
    )

pub digit_here : (v w : ℕ) → has_digit v w ≡ true → digit_if v w ≡ (48 + v / w % 10) ∷ []
unfolding digit_if
digit_here v w e = rw e

-- the digits at the k lowest places, after what the places above come to
digits_scan : (v k : ℕ) (begun : Bool) (rest : List ℕ) → v ≤ 4294967295 → begun ≡ has_digit v (10 ^ k)
    → scan begun (v / 10 ^ k) (joined (digit_if v) (powers k) ++ rest) ≡ scan true v rest
digits_scan v zero begun rest h e =
    ap (λ (b : Bool). scan b (v / 1) rest) (e ∙ or-true (leb 1 v)) ∙ ap (λ (x : ℕ). scan true x rest) (div-one v)
digits_scan v (suc j) begun rest h e =
    let w = 10 ^ j in
    let lower = joined (digit_if v) (powers j) in
    let above : v / 10 ^ suc j ≡ v / w / 10 = rw (pow-suc 10 j) (sym (div-div-eq-div-mul v w 10)) in
    by_bool (has_digit v w)
    (λ f.
    let one : joined (digit_if v) (powers (suc j)) ++ rest ≡ (48 + v / w % 10) ∷ (lower ++ rest) = rw (digit_here v w f) in
    ap (scan begun (v / 10 ^ suc j)) one
    ∙ scan_digit begun (v / 10 ^ suc j) (48 + v / w % 10) (lower ++ rest) (a_digit (v / w % 10) (omega arith))
    ∙ ap (λ (x : ℕ). scan true x (lower ++ rest)) (grown_digit v w (v / 10 ^ suc j) h above)
    ∙ digits_scan v j true rest h (sym f))
    (λ f.
    let none : joined (digit_if v) (powers (suc j)) ++ rest ≡ lower ++ rest = rw (digit_none v w f) in
    let zeros : v / 10 ^ suc j ≡ v / w = omega (arith, above, div-eq_of_lt {n = v} {m = w} (none_below v w f)) in
    ap (scan begun (v / 10 ^ suc j)) none
    ∙ ap₂ (λ (b : Bool) (x : ℕ). scan b x (lower ++ rest)) (e ∙ none_above v j f) zeros
    ∙ digits_scan v j false rest h (sym f))

-- a number that 32 bits hold, where no digit follows
pub scan_decimal : (v : ℕ) (rest : List ℕ) → v ≤ 4294967295 → stops rest ≡ true → figures_in (decimal v ++ rest) ≡ v ∷ figures_in rest
unfolding decimal
scan_decimal v rest h e =
    ap (λ (x : ℕ). scan false x (joined (digit_if v) (powers 10) ++ rest)) (sym (div-eq_of_lt {n = v} {m = 10000000000} (omega arith)))
    ∙ digits_scan v 10 false rest h (sym (rw (lt-leb 10000000000 v (omega arith))))
    ∙ scan_stop v rest e

-- ---- texts one after the other
-- a text with these figures, whatever comes after it
pub record Tells (t figures : List ℕ) : Type 0 where
  pub tells : (rest : List ℕ) → figures_in (t ++ rest) ≡ figures ++ figures_in rest

pub tells_plain : (t : List ℕ) → plain t ≡ true → Tells t []
tells_plain t e = record { tells = λ rest. scan_plain t rest e }

pub tells_then : {t u figures more : List ℕ} → Tells t figures → Tells u more → Tells (t ++ u) (figures ++ more)
tells_then {t} {u} {figures} {more} f g =
    record {
      tells = λ rest.
          ap figures_in (append_assoc t u rest)
          ∙ f.tells (u ++ rest)
          ∙ ap (λ (l : List ℕ). figures ++ l) (g.tells rest)
          ∙ sym (append_assoc figures more (figures_in rest));
    }

-- a number and a text after it, the first byte of which is no digit
pub tells_figure : {t figures : List ℕ} (v : ℕ) → v ≤ 4294967295 → ((rest : List ℕ) → stops (t ++ rest) ≡ true) → Tells t figures → Tells (decimal v ++ t) (v ∷ figures)
tells_figure {t} {figures} v h s f =
    record {
      tells = λ rest.
          ap figures_in (append_assoc (decimal v) t rest) ∙ scan_decimal v (t ++ rest) h (s rest) ∙ ap (λ (l : List ℕ). v ∷ l) (f.tells rest);
    }

-- all figures of a text
pub tells_all : {t figures : List ℕ} → Tells t figures → figures_in t ≡ figures
unfolding scan
tells_all {t} {figures} f = ap figures_in (sym (append-nil t)) ∙ f.tells [] ∙ append-nil figures
