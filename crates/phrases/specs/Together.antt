-- Texts one after the other: how long they are together, and the last of them as it is written.
use Rattle.std.specs.Prelude.{ℕ, ◌+◌, List, [], ◌∷◌, ◌≡◌, refl, length}
use Rattle.std.proofs.Common.{append-nil, sym, arith, length-append}
use Rattle.texts.specs.Quoted.{together}
use Rattle.fields.specs.Wrote.{Wrote, wrote_as}
use Rattle.fields.specs.Texts.{Puts, puts_as}
use Rattle.fields.specs.declared.Text.{Text}

-- the lengths of texts, added up
abbrev pub sizes : List (List ℕ) → ℕ
sizes [] = 0
sizes (t ∷ ts) = length t + sizes ts

pub together_long : (ts : List (List ℕ)) → length (together ts) ≡ sizes ts
together_long [] = refl
together_long (t ∷ ts) = omega (arith, length-append t (together ts), together_long ts)

-- the last text; nothing comes after it
pub wrote_last : {out : List ℕ} {at : ℕ} {out' : List ℕ} {next : ℕ} {t : List ℕ} → Wrote out at out' next t → Wrote out at out' next (together (t ∷ []))
wrote_last {out} {at} {out'} {next} {t} w = wrote_as (sym (append-nil t)) w

-- the same of a text that is written into
pub puts_last : {a b : Text} {t : List ℕ} → Puts a b t → Puts a b (together (t ∷ []))
puts_last {t = t} w = puts_as (sym (append-nil t)) w
