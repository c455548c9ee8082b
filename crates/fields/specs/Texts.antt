-- Writing into a text: its lent bytes, and the byte that it goes on at.
use Rattle.std.specs.Prelude.{ℕ, ◌+◌, ◌≤◌, ◌<◌, ◌≡◌, refl, List, [], ◌∷◌, ◌++◌, length, get_or, take}
use Rattle.std.proofs.Common.{sym, ap, subst, ◌∙◌, add-one, append-nil, take-suc}
use Rattle.rules.specs.Lists.{joined}
use Rattle.fields.specs.declared.Text.{Text}
use Rattle.fields.specs.Lengths.{joined_append}
use Rattle.fields.specs.Wrote.{Wrote, wrote_none, wrote_then}

-- the bytes stand where the text went on, and it goes on after them; its lent bytes are the same memory, and as many
pub record Puts (old new : Text) (bytes : List ℕ) : Type 0 where
  pub same : new.out.ghost_name ≡ old.out.ghost_name
  pub long : length new.out.now ≡ length old.out.now
  pub wrote : Wrote old.out.now old.at new.out.now new.at bytes

-- nothing
pub puts_none : (a : Text) → a.at ≤ length a.out.now → Puts a a []
puts_none a h = record { same = refl; long = refl; wrote = wrote_none a.out.now a.at h }

-- first x, then y
pub puts_then : {a b c : Text} {x y : List ℕ} → Puts a b x → Puts b c y → Puts a c (x ++ y)
puts_then v w = record { same = w.same ∙ v.same; long = w.long ∙ v.long; wrote = wrote_then v.wrote w.wrote }

-- the same bytes under another name
pub puts_as : {a b : Text} {x y : List ℕ} → x ≡ y → Puts a b x → Puts a b y
puts_as {a} {b} e w = subst (Puts a b) e w

-- of the first bytes of a list one more
pub puts_more : {a b c : Text} {x : ℕ} (l : List ℕ) (i : ℕ) → i < length l → x ≡ get_or l i 0 → Puts a b (take i l) → Puts b c (x ∷ [])
    → Puts a c (take (i + 1) l)
puts_more l i h e v w = puts_as (rw (add-one i, take-suc l i 0 h, e) refl) (puts_then v w)

-- what comes of the first entries of a list, and of one entry more
pub puts_piece : {a b c : Text} (f : ℕ → List ℕ) (l : List ℕ) (i : ℕ) → i < length l → Puts a b (joined f (take i l)) → Puts b c (f (get_or l i 0))
    → Puts a c (joined f (take (i + 1) l))
puts_piece f l i h v w =
    puts_as (
    ap (λ (x : List ℕ). joined f (take i l) ++ x) (sym (append-nil (f (get_or l i 0))))
    ∙ sym (joined_append f (take i l) (get_or l i 0 ∷ []))
    ∙ rw (add-one i, take-suc l i 0 h) refl
    )
    (puts_then v w)
