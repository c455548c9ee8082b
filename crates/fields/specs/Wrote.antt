-- Writing into lent bytes: what stands before and after the bytes written stays, so that two writes, one after the other, are one.
use Rattle.std.specs.Prelude.{ℕ, suc, ◌+◌, ◌≤◌, ◌<◌, ◌≡◌, refl, List, [], ◌∷◌, ◌++◌, length, take, drop, set}
use Rattle.std.proofs.Common.{sym, ap, subst, ◌∙◌, append_assoc, append-nil, add-one, arith, length-append, length-drop, take-append-drop, take_all, take_at, drop-drop, length-take-le}
use Rattle.std.proofs.Math.Seq.{paste, append_snoc, drop-append-add}
use Rattle.std.proofs.lemmas.List.{set_split}

-- the bytes stand in out' from index at up to next, and out' is out before and after them
pub record Wrote (out : List ℕ) (at : ℕ) (out' : List ℕ) (next : ℕ) (bytes : List ℕ) : Type 0 where
  pub after : next ≡ at + length bytes
  pub room : next ≤ length out
  pub text : out' ≡ take at out ++ bytes ++ drop next out

-- what stands before the bytes, and the bytes
head_long : (out : List ℕ) (at next : ℕ) (bytes : List ℕ) → next ≡ at + length bytes → next ≤ length out → length (take at out ++ bytes) ≡ next
head_long out at next bytes a r = omega (arith, length-append (take at out) bytes, length-take-le at out (omega arith))

wrote_long : (out : List ℕ) (at : ℕ) (out' : List ℕ) (next : ℕ) (bytes : List ℕ) → Wrote out at out' next bytes → length out' ≡ length out
wrote_long out at out' next bytes w =
    ap length w.text
    ∙ omega (arith, w.room, head_long out at next bytes w.after w.room, length-append (take at out ++ bytes) (drop next out), length-drop next out)

-- nothing
pub wrote_none : (out : List ℕ) (at : ℕ) → at ≤ length out → Wrote out at out at []
wrote_none out at h =
    record { after = omega arith; room = h; text = sym (ap (λ (l : List ℕ). l ++ drop at out) (append-nil (take at out)) ∙ take-append-drop at out) }

-- one byte
pub wrote_byte : (out : List ℕ) (at b : ℕ) → at < length out → Wrote out at (set out at b) (at + 1) (b ∷ [])
wrote_byte out at b h =
    record { after = refl; room = omega arith; text = rw (add-one at) (set_split out at b h ∙ sym (append_snoc (take at out) b (drop (suc at) out))) }

-- bytes, copied one after the other
pub wrote_bytes : (out : List ℕ) (at : ℕ) (bytes out' : List ℕ) (i : ℕ) → at + length bytes ≤ length out → i ≡ length bytes → out' ≡ paste out at bytes i
    → Wrote out at out' (at + i) bytes
wrote_bytes out at bytes out' i h e p =
    record { after = rw e; room = omega arith; text = p ∙ rw (e, take_all (length bytes) bytes (omega arith)) }

-- the same bytes under another name
pub wrote_as : {out : List ℕ} {at : ℕ} {out' : List ℕ} {next : ℕ} {x y : List ℕ} → x ≡ y → Wrote out at out' next x → Wrote out at out' next y
wrote_as {out} {at} {out'} {next} e w = subst (Wrote out at out' next) e w

-- from byte 0 on: the byte after them is their count, and what stands after them is as it was
module _ {out out' : List ℕ} {next : ℕ} {bytes : List ℕ} (w : Wrote out 0 out' next bytes) where
  pub wrote_size : next ≡ length bytes
  wrote_size = omega (arith, w.after)

  pub wrote_all : out' ≡ bytes ++ drop (length bytes) out
  wrote_all = w.text ∙ ap (λ (k : ℕ). bytes ++ drop k out) wrote_size

-- first x, then y
pub wrote_then : {out : List ℕ} {at : ℕ} {out₁ : List ℕ} {mid : ℕ} {x out₂ : List ℕ} {next : ℕ} {y : List ℕ}
    → Wrote out at out₁ mid x → Wrote out₁ mid out₂ next y → Wrote out at out₂ next (x ++ y)
wrote_then {out} {at} {out₁} {mid} {x} {out₂} {next} {y} v w =
    record {
      after = omega (arith, v.after, w.after, length-append x y);
      room = omega (arith, w.room, wrote_long out at out₁ mid x v);
      text = w.text ∙ ap (λ (l : List ℕ). take mid l ++ y ++ drop next l) v.text ∙ rw (before, behind, append_assoc (take at out) x y);
    }
  where
    head : List ℕ
    head = take at out ++ x

    long : length head ≡ mid
    long = head_long out at mid x v.after v.room

    before : take mid (head ++ drop mid out) ≡ head
    before = take_at head (drop mid out) mid long

    behind : drop next (head ++ drop mid out) ≡ drop next out
    behind =
        let e : next ≡ length head + length y = omega (arith, long, w.after) in
        let f : mid + length y ≡ next = omega (arith, w.after) in
        ap (λ (n : ℕ). drop n (head ++ drop mid out)) e
        ∙ drop-append-add head (drop mid out) (length y)
        ∙ drop-drop (length y) mid out
        ∙ ap (λ (n : ℕ). drop n out) f
