-- A sentence composed into bytes that are enough for it: it stands at their start, and its length is told.
use Rattle.std.specs.Prelude.{ℕ, ◌≤◌, List, ◌++◌, ◌≡◌, length, take, drop}
use Rattle.std.proofs.Common.{sym, ap, ◌∙◌, arith, length-append, le-ltb}
use Rattle.std.proofs.Math.Seq.{take-append_seam}
use Rattle.rules.specs.declared.Writing.{Writing}
use Rattle.texts.specs.Lent.{check_room}
use Rattle.sentences.specs.Sentences.{compose_of}

module _ (sentence lent : List ℕ) (h : length sentence ≤ length lent) where
  told_size : (compose_of sentence lent).said.size ≡ length sentence
  unfolding compose_of check_room
  told_size = rw (le-ltb (length lent) (length sentence) h)

  told_bytes : (compose_of sentence lent).bytes ≡ sentence ++ drop (length sentence) lent
  unfolding compose_of check_room
  told_bytes = rw (le-ltb (length lent) (length sentence) h)

  module _ (said : Writing) (made : List ℕ) (e : said ≡ (compose_of sentence lent).said) (f : made ≡ (compose_of sentence lent).bytes) where
    pub made_within : said.size ≤ length made
    made_within =
        omega (arith, ap (λ (w : Writing). w.size) e, told_size, ap length (f ∙ told_bytes), length-append sentence (drop (length sentence) lent))

    pub made_front : take said.size made ≡ sentence
    made_front =
        ap (λ (k : ℕ). take k made) (ap (λ (w : Writing). w.size) e ∙ told_size)
        ∙ ap (take (length sentence)) (f ∙ told_bytes)
        ∙ take-append_seam sentence (drop (length sentence) lent)

    pub made_long : said.size ≡ length (take said.size made)
    made_long = ap (λ (w : Writing). w.size) e ∙ told_size ∙ sym (ap length made_front)
