-- Of an input that is not longer than the bytes kept, all are kept.
use Rattle.std.proofs.Common.{ℕ, ◌≡◌, List, length, take, min, sym, ap, ◌∙◌, arith, take_all}
use Rattle.texts.specs.Sheets.{read_of}
use Rattle.theory.specs.Tests.{by-leb}
use Rattle.text.proofs.read_kept.Goals as goal

kept : (xs : List ℕ) (k m : ℕ) → m ≡ min (length xs) k → take m xs ≡ take k xs
kept xs k m e =
    by-leb (length xs) k
    (λ _ h. take_all m xs (omega arith) ∙ sym (take_all k xs h))
    (λ _ h. ap (λ (n : ℕ). take n xs) (let f : m ≡ k = omega arith in f))

pub returns : goal.returns
returns c = c.read.ensures ∙ ap read_of (kept c.args.input.now 3170 c.min.result c.min.ensures)
