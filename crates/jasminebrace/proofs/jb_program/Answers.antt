-- The text is written over zeros, so that zeros stand after it.
use Rattle.std.proofs.Common.{ℕ, List, ◌++◌, length, ap, ◌∙◌}
use Rattle.texts.specs.Program.{program_text}
use Rattle.jasminebrace.specs.Zeros.{drop_zeros}
use Rattle.jasminebrace.proofs.jb_program.Goals as goal

pub returns : goal.returns
returns c =
    let w = program_text c.args.input.now in
    (c.program.ensures.size, c.program.ensures.text ∙ ap (λ (l : List ℕ). w ++ l) (drop_zeros (length w) 1617))
