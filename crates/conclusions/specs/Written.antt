-- The program's text and the zeros after it, taken apart.
use Rattle.std.specs.Prelude.{ℕ, ◌-◌, List, ◌++◌, ◌≡◌, refl, length, replicate}
use Rattle.std.proofs.Common.{take_at, drop_at}
use Rattle.texts.specs.Program.{program_text}
use Rattle.conclusions.specs.Conclusions.{Text}

pub wrote : (input text : List ℕ) → text ≡ program_text input ++ replicate (1617 - length (program_text input)) 0 → Text input (length (program_text input)) text
wrote input text e =
    let w = program_text input in
    let rest : List ℕ = replicate (1617 - length w) 0 in
    rw e (record { long = refl; begins = take_at w rest (length w) refl; ends = drop_at w rest (length w) refl })
