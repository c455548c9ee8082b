-- The four numbers are the verdict's, each below 2^32, so the sum fits.
use Rattle.std.proofs.Common.{ap, ◌∙◌, rules, SFits, of_z, to_z-of_z}
use Rattle.std.specs.Int.{w32}
use Rattle.jasminebrace.specs.Packed.{packs}
use Rattle.jasminebrace.proofs.packed.Goals as goal

pub returns : goal.returns
returns c =
    let n = c.verdict_numbers-numbers in
    let b = c.slack_bits in
    let fits : SFits w32 n.result.slack = search rules in
    packs c.args.verdict n.result.number n.result.yes n.result.row b.result
    n.ensures.0 n.ensures.1 n.ensures.2 (b.ensures ∙ ap (of_z w32) (to_z-of_z fits ∙ n.ensures.3))
