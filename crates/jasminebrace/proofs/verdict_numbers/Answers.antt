-- Each arm is one case of the four definitions; a slack is read back from its bits.
use Rattle.std.proofs.Common.{◌≡◌, refl, rules, SFits, to_z-of_z}
use Rattle.std.specs.Int.{w32}
use Rattle.rules.specs.Verdicts.{Correct, Incorrect}
use Rattle.rules.specs.Numbers.{verdict_number, verdict_yes, verdict_row, verdict_slack}
use Rattle.jasminebrace.proofs.verdict_numbers.Goals as goal

pub returns-in-Ok-Correct : goal.returns-in-Ok-Correct
unfolding verdict_number verdict_yes verdict_row verdict_slack
returns-in-Ok-Correct c =
    let v = c.in-Ok-Correct in
    let fits : SFits w32 v.slack = search rules in
    let e : c.args.verdict ≡ Correct v.row v.slack = search rules in
    rw e (refl, refl, refl, to_z-of_z fits)

pub returns-in-Ok-Incorrect : goal.returns-in-Ok-Incorrect
unfolding verdict_number verdict_yes verdict_row verdict_slack
returns-in-Ok-Incorrect c =
    let v = c.in-Ok-Incorrect in
    let fits : SFits w32 v.slack = search rules in
    let e : c.args.verdict ≡ Incorrect v.row v.slack = search rules in
    rw e (refl, refl, refl, to_z-of_z fits)

pub returns-in-Err : goal.returns-in-Err
unfolding verdict_number verdict_yes verdict_row verdict_slack
returns-in-Err c = rw c.in-Err.is (c.refusal_number.ensures, refl, refl, refl)
