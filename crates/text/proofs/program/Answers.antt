-- The text of the reading stands from byte 0 on.
use Rattle.std.proofs.Common.{ℕ, ◌≡◌, [], ◌∷◌, ap, ◌∙◌, arith, rules, length, take}
use Rattle.texts.specs.Fields.{line}
use Rattle.fields.specs.Texts.{puts_as}
use Rattle.text.specs.Answers.{reading_accepted, reading_text, answered}
use Rattle.text.proofs.program.Goals as goal
use Rattle.text.proofs.program.Goals.{in-Ok, in-Err}
use Rattle.rules.specs.Checks.{Passed, Refused}

pub put_plan-requires : goal.put_plan-requires
put_plan-requires c =
    let l : length c.args.out.now ≡ 1617 = search rules in
    (reading_accepted (take 3170 c.args.input.now) c.read_kept-reading.result c.read_kept-reading.ensures c.in-Ok.is, omega arith)

pub returns : goal.returns
returns c =
    let input = c.args.input.now in
    let r = c.read_kept-reading in
    elim c.match-reading.branch [
      | in-Ok w ↦ rw w.text-is (answered input _ _ _ (puts_as (reading_text input r.result Passed r.ensures w.in-Ok.is) w.put_plan.ensures).wrote)
      | in-Err w ↦
          rw w.text-is
          (answered input _ _ _
          (puts_as
          (ap (λ (n : ℕ). line (n ∷ 0 ∷ [])) w.refusal_number.ensures ∙ reading_text input r.result (Refused w.in-Err.why) r.ensures w.in-Err.is)
          w.put_line.ensures).wrote)
    ]
