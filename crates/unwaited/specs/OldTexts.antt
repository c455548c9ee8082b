-- What the rules said, before w, of the report and of the program's text. As in Unwaited, w is not looked at.
use Rattle.std.specs.Prelude.{ℕ, ◌-◌, cond, List, [], ◌∷◌, ◌++◌, pos, nat_abs, length, take, Ok, Err}
use Rattle.std.specs.Int.Count.{ones}
use Rattle.rules.specs.declared.Table.{Table}
use Rattle.rules.specs.Plans.{Planned}
use Rattle.rules.specs.declared.Plan.TheVariants as Plan
use Rattle.rules.specs.Checks.{Check}
use Rattle.rules.specs.Lists.{rows_to, sum, joined}
use Rattle.rules.specs.Numbers.{refusal_number}
use Rattle.rules.specs.Rows.{at, rows_of, deadline_of}
use Rattle.rules.specs.Tables.{and_then}
use Rattle.texts.specs.Fields.{line}
use Rattle.texts.specs.Lent.{check_room, WrittenBack, write_checked}
use Rattle.texts.specs.Reports.{figures, is_late}
use Rattle.unwaited.specs.OldSheets.{fields_of, read_of, kept_of}
use Rattle.unwaited.specs.Unwaited as Then
use Rattle.unwaited.specs.Unwaited.{Past}

-- the report
unfoldable pub job_line : Past → Table → List ℕ → ℕ → List ℕ
job_line p t o k =
    let i = at o k in
    figures (pos k ∷ pos i ∷ pos (Then.need_of p t i) ∷ pos (Then.worst_finish p t o i) ∷ Then.slack p t o i ∷ [])

unfoldable pub last_line : Past → Table → List ℕ → List ℕ
last_line p t o = figures (pos (sum (Then.need_of p t) (rows_of t)) ∷ pos (sum (λ i. is_late (Then.slack p t o i)) (rows_of t)) ∷ [])

unfoldable pub report_text : Past → Table → List ℕ → List ℕ
report_text p t o = joined (job_line p t o) (rows_to t.n) ++ last_line p t o

unfoldable pub report_of : Past → Table → List ℕ → List ℕ → WrittenBack
report_of p t o lent =
    write_checked (and_then (Then.check_both p t o) (check_room (length (report_text p t o)) (length lent))) (report_text p t o) lent

-- the program's text for a reader's answer; a row's slack, which is not below zero there, was said by its worst finish while there were no promised parts
abbrev pub slack_shown : Past → Table → List ℕ → ℕ → ℕ
slack_shown p t o i = cond p.promises (nat_abs (Then.slack p t o i)) (deadline_of t i - Then.worst_finish p t o i)

unfoldable pub place_line : Past → Table → List ℕ → ℕ → List ℕ
place_line p t o k = line (k ∷ at o k ∷ slack_shown p t o (at o k) ∷ [])

abbrev pub plan_text : Past → Table → List ℕ → Planned → List ℕ
plan_text p t o (Ok Plan.Ordered) = line (0 ∷ t.n ∷ []) ++ joined (place_line p t o) (rows_to t.n)
plan_text p t o (Ok (Plan.NoOrder left)) = line (7 ∷ ones left ∷ [])
plan_text p t o (Err r) = line (refusal_number r ∷ 0 ∷ [])

abbrev pub read_text : Past → Check → Table → List ℕ
read_text p (Ok tt) t = plan_text p t (Then.plan_of p t).order (Then.plan_of p t).answer
read_text p (Err r) t = line (refusal_number r ∷ 0 ∷ [])

-- the program from input to output; of its input it looked at 2,658 bytes, and before r at 2,146
unfoldable pub program_text : Past → List ℕ → List ℕ
program_text p input = let r = read_of p (take (kept_of (fields_of p)) input) in read_text p r.check r.table
