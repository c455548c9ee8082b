-- A table whose r and w are all 0 has the report, and the program's text, of the rules from before r (rule 20.2).
use Rattle.std.specs.Prelude.{ℕ, true, false, List, ◌≡◌, take}
use Rattle.std.proofs.Common.{◌∙◌}
use Rattle.rules.specs.declared.Table.{Table}
use Rattle.rules.specs.Lists.{all_zero}
use Rattle.texts.specs.Program.{program_text}
use Rattle.texts.specs.Reports.{report_of}
use Rattle.unwaited.specs.OldSheets as Old
use Rattle.unwaited.specs.OldSheets.{kept_of, widen}
use Rattle.unwaited.specs.OldTexts as Texts
use Rattle.unwaited.proofs.Same as Tables
use Rattle.unwaited.proofs.SameSheets.{read_alike, read_before}
use Rattle.unwaited.proofs.SameTexts as Since
use Rattle.unwaited.proofs.SameTexts.{text_between}
use Rattle.unwaited.specs.Unwaited.{with_promises, check_table}
use Rattle.unwaited.proofs.WidenedSheets.{kept_wider}
use Rattle.unpromised.specs.Same.{own}
use Rattle.unpromised.specs.SameSheets.{check_then}
use Rattle.unpromised.specs.Unpromised.{with_loading}

-- the report (section 16 of the rules)
pub report_same : (t : Table) → all_zero t.promised ≡ true → all_zero t.follows ≡ true → (o lent : List ℕ)
    → report_of t o lent ≡ Texts.report_of with_loading t o lent
report_same t none free = Since.report_same with_loading t (own t none free)

-- What the program writes for any input with the fields of r = 0 and w = 0 put in at each row is what it wrote for it without (rules 12.1, 12.2): first
-- that of the program from before w, with the field of r alone.
kept_same : (bytes : List ℕ) → Old.read_of with_promises (take (kept_of 5) (widen 4 bytes)) ≡ Old.read_of with_loading (take (kept_of 4) bytes)
kept_same bytes =
    kept_wider 4 (check_table with_promises) bytes
    ∙ read_alike 4 (check_table with_promises) (check_table with_loading) (take (kept_of 4) bytes) (check_then (take (kept_of 4) bytes))

then_program : (bytes : List ℕ) → Texts.program_text with_promises (widen 4 bytes) ≡ Texts.program_text with_loading bytes
unfolding Texts.program_text
then_program bytes =
    let kept = take (kept_of 4) bytes in
    let r = Old.read_of with_loading kept in
    let b = read_before false kept in
    rw (kept_same bytes) (text_between with_promises with_loading r.table (Tables.own r.table b.free) b r.check)

pub program_same : (bytes : List ℕ) → program_text (widen 5 (widen 4 bytes)) ≡ Texts.program_text with_loading bytes
program_same bytes = Since.program_same (widen 4 bytes) ∙ then_program bytes
