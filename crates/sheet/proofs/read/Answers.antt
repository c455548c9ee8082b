-- The first check that fails answers, and the checks before it passed; where none fails the table's own check answers.
use Rattle.std.proofs.Common.{ℕ, ◌≤◌, ◌≡◌, true, leb, sym, ◌∙◌, arith, lt-ltb, le-ltb, leb-true, eq-eqb, ne_eqb}
use Rattle.rules.specs.Tables.{count_ok}
use Rattle.texts.specs.Sheets.{number_at, check_sheet, read_of}
use Rattle.theory.specs.Tests.{and_right}
use Rattle.sheet.specs.Lines.{line_field}
use Rattle.sheet.proofs.read.Goals as goal

few : (n : ℕ) → count_ok n ≡ true → n ≤ 64
few n e = leb-true n 64 (and_right (leb 1 n) (leb n 64) e)

pub returns-then-bytes-lt33 : goal.returns-then-bytes-lt33
unfolding read_of check_sheet
returns-then-bytes-lt33 c = rw (lt-ltb _ _ c.if-bytes-lt33.true) c.refused.ensures

pub returns-then-not-line_ok : goal.returns-then-not-line_ok
unfolding read_of check_sheet
returns-then-not-line_ok c =
    rw (le-ltb _ _ c.if-bytes-lt33.false, sym c.line_ok.ensures ∙ c.if-not-line_ok.true) c.refused-then-not-line_ok.ensures

pub number-n-requires : goal.number-n-requires
number-n-requires c =
    (omega arith, line_field c.args.bytes.now 0 0 4 (sym c.line_ok.ensures ∙ c.if-not-line_ok.false) (omega arith))

pub returns-then-not-count_ok : goal.returns-then-not-count_ok
unfolding read_of check_sheet number_at
returns-then-not-count_ok c =
    rw (
      le-ltb _ _ c.if-bytes-lt33.false,
      sym c.line_ok.ensures ∙ c.if-not-line_ok.false,
      ← c.number-n.ensures,
      sym c.count_ok.ensures ∙ c.if-not-count_ok.true,
    )
    c.refused-then-not-count_ok.ensures

pub returns-then-bytes-rows : goal.returns-then-bytes-rows
unfolding read_of check_sheet number_at
returns-then-bytes-rows c =
    rw (
      le-ltb _ _ c.if-bytes-lt33.false,
      sym c.line_ok.ensures ∙ c.if-not-line_ok.false,
      ← c.number-n.ensures,
      sym c.count_ok.ensures ∙ c.if-not-count_ok.false,
      ne_eqb _ _ c.if-bytes-rows.true,
    )
    c.refused-then-bytes-rows.ensures

pub lines_ok-requires : goal.lines_ok-requires
lines_ok-requires c = (few _ (sym c.count_ok.ensures ∙ c.if-not-count_ok.false), c.if-bytes-rows.false)

pub returns-then-not-lines_ok : goal.returns-then-not-lines_ok
unfolding read_of check_sheet number_at
returns-then-not-lines_ok c =
    rw (
      le-ltb _ _ c.if-bytes-lt33.false,
      sym c.line_ok.ensures ∙ c.if-not-line_ok.false,
      ← c.number-n.ensures,
      sym c.count_ok.ensures ∙ c.if-not-count_ok.false,
      eq-eqb _ _ c.if-bytes-rows.false,
      sym c.lines_ok.ensures ∙ c.if-not-lines_ok.true,
    )
    c.refused-then-not-lines_ok.ensures

pub table_in-table-requires : goal.table_in-table-requires
unfolding number_at
table_in-table-requires c = (
  record {
    few = few _ (sym c.count_ok.ensures ∙ c.if-not-count_ok.false);
    long = c.if-bytes-rows.false;
    lines = sym c.lines_ok.ensures ∙ c.if-not-lines_ok.false;
  },
  sym c.line_ok.ensures ∙ c.if-not-line_ok.false,
  c.number-n.ensures,
)

pub returns : goal.returns
unfolding read_of check_sheet number_at
returns c =
    rw (
      le-ltb _ _ c.if-bytes-lt33.false,
      sym c.line_ok.ensures ∙ c.if-not-line_ok.false,
      ← c.number-n.ensures,
      sym c.count_ok.ensures ∙ c.if-not-count_ok.false,
      eq-eqb _ _ c.if-bytes-rows.false,
      sym c.lines_ok.ensures ∙ c.if-not-lines_ok.false,
      ← c.table_in-table.ensures,
      ← c.check_table.ensures,
    )
    c.answer.ensures
