-- The figures of the first line and the six columns are the table's own.
use Rattle.std.proofs.Common.{ℕ, List, ◌+◌, ◌*◌, ◌≤◌, ◌<◌, ◌≡◌, true, length, arith}
use Rattle.texts.specs.Fields.{is_field, field_at}
use Rattle.texts.specs.Sheets.{is_line, number_at, table_in}
use Rattle.sheet.specs.Lines.{Lined, line_field}
use Rattle.sheet.proofs.table_in.Goals as goal

-- a field of the first line, which is well formed
in_head : (b : List ℕ) (n : ℕ) → Lined b n → is_line b 0 4 ≡ true → (j : ℕ) → j < 4
    → (0 + 8 * j + 8 ≤ length b) × (is_field (field_at b (0 + 8 * j)) ≡ true)
in_head b n lined line j h = (omega (arith, lined.long), line_field b 0 j 4 line h)

pub number-requires : goal.number-requires
number-requires c = in_head _ _ c.requires.0 c.requires.1 1 (omega arith)

pub number-requires-2 : goal.number-requires-2
number-requires-2 c = in_head _ _ c.requires.0 c.requires.1 2 (omega arith)

pub number-requires-3 : goal.number-requires-3
number-requires-3 c = in_head _ _ c.requires.0 c.requires.1 3 (omega arith)

pub returns : goal.returns
unfolding table_in number_at
returns c =
    rw (
      c.number.ensures,
      c.number-2.ensures,
      c.number-3.ensures,
      c.column.ensures,
      c.column-2.ensures,
      c.column-3.ensures,
      c.column-4.ensures,
      c.column-5.ensures,
      c.column-6.ensures,
      c.requires.2,
    )
