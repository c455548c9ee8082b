use Prim.Native.Nat.{ℕ, ◌-◌, ◌≤◌}
use mathlib.Core.List.{List}
use native.Mathlib.Omega.{arith}
use lib.ListN.{get_or}
use Rattle.rules.specs.declared.Table.{Table}
use Rattle.theory.specs.Facts.{Row}
use Rattle.fields.specs.Texts.{puts_as}
use Rattle.text.specs.Slacks.{Timed, few, place_row, in_time_lem, place_line_lem}
use Rattle.text.proofs.put_place.Goals as goal

-- the row at the place
module _ (t : Table) (order clocks : List ℕ) (z : Timed t order clocks) (place : ℕ) (low : 1 ≤ place) (high : place ≤ t.n) where
  abbrev i : ℕ
  i = get_or order (place - 1) 0

  row : Row t i
  row = place_row t order clocks z place low high

  in_columns : (1 ≤ i) × (i ≤ 64)
  in_columns = (row.from, omega (arith, row.up_to, few t order z.right))

pub bounds-order-place : goal.bounds-order-place
bounds-order-place c = omega (arith, few c.args.t c.args.order c.requires.0.right)

pub entry-due-requires : goal.entry-due-requires
entry-due-requires c = in_columns c.args.t c.args.order c.args.clocks.now c.requires.0 c.args.place c.requires.1 c.requires.2

pub entry-clock-requires : goal.entry-clock-requires
entry-clock-requires c = in_columns c.args.t c.args.order c.args.clocks.now c.requires.0 c.args.place c.requires.1 c.requires.2

pub overflow_sub-due : goal.overflow_sub-due
overflow_sub-due c =
    let a = c.args in
    omega (
      arith,
      c.entry-due.ensures,
      c.entry-clock.ensures,
      in_time_lem a.t a.order a.clocks.now c.requires.0 (get_or a.order (a.place - 1) 0)
          (row a.t a.order a.clocks.now c.requires.0 a.place c.requires.1 c.requires.2),
    )

pub returns : goal.returns
returns c =
    puts_as
    (place_line_lem c.args.t c.args.order c.args.clocks.now c.requires.0 c.args.place c.entry-due.result c.entry-clock.result c.requires.1 c.requires.2
    c.entry-due.ensures c.entry-clock.ensures)
    c.put_line.ensures
