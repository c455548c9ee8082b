use Rattle.std.proofs.Common.{◌≡◌, true, ℕ, arith, refl, sym, ◌∙◌}
use Rattle.rules.specs.Lists.{first}
use Rattle.columns.specs.Figures.{pending_at}
use Rattle.record.specs.declared.Run.{Run}
use Rattle.record.specs.Records.{chosen_row, is_sound}
use Rattle.record.proofs.Sound.{speeds, order_placed, chosen_first, serving}
use Rattle.record.specs.Sound.{Serving}
use Rattle.record.specs.Stepping.{served_from, worked_idle, worked_served}
use Rattle.record.proofs.Run.work.Goals as goal

-- the row that the columns give is the record's
module _ (r : Run) (row : ℕ) (e : is_sound r ≡ true) (q : row ≡ first (pending_at r.table.n r.clock r.table.release r.closing) r.order) where
  chosen : row ≡ chosen_row r
  chosen = q ∙ sym (chosen_first r e)

  runs : (row ≡ 0 → ⊥) → Serving r row
  runs h = serving r row e chosen h

pub chosen_row-row-requires : goal.chosen_row-row-requires
chosen_row-row-requires c = order_placed c.args.self c.requires.0

pub returns-then-row-eq0 : goal.returns-then-row-eq0
returns-then-row-eq0 c =
    sym (worked_idle c.args.self c.args.supply c.chosen_row-row.result (chosen _ _ c.requires.0 c.chosen_row-row.ensures.0) c.if-row-eq0.true)

pub overflow_add-used : goal.overflow_add-used
overflow_add-used c =
    let f = runs c.args.self _ c.requires.0 c.chosen_row-row.ensures.0 c.if-row-eq0.false in
    omega (arith, f.used_by, c.requires.1)

pub grown-got-requires : goal.grown-got-requires
grown-got-requires c =
    let f = runs c.args.self _ c.requires.0 c.chosen_row-row.ensures.0 c.if-row-eq0.false in
    f.most

pub closing_slot-requires : goal.closing_slot-requires
closing_slot-requires c =
    let l = speeds c.args.self c.requires.0 in
    let f = runs c.args.self _ c.requires.0 c.chosen_row-row.ensures.0 c.if-row-eq0.false in
    (omega arith, (l.crawls, l.slower, l.fast), omega (arith, f.used_by, c.requires.1))

pub returns : goal.returns
returns c =
    served_from c.args.self c.args.supply c.chosen_row-row.result _ _ _ c.grown-got.result c.closing_slot.result refl refl refl
    c.grown-got.ensures c.closing_slot.ensures
    ∙ sym (worked_served c.args.self c.args.supply c.chosen_row-row.result (chosen _ _ c.requires.0 c.chosen_row-row.ensures.0) c.if-row-eq0.false)
