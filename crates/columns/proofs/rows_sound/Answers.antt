use Rattle.std.proofs.Common.{◌+◌, false, ◌≡◌, sym, ◌∙◌, arith}
use Rattle.checks.specs.RowLists.{all_rows_fail}
use Rattle.columns.specs.Figures.{row_next}
use Rattle.columns.specs.Entries.{sound_row_in}
use Rattle.columns.proofs.rows_sound.Goals as goal

pub returns-then-not-row_sound : goal.returns-then-not-row_sound
returns-then-not-row_sound c =
    let x = c.args in
    let t = x.table.now in
    let p = sound_row_in t x.clock x.got.now x.used.now x.closing.now in
    let e : p (c.loop-k.k + 1) ≡ false =
    row_next t.normal t.degraded t.loading x.clock t.work t.deadline t.level t.promised x.got.now x.used.now x.closing.now c.loop-k.k
    ∙ sym c.row_sound.ensures
    ∙ c.if-not-row_sound.true in
    sym (all_rows_fail p c.loop-k.k t.n (omega arith) e)
