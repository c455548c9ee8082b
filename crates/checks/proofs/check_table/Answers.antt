-- The first check that fails answers, and the checks before it passed.
use Rattle.std.proofs.Common.{◌≡◌, ◌≤◌, true, leb, sym, ◌∙◌, leb-true}
use Rattle.rules.specs.declared.Table.{Table}
use Rattle.rules.specs.Tables.{count_ok, check_table}
use Rattle.theory.specs.Tests.{and_right}
use Rattle.checks.proofs.check_table.Goals as goal

few : (t : Table) → count_ok t.n ≡ true → t.n ≤ 64
few t e = leb-true t.n 64 (and_right (leb 1 t.n) (leb t.n 64) e)

pub rows_ok-requires : goal.rows_ok-requires
rows_ok-requires c = few c.args.t.now (sym c.count_ok.ensures ∙ c.if-not-count_ok.false)

pub promises_ok-requires : goal.promises_ok-requires
promises_ok-requires c = few c.args.t.now (sym c.count_ok.ensures ∙ c.if-not-count_ok.false)

pub check_waits-requires : goal.check_waits-requires
check_waits-requires c = few c.args.t.now (sym c.count_ok.ensures ∙ c.if-not-count_ok.false)

pub returns-then-not-count_ok : goal.returns-then-not-count_ok
unfolding check_table
returns-then-not-count_ok c = rw (sym c.count_ok.ensures ∙ c.if-not-count_ok.true)

pub returns-then-not-speeds_ok : goal.returns-then-not-speeds_ok
unfolding check_table
returns-then-not-speeds_ok c =
    rw (sym c.count_ok.ensures ∙ c.if-not-count_ok.false, sym c.speeds_ok.ensures ∙ c.if-not-speeds_ok.true)

pub returns-then-not-loading_ok : goal.returns-then-not-loading_ok
unfolding check_table
returns-then-not-loading_ok c =
    rw (
      sym c.count_ok.ensures ∙ c.if-not-count_ok.false,
      sym c.speeds_ok.ensures ∙ c.if-not-speeds_ok.false,
      sym c.loading_ok.ensures ∙ c.if-not-loading_ok.true,
    )

pub returns-then-not-rows_ok : goal.returns-then-not-rows_ok
unfolding check_table
returns-then-not-rows_ok c =
    rw (
      sym c.count_ok.ensures ∙ c.if-not-count_ok.false,
      sym c.speeds_ok.ensures ∙ c.if-not-speeds_ok.false,
      sym c.loading_ok.ensures ∙ c.if-not-loading_ok.false,
      sym c.rows_ok.ensures ∙ c.if-not-rows_ok.true,
    )

pub returns-then-not-tail_ok : goal.returns-then-not-tail_ok
unfolding check_table
returns-then-not-tail_ok c =
    rw (
      sym c.count_ok.ensures ∙ c.if-not-count_ok.false,
      sym c.speeds_ok.ensures ∙ c.if-not-speeds_ok.false,
      sym c.loading_ok.ensures ∙ c.if-not-loading_ok.false,
      sym c.rows_ok.ensures ∙ c.if-not-rows_ok.false,
      sym c.tail_ok.ensures ∙ c.if-not-tail_ok.true,
    )

pub returns-then-not-promises_ok : goal.returns-then-not-promises_ok
unfolding check_table
returns-then-not-promises_ok c =
    rw (
      sym c.count_ok.ensures ∙ c.if-not-count_ok.false,
      sym c.speeds_ok.ensures ∙ c.if-not-speeds_ok.false,
      sym c.loading_ok.ensures ∙ c.if-not-loading_ok.false,
      sym c.rows_ok.ensures ∙ c.if-not-rows_ok.false,
      sym c.tail_ok.ensures ∙ c.if-not-tail_ok.false,
      sym c.promises_ok.ensures ∙ c.if-not-promises_ok.true,
    )

pub returns : goal.returns
unfolding check_table
returns c =
    rw (
      sym c.count_ok.ensures ∙ c.if-not-count_ok.false,
      sym c.speeds_ok.ensures ∙ c.if-not-speeds_ok.false,
      sym c.loading_ok.ensures ∙ c.if-not-loading_ok.false,
      sym c.rows_ok.ensures ∙ c.if-not-rows_ok.false,
      sym c.tail_ok.ensures ∙ c.if-not-tail_ok.false,
      sym c.promises_ok.ensures ∙ c.if-not-promises_ok.false,
    ) c.check_waits.ensures
