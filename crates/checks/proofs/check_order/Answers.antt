-- The three tests of check 6 in turn; the first that fails answers.
use Rattle.std.proofs.Common.{◌≡◌, ℕ, true, List, eqb, drop, sym, ◌∙◌}
use Rattle.rules.specs.Lists.{all, all_zero, count, rows_to}
use Rattle.checks.specs.Keeping.{arranged}
use Rattle.checks.proofs.check_order.Goals as goal

both : (order : List ℕ) (n : ℕ) → all (λ i. eqb (count i order) 1) (rows_to n) ≡ true → all_zero (drop n order) ≡ true → arranged order n ≡ true
both order n once zeros = rw (once, zeros)

pub returns-then-not-each_once : goal.returns-then-not-each_once
returns-then-not-each_once c = rw (sym c.each_once.ensures ∙ c.if-not-each_once.true)

pub returns-then-not-empty_from : goal.returns-then-not-empty_from
returns-then-not-empty_from c =
    rw (
      sym c.each_once.ensures ∙ c.if-not-each_once.false,
      sym c.empty_from.ensures ∙ c.if-not-empty_from.true,
    )

pub keeps_waits-requires : goal.keeps_waits-requires
keeps_waits-requires c =
    let a = c.args in
    let whole = both a.order a.n (sym c.each_once.ensures ∙ c.if-not-each_once.false) (sym c.empty_from.ensures ∙ c.if-not-empty_from.false) in
    (c.requires.0, c.requires.1 whole)

pub returns-then-not-keeps_waits : goal.returns-then-not-keeps_waits
returns-then-not-keeps_waits c =
    let a = c.args in
    let whole = both a.order a.n (sym c.each_once.ensures ∙ c.if-not-each_once.false) (sym c.empty_from.ensures ∙ c.if-not-empty_from.false) in
    rw (whole, sym c.keeps_waits.ensures ∙ c.if-not-keeps_waits.true)

pub returns : goal.returns
returns c =
    let a = c.args in
    let whole = both a.order a.n (sym c.each_once.ensures ∙ c.if-not-each_once.false) (sym c.empty_from.ensures ∙ c.if-not-empty_from.false) in
    rw (whole, sym c.keeps_waits.ensures ∙ c.if-not-keeps_waits.false)
