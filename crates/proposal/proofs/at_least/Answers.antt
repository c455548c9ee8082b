-- `proposal::at_least` meets its contract: the entries that it tests are those of the rows from 1 to n. Assumes nothing.
use Rattle.std.proofs.Common.{sym, ◌∙◌, arith, rules, tests, leb}
use Rattle.std.proofs.lemmas.Iterator.{YieldsList-from_slice, YieldsList-from_take}
use Rattle.std.proofs.lemmas.Iterator.Search.{all_from_yields_List}
use Rattle.proposal.specs.Turning.{first_rows}
use Rattle.proposal.proofs.at_least.Goals as goal

pub returns : goal.returns
returns c =
    let a = c.args in
    all_from_yields_List (leb a.least) _ _ c.all.result c.all.ensures.ran
    (YieldsList-from_take a.n (YieldsList-from_slice a.column.now cc) cc) (λ x b q k. search (rules, tests))
    ∙ sym (first_rows (leb a.least) a.column.now a.n (omega arith))
