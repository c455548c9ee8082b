-- What the exported function says and leaves is what the definition of a commit says.
use Rattle.std.proofs.Common.{◌≡◌, length, rules}
use Rattle.conclusions.specs.Renewals.{committing}
use Rattle.conclusions.proofs.firmware_commit.Goals as goal

pub returns : goal.returns
returns c =
    let a = c.args in
    let tables : length a.table ≡ 388 = search rules in
    let runs : length a.run_table ≡ 388 = search rules in
    let states : length a.run_state ≡ 193 = search rules in
    let e = c.jb_commit-number.ensures in
    rw (e.0, e.1, e.2, e.3) (committing a.table a.order a.run_table a.run_order a.run_state tables runs states)
