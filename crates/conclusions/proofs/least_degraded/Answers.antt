-- What the exported function says and leaves is what the search answers.
use Rattle.std.proofs.Common.{◌≡◌, length, rules}
use Rattle.conclusions.specs.Cooled.{cooled_degraded}
use Rattle.conclusions.proofs.least_degraded.Goals as goal

pub returns : goal.returns
returns c =
    let l : length c.args.table ≡ 388 = search rules in
    let e = c.jb_least_degraded.ensures in
    rw (e.0, e.1, e.2) (cooled_degraded c.args.table l)
