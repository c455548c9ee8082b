-- Lists of one length whose first i entries are equal are the same exactly if what is left of them is.
use Rattle.std.proofs.Common.{◌≡◌, drop}
use Rattle.rules.specs.Lists.{same}
use Rattle.parser.proofs.same.Given as goal

abbrev pub invariant-loop-i : goal.invariant-loop-i
invariant-loop-i l = same (drop l.i l.first) (drop l.i l.second) ≡ same l.first l.second
