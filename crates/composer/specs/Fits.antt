-- A slack of 32 bits fits its field (rule 24.1).
use Rattle.std.proofs.Common.{arith, SFits}
use Rattle.std.specs.Prelude.{ℤ, pos, negsuc}
use Rattle.std.specs.Int.{w32}
use Rattle.sentences.specs.RoundTrip.{SlackFits}

pub slack_fits : (z : ℤ) → SFits w32 z → SlackFits z
slack_fits (pos v) f = let s = f.sfits in omega arith
slack_fits (negsuc m) f = let s = f.sfits in omega arith
