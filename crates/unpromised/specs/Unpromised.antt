-- What the rules said before a job could be promised a part of its work (rule 1.11): jobs load as they do, a LO row's allowance is its need at N, slack
-- and trial look at the worst finish alone, there is no check 12, and a row's line on a sheet has four figures. All of it stands in the crate unwaited,
-- which takes this as the time that it speaks of. Neither r nor w is looked at.
use Rattle.std.specs.Prelude.{false}
use Rattle.unwaited.specs.Unwaited.{Past, loading}

abbrev pub with_loading : Past
with_loading = loading false
