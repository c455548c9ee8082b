-- The copy stands from the place on.
use Rattle.std.proofs.Common.{◌≡◌, arith, length, rules}
use Rattle.std.proofs.lemmas.Slice.{put_mid-paste}
use Rattle.words.proofs.put_column.Goals as goal

pub returns : goal.returns
returns c =
    let full : length c.args.entries ≡ 64 = search rules in
    put_mid-paste _ _ _ _ c.args.entries 64 c.copy_from_slice.ensures.after (omega arith) (omega arith)
