use borrow.Author.Rules.{rules}
use mathlib.Core.List.{◌∷◌}
use mathlib.Core.Path.{◌≡◌, refl}
use lib.ListN.{length, replicate}
use Rattle.words.specs.Copies.{table_written}
use Rattle.words.proofs.words_of.Goals as goal

pub returns : goal.returns
returns c =
    let t = c.args.t in
    let release_full : length t.release ≡ 64 = search rules in
    let work_full : length t.work ≡ 64 = search rules in
    let deadline_full : length t.deadline ≡ 64 = search rules in
    let level_full : length t.level ≡ 64 = search rules in
    let promised_full : length t.promised ≡ 64 = search rules in
    let follows_full : length t.follows ≡ 64 = search rules in
    table_written t (t.n ∷ t.normal ∷ t.degraded ∷ t.loading ∷ replicate 384 0)
    c.put_column.new.words c.put_column-2.new.words c.put_column-3.new.words c.put_column-4.new.words c.put_column-5.new.words c.put_column-6.new.words
    refl refl
    release_full work_full deadline_full level_full promised_full follows_full
    c.put_column.ensures c.put_column-2.ensures c.put_column-3.ensures c.put_column-4.ensures c.put_column-5.ensures c.put_column-6.ensures
