use borrow.Author.Rules.{rules}
use mathlib.Core.List.{◌∷◌}
use mathlib.Core.Path.{◌≡◌, refl}
use lib.ListN.{length, replicate}
use Rattle.words.specs.Copies.{state_written}
use Rattle.words.proofs.state_words.Goals as goal

pub returns : goal.returns
returns c =
    let r = c.args.run in
    let got_full : length r.got ≡ 64 = search rules in
    let used_full : length r.used ≡ 64 = search rules in
    let closing_full : length r.closing ≡ 64 = search rules in
    state_written r (r.clock ∷ replicate 192 0) c.put_column.new.words c.put_column-2.new.words c.put_column-3.new.words refl refl
    got_full used_full closing_full c.put_column.ensures c.put_column-2.ensures c.put_column-3.ensures
