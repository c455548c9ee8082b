-- The sentence is never longer than the bytes that it is made in, and is handed over from there.
use Rattle.std.proofs.Common.{arith, rules, Fits, SFits, w32}
use Rattle.sentences.proofs.Longest.{judge_longest}
use Rattle.composer.specs.Fits.{slack_fits}
use Rattle.composer.specs.Front.{front_long}
use Rattle.composer.proofs.judge_sentence.Goals as goal

-- the fields fit their types, so the sentence fits
pub put_judge-requires : goal.put_judge-requires
put_judge-requires c =
    let a = c.args.answer in
    let n : Fits w32 a.number = search rules in
    let y : Fits w32 a.yes = search rules in
    let r : Fits w32 a.row = search rules in
    let z : SFits w32 a.slack = search rules in
    omega (
      arith,
      judge_longest a (record {
        number = omega (arith, n.fits);
        yes = omega (arith, y.fits);
        row = omega (arith, r.fits);
        slack = slack_fits a.slack z;
      }),
    )

pub slice_bounds-hand_over-end : goal.slice_bounds-hand_over-end
slice_bounds-hand_over-end c = let f = front_long c.put_judge.ensures.wrote in search (rules, f)
