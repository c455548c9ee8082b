-- The sentence is never longer than the bytes that it is made in, and is handed over from there.
use Rattle.std.proofs.Common.{ℕ, ◌≡◌, leb, length, get_or, arith, rules, le-leb, Fits, w8, w32, w64}
use Rattle.sentences.proofs.Longest.{plan_longest}
use Rattle.composer.specs.Lists.{all_entries}
use Rattle.composer.specs.Front.{front_long}
use Rattle.composer.proofs.plan_sentence.Goals as goal

-- the fields fit their types, so the sentence fits
pub put_plan-requires : goal.put_plan-requires
put_plan-requires c =
    let a = c.args.answer in
    let n : Fits w32 a.number = search rules in
    let l : Fits w64 a.left = search rules in
    let o : length a.order ≡ 64 = search rules in
    let t : Fits w32 a.trials = search rules in
    let entry = λ (i : ℕ). let f : Fits w8 (get_or a.order i 0) = search rules in le-leb (get_or a.order i 0) 255 (omega (arith, f.fits)) in
    omega (
      arith,
      plan_longest a (record {
        number = omega (arith, n.fits);
        left = l.fits;
        long = o;
        small = all_entries (λ x. leb x 255) a.order entry;
        trials = omega (arith, t.fits);
      }),
    )

pub slice_bounds-hand_over-end : goal.slice_bounds-hand_over-end
slice_bounds-hand_over-end c = let f = front_long c.put_plan.ensures.wrote in search (rules, f)
