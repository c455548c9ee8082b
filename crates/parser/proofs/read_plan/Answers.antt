-- Each call reads right after the figures that were read before it.
use Rattle.std.proofs.Common.{ℕ, ◌+◌, List, take, ap, ◌∙◌, arith, ap₂}
use Rattle.sentences.specs.Reading.{figures_in, at_most, word_of}
use Rattle.parser.specs.Answers.{plan_read}
use Rattle.parser.specs.Following.{after_none, figure_value, after_figure, places_order, after_places}
use Rattle.parser.proofs.read_plan.Goals as goal

pub returns : goal.returns
returns c =
    let b = c.args.bytes.now in
    let f1 = c.next_figure-number in
    let f2 = c.next_figure-trials in
    let f3 = c.next_figure-filled in
    let m = c.at_most.result in
    let p = c.read_places-next in
    let f4 = c.next_figure-rows in
    let a0 = after_none b 0 (omega arith) in
    let a1 = after_figure b 0 0 0 a0 f1.result f1.ensures in
    let a2 = after_figure b 0 1 f1.result.next a1 f2.result f2.ensures in
    let a3 = after_figure b 0 2 f2.result.next a2 f3.result f3.ensures in
    let a4 = after_places b 0 3 f3.result.next a3 m p.result p.ensures in
    let a5 = after_figure b 0 (3 + m) p.result.next a4 f4.result f4.ensures in
    plan_read (figures_in b) f1.result.value f2.result.value m f4.result.value c.read_rows-left.result p.result.order
    (figure_value b 0 0 0 a0 f1.result f1.ensures)
    (figure_value b 0 1 f1.result.next a1 f2.result f2.ensures)
    (c.at_most.ensures ∙ ap at_most (figure_value b 0 2 f2.result.next a2 f3.result f3.ensures))
    (places_order b 0 3 f3.result.next a3 m p.result p.ensures)
    (figure_value b 0 (3 + m) p.result.next a4 f4.result f4.ensures)
    (c.read_rows-left.ensures ∙ ap₂ (λ (k : ℕ) (xs : List ℕ). word_of 0 (take k xs)) c.at_most-2.ensures a5.rest)
