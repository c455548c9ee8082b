use Rattle.std.proofs.Common.{ℕ, ◌≡◌, refl, ap, ap₂, ◌∙◌, arith, take, drop}
use Rattle.sentences.specs.Reading.{figures_in, marked, word_of}
use Rattle.parser.specs.Following.{after_none, figure_value, after_figure, word_more}
use Rattle.parser.proofs.read_rows.Goals as goal

pub loop-init : goal.loop-init
loop-init c = (after_none c.args.bytes.now c.args.from c.requires, refl)

pub next_figure-figure-requires : goal.next_figure-figure-requires
next_figure-figure-requires c = c.loop.invariant.0.within

pub loop-preserved : goal.loop-preserved
loop-preserved c =
    let l = c.loop in
    let b = c.args.bytes.now in
    let r = c.next_figure-figure.result in (
      after_figure b c.args.from l.counter l.next l.invariant.0 r c.next_figure-figure.ensures,
      c.marked-word.ensures
          ∙ ap₂ marked l.invariant.1 (figure_value b c.args.from l.counter l.next l.invariant.0 r c.next_figure-figure.ensures)
          ∙ word_more (figures_in (drop c.args.from b)) l.counter,
    )

pub returns : goal.returns
returns c =
    let l = c.loop in
    let e : l.counter ≡ c.args.many = omega arith in
    l.invariant.1 ∙ ap (λ (k : ℕ). word_of 0 (take k (figures_in (drop c.args.from c.args.bytes.now)))) e
