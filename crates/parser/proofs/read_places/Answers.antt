use Rattle.std.proofs.Common.{ℕ, ◌≡◌, refl, ap, ◌∙◌, arith, drop}
use Rattle.rules.specs.Choice.{padded}
use Rattle.sentences.specs.Reading.{figures_in}
use Rattle.parser.specs.Following.{after_none, figure_value, after_figure, places, places_more}
use Rattle.parser.proofs.read_places.Goals as goal

pub loop-i-init : goal.loop-i-init
unfolding padded
loop-i-init c = (after_none c.args.bytes.now c.args.from c.requires.0, refl)

pub next_figure-figure-requires : goal.next_figure-figure-requires
next_figure-figure-requires c = c.loop-i.invariant.0.within

pub loop-i-preserved : goal.loop-i-preserved
loop-i-preserved c =
    let l = c.loop-i in
    let b = c.args.bytes.now in
    let r = c.next_figure-figure.result in (
      after_figure b c.args.from l.i l.next l.invariant.0 r c.next_figure-figure.ensures,
      rw (l.invariant.1, c.small.ensures, figure_value b c.args.from l.i l.next l.invariant.0 r c.next_figure-figure.ensures)
          (places_more (figures_in (drop c.args.from b)) l.i (omega (arith, c.requires.1))),
    )

pub returns : goal.returns
returns c =
    let l = c.loop-i in
    let figures = figures_in (drop c.args.from c.args.bytes.now) in
    let e : l.i ≡ c.args.many = omega arith in
    record {
      within = l.invariant.0.within;
      order = l.invariant.1 ∙ ap (λ (k : ℕ). padded (places figures k)) e;
      rest = l.invariant.0.rest ∙ ap (λ (k : ℕ). drop k figures) e;
    }
