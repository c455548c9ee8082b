-- The bytes lent are enough for every sentence, so what stands at their start is the whole of it.
use Rattle.std.proofs.Common.{ap, ◌∙◌}
use Rattle.rules.specs.Lists.{same}
use Rattle.sentences.specs.Sentences.{plan_sentence}
use Rattle.sentences.proofs.Longest.{plan_longest}
use Rattle.parser.specs.Composed.{made_within, made_front}
use Rattle.parser.proofs.is_plan.Goals as goal

pub are_made-requires : goal.are_made-requires
are_made-requires c = made_within (plan_sentence c.args.answer) _ (plan_longest c.args.answer c.requires) c.plan_sentence-writing.result _ c.plan_sentence-writing.ensures.0 c.plan_sentence-writing.ensures.1

pub returns : goal.returns
returns c = c.are_made.ensures ∙ ap (same c.args.bytes.now) (made_front (plan_sentence c.args.answer) _ (plan_longest c.args.answer c.requires) c.plan_sentence-writing.result _ c.plan_sentence-writing.ensures.0 c.plan_sentence-writing.ensures.1)
