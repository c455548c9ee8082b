-- The bytes lent are enough for every sentence, so what stands at their start is the whole of it.
use Rattle.std.proofs.Common.{ap, ◌∙◌}
use Rattle.rules.specs.Lists.{same}
use Rattle.sentences.specs.Sentences.{judge_sentence}
use Rattle.sentences.proofs.Longest.{judge_longest}
use Rattle.parser.specs.Composed.{made_within, made_front}
use Rattle.parser.proofs.is_judge.Goals as goal

pub are_made-requires : goal.are_made-requires
are_made-requires c = made_within (judge_sentence c.args.answer) _ (judge_longest c.args.answer c.requires) c.judge_sentence-writing.result _ c.judge_sentence-writing.ensures.0 c.judge_sentence-writing.ensures.1

pub returns : goal.returns
returns c = c.are_made.ensures ∙ ap (same c.args.bytes.now) (made_front (judge_sentence c.args.answer) _ (judge_longest c.args.answer c.requires) c.judge_sentence-writing.result _ c.judge_sentence-writing.ensures.0 c.judge_sentence-writing.ensures.1)
