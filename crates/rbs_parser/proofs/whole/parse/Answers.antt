use Rattle.std.proofs.Common.{◌∙◌}
use Rattle.rbs_parser.proofs.Answering.{is_found, is_only}
use Rattle.rbs_parser.proofs.whole.parse.Goals as goal

pub returns-clause-answers : goal.returns-clause-answers
returns-clause-answers c = is_found c.args.text.now _ _ _ _ _ _ _ _ (c.new-cursor.ensures ∙ c.as_slice.ensures) c.rest.ensures c.whole-found.ensures c.stop_of.ensures c.answered.ensures c.in_ok-lexed.ensures.answers

pub returns-clause-only : goal.returns-clause-only
returns-clause-only c = is_only c.args.text.now _ _ _ _ _ _ _ _ (c.new-cursor.ensures ∙ c.as_slice.ensures) c.rest.ensures c.whole-found.ensures c.stop_of.ensures c.answered.ensures c.in_ok-lexed.ensures.one
