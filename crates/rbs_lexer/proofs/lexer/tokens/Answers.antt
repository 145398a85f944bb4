use Rattle.rbs_lexer.proofs.Cutting.{only_tokens, not_bad, not_tokens, only_bad}
use Rattle.rbs_lexer.proofs.lexer.tokens.Goals as goal

pub returns-in-None-clause-tokens : goal.returns-in-None-clause-tokens
returns-in-None-clause-tokens c = only_tokens c.args.text.now _ _ c.in_ok-lexed.ensures.one

pub returns-in-None-clause-bad : goal.returns-in-None-clause-bad
returns-in-None-clause-bad c = not_bad c.args.text.now _ _ c.in_ok-lexed.ensures.one c.in-None.is

pub returns-clause-tokens : goal.returns-clause-tokens
returns-clause-tokens c = not_tokens c.args.text.now _ _ c.in_ok-lexed.ensures.one _ c.in-Some.is

pub returns-clause-bad : goal.returns-clause-bad
returns-clause-bad c = only_bad c.args.text.now _ _ c.in_ok-lexed.ensures.one _ c.in-Some.is
