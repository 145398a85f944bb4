use Rattle.std.proofs.Common.{subst, Err}
use Rattle.rbs_grammar.specs.Grammar.{syntax, deep}
use Rattle.rbs_parser.specs.Answers.{IsFound}
use Rattle.steep_run.proofs.SignatureLemmas.{if_ok, refusal_gives}
use Rattle.steep_run.proofs.signature.read_signature.Goals as goal

pub returns-in-Err-Syntax : goal.returns-in-Err-Syntax
returns-in-Err-Syntax c =
    let there = subst (λ e. IsFound c.args.text.now (Err e)) c.in-Err-Syntax.field-0-is c.in-Err-Syntax.ensures.answers in
    if_ok c.refused.result c.refused.ensures (λ found made. refusal_gives c.args.text.now syntax c.in-Err-Syntax.at found there made)

pub returns-in-Err-TooDeep : goal.returns-in-Err-TooDeep
returns-in-Err-TooDeep c =
    let there = subst (λ e. IsFound c.args.text.now (Err e)) c.in-Err-TooDeep.field-0-is c.in-Err-TooDeep.ensures.answers in
    if_ok c.refused-in-Err-TooDeep.result c.refused-in-Err-TooDeep.ensures (λ found made. refusal_gives c.args.text.now deep c.in-Err-TooDeep.at found there made)
