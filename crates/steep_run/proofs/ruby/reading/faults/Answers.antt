use Rattle.std.proofs.Common.{refl, subst, Err}
use Rattle.ruby_lexer.specs.Answers.{Gives}
use Rattle.ruby_lexer.specs.declared.refusal.RubyAt.TheVariants as at
use Rattle.ruby_parser.specs.Programs.{program_of}
use Rattle.steep_run.proofs.RubyLemmas.{program_finds, refusal_finds}
use Rattle.steep_run.proofs.ruby.reading.faults.Goals as goal

pub returns-in-Ok : goal.returns-in-Ok
returns-in-Ok g c = program_finds c.of_program.result (g.M.Names.all c.args.members.now) c.args.text.now c.in-Ok.program c.in-Ok.ensures c.of_program.ensures

pub returns-in-Err-Syntax : goal.returns-in-Err-Syntax
returns-in-Err-Syntax g c =
    let there = subst (λ e. Gives (Err e) (program_of c.args.text.now)) c.in-Err-Syntax.field-0-is c.in-Err-Syntax.ensures in
    refusal_finds c.refused.result (g.M.Names.all c.args.members.now) c.args.text.now (at.Syntax c.in-Err-Syntax.at) _ there refl c.refused.ensures

pub returns-in-Err-TooDeep : goal.returns-in-Err-TooDeep
returns-in-Err-TooDeep g c =
    let there = subst (λ e. Gives (Err e) (program_of c.args.text.now)) c.in-Err-TooDeep.field-0-is c.in-Err-TooDeep.ensures in
    refusal_finds c.refused-in-Err-TooDeep.result (g.M.Names.all c.args.members.now) c.args.text.now (at.TooDeep c.in-Err-TooDeep.at) _ there refl c.refused-in-Err-TooDeep.ensures

pub returns-in-Err-Unsupported : goal.returns-in-Err-Unsupported
returns-in-Err-Unsupported g c =
    let there = subst (λ e. Gives (Err e) (program_of c.args.text.now)) c.in-Err-Unsupported.field-0-is c.in-Err-Unsupported.ensures in
    refusal_finds c.unsupported.result (g.M.Names.all c.args.members.now) c.args.text.now (at.Unsupported c.in-Err-Unsupported.at c.in-Err-Unsupported.form) _ there refl c.unsupported.ensures
