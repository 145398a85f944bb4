use Rattle.std.proofs.Common.{refl, ◌∙◌, ap}
use Rattle.rbs_lexer.specs.declared.kind.Kind.TheVariants as k
use Rattle.rbs_tree.specs.declared.types.Ty.TheVariants as t
use Rattle.rbs_grammar.specs.Grammar.{then_read, pure}
use Rattle.rbs_grammar.specs.Levels.{rooms}
use Rattle.rbs_grammar.specs.Types.{opt, inter, inter_of}
use Rattle.rbs_parser.proofs.FineTypes.{fine_opts}
use Rattle.rbs_parser.proofs.Loops.{some_items}
use Rattle.rbs_parser.proofs.types.Types.inter.Goals as goal

pub returns : goal.returns
unfolding inter
returns g c = some_items (rooms c.args.self.now.marked c.args.self.now.functions) k.Ampersand opt fine_opts inter_of t.Inter (λ x y zs. refl) c.in_ok-first.first c.args.cursor.now c.opt.new.cursor c.in_ok-first.ensures c.if-not-sees.ensures
    ∙ ap (λ o. then_read o (pure t.Inter)) c.in_ok-all.ensures
