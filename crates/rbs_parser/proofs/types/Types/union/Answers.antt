use Rattle.std.proofs.Common.{refl, ◌∙◌, ap}
use Rattle.rbs_lexer.specs.declared.kind.Kind.TheVariants as k
use Rattle.rbs_tree.specs.declared.types.Ty.TheVariants as t
use Rattle.rbs_grammar.specs.Grammar.{then_read, pure}
use Rattle.rbs_grammar.specs.Levels.{rooms}
use Rattle.rbs_grammar.specs.Types.{inter, union, union_of}
use Rattle.rbs_parser.proofs.FineTypes.{fine_inters}
use Rattle.rbs_parser.proofs.Loops.{some_items}
use Rattle.rbs_parser.proofs.types.Types.union.Goals as goal

pub returns : goal.returns
unfolding union
returns g c = some_items (rooms c.args.self.now.marked c.args.self.now.functions) k.Bar inter fine_inters union_of t.Union (λ x y zs. refl) c.in_ok-first.first c.args.cursor.now c.inter.new.cursor c.in_ok-first.ensures c.if-not-sees.ensures
    ∙ ap (λ o. then_read o (pure t.Union)) c.in_ok-all.ensures
