use Rattle.std.proofs.Common.{ap, sym, ◌∙◌}
use Rattle.std.proofs.lemmas.Result.{IfOk-weaker}
use Rattle.ruby_grammar.specs.Cells.{lists_of}
use Rattle.ruby_grammar.proofs.Cells.{copied_none, copied_one}
use Rattle.ruby_grammar.proofs.forest.Forest.+copied.Goals as goal

pub returns-in-None-clause-made : goal.returns-in-None-clause-made
returns-in-None-clause-made t c = copied_none c.args.self.now c.as_slice.result.now c.args.last c.args.count c.args.to (sym c.self.view_is ∙ ap lists_of (sym c.as_slice.ensures.value)) (sym c.in-None.ensures.cell)

pub returns-in_ok-before-in-Some-clause-made : goal.returns-in_ok-before-in-Some-clause-made
returns-in_ok-before-in-Some-clause-made t c = λ vs stands. IfOk-weaker c.behind.result _ _ (λ more held. copied_one c.args.self.now c.copied.new.self c.behind.new.self c.as_slice.result.now c.args.last c.args.count c.before_of.result c.in_ok-before-in-Some.before c.in_ok-row-in-Some.row more c.in-Some.cell c.below-cell.result c.moved.result (sym c.self.view_is ∙ ap lists_of (sym c.as_slice.ensures.value)) (sym c.in-Some.ensures.cell) c.in-Some.ensures.within c.if-count-eq0.false c.copied.ensures.extends c.below-cell.ensures.before c.below-cell.ensures.tree c.before_of.ensures c.in_ok-before-in-Some.ensures c.moved.ensures held.0 held.1 vs (c.in_ok-row-in-Some.ensures.made vs stands)) c.behind.ensures.held
