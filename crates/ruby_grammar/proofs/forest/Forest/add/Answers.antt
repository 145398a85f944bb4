use Rattle.std.proofs.Common.{sym, ◌∙◌}
use Rattle.ruby_grammar.proofs.Cells.{added, held, unchanged}
use Rattle.ruby_grammar.proofs.forest.Forest.add.Goals as goal

pub returns-in_err-push-clause-extends : goal.returns-in_err-push-clause-extends
returns-in_err-push-clause-extends c = unchanged c.args.self.now _ _ (sym c.self.view_is) c.in_err-push.ensures.items

pub returns-clause-extends : goal.returns-clause-extends
returns-clause-extends c = added c.args.self.now _ _ c.args.cell (sym c.self.view_is) c.in_ok-push.ensures.items

pub returns-clause-held : goal.returns-clause-held
returns-clause-held c = held c.args.self.now _ _ c.args.cell _ (sym c.self.view_is) (c.len.ensures ∙ c.push.new.self.ok.0) c.in_ok-push.ensures.items
