use Rattle.std.proofs.Common.{◌∙◌, List, Ok, ap, refl, slice_get, sym}
use Rattle.ruby_grammar.specs.declared.tree.Tree.{Tree}
use Rattle.ruby_grammar.specs.Firsts.{guarded_rules}
use Rattle.ruby_grammar.specs.Meaning.{within}
use Rattle.ruby_grammar.specs.Memos.{begun_at}
use Rattle.ruby_grammar.specs.Parsed.{budgets}
use Rattle.ruby_grammar.proofs.Told.{without_guards, told_deep, told_failed, told_passed, trees_told}
use Rattle.ruby_grammar.proofs.whole.parse.Goals as goal

pub returns-in-TooDeep : goal.returns-in-TooDeep
returns-in-TooDeep c = told_deep (within c.args.grammar.now.rules c.args.tokens.now budgets budgets c.args.grammar.now.start) c.new-2.result _ (begun_at (record { last = 0; height = 0 })) _ c.in-TooDeep.place (without_guards c.args.grammar.now.rules c.as_slice-2.result.now c.args.tokens.now budgets _ _ c.args.grammar.now.start 0 c.new-2.result _ _ (begun_at (record { last = 0; height = 0 })) _ _ (c.as_slice-2.ensures ∙ c.in-Ok-guarded_rules.ensures ∙ ap guarded_rules c.as_slice.ensures) c.budgets_limit.ensures c.budgets_limit-2.ensures c.from.ensures c.in-TooDeep.ensures.goes)

pub returns-in-Failed : goal.returns-in-Failed
returns-in-Failed c = told_failed (within c.args.grammar.now.rules c.args.tokens.now budgets budgets c.args.grammar.now.start) c.new-2.result _ (record { last = 0; height = 0 }) _ (without_guards c.args.grammar.now.rules c.as_slice-2.result.now c.args.tokens.now budgets _ _ c.args.grammar.now.start 0 c.new-2.result _ _ (begun_at (record { last = 0; height = 0 })) _ _ (c.as_slice-2.ensures ∙ c.in-Ok-guarded_rules.ensures ∙ ap guarded_rules c.as_slice.ensures) c.budgets_limit.ensures c.budgets_limit-2.ensures c.from.ensures c.in-Failed.ensures.goes)

pub returns-in-Ok-made : goal.returns-in-Ok-made
returns-in-Ok-made c = told_passed (within c.args.grammar.now.rules c.args.tokens.now budgets budgets c.args.grammar.now.start) c.new-2.result _ (begun_at (record { last = 0; height = 0 })) _ c.in-Passed.field-0 (without_guards c.args.grammar.now.rules c.as_slice-2.result.now c.args.tokens.now budgets _ _ c.args.grammar.now.start 0 c.new-2.result _ _ (begun_at (record { last = 0; height = 0 })) _ _ (c.as_slice-2.ensures ∙ c.in-Ok-guarded_rules.ensures ∙ ap guarded_rules c.as_slice.ensures) c.budgets_limit.ensures c.budgets_limit-2.ensures c.from.ensures c.in-Passed.ensures.goes) ∙ ap Ok (sym (c.in-Ok-made.ensures ((within c.args.grammar.now.rules c.args.tokens.now budgets budgets c.args.grammar.now.start).trees 0) (trees_told (within c.args.grammar.now.rules c.args.tokens.now budgets budgets c.args.grammar.now.start) c.new-2.result _ (record { last = 0; height = 0 }) _ c.in-Passed.field-0 (ap (λ (lists : List (List Tree)). slice_get lists 0) c.new-2.ensures, refl) (without_guards c.args.grammar.now.rules c.as_slice-2.result.now c.args.tokens.now budgets _ _ c.args.grammar.now.start 0 c.new-2.result _ _ (begun_at (record { last = 0; height = 0 })) _ _ (c.as_slice-2.ensures ∙ c.in-Ok-guarded_rules.ensures ∙ ap guarded_rules c.as_slice.ensures) c.budgets_limit.ensures c.budgets_limit-2.ensures c.from.ensures c.in-Passed.ensures.goes))))
