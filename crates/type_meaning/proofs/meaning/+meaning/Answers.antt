use Rattle.std.proofs.Common.{rules, ◌≡◌, ◌++◌, map, ◌∙◌, sym, ap}
use Rattle.std.specs.Option.{option_map}
use Rattle.rbs_tree.specs.declared.types.Ty.{Ty, ProcOf}
use Rattle.rbs_tree.specs.declared.types.BlockType.{BlockType}
use Rattle.rbs_tree.specs.declared.types.Field.{Field}
use Rattle.rbs_tree.specs.declared.types.Keyword.{Keyword}
use Rattle.rbs_tree.specs.declared.types.MethodType.{MethodType}
use Rattle.rbs_tree.specs.declared.types.Param.{Param}
use Rattle.rbs_tree.specs.declared.types.Ty.TheViews.{out-MethodType, roll-BlockType, roll-Field, roll-Keyword, roll-MethodType, roll-Param}
use Rattle.rbs_tree.specs.declared.types.Ty.TheFolds.{fold_out-MethodType}
use Rattle.sig_rules.specs.Types.{meant, meant_step}
use Rattle.type_meaning.specs.Meaning.{meant_block, meant_keyword, meant_param, meant_parts}
use Rattle.type_meaning.proofs.MeaningLemmas.{meant_proc, done, done_rest, done_rest_keywords, done_block}
use Rattle.type_meaning.proofs.meaning.+meaning.Goals as goal

pub meant_parts-returns : goal.meant_parts-returns
meant_parts-returns g t c =
    let parts = c.in_ok-parts.parts in
    let all = g.N.Names.all c.args.names.now in
    let context = c.args.context.now in
    let among = c.args.own.now ++ c.args.vars.now in
    let m = out-MethodType c.args.method.now in
    let vars : parts.0.0 ≡ m.vars = search rules in
    let required : parts.0.1.0 ≡ map (meant_param all context among) m.required = search rules in
    let optional : parts.0.1.1 ≡ map (meant_param all context among) m.optional = search rules in
    let rest : parts.1.0.0 ≡ option_map (meant_param all context among) m.rest = search rules in
    let trailing : parts.1.0.1 ≡ map (meant_param all context among) m.trailing = search rules in
    let keywords : parts.1.1.0.0 ≡ map (meant_keyword all context among) m.keywords = search rules in
    let rest_keywords : parts.1.1.0.1 ≡ option_map (meant_param all context among) m.rest_keywords = search rules in
    let block : parts.1.1.1.0 ≡ option_map (meant_block all context among) m.block = search rules in
    let last : parts.1.1.1.1 ≡ meant all context among m.«result» = search rules in
    let rest' = rest ∙ done_rest all context among m m.rest in
    let rest_keywords' = rest_keywords ∙ done_rest_keywords all context among m m.rest_keywords in
    let block' = block ∙ done_block all context among m m.block in
    ap roll-MethodType {y = done all context among m} (λ i. record { vars = vars i; required = required i; optional = optional i; rest = rest' i; trailing = trailing i; keywords = keywords i; rest_keywords = rest_keywords' i; block = block' i; «result» = last i })
    ∙ sym (fold_out-MethodType Ty BlockType Field Keyword MethodType Param (meant_step all context among) roll-BlockType roll-Field roll-Keyword roll-MethodType roll-Param c.args.method.now)

pub meant_ty-returns-in_ok-new-in-ProcOf : goal.meant_ty-returns-in_ok-new-in-ProcOf
meant_ty-returns-in_ok-new-in-ProcOf g t c =
    let all = g.N.Names.all c.args.names.now in
    let context = c.args.context.now in
    let among = c.args.own.now ++ c.args.vars.now in
    let boxed : c.in_ok-new-in-ProcOf.field-0 ≡ c.in_ok-method-in-ProcOf.method = c.in_ok-new-in-ProcOf.ensures in
    let inner : c.in_ok-method-in-ProcOf.method ≡ meant_parts all context among c.get-in-ProcOf.result.now = c.in_ok-method-in-ProcOf.ensures in
    let whole : c.get-in-ProcOf.result.now ≡ c.in-ProcOf.method = c.get-in-ProcOf.ensures in
    ap ProcOf (boxed ∙ inner ∙ ap (meant_parts all context among) whole) ∙ meant_proc all context among c.in-ProcOf.method ∙ ap (meant all context among) (sym c.in-ProcOf.is)
