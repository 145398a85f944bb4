use Rattle.std.proofs.Common.{rules, ◌≡◌, ◌∙◌, sym, ap}
use Rattle.rbs_tree.proofs.comparison.+comparisons.Goals as goal
use Rattle.rbs_tree.specs.declared.types.MethodType.{MethodType}
use Rattle.rbs_tree.specs.declared.types.Ty.TheViews.{out-MethodType, roll-MethodType, roll-out-MethodType}

-- two method types with the same parts
alike : (a b : MethodType) → out-MethodType a ≡ out-MethodType b → a ≡ b
alike a b same = sym (roll-out-MethodType a) ∙ ap roll-MethodType same ∙ roll-out-MethodType b

pub same_method-returns : goal.same_method-returns
same_method-returns t c =
    let a = out-MethodType c.args.a.now in
    let b = out-MethodType c.args.b.now in
    let vars : a.vars ≡ b.vars = search rules in
    let required : a.required ≡ b.required = search rules in
    let optional : a.optional ≡ b.optional = search rules in
    let rest : a.rest ≡ b.rest = search rules in
    let trailing : a.trailing ≡ b.trailing = search rules in
    let keywords : a.keywords ≡ b.keywords = search rules in
    let rest_keywords : a.rest_keywords ≡ b.rest_keywords = search rules in
    let block : a.block ≡ b.block = search rules in (
      λ told. alike c.args.a.now c.args.b.now (λ i. record { vars = vars i; required = required i; optional = optional i; rest = rest i; trailing = trailing i; keywords = keywords i; rest_keywords = rest_keywords i; block = block i; «result» = c.same_ty.ensures.0 told i }),
      λ same. c.same_ty.ensures.1 (ap (λ m. (out-MethodType m).«result») same),
    )
