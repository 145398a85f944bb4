use Rattle.std.proofs.Common.{◌≡◌, ◌++◌, map, take}
use Rattle.sig_rules.specs.Types.{meant}
use Rattle.type_meaning.specs.Meaning.{meant_field, meant_param, meant_keyword}
use Rattle.type_meaning.proofs.meaning.+meaning.Given as goal

abbrev pub invariant-meant_tys-loop-ty : goal.invariant-meant_tys-loop-ty
invariant-meant_tys-loop-ty g l = l.done ≡ map (meant (g.N.Names.all l.names) l.context (l.own ++ l.vars)) (take l.ty-index l.tys)

abbrev pub invariant-meant_fields-loop-field : goal.invariant-meant_fields-loop-field
invariant-meant_fields-loop-field g l = l.done ≡ map (meant_field (g.N.Names.all l.names) l.context (l.own ++ l.vars)) (take l.field-index l.fields)

abbrev pub invariant-meant_params-loop-param : goal.invariant-meant_params-loop-param
invariant-meant_params-loop-param g l = l.done ≡ map (meant_param (g.N.Names.all l.names) l.context (l.own ++ l.vars)) (take l.param-index l.params)

abbrev pub invariant-meant_keywords-loop-keyword : goal.invariant-meant_keywords-loop-keyword
invariant-meant_keywords-loop-keyword g l = l.done ≡ map (meant_keyword (g.N.Names.all l.names) l.context (l.own ++ l.vars)) (take l.keyword-index l.keywords)
