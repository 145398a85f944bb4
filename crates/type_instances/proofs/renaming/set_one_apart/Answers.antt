use Rattle.std.proofs.Common.{sym, ap, ◌∙◌}
use Rattle.std.proofs.lemmas.Result.{on_ok_weaker}
use Rattle.sig_rules.specs.Instances.{renamed}
use Rattle.type_instances.specs.Variables.{outer}
use Rattle.type_instances.proofs.ApartLemmas.{apart-same, apart-renamed}
use Rattle.type_instances.proofs.renaming.set_one_apart.Goals as goal

pub returns-then-not-is_outer : goal.returns-then-not-is_outer
returns-then-not-is_outer c = apart-same (outer c.args.types.now c.args.names.now) c.args.var.now c.args.method.now (sym c.is_outer.ensures ∙ c.if-not-is_outer.true)

pub returns : goal.returns
returns c =
    let names = outer c.args.types.now c.args.names.now in
    let var = c.args.var.now in
    let m = c.args.method.now in
    on_ok_weaker c.rename.result
    (λ same. same ∙ ap (λ name. renamed var name m) c.in_ok-name.ensures ∙ apart-renamed names var m (sym c.is_outer.ensures ∙ c.if-not-is_outer.false))
    c.rename.ensures
