use Rattle.std.proofs.Common.{rules, ◌≡◌, ◌∙◌, ◌++◌, [], ◌∷◌, Some, slice_get, sym, ap}
use Rattle.sig_rules.specs.Declarations.{declared_path, somes}
use Rattle.definitions.proofs.NameLemmas.{paths_at}
use Rattle.definitions.proofs.name_list.declared_paths.Goals as goal

pub loop-i-preserved : goal.loop-i-preserved
loop-i-preserved g c =
    let all = g.N.Names.all c.args.names.now in
    let there : slice_get all c.loop-i.i ≡ Some c.in-Some.declared.now = search rules in
    c.in_ok-push_path-in-Some.ensures ∙ ap (λ ps. ps ++ somes (declared_path c.in-Some.declared.now ∷ [])) c.loop-i.invariant ∙ sym (paths_at all c.loop-i.i c.in-Some.declared.now there)
