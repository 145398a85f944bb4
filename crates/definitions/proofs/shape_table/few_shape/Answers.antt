use Rattle.std.proofs.Common.{[], ◌∷◌, refl}
use Rattle.sig_rules.specs.declared.line.Kind.TheVariants.{Instance}
use Rattle.sig_rules.specs.Types.{sort}
use Rattle.definitions.proofs.TableLemmas.{interface_fits, shape_some, too_many}
use Rattle.definitions.proofs.shape_table.few_shape.Goals as goal

pub shape-requires : goal.shape-requires
shape-requires g c = interface_fits (sort (g.L.Names.all c.args.lines.now) c.args.name.now.path) c.requires

pub returns-in-Ok-clause-is : goal.returns-in-Ok-clause-is
returns-in-Ok-clause-is g c =
    let all = g.L.Names.all c.args.lines.now in
    let path = c.args.name.now.path in
    shape_some all path (sort all path) c.in-Ok.found refl c.requires c.in-Ok.ensures.shape c.in-Ok.ensures.few

pub returns-in-Err-clause-fault : goal.returns-in-Err-clause-fault
returns-in-Err-clause-fault g c = too_many (g.L.Names.all c.args.lines.now) c.args.name.now.path (Instance ∷ []) _ c.in-Err.ensures.fault
