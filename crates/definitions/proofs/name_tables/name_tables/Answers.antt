use Rattle.std.proofs.Common.{◌≡◌, ◌∙◌, ap, subst}
use Rattle.sig_rules.specs.Declarations.{declared_names}
use Rattle.sig_rules.specs.Sorted.{paths_of}
use Rattle.definitions.specs.Tables.{AreDefinitions, HoldsValues, IsAlias, IsFewShape}
use Rattle.definitions.proofs.TableLemmas.{alias_absent, definitions_absent, holds_all, shape_absent}
use Rattle.definitions.proofs.name_tables.name_tables.Goals as goal

pub returns-clause-defined : goal.returns-clause-defined
returns-clause-defined g c =
    let all = g.L.Names.all c.args.lines.now in
    let names : paths_of c.as_slice-names.result.now ≡ declared_names all = ap paths_of c.as_slice-names.ensures ∙ c.in_ok-list.ensures in
    record {
      definitions = holds_all (AreDefinitions all) all _ _ names (definitions_absent all) c.in_ok-built.ensures.definitions;
      shapes = holds_all (IsFewShape all) all _ _ names (shape_absent all) c.in_ok-built.ensures.shapes;
      aliases = holds_all (IsAlias all) all _ _ names (alias_absent all) c.in_ok-standing.ensures.aliases;
      values = subst (λ ps. HoldsValues all ps c.in_ok-standing.standing.values) names c.in_ok-standing.ensures.values;
    }
