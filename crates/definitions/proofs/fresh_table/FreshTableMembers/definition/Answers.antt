use Rattle.std.proofs.Common.{rules, ◌≡◌, Some, None, sym, subst}
use Rattle.std.specs.Map.{lookup}
use Rattle.std.specs.Option.{option_map}
use Rattle.sig_rules.specs.Declarations.{same_path}
use Rattle.sig_rules.specs.Worlds.{IsDefinition}
use Rattle.definitions.specs.Tables.{definition_on}
use Rattle.definitions.proofs.fresh_table.FreshTableMembers.definition.Goals as goal

pub returns-in-None : goal.returns-in-None
returns-in-None c =
    let path = c.args.name.now.path in
    let none : lookup (same_path path) c.self.inside.tables.built.definitions ≡ None = search rules in
    rw (← c.self.view_is) (subst (λ o. IsDefinition c.self.inside.lined path c.args.kind (option_map (definition_on c.args.kind) o)) none ((c.self.invariant.definitions path).sides c.args.kind))

pub returns-in-Some : goal.returns-in-Some
returns-in-Some c =
    let path = c.args.name.now.path in
    let there : lookup (same_path path) c.self.inside.tables.built.definitions ≡ Some c.in-Some.sides.now = search rules in
    rw (← c.self.view_is)
    (subst (λ d. IsDefinition c.self.inside.lined path c.args.kind (Some d)) (sym c.definition_on.ensures)
    (subst (λ o. IsDefinition c.self.inside.lined path c.args.kind (option_map (definition_on c.args.kind) o)) there ((c.self.invariant.definitions path).sides c.args.kind)))
