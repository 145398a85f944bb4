use Rattle.std.proofs.Common.{rules, ◌≡◌, ◌∙◌, Some, None, sym, ap}
use Rattle.std.specs.Map.{lookup}
use Rattle.std.specs.Option.{option_copied}
use Rattle.sig_rules.specs.Methods.{same_word}
use Rattle.definitions.proofs.ValueLemmas.{found_value, value_found}
use Rattle.definitions.proofs.fresh_table.FreshTableMembers.value.Goals as goal

pub returns-in-None : goal.returns-in-None
returns-in-None c =
    let none : lookup (same_word c.args.name.now) c.self.inside.tables.standing.values ≡ None = search rules in
    rw (← c.self.view_is) (sym (ap found_value none) ∙ value_found c.self.inside.lined c.args.name.now c.self.inside.tables.standing.values c.self.invariant.values)

pub returns-in-Some : goal.returns-in-Some
returns-in-Some c =
    let there : lookup (same_word c.args.name.now) c.self.inside.tables.standing.values ≡ Some c.in-Some.found.now = search rules in
    let same : option_copied c.as_ref.result ≡ c.in-Some.found.now = search rules in
    rw (← c.self.view_is) (same ∙ sym (ap found_value there) ∙ value_found c.self.inside.lined c.args.name.now c.self.inside.tables.standing.values c.self.invariant.values)
