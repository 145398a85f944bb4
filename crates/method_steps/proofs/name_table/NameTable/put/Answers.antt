use Rattle.std.proofs.Common.{◌≡◌, Some, if◌then◌else◌, subst}
use Rattle.sig_rules.specs.Methods.{same_word}
use Rattle.sig_rules.specs.Worlds.{by_name}
use Rattle.method_steps.proofs.name_table.NameTable.put.Goals as goal

pub returns-clause-values : goal.returns-clause-values
returns-clause-values g c = λ other.
    subst (λ entries. by_name c.insert.new.self.entries other ≡ (if same_word c.args.name other then Some c.args.value else by_name entries other)) c.self.view_is (c.in_ok-insert.ensures.updates.0 other)
