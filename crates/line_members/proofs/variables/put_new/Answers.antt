use Rattle.std.proofs.Common.{◌∙◌, sym}
use Rattle.sig_rules.specs.Worlds.{by_name}
use Rattle.line_members.proofs.VariableLemmas.{has_already}
use Rattle.line_members.proofs.variables.put_new.Goals as goal

pub returns-then-has : goal.returns-then-has
returns-then-has c = has_already (by_name c.args.all.now) c.args.variable (sym c.has.ensures ∙ c.if-has.true)
