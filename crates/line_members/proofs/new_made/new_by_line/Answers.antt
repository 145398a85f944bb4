use Rattle.std.proofs.Common.{◌≡◌, ◌∙◌, IfOk, List, ℕ, ap, codes, subst, Option}
use Rattle.sig_rules.specs.declared.method.Method.{Method}
use Rattle.sig_rules.specs.Worlds.{by_name}
use Rattle.line_members.specs.Along.{new_by}
use Rattle.line_members.proofs.MakingLemmas.{initialize_in}
use Rattle.line_members.proofs.new_made.new_by_line.Goals as goal

pub returns : goal.returns
returns g c = subst (λ (m : Option Method). IfOk c.new_by.result (λ new. new ≡ new_by (g.L.Names.all c.args.lines.now) c.args.step.now m))
    (c.method_named.ensures ∙ ap (λ (ms : List (List ℕ × Method)). by_name ms (codes "initialize")) c.as_slice.ensures
    ∙ initialize_in (g.L.Names.all c.args.lines.now) c.args.step.now.name.path c.in_ok-methods.methods c.in_ok-methods.ensures)
    c.new_by.ensures
