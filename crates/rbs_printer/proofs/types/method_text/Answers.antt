use Rattle.std.proofs.Common.{◌≡◌, ◌++◌, ◌∙◌, ap, subst, sym}
use Rattle.rbs_printer.specs.Again.{IsReadAgainMethod}
use Rattle.rbs_printer.specs.Printed as spec
use Rattle.rbs_printer.proofs.Law.{method_again}
use Rattle.rbs_printer.proofs.types.method_text.Goals as goal

-- src/types.rt:28:1
pub returns-clause-again : goal.returns-clause-again
returns-clause-again c spelled =
    let same : c.function.new.out ≡ spec.method_text c.args.m.now = c.in_ok-function.ensures.text ∙ ap (λ out. out ++ spec.method_text c.args.m.now) c.new-out.ensures in
    subst (λ text. IsReadAgainMethod text c.args.m.now) (sym same) (method_again c.args.m.now spelled)
