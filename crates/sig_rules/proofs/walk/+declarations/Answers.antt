use Rattle.std.proofs.Common.{rules, ◌≡◌, ◌∙◌, ◌++◌, false, List, sym, ap}
use Rattle.std.proofs.lemmas.List.{append-nil}
use Rattle.sig_rules.specs.declared.files.Declared.{Declared}
use Rattle.sig_rules.proofs.walk.+declarations.Goals as goal

-- nothing is declared in the members
pub declare_inner-returns-then-not-has_nested : goal.declare_inner-returns-then-not-has_nested
declare_inner-returns-then-not-has_nested t c =
    let none : c.has_nested.result ≡ false = search rules in
    sym (ap (λ (more : List Declared). c.args.all.now ++ more) (c.has_nested.ensures none _ _) ∙ append-nil c.args.all.now)
