use Rattle.std.proofs.Common.{◌≡◌, OnOk, subst}
use Rattle.sig_rules.specs.Methods.{new_overload}
use Rattle.type_instances.proofs.PairLemmas.{once-is}
use Rattle.type_instances.proofs.overloads.new_overload.Goals as goal

pub returns : goal.returns
returns c =
    once-is c.once_done.result c.make_new-done.result c.make_new-done.new.method (new_overload c.args.params.now c.args.made.now c.args.method.now)
    c.once_done.ensures.value c.once_done.ensures.done
    (subst (λ m. OnOk c.make_new-done.result (c.make_new-done.new.method ≡ new_overload c.args.params.now c.args.made.now m)) c.in_ok-new.ensures c.make_new-done.ensures)
