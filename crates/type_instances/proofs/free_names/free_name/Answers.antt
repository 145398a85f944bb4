use Rattle.std.proofs.Common.{◌≡◌, ◌∙◌, false, sym, ap, arith}
use Rattle.sig_rules.specs.Instances.{is_in, numbered}
use Rattle.type_instances.specs.Variables.{outer, taken}
use Rattle.type_instances.proofs.FreeNameLemmas.{free-name-is}
use Rattle.type_instances.proofs.free_names.free_name.Goals as goal

pub returns-then-not-is_taken : goal.returns-then-not-is_taken
returns-then-not-is_taken c =
    let names = taken (outer c.args.types.now c.args.names.now) c.args.method.now in
    let free : is_in names (numbered c.args.var.now c.loop-number.number) ≡ false =
    ap (is_in names) (sym c.in_ok-name.ensures) ∙ sym c.is_taken.ensures ∙ c.if-not-is_taken.true in
    c.in_ok-name.ensures
    ∙ free-name-is names c.args.var.now c.loop-number.number (omega arith) (omega arith) c.loop-number.invariant free
