use Rattle.std.proofs.Common.{refl}
use Rattle.type_instances.specs.Variables.{outer}
use Rattle.type_instances.proofs.ApartLemmas.{all-more, all-done}
use Rattle.type_instances.proofs.renaming.set_each_apart.Goals as goal

pub loop-var-init : goal.loop-var-init
loop-var-init c = refl

pub loop-var-preserved : goal.loop-var-preserved
loop-var-preserved c =
    all-more (outer c.args.types.now c.args.names.now) c.args.vars.now c.loop-var.var-index c.var-item.result c.args.method.now c.loop-var.method c.set_one_apart.new.method
    c.loop-var-test.true c.var-item.is c.loop-var.invariant c.in_ok-set_one_apart.ensures

pub returns : goal.returns
returns c =
    all-done (outer c.args.types.now c.args.names.now) c.args.vars.now c.loop-var.var-index c.args.method.now c.loop-var.method c.loop-var-test.false c.loop-var.invariant
