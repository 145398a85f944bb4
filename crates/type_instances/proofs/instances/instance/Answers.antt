use Rattle.type_instances.proofs.PairLemmas.{once-is}
use Rattle.sig_rules.specs.Instances.{instance}
use Rattle.type_instances.proofs.instances.instance.Goals as goal

pub returns : goal.returns
returns c =
    once-is c.once_done.result c.make_instance-done.result c.make_instance-done.new.method (instance c.args.params.now c.args.args.now c.args.method)
    c.once_done.ensures.value c.once_done.ensures.done c.make_instance-done.ensures
