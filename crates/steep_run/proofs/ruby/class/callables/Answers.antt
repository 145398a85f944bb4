use Rattle.steep_run.proofs.ClassLemmas.{one_callable}
use Rattle.steep_run.proofs.DistinctLemmas.{cons_as}
use Rattle.steep_run.proofs.ruby.class.callables.Goals as goal

pub loop-rest-preserved : goal.loop-rest-preserved
loop-rest-preserved c =
    one_callable c.loop-rest.table c.add.new.table c.get.result.now c.loop-rest.rest.now _ c.args.methods.now c.callable_of.result
    (cons_as c.loop-rest.rest.now c.entry-item.result c.get.result.now c.get.ensures c.in-len1-up.len_at_least c.entry-item.is) c.callable_of.ensures c.in_ok-add.ensures
    c.loop-rest.invariant
