use Rattle.std.proofs.Common.{◌≡◌, sym, subst}
use Rattle.steep_run.specs.Ruby.{before, faults_among, statement_faults}
use Rattle.steep_run.proofs.DistinctLemmas.{cons_of}
use Rattle.steep_run.proofs.RubyLemmas.{one_more}
use Rattle.steep_run.proofs.ruby.reading.of_statements.Goals as goal

pub loop-rest-preserved : goal.loop-rest-preserved
loop-rest-preserved g c = record {
  so_far = one_more (statement_faults (g.M.Names.all c.args.members.now) c.node-item.result) _ _ c.loop-rest.faults c.add_statement.new.faults
      (rw c.if-not-branch.false at c.in_ok-add_statement.ensures.gains)
      (subst (λ ns. before c.loop-rest.faults (faults_among (g.M.Names.all c.args.members.now) ns) ≡ faults_among (g.M.Names.all c.args.members.now) c.args.nodes.now)
      (sym (cons_of c.loop-rest.rest.now c.node-item.result c.in-len1-up.len_at_least c.node-item.is)) c.loop-rest.invariant.so_far);
  called = c.in_ok-add_statement.ensures.called;
}
