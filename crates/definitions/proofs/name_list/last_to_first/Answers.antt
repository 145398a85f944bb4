use Rattle.std.proofs.Common.{rules}
use Rattle.definitions.proofs.NameLemmas.{full_next}
use Rattle.definitions.proofs.name_list.last_to_first.Goals as goal

pub loop-path-preserved : goal.loop-path-preserved
loop-path-preserved c = rw c.in_ok-push.ensures.ok (full_next c.loop-path.list c.loop-path.seen.keys c.pop.new.self.keys c.in-Some.path c.full_name.result _ c.full_name.ensures (search rules) c.loop-path.invariant)
