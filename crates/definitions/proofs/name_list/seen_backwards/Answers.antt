use Rattle.std.proofs.Common.{rules}
use Rattle.definitions.proofs.NameLemmas.{seen_next, seen_start}
use Rattle.definitions.proofs.name_list.seen_backwards.Goals as goal

pub loop-path-init : goal.loop-path-init
loop-path-init c = seen_start _ _ _ c.into_vec-rest.ensures c.new-seen.ensures.empty

pub loop-path-preserved : goal.loop-path-preserved
loop-path-preserved c = seen_next c.args.paths c.loop-path.rest.items _ c.loop-path.seen.keys _ c.in-Some.path (search rules) c.in_ok-insert.ensures.keys c.loop-path.invariant
