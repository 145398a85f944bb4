use Rattle.std.proofs.Common.{◌≡◌, ◌++◌, length, map, reverse}
use Rattle.sig_rules.specs.Declarations.{full_name}
use Rattle.definitions.proofs.name_list.last_to_first.Given as goal

abbrev pub invariant-loop-path : goal.invariant-loop-path
invariant-loop-path l = l.list ++ map full_name (reverse l.seen.keys) ≡ map full_name (reverse l.fn.paths.keys)

abbrev pub decreases-loop-path : goal.decreases-loop-path
decreases-loop-path l = length l.seen.keys
