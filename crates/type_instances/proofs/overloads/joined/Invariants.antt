use Rattle.std.proofs.Common.{◌≡◌, ◌++◌, take}
use Rattle.type_instances.proofs.overloads.joined.Given as goal

abbrev pub invariant-loop-text : goal.invariant-loop-text
invariant-loop-text l = l.all ≡ l.first ++ take l.text-index l.second
