use Rattle.std.proofs.Common.{◌≡◌, map, take}
use Rattle.definitions.proofs.order.measured.Given as goal

abbrev pub invariant-loop-name : goal.invariant-loop-name
invariant-loop-name g l = map (λ e. e.1.now) l.order.items ≡ take l.name-index l.list
