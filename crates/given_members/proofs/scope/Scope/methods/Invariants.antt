use Rattle.std.proofs.Common.{◌≡◌, map, take}
use Rattle.given_members.specs.Meanings.{method_in}
use Rattle.given_members.proofs.scope.Scope.methods.Given as goal

abbrev pub invariant-loop-method : goal.invariant-loop-method
invariant-loop-method g l = l.done ≡ map (method_in l.self) (take l.method-index l.methods)
