use Rattle.std.proofs.Common.{◌≡◌, take}
use Rattle.given_members.proofs.scope.inside.Given as goal

abbrev pub invariant-loop-enclosing : goal.invariant-loop-enclosing
invariant-loop-enclosing l = l.names ≡ take l.enclosing-index l.enclosing-items
