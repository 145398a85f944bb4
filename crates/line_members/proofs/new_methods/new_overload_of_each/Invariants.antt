use Rattle.std.proofs.Common.{◌≡◌, map, take}
use Rattle.sig_rules.specs.Methods.{new_overload}
use Rattle.line_members.proofs.new_methods.new_overload_of_each.Given as goal

abbrev pub invariant-loop-overload : goal.invariant-loop-overload
invariant-loop-overload l = l.news ≡ map (new_overload l.params l.made) (take l.overload-index l.overloads)
