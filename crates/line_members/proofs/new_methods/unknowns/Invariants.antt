use Rattle.std.proofs.Common.{◌≡◌, map, take}
use Rattle.rbs_tree.specs.declared.types.Ty.TheVariants as t
use Rattle.line_members.proofs.new_methods.unknowns.Given as goal

abbrev pub invariant-loop-param : goal.invariant-loop-param
invariant-loop-param l = l.args ≡ map (λ var. t.Untyped) (take l._param-index l.params)
