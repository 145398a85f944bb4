use Rattle.std.proofs.Common.{◌≡◌, ◌++◌, [], take}
use Rattle.std.specs.List.{flat_map}
use Rattle.rbs_tree.specs.declared.decls.Decl.{Decl}
use Rattle.sig_rules.specs.Declarations.{found}
use Rattle.sig_rules.proofs.walk.declare_file.Given as goal

abbrev pub invariant-loop-decl : goal.invariant-loop-decl
invariant-loop-decl l = l.all ≡ l.fn.all ++ flat_map (λ (d : Decl). (found d).all l.file.path []) (take l.decl-index l.decl-items)
