use Rattle.std.proofs.Common.{◌≡◌, ◌++◌, take}
use Rattle.sig_rules.specs.Declarations.{declared_in_all}
use Rattle.sig_rules.proofs.walk.declare_files.Given as goal

abbrev pub invariant-loop-file : goal.invariant-loop-file
invariant-loop-file l = l.all ≡ l.fn.all ++ declared_in_all (take l.file-index l.files)
