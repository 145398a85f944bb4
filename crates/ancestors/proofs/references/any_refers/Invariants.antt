use Rattle.std.proofs.Common.{◌≡◌, length}
use Rattle.std.specs.List.{flat_map}
use Rattle.sig_rules.specs.declared.files.Declared.{Declared}
use Rattle.ancestors.specs.References.{refs_of}
use Rattle.ancestors.proofs.references.any_refers.Given as goal

abbrev pub invariant-loop-rest : goal.invariant-loop-rest
invariant-loop-rest l = flat_map (λ (d : Declared). refs_of l.role d.decl) l.rest ≡ flat_map (λ (d : Declared). refs_of l.role d.decl) l.entries

abbrev pub decreases-loop-rest : goal.decreases-loop-rest
decreases-loop-rest l = length l.rest
