use Rattle.std.proofs.Common.{◌≡◌, map, take}
use Rattle.sig_rules.specs.declared.line.Applied.{Applied}
use Rattle.sig_rules.specs.Lines.{itself}
use Rattle.ancestors.proofs.behind.all_itself.Given as goal

abbrev pub invariant-loop-applied : goal.invariant-loop-applied
invariant-loop-applied g l = l.all ≡ map (λ (a : Applied). itself (g.N.Names.all l.names) a.name.path) (take l.applied-index l.applied-items)
