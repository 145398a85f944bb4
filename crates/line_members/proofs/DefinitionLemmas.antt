-- Why there is no definition of one of both sides.
use Rattle.std.proofs.Common.{◌≤◌, [], ◌∷◌, List, inl, inr}
use Rattle.sig_rules.specs.declared.files.Declared.{Declared}
use Rattle.sig_rules.specs.declared.limits.BuildFault.{BuildFault}
use Rattle.sig_rules.specs.declared.limits.BuildFault.TheVariants as fault
use Rattle.sig_rules.specs.declared.line.Kind.TheVariants.{Instance, Singleton}
use Rattle.sig_rules.specs.Counts.{IsBuildFault, methods_count, most_methods}
use Rattle.sig_rules.specs.Declarations.{Path}

pub first_side : (all : List Declared) (path : Path) (e : BuildFault) → IsBuildFault all path (Instance ∷ []) e → IsBuildFault all path (Instance ∷ Singleton ∷ []) e
first_side all path (fault.Methods n) (inl many) = inl many
first_side all path (fault.Methods n) (inr few) = absurd few.1
first_side all path fault.NoMemory why = tt

pub second_side : (all : List Declared) (path : Path) (e : BuildFault) → methods_count all path Instance ≤ most_methods →
    IsBuildFault all path (Singleton ∷ []) e → IsBuildFault all path (Instance ∷ Singleton ∷ []) e
second_side all path (fault.Methods n) few why = inr (few, why)
second_side all path fault.NoMemory few why = tt
