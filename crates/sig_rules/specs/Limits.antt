-- What a project may have too much of.
use Rattle.std.specs.Prelude.{◌≡◌, ℕ, ◌<◌, List, length}
use Rattle.sig_rules.specs.declared.limits.TableFault.{TableFault}
use Rattle.sig_rules.specs.declared.limits.TableFault.TheVariants as fault
use Rattle.sig_rules.specs.declared.files.Declared.{Declared}
use Rattle.sig_rules.specs.Declarations.{declared_names}

-- so many names may be declared
abbrev pub most_names : ℕ
most_names = 65536

-- how many names are declared
abbrev pub names_count : List Declared → ℕ
names_count all = length (declared_names all)

-- why declarations have no table: their names are too many, or memory is short
abbrev pub IsTableFault : List Declared → TableFault → Type 0
IsTableFault all (fault.Names n) = (n ≡ names_count all) × (most_names < n)
IsTableFault all fault.NoMemory = Unit {0}
