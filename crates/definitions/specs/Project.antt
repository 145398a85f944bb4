-- What a project's signatures declare, the core signatures first.
use Rattle.std.specs.Prelude.{◌≡◌, List, [], ◌∷◌}
use Rattle.core_sigs.specs.Core.{core}
use Rattle.rbs_grammar.specs.Parse.{Tree}
use Rattle.rbs_grammar.specs.Texts.{HasTree}
use Rattle.sig_rules.specs.declared.files.Declared.{Declared}
use Rattle.sig_rules.specs.declared.files.FileTree.{FileTree}
use Rattle.sig_rules.specs.Declarations.{declared_in_all}

-- the core signatures, as a file that stands before all others
abbrev pub core_file : Tree → FileTree
core_file tree = record { path = []; decls = tree }

-- all that a project declares, the core signatures first
abbrev pub IsProject : List FileTree → List Declared → Type 0
IsProject files all = (tree : Tree) × (HasTree core tree) × (all ≡ declared_in_all (core_file tree ∷ files))
