-- A project's signatures declare one list.
use Rattle.std.proofs.Common.{◌≡◌, ◌∙◌, List, ◌∷◌, Ok, sym, ap}
use Rattle.core_sigs.specs.Core.{core}
use Rattle.rbs_grammar.specs.Parse.{Tree}
use Rattle.rbs_grammar.specs.Texts.{Answer, HasTree}
use Rattle.rbs_grammar.proofs.Texts.{only_answer}
use Rattle.sig_rules.specs.declared.files.Declared.{Declared}
use Rattle.sig_rules.specs.declared.files.FileTree.{FileTree}
use Rattle.sig_rules.specs.Declarations.{declared_in_all}
use Rattle.definitions.specs.Project.{IsProject, core_file}

-- the tree of an answer, if it is one
abbrev tree_or : Tree → Answer → Tree
tree_or other (Ok x) = x
tree_or other _ = other

only_tree : (x y : Tree) → HasTree core x → HasTree core y → x ≡ y
only_tree x y one other = ap (λ a. tree_or x a) (only_answer core (Ok x) (Ok y) one other)

pub only_project : (files : List FileTree) (a b : List Declared) → IsProject files a → IsProject files b → a ≡ b
only_project files a b one other = one.2 ∙ ap (λ (t : Tree). declared_in_all (core_file t ∷ files)) (only_tree one.0 other.0 one.1 other.1) ∙ sym other.2

-- what the files behind the core signatures declare
pub is_project : (files : List FileTree) (tree : Tree) (declared all : List Declared) → HasTree core tree → declared ≡ declared_in_all (core_file tree ∷ files) → all ≡ declared → IsProject files all
is_project files tree declared all has is same = (tree, has, same ∙ is)
