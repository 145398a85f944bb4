-- What a signature text gives: the declarations of its tree, or one diagnostic where it is refused; and what is declared then.
use Rattle.std.specs.Prelude.{◌≡◌, ℕ, ◌≤◌, true, List, [], ◌∷◌, codes, Ok, Err}
use Rattle.src_text.specs.declared.span.Span.{Span}
use Rattle.diagnostics.specs.declared.code.Code.TheVariants.{RbsSyntaxError}
use Rattle.diagnostics.specs.declared.diagnostic.Diagnostic.{Diagnostic}
use Rattle.rbs_grammar.specs.Grammar.{Fault, syntax, deep}
use Rattle.rbs_grammar.specs.Parse.{Tree}
use Rattle.rbs_grammar.specs.Texts.{IsAnswer}
use Rattle.sig_rules.specs.declared.files.Declared.{Declared}
use Rattle.sig_rules.specs.declared.files.FileTree.{FileTree}
use Rattle.sig_rules.specs.declared.line.Kind.{Kind}
use Rattle.sig_rules.specs.Counts.{methods_count, most_methods}
use Rattle.sig_rules.specs.Declarations.{Path}
use Rattle.sig_rules.specs.Limits.{names_count, most_names}
use Rattle.sig_rules.specs.Lines.{is_self_type}
use Rattle.sig_rules.specs.Types.{sort}
use Rattle.definitions.specs.Project.{IsProject}

-- ---- the text

-- what is said of a text that is refused
abbrev pub refusal_text : Fault → List ℕ
refusal_text syntax = codes "Syntax error"
refusal_text deep = codes "Nesting is deeper than 128"

-- the diagnostic of a text that is refused at a span
abbrev pub refusal_at : Fault → Span → Diagnostic
refusal_at fault span = record { span = span; code = RbsSyntaxError; message = refusal_text fault; severity = 1 }

-- What a text gives: the declarations of its tree, and its diagnostics. A text with a tree gives this tree, and has no diagnostic. A text
-- that is refused gives no declarations, and has one.
pub data SignatureGives (text : List ℕ) (tree : Tree) (faults : List Diagnostic) : Type 0 where
  whole : IsAnswer text (Ok tree) → faults ≡ [] → SignatureGives text tree faults
  refusal : (fault : Fault) (span : Span) → IsAnswer text (Err (fault, span)) → tree ≡ [] → faults ≡ refusal_at fault span ∷ [] → SignatureGives text tree faults

-- ---- what is declared

-- the path of the signature file
abbrev pub signature_path : List ℕ
signature_path = codes "sig/a.rbs"

-- the signature file with these declarations
abbrev pub signature_file : Tree → FileTree
signature_file tree = record { path = signature_path; decls = tree }

-- all that a project with this signature text declares, the core signatures first, and the text's diagnostics
pub record Declares (text : List ℕ) (all : List Declared) (faults : List Diagnostic) : Type 0 where
  pub tree : Tree
  pub gives : SignatureGives text tree faults
  pub project : IsProject (signature_file tree ∷ []) all

-- no limit is passed by what is declared: not too many names, and no class or module and no interface with too many methods
pub record IsWithinLimits (all : List Declared) : Type 0 where
  pub names : names_count all ≤ most_names
  pub methods : (path : Path) (kind : Kind) → is_self_type (sort all path) ≡ true → methods_count all path kind ≤ most_methods
