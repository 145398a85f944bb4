-- What a signature text gives, by its tree or its refusal, and what is declared then.
use Rattle.std.proofs.Common.{◌≡◌, ℕ, List, [], ◌∷◌, sym, ap, ◌∙◌, subst, IfOk, Result, Ok, Err}
use Rattle.src_text.specs.declared.span.Span.{Span}
use Rattle.diagnostics.specs.declared.diagnostic.Diagnostic.{Diagnostic}
use Rattle.core_sigs.specs.Core.{core}
use Rattle.rbs_grammar.specs.Grammar.{Fault}
use Rattle.rbs_grammar.specs.Parse.{Tree}
use Rattle.rbs_grammar.specs.Texts.{Answer, IsAnswer}
use Rattle.rbs_grammar.proofs.Texts.{only_answer}
use Rattle.sig_rules.specs.declared.files.Declared.{Declared}
use Rattle.sig_rules.specs.declared.files.FileTree.{FileTree}
use Rattle.sig_rules.specs.Declarations.{declared_in_all}
use Rattle.definitions.specs.Project.{core_file, IsProject}
use Rattle.steep_run.specs.Signature.{refusal_at, SignatureGives, whole, refusal, signature_file, Declares}
use Rattle.steep_run.specs.declared.signature.FoundSignature.{FoundSignature}

-- ---- from the answer to what is given

pub if_ok : {T E : Type 0} {P Q : T → Type 0} (result : Result T E) → IfOk result P → ((x : T) → P x → Q x) → IfOk result Q
if_ok (Ok x) h f = f x h
if_ok (Err e) h f = tt

pub refusal_gives : (text : List ℕ) (fault : Fault) (span : Span) (found : FoundSignature) → IsAnswer text (Err (fault, span))
    → found ≡ record { tree = []; faults = refusal_at fault span ∷ [] } → SignatureGives text found.tree found.faults
refusal_gives text fault span found is made = refusal fault span is (ap (λ (f : FoundSignature). f.tree) made) (ap (λ (f : FoundSignature). f.faults) made)

-- ---- one answer

-- what a text gives is one thing
pub record IsOneGift (tree other : Tree) (faults more : List Diagnostic) : Type 0 where
  pub tree_same : tree ≡ other
  pub faults_same : faults ≡ more

ok_same : (x y : Tree) → ◌≡◌ {A = Answer} (Ok x) (Ok y) → x ≡ y
ok_same x y h = cc

err_same : (f g : Fault) (a b : Span) → ◌≡◌ {A = Answer} (Err (f, a)) (Err (g, b)) → (f ≡ g) × (a ≡ b)
err_same f g a b h = let same : ◌≡◌ {A = Fault × Span} (f, a) (g, b) = cc in (ap (λ p. p.0) same, ap (λ p. p.1) same)

ok_or_err : (x : Tree) (f : Fault) (a : Span) → ◌≡◌ {A = Answer} (Ok x) (Err (f, a)) → ⊥
ok_or_err x f a h = cc

pub one_gift : (text : List ℕ) (x y : Tree) (faults more : List Diagnostic) → SignatureGives text x faults → SignatureGives text y more → IsOneGift x y faults more
one_gift text x y faults more (whole a f) (whole b g) = record { tree_same = ok_same x y (only_answer text (Ok x) (Ok y) a b); faults_same = f ∙ sym g }
one_gift text x y faults more (whole a f) (refusal e at b l g) = absurd (ok_or_err x e at (only_answer text (Ok x) (Err (e, at)) a b))
one_gift text x y faults more (refusal e at a k f) (whole b g) = absurd (ok_or_err y e at (only_answer text (Ok y) (Err (e, at)) b a))
one_gift text x y faults more (refusal d at a k f) (refusal e there b l g) =
    let same = err_same d e at there (only_answer text (Err (d, at)) (Err (e, there)) a b) in
    record { tree_same = k ∙ sym l; faults_same = f ∙ (λ i. refusal_at (same.0 i) (same.1 i) ∷ []) ∙ sym g }

-- files are all that is declared, behind the one tree of the core signatures
pub one_project : (files : List FileTree) (xs ys : List Declared) → IsProject files xs → IsProject files ys → xs ≡ ys
one_project files xs ys a b =
    a.2 ∙ ap (λ (tree : Tree). declared_in_all (core_file tree ∷ files)) (ok_same a.0 b.0 (only_answer core (Ok a.0) (Ok b.0) a.1 b.1)) ∙ sym b.2

-- what is declared by a list of one file, which has this tree
pub of_one_file : (files : List FileTree) (tree decls : Tree) (all : List Declared) → files ≡ signature_file tree ∷ [] → decls ≡ tree → IsProject files all → IsProject (signature_file decls ∷ []) all
of_one_file files tree decls all file same project = subst (λ (t : Tree). IsProject (signature_file t ∷ []) all) (sym same) (subst (λ (fs : List FileTree). IsProject fs all) file project)

-- what is declared with a text is one thing
pub record IsOneDeclared (xs ys : List Declared) (faults more : List Diagnostic) : Type 0 where
  pub all_same : xs ≡ ys
  pub faults_same : faults ≡ more

pub one_declared : (text : List ℕ) (xs ys : List Declared) (faults more : List Diagnostic) → Declares text xs faults → Declares text ys more → IsOneDeclared xs ys faults more
one_declared text xs ys faults more a b =
    let gift = one_gift text a.tree b.tree faults more a.gives b.gives in
    record {
      all_same = one_project (signature_file a.tree ∷ []) xs ys a.project (subst (λ (t : Tree). IsProject (signature_file t ∷ []) ys) (sym gift.tree_same) b.project);
      faults_same = gift.faults_same;
    }
