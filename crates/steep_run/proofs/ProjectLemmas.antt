-- The texts of a project, and what they are found to be.
use Rattle.std.proofs.Common.{◌≡◌, ℕ, true, false, List, [], ◌∷◌, sym, ap, ◌∙◌, subst, Option, None, Some, IfSome}
use Rattle.std.proofs.lemmas.Option.{none-some, same_Some}
use Rattle.ports.specs.Tree.{bytes_at}
use Rattle.diagnostics.specs.declared.diagnostic.Diagnostic.{Diagnostic}
use Rattle.rbs_grammar.specs.Parse.{Tree}
use Rattle.sig_rules.specs.declared.files.Declared.{Declared}
use Rattle.sig_rules.specs.declared.files.FileTree.{FileTree}
use Rattle.sig_rules.specs.declared.limits.Limit.{Limit}
use Rattle.sig_rules.specs.declared.limits.Limit.TheVariants as limit
use Rattle.sig_rules.specs.declared.limits.LimitFault.{LimitFault}
use Rattle.sig_rules.specs.declared.limits.LimitFault.TheVariants as problem
use Rattle.sig_rules.specs.Counts.{IsLimitFault}
use Rattle.definitions.specs.Project.{IsProject}
use Rattle.steep_run.specs.Small.{is_small}
use Rattle.steep_run.specs.Signature.{SignatureGives, signature_path, signature_file, IsWithinLimits}
use Rattle.steep_run.specs.Ruby.{ruby_faults, HasOtherProgram}
use Rattle.steep_run.specs.Project.{rooted, ruby_path, text_of, project_of, first_too_long}
use Rattle.steep_run.specs.Report.{HasFaults, HasOtherSignature, HasOtherRuby, Reports}
use Rattle.steep_run.specs.Reading.{IsChecked, passed, too_much}
use Rattle.steep_run.specs.declared.check.Verdict.{Verdict}
use Rattle.steep_run.specs.declared.check.Verdict.TheVariants.{TooManyNames, TooManyMethods}
use Rattle.steep_run.specs.declared.faults.Faults.{Faults}
use Rattle.steep_run.specs.declared.outcome.Outcome.{Outcome}
use Rattle.steep_run.specs.declared.project.Project.{Project}
use Rattle.steep_run.proofs.SignatureLemmas.{one_declared}

-- from the texts that were read to the project that the tree has
pub read_both : (files later : Option (List (List ℕ × List ℕ))) (root signature ruby : List ℕ) → later ≡ files
    → IfSome files (λ known. signature ≡ text_of (bytes_at known (rooted root signature_path)))
    → IfSome later (λ known. ruby ≡ text_of (bytes_at known (rooted root ruby_path)))
    → IfSome files (λ known. ◌≡◌ {A = Project} (record { signature = signature; ruby = ruby }) (project_of root known))
read_both None later root signature ruby same first second = tt
read_both (Some known) later root signature ruby same first second =
    let second_too : ruby ≡ text_of (bytes_at known (rooted root ruby_path)) = subst (λ o. IfSome o (λ files. ruby ≡ text_of (bytes_at files (rooted root ruby_path)))) same second in
    λ i. record { signature = first i; ruby = second_too i }

-- from what is reported of the project that was read to what is reported of the one that the tree has
pub composed : (files : Option (List (List ℕ × List ℕ))) (root : List ℕ) (p : Project) (old new : Option (List ℕ)) (outcome : Outcome)
    → IfSome files (λ known. p ≡ project_of root known) → Reports p old new outcome → IfSome files (λ known. Reports (project_of root known) old new outcome)
composed None root p old new outcome read reports = tt
composed (Some known) root p old new outcome read reports = subst (λ (q : Project). Reports q old new outcome) read reports

-- what is reported below a root that is given in another way
pub same_root : (files : Option (List (List ℕ × List ℕ))) (given root : List ℕ) (old new : Option (List ℕ)) (outcome : Outcome) → given ≡ root
    → IfSome files (λ known. Reports (project_of given known) old new outcome) → IfSome files (λ known. Reports (project_of root known) old new outcome)
same_root files given root old new outcome same reports = subst (λ r. IfSome files (λ known. Reports (project_of r known) old new outcome)) same reports

-- from what was read of the two texts to what they are found to be
pub both_small : (p : Project) (tree : Tree) (all : List Declared) (signature ruby : List Diagnostic) → first_too_long p ≡ None → SignatureGives p.signature tree signature
    → IsProject (signature_file tree ∷ []) all → IsWithinLimits all → is_small tree ≡ true → ruby_faults all p.ruby ≡ Some ruby → HasFaults p (record { ruby = ruby; signature = signature })
both_small p tree all signature ruby sizes gives project limits small reads =
    record { all = all; sizes = sizes; signature = record { tree = tree; gives = gives; project = project }; limits = limits; small = small; ruby = reads }

pub other_ruby : (p : Project) (tree : Tree) (all : List Declared) (signature : List Diagnostic) → SignatureGives p.signature tree signature → IsProject (signature_file tree ∷ []) all
    → IsWithinLimits all → is_small tree ≡ true → HasOtherProgram all p.ruby → HasOtherRuby p
other_ruby p tree all signature gives project limits small other =
    record { all = all; faults = signature; signature = record { tree = tree; gives = gives; project = project }; limits = limits; small = small; ruby = other }

pub other_signature : (p : Project) (tree : Tree) (all : List Declared) (signature : List Diagnostic) → SignatureGives p.signature tree signature → IsProject (signature_file tree ∷ []) all
    → IsWithinLimits all → is_small tree ≡ false → HasOtherSignature p
other_signature p tree all signature gives project limits other =
    record { all = all; faults = signature; signature = record { tree = tree; gives = gives; project = project }; limits = limits; other = other }

-- where there is too much to be declared
passes : (p : Project) (tree : Tree) (faults : List Diagnostic) (limit : Limit) (n : ℕ) (verdict : Verdict) → SignatureGives p.signature tree faults
    → ((all : List Declared) → IsProject (signature_file tree ∷ []) all → IsLimitFault all (problem.Limit limit n)) → Some verdict ≡ passed limit n → IsChecked p verdict
passes p tree faults limit.Names n verdict gives too_many is = subst (IsChecked p) (sym (same_Some verdict (TooManyNames n) is)) (record { tree = tree; faults = faults; gives = gives; passed = too_many })
passes p tree faults limit.Methods n verdict gives too_many is = subst (IsChecked p) (sym (same_Some verdict (TooManyMethods n) is)) (record { tree = tree; faults = faults; gives = gives; passed = too_many })
passes p tree faults limit.File n verdict gives too_many is = absurd (none-some verdict (sym is))
passes p tree faults limit.Files n verdict gives too_many is = absurd (none-some verdict (sym is))
passes p tree faults limit.Total n verdict gives too_many is = absurd (none-some verdict (sym is))

pub has_too_much : (p : Project) (tree : Tree) (faults : List Diagnostic) (files : List FileTree) (fault : LimitFault) (verdict : Verdict) → SignatureGives p.signature tree faults
    → files ≡ signature_file tree ∷ [] → ((all : List Declared) → IsProject files all → IsLimitFault all fault) → Some verdict ≡ too_much fault → IsChecked p verdict
has_too_much p tree faults files problem.NoMemory verdict gives is so told = absurd (none-some verdict (sym told))
has_too_much p tree faults files (problem.Limit limit n) verdict gives is so told =
    passes p tree faults limit n verdict gives (subst (λ (fs : List FileTree). (all : List Declared) → IsProject fs all → IsLimitFault all (problem.Limit limit n)) is so) told

-- a project has one list of faults for each file
pub one_list : (p : Project) (xs ys : Faults) → HasFaults p xs → HasFaults p ys → xs ≡ ys
one_list p xs ys a b =
    let one = one_declared p.signature a.all b.all xs.signature ys.signature a.signature b.signature in
    let other : ruby_faults a.all p.ruby ≡ Some ys.ruby = ap (λ (all : List Declared). ruby_faults all p.ruby) one.all_same ∙ b.ruby in
    let ruby : xs.ruby ≡ ys.ruby = same_Some xs.ruby ys.ruby (sym a.ruby ∙ other) in
    λ i. record { ruby = ruby i; signature = one.faults_same i }
