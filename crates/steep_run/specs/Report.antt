-- What each answer of a check says.
use Rattle.std.specs.Prelude.{◌≡◌, ℕ, ◌<◌, ◌⊎◌, Bool, true, false, List, [], ◌∷◌, take, codes, Option, None, Some}
use Rattle.std.specs.Fmt.{decimal}
use Rattle.std.specs.Io.KnownBytes.{Appends, Keeps}
use Rattle.ports.specs.Causes.{Rose}
use Rattle.diagnostics.specs.Lines.{joined}
use Rattle.diagnostics.specs.declared.diagnostic.Diagnostic.{Diagnostic}
use Rattle.rbs_grammar.specs.Parse.{Tree}
use Rattle.sig_rules.specs.declared.files.Declared.{Declared}
use Rattle.sig_rules.specs.declared.limits.Limit.{Limit}
use Rattle.sig_rules.specs.declared.limits.Limit.TheVariants.{File, Files, Total, Names, Methods}
use Rattle.sig_rules.specs.declared.limits.LimitFault.TheVariants as problem
use Rattle.sig_rules.specs.Counts.{IsLimitFault}
use Rattle.steep_run.specs.Small.{is_small}
use Rattle.steep_run.specs.Words.{same_word}
use Rattle.steep_run.specs.Project.{first_too_long, count_of, report}
use Rattle.definitions.specs.Project.{IsProject}
use Rattle.steep_run.specs.Signature.{SignatureGives, signature_file, Declares, IsWithinLimits}
use Rattle.steep_run.specs.Ruby.{ruby_faults, HasOtherProgram}
use Rattle.steep_run.specs.declared.faults.Faults.{Faults}
use Rattle.steep_run.specs.declared.project.Project.{Project}
use Rattle.steep_run.specs.declared.outcome.Outcome.{Outcome}
use Rattle.steep_run.specs.declared.outcome.Outcome.TheVariants.{NoMemory, TreeFault, TooLarge, Unbuilt, SinkFault, Found, Clean}
use Rattle.steep_run.specs.declared.outcome.Part.TheVariants.{Words, Signature, Ruby}

-- No text of the project is too long, its signatures declare no more than they may, what its signature gives is small (a refused one gives
-- no declarations), its Ruby text is refused or has a program that is small over what they declare, and these are the faults of the two
-- texts, in the order of each.
pub record HasFaults (p : Project) (faults : Faults) : Type 0 where
  pub all : List Declared
  pub sizes : first_too_long p ≡ None
  pub signature : Declares p.signature all faults.signature
  pub limits : IsWithinLimits all
  pub small : is_small signature.tree ≡ true
  pub ruby : ruby_faults all p.ruby ≡ Some faults.ruby

-- The project's signatures declare more than they may: there is so much of what the limit counts. This is said of all that they declare by any
-- tree of the core signatures, of which there is no second one.
pub record PassesLimit (p : Project) (limit : Limit) (n : ℕ) : Type 0 where
  pub tree : Tree
  pub faults : List Diagnostic
  pub gives : SignatureGives p.signature tree faults
  pub passed : (all : List Declared) → IsProject (signature_file tree ∷ []) all → IsLimitFault all (problem.Limit limit n)

-- The signatures declare no more than they may, and the signature has a tree that isn't small.
pub record HasOtherSignature (p : Project) : Type 0 where
  pub all : List Declared
  pub faults : List Diagnostic
  pub signature : Declares p.signature all faults
  pub limits : IsWithinLimits all
  pub other : is_small signature.tree ≡ false

-- The signatures declare no more than they may, what the signature gives is small, and the Ruby text has a program that isn't small over
-- what they declare.
pub record HasOtherRuby (p : Project) : Type 0 where
  pub all : List Declared
  pub faults : List Diagnostic
  pub signature : Declares p.signature all faults
  pub limits : IsWithinLimits all
  pub small : is_small signature.tree ≡ true
  pub ruby : HasOtherProgram all p.ruby

-- known bytes grew by a part of these, from their front
abbrev pub GainsPrefix : Option (List ℕ) → Option (List ℕ) → List ℕ → Type 0
GainsPrefix old new bytes = (n : ℕ) × Appends old new (take n bytes)

-- what a check of this project did to a sink, by its answer
abbrev pub Reports : Project → Option (List ℕ) → Option (List ℕ) → Outcome → Type 0
Reports p old new Clean = (faults : Faults) × HasFaults p faults × (count_of faults ≡ 0) × Appends old new (report p faults)
Reports p old new (Found n) = (faults : Faults) × HasFaults p faults × (count_of faults ≡ n) × (0 < n) × Appends old new (report p faults)
Reports p old new SinkFault = (faults : Faults) × HasFaults p faults × GainsPrefix old new (report p faults)
Reports p old new NoMemory = Keeps old new
Reports p old new TreeFault = Keeps old new
Reports p old new (TooLarge File n) = Keeps old new × (first_too_long p ≡ Some n)
Reports p old new (TooLarge Names n) = Keeps old new × (first_too_long p ≡ None) × PassesLimit p Names n
Reports p old new (TooLarge Methods n) = Keeps old new × (first_too_long p ≡ None) × PassesLimit p Methods n
Reports p old new (TooLarge Files n) = ⊥
Reports p old new (TooLarge Total n) = ⊥
Reports p old new (Unbuilt Words) = Keeps old new
Reports p old new (Unbuilt Signature) = Keeps old new × (first_too_long p ≡ None) × HasOtherSignature p
Reports p old new (Unbuilt Ruby) = Keeps old new × (first_too_long p ≡ None) × HasOtherRuby p

-- an answer that writes no report leaves the sink as it was, whatever the tree tells of its files
abbrev pub IsSilent : Option (List ℕ) → Option (List ℕ) → Outcome → Type 0
IsSilent old new Clean = Unit {0}
IsSilent old new (Found n) = Unit {0}
IsSilent old new SinkFault = Unit {0}
IsSilent old new NoMemory = Keeps old new
IsSilent old new TreeFault = Keeps old new
IsSilent old new (TooLarge limit n) = Keeps old new
IsSilent old new (Unbuilt part) = Keeps old new

-- whether the only word is `check`
abbrev pub is_check : List (List ℕ) → Bool
is_check (word ∷ []) = same_word word (codes "check")
is_check _ = false

-- the answer's cause in the counts of the tree and the sink
pub record HasCauses (tree_before tree_now faults_before faults_now stalls_before stalls_now : ℕ) (result : Outcome) : Type 0 where
  pub tree : result ≡ TreeFault → Rose tree_before tree_now
  pub sink : result ≡ SinkFault → Rose faults_before faults_now ⊎ Rose stalls_before stalls_now

-- the status that the program ends with
abbrev pub status_of : Outcome → ℕ
status_of Clean = 0
status_of (Found n) = 1
status_of TreeFault = 4
status_of SinkFault = 6
status_of NoMemory = 8
status_of (TooLarge limit n) = 9
status_of (Unbuilt part) = 10

-- how a limit is named
abbrev pub limit_name : Limit → List ℕ
limit_name File = codes "File"
limit_name Files = codes "Files"
limit_name Total = codes "Total"
limit_name Names = codes "Names"
limit_name Methods = codes "Methods"

-- what the program writes to standard error, if anything, without the line's end
abbrev pub line_of : Outcome → Option (List ℕ)
line_of Clean = None
line_of (Found n) = None
line_of TreeFault = Some (codes "steep: cannot read the project")
line_of SinkFault = Some (codes "steep: cannot write output")
line_of NoMemory = Some (codes "steep: out of memory")
line_of (TooLarge limit n) = Some (joined (codes "steep: limit passed: " ∷ limit_name limit ∷ codes " " ∷ decimal n ∷ []))
line_of (Unbuilt part) = Some (codes "steep: not built yet")
