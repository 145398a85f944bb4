-- How the readers go, one entry at a time, and what each part of a check answers. This is checked against what is small, and
-- nothing rests on it.
use Rattle.std.specs.Prelude.{◌≡◌, ◌<◌, ℕ, is_none, Bool, true, false, not, ◌==◌, ◌&&◌, List, [], ◌∷◌, ◌++◌, Option, None, Some, if◌then◌else◌}
use Rattle.std.specs.List.{list_all}
use Rattle.std.specs.Option.{option_map, option_or}
use Rattle.std.specs.Io.KnownBytes.{Appends, Keeps}
use Rattle.diagnostics.specs.declared.diagnostic.Diagnostic.{Diagnostic}
use Rattle.sig_rules.specs.declared.files.Declared.{Declared}
use Rattle.sig_rules.specs.declared.limits.Limit.{Limit}
use Rattle.sig_rules.specs.declared.limits.Limit.TheVariants.{Names, Methods}
use Rattle.sig_rules.specs.declared.limits.LimitFault.{LimitFault}
use Rattle.sig_rules.specs.declared.limits.LimitFault.TheVariants as problem
use Rattle.sig_rules.specs.declared.line.Kind.TheVariants.{Instance}
use Rattle.sig_rules.specs.declared.method.Method.{Method}
use Rattle.sig_rules.specs.Declarations.{Path}
use Rattle.sig_rules.specs.Methods.{method}
use Rattle.sig_rules.specs.Worlds.{by_name}
use Rattle.steep_run.specs.Words.{same_word}
use Rattle.steep_run.specs.Calls.{integers_wanted, is_public, class_made}
use Rattle.steep_run.specs.Ruby.{Call, fault_at, ruby_faults, HasOtherProgram}
use Rattle.steep_run.specs.Project.{count_of, report}
use Rattle.steep_run.specs.Report.{HasFaults, PassesLimit, HasOtherSignature, HasOtherRuby, GainsPrefix}
use Rattle.steep_run.specs.declared.faults.Faults.{Faults}
use Rattle.steep_run.specs.declared.project.Project.{Project}
use Rattle.steep_run.specs.declared.outcome.Outcome.{Outcome}
use Rattle.steep_run.specs.declared.outcome.Outcome.TheVariants.{NoMemory, TreeFault, TooLarge, Unbuilt, SinkFault, Found, Clean}
use Rattle.steep_run.specs.declared.check.Verdict.{Verdict}
use Rattle.steep_run.specs.declared.check.Verdict.TheVariants.{TooManyNames, TooManyMethods, NoSignature, NoRuby, Checked}
use Rattle.steep_run.specs.declared.ruby.callable.Callable.{Callable}
use Rattle.steep_run.specs.declared.ruby.callable.Callable.TheVariants.{Private, Plain, Other}
use Rattle.steep_run.specs.declared.ruby.judging.Judgement.{Judgement}
use Rattle.steep_run.specs.declared.ruby.judging.Judgement.TheVariants.{Misfit, Known, Missing}

-- ---- distinct names

-- whether a table has no value for each of these names
abbrev pub is_apart : {V : Type 0} → List (List ℕ × V) → List (List ℕ) → Bool
is_apart table = list_all (λ word. is_none (by_name table word))

-- whether a name is new in a table and is put there, so that it alone has a value besides those that had one
abbrev pub IsNoted : {V : Type 0} → List (List ℕ × V) → List (List ℕ × V) → List ℕ → Bool → Type 0
IsNoted old new word false = is_none (by_name old word) ≡ false
IsNoted old new word true =
    (is_none (by_name old word) ≡ true) × ((other : List ℕ) → is_none (by_name new other) ≡ (not (same_word word other) && is_none (by_name old other)))

-- the same of a name that may be absent
abbrev pub IsNotedIfAny : {V : Type 0} → List (List ℕ × V) → List (List ℕ × V) → Option (List ℕ) → Bool → Type 0
IsNotedIfAny old new None is_new = (is_new ≡ true) × (new ≡ old)
IsNotedIfAny old new (Some word) is_new = IsNoted old new word is_new

-- ---- calls

-- what calls of a method are judged by
abbrev pub callable_of : Method → Callable
callable_of m = if is_public m.visible then elim (integers_wanted m.overloads) [ None ↦ Other | Some n ↦ Plain n ] else Private

-- a method that isn't there is as a private one
abbrev pub or_private : Option Callable → Callable
or_private None = Private
or_private (Some c) = c

abbrev pub is_private : Callable → Bool
is_private Private = true
is_private _ = false

-- whether a call with so many numbers may be judged
abbrev pub suits : ℕ → Callable → Bool
suits n Private = true
suits n (Plain wanted) = wanted == n
suits n Other = false

-- whether a method is public, and plain for no numbers
abbrev pub is_plain_alone : Callable → Bool
is_plain_alone (Plain wanted) = wanted == 0
is_plain_alone _ = false

-- a value that is found, or else that of another name
abbrev pub found_or : {V : Type 0} → Option V → Bool → V → Option V
found_or found named value = option_or found (if named then Some value else None)

-- a table has of each name what calls of the instances' method are judged by
abbrev pub HoldsCallables : List Declared → Path → List (List ℕ × Callable) → Type 0
HoldsCallables all path table = (name : List ℕ) → by_name table name ≡ option_map callable_of (method all path Instance name)

-- what is known of a word's class: nothing where `new` of it makes no object, or else what calls of its methods are judged by
abbrev pub IsCalled : List Declared → List ℕ → Option (List (List ℕ × Callable)) → Type 0
IsCalled all word None = class_made all word ≡ None
IsCalled all word (Some table) = (path : Path) × (class_made all word ≡ Some path) × HoldsCallables all path table

-- the classes that a table has are what they are
abbrev pub AreCalled : List Declared → List (List ℕ × List (List ℕ × Callable)) → Type 0
AreCalled all classes = (word : List ℕ) (table : List (List ℕ × Callable)) → by_name classes word ≡ Some table → IsCalled all word (Some table)

-- ---- statements

-- what is said of a call by whether it fits and whether its method is lacking
abbrev pub IsJudgedBy : Bool → Bool → Call → Judgement → Type 0
IsJudgedBy fits lacks c Misfit = fits ≡ false
IsJudgedBy fits lacks c Known = (fits ≡ true) × (lacks ≡ false)
IsJudgedBy fits lacks c (Missing fault) = (fits ≡ true) × (lacks ≡ true) × (fault ≡ fault_at c)

-- the faults of a call of which this is said
abbrev pub told : Judgement → Option (List Diagnostic)
told Misfit = None
told Known = Some []
told (Missing fault) = Some (fault ∷ [])

-- the diagnostics gained those of a statement that stands
abbrev pub Gains : Option (List Diagnostic) → Bool → List Diagnostic → List Diagnostic → Type 0
Gains found false old new = found ≡ None
Gains None true old new = ⊥
Gains (Some faults) true old new = new ≡ old ++ faults

-- what is found in a Ruby text: its faults, or none where it has a program that isn't small
abbrev pub FindsRuby : List Declared → List ℕ → Option (List Diagnostic) → Type 0
FindsRuby all text None = HasOtherProgram all text
FindsRuby all text (Some faults) = ruby_faults all text ≡ Some faults

-- ---- checks

-- what is told of a limit that is passed
abbrev pub passed : Limit → ℕ → Option Verdict
passed Names n = Some (TooManyNames n)
passed Methods n = Some (TooManyMethods n)
passed _ n = None

abbrev pub too_much : LimitFault → Option Verdict
too_much (problem.Limit limit n) = passed limit n
too_much problem.NoMemory = None

-- what the texts of a project are found to be
abbrev pub IsChecked : Project → Verdict → Type 0
IsChecked p (TooManyNames n) = PassesLimit p Names n
IsChecked p (TooManyMethods n) = PassesLimit p Methods n
IsChecked p NoSignature = HasOtherSignature p
IsChecked p NoRuby = HasOtherRuby p
IsChecked p (Checked faults) = HasFaults p faults

-- what a writer of a report answers
abbrev pub Writes : Project → Faults → Option (List ℕ) → Option (List ℕ) → Outcome → Type 0
Writes p faults old new Clean = (count_of faults ≡ 0) × Appends old new (report p faults)
Writes p faults old new (Found n) = (count_of faults ≡ n) × (0 < n) × Appends old new (report p faults)
Writes p faults old new SinkFault = GainsPrefix old new (report p faults)
Writes p faults old new NoMemory = Keeps old new
Writes p faults old new TreeFault = ⊥
Writes p faults old new (TooLarge limit n) = ⊥
Writes p faults old new (Unbuilt part) = ⊥
