-- What calls are judged by, in a table by name, is what the definitions say of them.
use Rattle.std.proofs.Common.{◌≡◌, ℕ, Bool, true, false, List, [], ◌∷◌, Option, None, Some, is_none, refl, sym, ap, ◌∙◌, subst, cond, true≢false, IfOk, OnOk, Result, Ok, Err}
use Rattle.std.proofs.lemmas.Option.{none-some, same_Some}
use Rattle.std.specs.Prelude.{if◌then◌else◌, ◌==◌}
use Rattle.std.specs.Option.{option_map, option_map_or, option_and_then, option_or}
use Rattle.std.specs.Cmp.Lexicographic.{nat_list_eq_equiv, same_text}
use Rattle.rbs_tree.specs.declared.names.TypeName.{TypeName}
use Rattle.sig_rules.specs.declared.files.Declared.{Declared}
use Rattle.sig_rules.specs.declared.line.Kind.TheVariants.{Instance}
use Rattle.sig_rules.specs.declared.method.Method.{Method}
use Rattle.sig_rules.specs.Declarations.{Path, full_name}
use Rattle.sig_rules.specs.Methods.{method}
use Rattle.sig_rules.specs.Names.{resolve}
use Rattle.sig_rules.specs.Worlds.{by_name}
use Rattle.steep_run.specs.Ruby.{Call, call_faults, fault_at}
use Rattle.steep_run.specs.Words.{same_word}
use Rattle.steep_run.specs.Calls.{integers_wanted, is_plain_for, is_public, if_public, name_of, if_made_by_new, class_made, accepts, fits, lacks}
use Rattle.steep_run.specs.Reading.{callable_of, or_private, is_private, suits, found_or, told, IsCalled, AreCalled, IsJudgedBy}
use Rattle.steep_run.specs.declared.ruby.callable.Callable.{Callable}
use Rattle.steep_run.specs.declared.ruby.callable.Callable.TheVariants.{Private, Plain, Other}
use Rattle.steep_run.specs.declared.ruby.judging.Judgement.{Judgement}
use Rattle.steep_run.specs.declared.ruby.judging.Judgement.TheVariants.{Misfit, Known, Missing}

-- ---- one method

-- what calls of a public method are judged by
abbrev of_wanted : Option ℕ → Callable
of_wanted w = elim w [ None ↦ Other | Some n ↦ Plain n ]

suits_wanted : (n : ℕ) (w : Option ℕ) → option_map_or (λ wanted. wanted == n) w false ≡ suits n (of_wanted w)
suits_wanted n None = refl
suits_wanted n (Some k) = refl

suits_public : (n : ℕ) (m : Method) (b : Bool) → option_map_or (is_plain_for n) (if b then Some m else None) true ≡ suits n (if b then of_wanted (integers_wanted m.overloads) else Private)
suits_public n m false = refl
suits_public n m true = suits_wanted n (integers_wanted m.overloads)

suits_found : (n : ℕ) (o : Option Method) → option_map_or (is_plain_for n) (option_and_then if_public o) true ≡ suits n (or_private (option_map callable_of o))
suits_found n None = refl
suits_found n (Some m) = suits_public n m (is_public m.visible)

private_wanted : (w : Option ℕ) → false ≡ is_private (of_wanted w)
private_wanted None = refl
private_wanted (Some k) = refl

private_public : (m : Method) (b : Bool) → is_none (if b then Some m else None) ≡ is_private (if b then of_wanted (integers_wanted m.overloads) else Private)
private_public m false = refl
private_public m true = private_wanted (integers_wanted m.overloads)

private_found : (o : Option Method) → is_none (option_and_then if_public o) ≡ is_private (or_private (option_map callable_of o))
private_found None = refl
private_found (Some m) = private_public m (is_public m.visible)

-- ---- one call

-- what is said of a call is told as its faults
told_by : (fits lacks : Bool) (c : Call) (j : Judgement) → IsJudgedBy fits lacks c j → told j ≡ (if fits then Some (if lacks then fault_at c ∷ [] else []) else None)
told_by true lacks c Misfit says = absurd (true≢false says)
told_by false lacks c Misfit says = refl
told_by true true c Known says = absurd (true≢false says.1)
told_by true false c Known says = refl
told_by false lacks c Known says = absurd (true≢false (sym says.0))
told_by true true c (Missing fault) says = ap (λ f. Some (f ∷ [])) says.2
told_by true false c (Missing fault) says = absurd (true≢false (sym says.1))
told_by false lacks c (Missing fault) says = absurd (true≢false (sym says.0))

judged_as : (all : List Declared) (c : Call) (table : List (List ℕ × Callable)) (j : Judgement) → IsCalled all c.class (Some table)
    → IsJudgedBy (suits c.numbers (or_private (by_name table c.method.name))) (is_private (or_private (by_name table c.method.name))) c j → told j ≡ call_faults all c
judged_as all c table j called says =
    let path : Path = called.0 in
    let name : List ℕ = c.method.name in
    let there : by_name table name ≡ option_map callable_of (method all path Instance name) = called.2 name in
    let fits_is : fits all c.class name c.numbers ≡ suits c.numbers (or_private (by_name table name)) =
    ap (λ o. option_map_or (accepts all name c.numbers) o false) called.1 ∙ suits_found c.numbers (method all path Instance name) ∙ ap (λ o. suits c.numbers (or_private o)) (sym there) in
    let lacks_is : lacks all c.class name ≡ is_private (or_private (by_name table name)) =
    ap (λ o. option_map_or (λ p. is_none (option_and_then if_public (method all p Instance name))) o false) called.1 ∙ private_found (method all path Instance name) ∙ ap (λ o. is_private (or_private o)) (sym there) in
    told_by (fits all c.class name c.numbers) (lacks all c.class name) c j
    (subst (λ b. IsJudgedBy b (lacks all c.class name) c j) (sym fits_is)
    (subst (λ b. IsJudgedBy (suits c.numbers (or_private (by_name table name))) b c j) (sym lacks_is) says))

-- a class that makes no object
pub misfit : (all : List Declared) (c : Call) (found : Option (List (List ℕ × Callable))) → IsCalled all c.class found → None ≡ found → told Misfit ≡ call_faults all c
misfit all c found called none =
    let unmade : class_made all c.class ≡ None = subst (IsCalled all c.class) (sym none) called in
    told_by (fits all c.class c.method.name c.numbers) (lacks all c.class c.method.name) c Misfit (ap (λ o. option_map_or (accepts all c.method.name c.numbers) o false) unmade)

pub judged_call : {E : Type 0} (result : Result Judgement E) (all : List Declared) (c : Call) (found : Option (List (List ℕ × Callable))) (table : List (List ℕ × Callable)) (asked : Callable)
    → IsCalled all c.class found → Some table ≡ found → asked ≡ or_private (by_name table c.method.name)
    → IfOk result (IsJudgedBy (suits c.numbers asked) (is_private asked) c) → IfOk result (λ j. told j ≡ call_faults all c)
judged_call (Err e) all c found table asked called there asks says = tt
judged_call (Ok j) all c found table asked called there asks says =
    judged_as all c table j (subst (IsCalled all c.class) (sym there) called) (subst (λ a. IsJudgedBy (suits c.numbers a) (is_private a) c j) asks says)

-- ---- the classes that were called

module _ (all : List Declared) (old new : List (List ℕ × List (List ℕ × Callable))) (word : List ℕ) (made : List (List ℕ × Callable)) (is_called : IsCalled all word (Some made))
    (put : (other : List ℕ) → by_name new other ≡ (if same_word word other then Some made else by_name old other)) where
  -- with one class more
  pub called_more : AreCalled all old → AreCalled all new
  called_more called = λ other table found. by other table (same_word word other) refl (sym (put other) ∙ found)
    where
      by : (other : List ℕ) (table : List (List ℕ × Callable)) (b : Bool) → same_word word other ≡ b → (if b then Some made else by_name old other) ≡ Some table → IsCalled all other (Some table)
      by other table true same found =
          subst (λ w. IsCalled all w (Some table)) (same_text word other (sym same)) (subst (λ (t : List (List ℕ × Callable)). IsCalled all word (Some t)) (same_Some made table found) is_called)
      by other table false same found = called other table found

-- where it is put there, unless memory is short
pub called_with : {T E : Type 0} (result : Result T E) (all : List Declared) (old new : List (List ℕ × List (List ℕ × Callable))) (word given : List ℕ) (made : List (List ℕ × Callable)) → given ≡ word
    → OnOk result ((other : List ℕ) → by_name new other ≡ (if same_word given other then Some made else by_name old other)) → IsCalled all word (Some made) → AreCalled all old
    → OnOk result (AreCalled all new)
called_with (Err e) all old new word given made is put is_called called = tt
called_with (Ok done) all old new word given made is put is_called called =
    called_more all old new word made is_called (subst (λ w. (other : List ℕ) → by_name new other ≡ (if same_word w other then Some made else by_name old other)) is put) called

-- ---- the class of a word

unmapped_path : (class : TypeName) (o : Option Path) → Some class ≡ option_map full_name o → o ≡ Some class.path
unmapped_path class None found = absurd (none-some class (sym found))
unmapped_path class (Some path) found = ap (λ (c : TypeName). Some c.path) (sym (same_Some class (full_name path) found))

-- from the class that is found to what is known of the word
pub called_word : (all : List Declared) (name class : TypeName) (word : List ℕ) (methods : List (List ℕ × Method)) (table : List (List ℕ × Callable)) → name ≡ name_of word
    → Some class ≡ option_map full_name (option_and_then (if_made_by_new all) (resolve all [] name))
    → ((n : List ℕ) → by_name methods n ≡ method all class.path Instance n) → ((n : List ℕ) → by_name table n ≡ option_map callable_of (by_name methods n)) → IsCalled all word (Some table)
called_word all name class word methods table is found has holds = (
  class.path,
  unmapped_path class (class_made all word) (subst (λ (n : TypeName). Some class ≡ option_map full_name (option_and_then (if_made_by_new all) (resolve all [] n))) is found),
  λ n. holds n ∙ ap (option_map callable_of) (has n),
)

-- ---- tables of methods

one_more_callable : (old new : List (List ℕ × Callable)) (name : List ℕ) (m : Method) (more : List (List ℕ × Method)) (c : Callable) → c ≡ callable_of m
    → ((other : List ℕ) → by_name new other ≡ found_or (by_name old other) (same_word name other) c)
    → (other : List ℕ) → option_or (by_name new other) (option_map callable_of (by_name more other)) ≡ option_or (by_name old other) (option_map callable_of (by_name ((name, m) ∷ more) other))
one_more_callable old new name m more c is added other =
    ap (λ o. option_or o (option_map callable_of (by_name more other))) (added other ∙ ap (found_or (by_name old other) (same_word name other)) is)
    ∙ by (by_name old other) (same_word name other) ∙ ap (λ b. option_or (by_name old other) (option_map callable_of (cond b (Some m) (by_name more other)))) (nat_list_eq_equiv.symm name other)
  where
    by : (o : Option Callable) (b : Bool) → option_or (found_or o b (callable_of m)) (option_map callable_of (by_name more other)) ≡ option_or o (option_map callable_of (cond b (Some m) (by_name more other)))
    by (Some v) b = refl
    by None true = refl
    by None false = refl

-- a loop over methods goes on
pub one_callable : (old new : List (List ℕ × Callable)) (e : List ℕ × Method) (rest more whole : List (List ℕ × Method)) (c : Callable) → e ∷ more ≡ rest → c ≡ callable_of e.1
    → ((other : List ℕ) → by_name new other ≡ found_or (by_name old other) (same_word e.0 other) c)
    → ((other : List ℕ) → option_or (by_name old other) (option_map callable_of (by_name rest other)) ≡ option_map callable_of (by_name whole other))
    → (other : List ℕ) → option_or (by_name new other) (option_map callable_of (by_name more other)) ≡ option_map callable_of (by_name whole other)
one_callable old new e rest more whole c is made added before other =
    one_more_callable old new e.0 e.1 more c made added other
    ∙ ap (λ (es : List (List ℕ × Method)). option_or (by_name old other) (option_map callable_of (by_name es other))) is ∙ before other
