-- What is referred to, one reference more.
use Rattle.std.proofs.Common.{◌≡◌, ◌≢◌, ◌∙◌, ℕ, ◌+◌, ◌<◌, ◌≤◌, Bool, true, false, if◌then◌else◌, List, [], ◌∷◌, ◌++◌, length, get_or, take, map, Option, Some, None, IfSome, refl, sym, ap, subst, append_assoc, append-nil, true≢false}
use Rattle.std.specs.List.{flat_map}
use Rattle.std.specs.Option.{option_map}
use Rattle.std.proofs.lemmas.List.{map-append, take_all, take_more}
use Rattle.std.proofs.lemmas.List.Concat.{flat_map-append}
use Rattle.rbs_tree.specs.declared.names.TypeName.{TypeName}
use Rattle.rbs_tree.specs.declared.decls.Ref.{Ref}
use Rattle.rbs_tree.specs.declared.decls.Decl.{Decl}
use Rattle.rbs_tree.specs.declared.decls.Member.{Member}
use Rattle.sig_rules.specs.declared.files.Declared.{Declared}
use Rattle.sig_rules.specs.declared.sort.Sort.{Sort}
use Rattle.sig_rules.specs.declared.line.Applied.{Applied}
use Rattle.sig_rules.specs.Declarations.{Path, entries, full_name, somes}
use Rattle.sig_rules.specs.Names.{resolve}
use Rattle.sig_rules.specs.Types.{sort, fitted_to, meant, param_names}
use Rattle.sig_rules.specs.declared.sort.Sort.TheVariants as sorts
use Rattle.sig_rules.specs.Lines.{applied, is_class, members}
use Rattle.sig_rules.proofs.NameLemmas.{somes-append}
use Rattle.ancestors.specs.declared.applied.Parameters.{Parameters}
use Rattle.ancestors.specs.declared.applied.Scope.{Scope}
use Rattle.ancestors.specs.declared.references.Role.{Role}
use Rattle.ancestors.specs.declared.references.Role.TheVariants as role
use Rattle.ancestors.specs.References.{applied_refs, chosen, fits, of_declaration, parameters_of, referred, refs_in, refs_of, scope_of, with_both}

pub applied_refs-append : (all : List Declared) (r : Role) (scope : Scope) (xs ys : List Ref) → applied_refs all r scope (xs ++ ys) ≡ applied_refs all r scope xs ++ applied_refs all r scope ys
applied_refs-append all r scope xs ys =
    let one = applied all (fits r) scope.context scope.params in
    ap (λ (os : List (Option Applied)). somes os) (map-append one xs ys) ∙ somes-append (map one xs) (map one ys)

-- what a loop over references has put at the end, one reference later
pub refs_more : (all : List Declared) (r : Role) (scope : Scope) (refs : List Ref) (i : ℕ) (x : Ref) (old now new : List Applied) → i < length refs → x ≡ get_or refs i x → now ≡ old ++ applied_refs all r scope (take i refs) → new ≡ now ++ applied_refs all r scope (x ∷ []) → new ≡ old ++ applied_refs all r scope (take (i + 1) refs)
refs_more all r scope refs i x old now new within is before next =
    let one = applied_refs all r scope in
    let more : take (i + 1) refs ≡ take i refs ++ x ∷ [] = take_more refs i x within ∙ ap (λ (y : Ref). take i refs ++ y ∷ []) (sym is) in
    next ∙ ap (λ (ys : List Applied). ys ++ one (x ∷ [])) before ∙ append_assoc old (one (take i refs)) (one (x ∷ []))
    ∙ ap (λ (ys : List Applied). old ++ ys) (sym (ap one more ∙ applied_refs-append all r scope (take i refs) (x ∷ [])))

-- what a loop over members has put at the end, one member later
pub members_more : (all : List Declared) (r : Role) (scope : Scope) (ms : List Member) (i : ℕ) (m : Member) (old now new : List Applied) → i < length ms → m ≡ get_or ms i m → now ≡ old ++ applied_refs all r scope (flat_map (refs_in r) (take i ms)) → new ≡ now ++ applied_refs all r scope (refs_in r m) → new ≡ old ++ applied_refs all r scope (flat_map (refs_in r) (take (i + 1) ms))
members_more all r scope ms i m old now new within is before next =
    let one = applied_refs all r scope in
    let refs = λ (xs : List Member). flat_map (refs_in r) xs in
    let more : take (i + 1) ms ≡ take i ms ++ m ∷ [] = take_more ms i m within ∙ ap (λ (y : Member). take i ms ++ y ∷ []) (sym is) in
    let joined : flat_map (refs_in r) (take i ms ++ m ∷ []) ≡ flat_map (refs_in r) (take i ms) ++ refs_in r m =
    flat_map-append (refs_in r) (take i ms) (m ∷ []) ∙ ap (λ (ys : List Ref). flat_map (refs_in r) (take i ms) ++ ys) (append-nil (refs_in r m))
    in
    next ∙ ap (λ (ys : List Applied). ys ++ one (refs_in r m)) before ∙ append_assoc old (one (refs (take i ms))) (one (refs_in r m))
    ∙ ap (λ (ys : List Applied). old ++ ys) (sym (ap (λ (xs : List Member). one (flat_map (refs_in r) xs)) more ∙ ap one joined ∙ applied_refs-append all r scope (refs (take i ms)) (refs_in r m)))

-- members are all that such a role asks
pub refs_of_members : (r : Role) (d : Decl) → r ≢ role.Superclass → r ≢ role.SelfType → flat_map (refs_in r) (members d) ≡ refs_of r d
refs_of_members role.Superclass d no_class no_type = absurd (no_class refl)
refs_of_members role.SelfType d no_class no_type = absurd (no_type refl)
refs_of_members role.Include d no_class no_type = refl
refs_of_members role.Prepend d no_class no_type = refl
refs_of_members role.Extend d no_class no_type = refl

by_test : {A B : Type 0} (f : A → B) (b : Bool) (x : A) → (if b then Some (f x) else None) ≡ option_map f (if b then Some x else None)
by_test f true x = refl
by_test f false x = refl

by_path : (all : List Declared) (fit : Sort → Bool) (context : List TypeName) (params : List (List ℕ)) (r : Ref) (o : Option Path) → resolve all context r.name ≡ o → applied all fit context params r ≡ option_map (λ (path : Path). record { name = full_name path; args = fitted_to all path (map (meant all context params) r.args) }) (chosen all fit context r.name)
by_path all fit context params r None is = rw is refl
by_path all fit context params r (Some path) is = rw is (by_test _ (fit (sort all path)) path)

none_of : (o : Option Path) → None ≡ option_map full_name o → o ≡ None
none_of None is = refl
none_of (Some path) is = cc

some_of : (o : Option Path) (name : TypeName) → Some name ≡ option_map full_name o → (o ≡ Some name.path) × (name ≡ full_name name.path)
some_of None name is = cc
some_of (Some path) name is =
    let same : name ≡ full_name path = cc in
    rw same (refl, refl)

-- a name that may not stand there gives nothing
pub ref_none : (all : List Declared) (r : Role) (scope : Scope) (x : Ref) → None ≡ option_map full_name (chosen all (fits r) scope.context x.name) → applied_refs all r scope (x ∷ []) ≡ []
ref_none all r scope x is =
    let none = none_of (chosen all (fits r) scope.context x.name) is in
    ap (λ (o : Option Applied). somes (o ∷ [])) (by_path all (fits r) scope.context scope.params x _ refl ∙ ap (option_map _) none)

-- a name that may stand there gives it with its arguments
pub ref_some : (all : List Declared) (r : Role) (scope : Scope) (x : Ref) (name : TypeName) → Some name ≡ option_map full_name (chosen all (fits r) scope.context x.name) → applied_refs all r scope (x ∷ []) ≡ record { name = name; args = fitted_to all name.path (map (meant all scope.context scope.params) x.args) } ∷ []
ref_some all r scope x name is =
    let some = some_of (chosen all (fits r) scope.context x.name) name is in
    ap (λ (o : Option Applied). somes (o ∷ [])) (by_path all (fits r) scope.context scope.params x _ refl ∙ ap (option_map _) some.0)
    ∙ ap (λ (n : TypeName). record { name = n; args = fitted_to all name.path (map (meant all scope.context scope.params) x.args) } ∷ []) (sym some.1)

-- what all declarations of a name refer to
pub referred_whole : (all : List Declared) (r : Role) (a : Applied) (first : Parameters) (ds : List Declared) (i : ℕ) (found : List Applied) → first ≡ parameters_of all a.name.path → ds ≡ entries all a.name.path → length ds ≤ i → found ≡ flat_map (of_declaration all r a first) (take i ds) → found ≡ referred all r a
referred_whole all r a first ds i found params those past is =
    is ∙ ap (λ (xs : List Declared). flat_map (of_declaration all r a first) xs) (take_all i ds past ∙ those)
    ∙ ap (λ (p : Parameters). flat_map (of_declaration all r a p) (entries all a.name.path)) params

both_empty : {A : Type 0} (xs ys : List A) → xs ++ ys ≡ [] → (xs ≡ []) × (ys ≡ [])
both_empty [] ys is = (refl, is)
both_empty (x ∷ xs) ys is = cc

none_of_each : (all : List Declared) (r : Role) (a : Applied) (first : Parameters) (ds : List Declared) → flat_map (λ (d : Declared). refs_of r d.decl) ds ≡ [] → flat_map (of_declaration all r a first) ds ≡ []
none_of_each all r a first [] none = refl
none_of_each all r a first (d ∷ ds) none =
    let parts = both_empty (refs_of r d.decl) (flat_map (λ (e : Declared). refs_of r e.decl) ds) none in
    let here : of_declaration all r a first d ≡ [] = ap (λ (refs : List Ref). map (with_both (param_names d.decl) first a.args) (applied_refs all r (scope_of r a.name.path d) refs)) parts.0 in
    ap (λ (xs : List Applied). xs ++ flat_map (of_declaration all r a first) ds) here ∙ none_of_each all r a first ds parts.1

-- declarations without references refer to nothing
pub none_referred : (all : List Declared) (r : Role) (a : Applied) (ds : List Declared) → ds ≡ entries all a.name.path → flat_map (λ (d : Declared). refs_of r d.decl) ds ≡ [] → referred all r a ≡ []
none_referred all r a ds those none =
    let first = parameters_of all a.name.path in
    ap (λ (xs : List Declared). flat_map (of_declaration all r a first) xs) (sym those) ∙ none_of_each all r a first ds none

class_only : (s : Sort) → is_class s ≡ true → s ≡ sorts.Class
class_only sorts.Class is = refl
class_only sorts.Module is = absurd (true≢false (sym is))
class_only sorts.Interface is = absurd (true≢false (sym is))
class_only sorts.Alias is = absurd (true≢false (sym is))
class_only sorts.Other is = absurd (true≢false (sym is))

-- what may stand as a superclass is a class
pub chosen_class : (all : List Declared) (context : List TypeName) (name : TypeName) (o : Option TypeName) → o ≡ option_map full_name (chosen all (fits role.Superclass) context name) → IfSome o (λ (found : TypeName). sort all found.path ≡ sorts.Class)
chosen_class all context name o is = subst (λ (x : Option TypeName). IfSome x (λ (found : TypeName). sort all found.path ≡ sorts.Class)) (sym is) (by_resolved (resolve all context name) refl)
  where
    of_found : (b : Bool) (path : Path) → is_class (sort all path) ≡ b → IfSome (option_map full_name (if b then Some path else None)) (λ (found : TypeName). sort all found.path ≡ sorts.Class)
    of_found true path class = class_only (sort all path) class
    of_found false path class = tt

    by_resolved : (r : Option Path) → resolve all context name ≡ r → IfSome (option_map full_name (chosen all (fits role.Superclass) context name)) (λ (found : TypeName). sort all found.path ≡ sorts.Class)
    by_resolved None none = rw none tt
    by_resolved (Some path) some = rw some (of_found (is_class (sort all path)) path refl)
